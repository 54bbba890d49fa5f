-- The answers of the calls, case by case, from what their checks find; and what a record has that is opened. Assumes nothing.
use Prim.Native.Nat.{ℕ}
use mathlib.Core.Path.{◌≡◌, sym, ap, ◌∙◌}
use mathlib.Core.Bool.{Bool, true, false}
use mathlib.Core.List.{List, [], ◌∷◌}
use borrow.Author.Tests.{eq-eqb, ne_eqb}
use Rattle.error.specs.Answer.{value, refused, withdrawn, check, first, accepted}
use Rattle.error.specs.Checks.{differs}
use Rattle.error.proofs.Differs.{differs-same}
use Rattle.error.proofs.Chains.{Passed, or-false, first-all, first-value, append_left, append_right, append-passed, append-refused, first-passed, first-refused}
use Rattle.setup.specs.declared.Setup.{Setup}
use Rattle.setup.specs.Checks.{scalar_checks}
use Rattle.setup.specs.Setups.{polar_bits_of, counted_projections_of}
use Rattle.packed.specs.declared.Header.{Header}
use Rattle.packed.specs.Fields.{dim_of, bits_of, projections_of}
use Rattle.packed.specs.Layout.{header_of}
use Rattle.packed.specs.Reading.{is_withdrawn, record_checks, read_record_of}
use Rattle.packed.specs.Accepted.{Accepted}
use Rattle.packed.proofs.Accepted.{read_accepts, read-header}
use Rattle.packed.proofs.Withdrawn.{unless-none, unless-some, unless-value, unless-refused, unless_withdrawn_lem, read-passed, read-refused, read-withdrawn}
use Rattle.turbo_opening.specs.Opening.{bad_match, match_checks, open_checks, open_record_of}
use Rattle.turbo_opening.specs.Inner.{opened_of}

-- ---- the scalars come first

module _ (s : Setup) (bytes : List ℕ) where
  pub open-scalars : {n p : ℕ} → first (scalar_checks s) accepted ≡ refused n p → open_record_of s bytes ≡ refused n p
  unfolding open_record_of
  open-scalars e = first-refused (scalar_checks s) _ e

  pub open-usable : first (scalar_checks s) accepted ≡ accepted → open_record_of s bytes ≡ opened_of s bytes
  unfolding open_record_of opened_of
  open-usable e = first-passed (scalar_checks s) _ e

-- ---- the profile

module _ (s : Setup) (bits projections : ℕ) {b : ℕ} (is : b ≡ polar_bits_of s) where
  pub match-bits : (bits ≡ b → ⊥) → differs bits b ≡ bad_match s bits projections
  match-bits other = simp (ne_eqb bits b other, ne_eqb bits (polar_bits_of s) (λ e. other (e ∙ sym is)))

  pub match-projections : bits ≡ b → {m : ℕ} → m ≡ counted_projections_of s → differs projections m ≡ bad_match s bits projections
  match-projections alike counted = simp (eq-eqb bits (polar_bits_of s) (alike ∙ is)) (ap (differs projections) counted)

-- ---- opening a record

module _ (s : Setup) (bytes : List ℕ) where
  pub open-refused : {n p : ℕ} → read_record_of bytes ≡ refused n p → opened_of s bytes ≡ refused n p
  unfolding opened_of
  open-refused e =
      let refusal = read-refused bytes e in
      unless-some bytes _ refusal.0 ∙ append-refused (record_checks bytes) (match_checks s bytes) (header_of bytes) (value (header_of bytes)) refusal.1

  pub open-withdrawn : read_record_of bytes ≡ withdrawn → opened_of s bytes ≡ withdrawn
  unfolding opened_of
  open-withdrawn e = unless-none bytes _ (read-withdrawn bytes e)

  module _ {h : Header} (read : read_record_of bytes ≡ value h) where
    open-rest : opened_of s bytes ≡ first (match_checks s bytes) (value (header_of bytes))
    unfolding opened_of
    open-rest =
        let passed = read-passed bytes read in
        unless-some bytes _ passed.0 ∙ append-passed (record_checks bytes) (match_checks s bytes) (header_of bytes) (value (header_of bytes)) passed.1

    dim-is : h.dim ≡ dim_of bytes
    unfolding header_of
    dim-is = ap (λ (k : Header). k.dim) (read-header bytes read)

    bits_is : h.bits ≡ bits_of bytes
    unfolding header_of
    bits_is = ap (λ (k : Header). k.bits) (read-header bytes read)

    projections-is : h.projections ≡ projections_of bytes
    unfolding header_of
    projections-is = ap (λ (k : Header). k.projections) (read-header bytes read)

    pub open-dim : (h.dim ≡ s.dim → ⊥) → opened_of s bytes ≡ refused 5 h.dim
    open-dim other = open-rest ∙ simp (ne_eqb (dim_of bytes) s.dim (λ e. other (dim-is ∙ e))) (ap (refused 5) (sym dim-is))

    module _ (same : h.dim ≡ s.dim) where
      -- the profile is all that is left to judge
      open-last : opened_of s bytes ≡ first (check (bad_match s h.bits h.projections) 20 0 ∷ []) (value h)
      open-last = open-rest ∙ simp (eq-eqb (dim_of bytes) s.dim (sym dim-is ∙ same), ← bits_is, ← projections-is, ← read-header bytes read)

      pub open-match : {b : Bool} → b ≡ bad_match s h.bits h.projections → b ≡ true → opened_of s bytes ≡ refused 20 0
      open-match is other = open-last ∙ ap (λ (b : Bool). first (check b 20 0 ∷ []) (value h)) (sym is ∙ other)

      pub open-value : {b : Bool} → b ≡ bad_match s h.bits h.projections → b ≡ false → opened_of s bytes ≡ value h
      open-value is alike = open-last ∙ ap (λ (b : Bool). first (check b 20 0 ∷ []) (value h)) (sym is ∙ alike)

-- ---- what the answer says of the bytes and the checks

module _ (s : Setup) (bytes : List ℕ) where
  pub opened-passed : {h : Header} → opened_of s bytes ≡ value h → (is_withdrawn bytes ≡ false) × (first (open_checks s bytes) (value (header_of bytes)) ≡ value h)
  unfolding opened_of
  opened-passed e = unless-value bytes (first (open_checks s bytes) (value (header_of bytes))) e

  pub opened-refused : {n p : ℕ} → opened_of s bytes ≡ refused n p → (is_withdrawn bytes ≡ false) × (first (open_checks s bytes) (value (header_of bytes)) ≡ refused n p)
  unfolding opened_of
  opened-refused e = unless-refused bytes (first (open_checks s bytes) (value (header_of bytes))) e

  pub opened-withdrawn : opened_of s bytes ≡ withdrawn → is_withdrawn bytes ≡ true
  unfolding opened_of
  opened-withdrawn e = unless_withdrawn_lem bytes (open_checks s bytes) (header_of bytes) e

-- ---- what an opened record has

module _ (s : Setup) (bytes : List ℕ) {h : Header} (opened : opened_of s bytes ≡ value h) where
  -- it is read
  pub opened-read : read_record_of bytes ≡ value (header_of bytes)
  unfolding read_record_of
  opened-read =
      let passed = opened-passed s bytes opened in
      unless-some bytes _ passed.0
      ∙ first-passed (record_checks bytes) (value (header_of bytes)) (append_left (record_checks bytes) (match_checks s bytes) (value (header_of bytes)) passed.1)

  pub opened-header : h ≡ header_of bytes
  opened-header = sym (first-value (open_checks s bytes) (header_of bytes) (opened-passed s bytes opened).1)

  -- with the header that was answered
  pub opened-as-read : read_record_of bytes ≡ value h
  opened-as-read = opened-read ∙ ap value (sym opened-header)

  pub opened-accepted : Accepted bytes
  opened-accepted = read_accepts bytes opened-read

  -- it is the setup's
  opened-match : Passed (match_checks s bytes)
  opened-match = first-all (match_checks s bytes) (value (header_of bytes)) (append_right (record_checks bytes) (match_checks s bytes) (value (header_of bytes)) (opened-passed s bytes opened).1)

  pub opened-dim : dim_of bytes ≡ s.dim
  opened-dim = differs-same _ _ opened-match.0

  pub opened-projections : projections_of bytes ≡ counted_projections_of s
  opened-projections =
      differs-same _ _ (or-false (differs (bits_of bytes) (polar_bits_of s)) (differs (projections_of bytes) (counted_projections_of s)) opened-match.1.0).1
