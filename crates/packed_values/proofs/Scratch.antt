-- The values of a record, read by its header into lent scratch: there is room for them, and they are then what it holds. Assumes nothing.
use Prim.Native.Nat.{ℕ, ◌/◌, ◌≤◌, ◌<◌}
use mathlib.Core.Path.{◌≡◌, refl, ap, ◌∙◌}
use mathlib.Core.Bool.{Bool, true, false, cond}
use mathlib.Core.List.{List, [], ◌∷◌}
use native.Mathlib.Omega.{arith}
use borrow.Author.Tests.{eq-eqb}
use lib.IntN.{ℤ}
use lib.ListN.{length}
use lib.Ieee.{Float}
use Rattle.error.specs.Answer.{value, after}
use Rattle.error.specs.Checks.{wrong_room}
use Rattle.error.proofs.Answers.{after-value}
use Rattle.error.proofs.Chains.{append-passed}
use Rattle.packed.specs.declared.Header.{Header}
use Rattle.packed.specs.Fields.{map_of, has_signs, word_at, projections_start, projections_of}
use Rattle.packed.specs.Layout.{pairs_of, header_of}
use Rattle.packed.specs.Reading.{record_checks, read_record_of, radii_of, indices_of, signs_of, fill_of, read_radii_of, read_indices_of, read_signs_of}
use Rattle.packed.proofs.Accepted.{read_accepts, read-header}
use Rattle.packed.proofs.Withdrawn.{unless-some, read-passed}
use Rattle.packed.proofs.Parts.{header-pairs, header_projections_lem}
use Rattle.packed_values.specs.AtHeader.{radii_at_of, indices_at_of, signs_at_of}
use Rattle.packed_values.proofs.Values.{radii_at-read, indices_at-read, signs_at-read}

-- ---- a record that is read

most-either : (t : Bool) (m : ℕ) → (t ≡ true → (0 < cond t m 0) × (cond t m 0 ≤ 4096)) → cond t m 0 ≤ 4096
most-either true m h = (h refl).1
most-either false m h = omega arith

module _ (bytes : List ℕ) {header : Header} (read : read_record_of bytes ≡ value header) where
  -- so many at most
  pub read_pairs-most : header.dim / 2 ≤ 2048
  read_pairs-most = let most = (read_accepts bytes read).most in let is = header-pairs bytes (read-header bytes read) in omega (arith, most, is)

  pub read-projections-most : header.projections ≤ 4096
  unfolding projections_of
  read-projections-most =
      let most = most-either (has_signs (map_of bytes)) (word_at bytes (projections_start (map_of bytes))) (read_accepts bytes read).projections in
      let is = header_projections_lem bytes (read-header bytes read) in
      omega (arith, most, is)

  -- in exactly the room that they need
  filled : {A : Type 0} (needed : ℕ) (x : A) → fill_of bytes needed needed x ≡ value x
  filled needed x =
      let passed = read-passed bytes read in
      unless-some bytes _ passed.0 ∙ append-passed (record_checks bytes) (wrong_room needed needed ∷ []) (header_of bytes) (value x) passed.1 ∙ simp (eq-eqb needed needed refl)

  radii_at-value : radii_at_of bytes header (header.dim / 2) ≡ value (radii_of bytes)
  unfolding read_radii_of
  radii_at-value = radii_at-read bytes (header.dim / 2) read ∙ ap (read_radii_of bytes) (header-pairs bytes (read-header bytes read)) ∙ filled (pairs_of bytes) (radii_of bytes)

  indices_at-value : indices_at_of bytes header (header.dim / 2) ≡ value (indices_of bytes)
  unfolding read_indices_of
  indices_at-value = indices_at-read bytes (header.dim / 2) read ∙ ap (read_indices_of bytes) (header-pairs bytes (read-header bytes read)) ∙ filled (pairs_of bytes) (indices_of bytes)

  signs_at-value : signs_at_of bytes header header.projections ≡ value (signs_of bytes)
  unfolding read_signs_of
  signs_at-value = signs_at-read bytes header.projections read ∙ ap (read_signs_of bytes) (header_projections_lem bytes (read-header bytes read)) ∙ filled (projections_of bytes) (signs_of bytes)

  -- in scratch of just their number: `old` is what it held before the call, and `new` what it holds afterwards
  module _ (old new : List Float) (long : length old ≡ header.dim / 2) where
    pub radii-lent : new ≡ after (radii_at_of bytes header (length old)) old → new ≡ radii_of bytes
    radii-lent e = e ∙ after-value _ old (ap (radii_at_of bytes header) long ∙ radii_at-value)

  module _ (old new : List ℕ) (long : length old ≡ header.dim / 2) where
    pub indices-lent : new ≡ after (indices_at_of bytes header (length old)) old → new ≡ indices_of bytes
    indices-lent e = e ∙ after-value _ old (ap (indices_at_of bytes header) long ∙ indices_at-value)

  module _ (old new : List ℤ) (long : length old ≡ header.projections) where
    pub signs-lent : new ≡ after (signs_at_of bytes header (length old)) old → new ≡ signs_of bytes
    signs-lent e = e ∙ after-value _ old (ap (signs_at_of bytes header) long ∙ signs_at-value)
