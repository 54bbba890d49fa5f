-- The answers that stand behind the checks of a record's frame, and what they say of it; a record that was only peeked at is read where no radius offends.
-- Assumes nothing.
use Prim.Native.Nat.{ℕ}
use mathlib.Core.Path.{◌≡◌, refl, sym, ap, ◌∙◌}
use mathlib.Core.Bool.{false, true}
use mathlib.Core.List.{List, [], ◌∷◌, ◌++◌}
use lib.ListN.{length}
use Rattle.error.specs.Answer.{value, refused, withdrawn, Check, first, clear, accepted}
use Rattle.error.proofs.Chains.{first-value, first-all, append_left, append_right, append-passed, append-refused, first-passed, first-refused}
use Rattle.error.proofs.Differs.{differs-same}
use Rattle.error.proofs.Sweep.{clear-passes}
use Rattle.radius.specs.Radii.{bad_radius}
use Rattle.packed.specs.declared.Header.{Header}
use Rattle.packed.specs.Layout.{record_length, header_of}
use Rattle.packed.specs.Reading.{is_withdrawn, radii_of, header_checks, padding_checks, read_record_of}
use Rattle.packed.specs.Peeking.{frame_checks, radii_checks, framed_of, read_frame_of, peek_record_of}
use Rattle.packed.specs.Inner.{Whole}
use Rattle.packed.proofs.Withdrawn.{unless-none, unless-some, unless-value, unless-refused, unless_withdrawn_lem}

-- ---- a frame with checks behind it

module _ (bytes : List ℕ) (cs : List Check) where
  module _ {header : Header} (e : framed_of bytes cs ≡ value header) where
    passed : (is_withdrawn bytes ≡ false) × (first (header_checks bytes ++ (frame_checks bytes ++ cs)) (value (header_of bytes)) ≡ value header)
    passed = unless-value bytes (first (header_checks bytes ++ (frame_checks bytes ++ cs)) (value (header_of bytes))) e

    pub framed-header : header ≡ header_of bytes
    framed-header = sym (first-value (header_checks bytes ++ (frame_checks bytes ++ cs)) (header_of bytes) passed.1)

    header-passed : first (header_checks bytes) accepted ≡ accepted
    header-passed = append_left (header_checks bytes) (frame_checks bytes ++ cs) (value (header_of bytes)) passed.1

    rest-passed : first (frame_checks bytes ++ cs) (value (header_of bytes)) ≡ value header
    rest-passed = append_right (header_checks bytes) (frame_checks bytes ++ cs) (value (header_of bytes)) passed.1

    frame-passed : first (frame_checks bytes) accepted ≡ accepted
    frame-passed = append_left (frame_checks bytes) cs (value (header_of bytes)) rest-passed

    pub framed-whole : Whole bytes header
    framed-whole = record { own = framed-header; passed = header-passed; sized = differs-same (length bytes) (record_length bytes) (first-all (frame_checks bytes) accepted frame-passed).0 }

    -- with other checks in their place
    pub framed-other : (ds : List Check) → framed_of bytes ds ≡ first ds (value (header_of bytes))
    framed-other ds =
        unless-some bytes _ passed.0
        ∙ append-passed (header_checks bytes) (frame_checks bytes ++ ds) tt (value (header_of bytes)) header-passed
        ∙ append-passed (frame_checks bytes) ds tt (value (header_of bytes)) frame-passed

-- ---- what the frame alone has answered

module _ (bytes : List ℕ) (cs : List Check) where
  pub frame-withdrawn : read_frame_of bytes ≡ withdrawn → framed_of bytes cs ≡ withdrawn
  unfolding read_frame_of
  frame-withdrawn e = unless-none bytes _ (unless_withdrawn_lem bytes (header_checks bytes ++ (frame_checks bytes ++ [])) (header_of bytes) e)

  pub frame_refused : {n p : ℕ} → read_frame_of bytes ≡ refused n p → framed_of bytes cs ≡ refused n p
  unfolding read_frame_of
  frame_refused e =
      let refusal = unless-refused bytes (first (header_checks bytes ++ (frame_checks bytes ++ [])) (value (header_of bytes))) e in
      unless-some bytes _ refusal.0 ∙ append-refused (header_checks bytes ++ (frame_checks bytes ++ [])) cs (header_of bytes) (value (header_of bytes)) refusal.1

  module _ {header : Header} (e : read_frame_of bytes ≡ value header) where
    pub frame-whole : Whole bytes header
    unfolding read_frame_of
    frame-whole = framed-whole bytes [] e

    pub frame-then-refused : {n p : ℕ} → first cs accepted ≡ refused n p → framed_of bytes cs ≡ refused n p
    unfolding read_frame_of
    frame-then-refused r = framed-other bytes [] e cs ∙ first-refused cs (value (header_of bytes)) r

    pub frame-then-passed : first cs accepted ≡ accepted → framed_of bytes cs ≡ value header
    unfolding read_frame_of
    frame-then-passed r = framed-other bytes [] e cs ∙ first-passed cs (value (header_of bytes)) r ∙ ap value (sym (framed-header bytes [] e))

-- ---- a record that was peeked at

module _ (bytes : List ℕ) {header : Header} (e : peek_record_of bytes ≡ value header) where
  pub peek-whole : Whole bytes header
  unfolding peek_record_of
  peek-whole = framed-whole bytes (padding_checks bytes) e

  -- where no radius offends it is read
  pub peek-read : clear bad_radius (radii_of bytes) ≡ true → read_record_of bytes ≡ value header
  unfolding peek_record_of read_record_of
  peek-read good =
      framed-other bytes (padding_checks bytes) e (radii_checks bytes)
      ∙ rw (clear-passes bad_radius (radii_of bytes) refl good)
      (sym (framed-other bytes (padding_checks bytes) e (padding_checks bytes)) ∙ e)
