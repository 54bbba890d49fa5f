-- The answers of unpacking, case by case, as the code comes to them: by the answers of its own checks. Assumes nothing.
use Prim.Native.Nat.{ℕ, ◌*◌, ◌^◌}
use mathlib.Core.Path.{◌≡◌, refl, ◌∙◌}
use mathlib.Core.List.{List, [], ◌∷◌}
use native.Mathlib.Omega.{arith}
use lib.ListN.{length}
use borrow.Author.Tests.{eq-eqb, ne_eqb, eqb-true, not-false}
use Rattle.error.specs.Answer.{value, refused, first}
use Rattle.digits.specs.Digits.{number, digits}
use Rattle.error.specs.Checks.{wrong_bits, wrong_room}
use Rattle.bitpack.specs.Padding.{bytes_for, wrong_length, wrong_padding, unpack_checks, validate_padding_zero_of}
use Rattle.bitpack.specs.Packing.{packed_len_of, unpack_indices_of, wrong_overflow}
use Rattle.bitpack.proofs.Answers.{measured}
use Rattle.bitpack_reading.specs.Inner.{Unpackable}
use Rattle.error.proofs.Chains.{append-refused, append-passed, first_passes}

module _ (packed : List ℕ) (count bits room : ℕ) where
  pub unpack-no-length : {n p : ℕ} → packed_len_of count bits ≡ refused n p → unpack_indices_of packed count bits room ≡ refused n p
  unfolding packed_len_of unpack_indices_of
  unpack-no-length e = append-refused (wrong_bits bits ∷ wrong_overflow count bits ∷ []) (unpack_checks packed (count * bits) count room) _ _ e

  module _ {need : ℕ} (told : packed_len_of count bits ≡ value need) where
    unpack-rest : unpack_indices_of packed count bits room ≡ first (unpack_checks packed (count * bits) count room) (value (digits (2 ^ bits) count (number 256 packed)))
    unfolding packed_len_of unpack_indices_of
    unpack-rest = append-passed (wrong_bits bits ∷ wrong_overflow count bits ∷ []) (unpack_checks packed (count * bits) count room) _ _ told

    pub unpack-padded : {n p : ℕ} → validate_padding_zero_of packed (count * bits) ≡ refused n p → unpack_indices_of packed count bits room ≡ refused n p
    unfolding validate_padding_zero_of
    unpack-padded e =
        unpack-rest
        ∙ append-refused (wrong_length packed (count * bits) ∷ wrong_padding packed (count * bits) ∷ []) (wrong_room room count ∷ []) _ _ e

    module _ (clean : validate_padding_zero_of packed (count * bits) ≡ value tt) where
      unpack-last : unpack_indices_of packed count bits room ≡ first (wrong_room room count ∷ []) (value (digits (2 ^ bits) count (number 256 packed)))
      unfolding validate_padding_zero_of
      unpack-last =
          unpack-rest
          ∙ append-passed (wrong_length packed (count * bits) ∷ wrong_padding packed (count * bits) ∷ []) (wrong_room room count ∷ []) _ _ clean

      pub unpack-no-room : (room ≡ count → ⊥) → unpack_indices_of packed count bits room ≡ refused 6 count
      unpack-no-room h = unpack-last ∙ simp (ne_eqb _ _ h)

      pub unpack-value : room ≡ count → unpack_indices_of packed count bits room ≡ value (digits (2 ^ bits) room (number 256 packed))
      unpack-value h = unpack-last ∙ rw h (simp (eq-eqb count count refl))

      pub unpackable : room ≡ count → Unpackable packed bits room
      unfolding validate_padding_zero_of
      unpackable h =
          let m = measured count bits told in
          let passed = first_passes (wrong_length packed (count * bits) ∷ wrong_padding packed (count * bits) ∷ []) tt clean in
          let sized = eqb-true (length packed) (bytes_for (count * bits)) (not-false _ passed.0) in
          record {
            wide = m.wide;
            narrow = m.narrow;
            enough = rw h (omega (arith, sized));
          }
