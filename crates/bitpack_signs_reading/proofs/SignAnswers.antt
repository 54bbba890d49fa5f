-- The answers of unpacking signs, case by case, as the code comes to them. Assumes nothing.
use Prim.Native.Nat.{ℕ, ◌*◌, ◌≤◌}
use mathlib.Core.Path.{◌≡◌, refl, ◌∙◌}
use mathlib.Core.List.{List, [], ◌∷◌, map}
use native.Mathlib.Omega.{arith}
use lib.ListN.{length}
use borrow.Author.Tests.{eq-eqb, ne_eqb, eqb-true, not-false}
use Rattle.error.specs.Answer.{value, refused, first}
use Rattle.digits.specs.Digits.{number, digits}
use Rattle.error.specs.Checks.{wrong_room}
use Rattle.bitpack.specs.Padding.{bytes_for, validate_padding_zero_of, wrong_length, wrong_padding}
use Rattle.bitpack.specs.Signs.{sign_of_bit, unpack_signs_of}
use Rattle.error.proofs.Chains.{append-refused, append-passed, first_passes}

module _ (packed : List ℕ) (count room : ℕ) where
  pub unpack_signs-padded : {n p : ℕ} → validate_padding_zero_of packed count ≡ refused n p → unpack_signs_of packed count room ≡ refused n p
  unfolding validate_padding_zero_of unpack_signs_of
  unpack_signs-padded e = append-refused (wrong_length packed count ∷ wrong_padding packed count ∷ []) (wrong_room room count ∷ []) _ _ e

  module _ (clean : validate_padding_zero_of packed count ≡ value tt) where
    unpack-signs-last : unpack_signs_of packed count room ≡ first (wrong_room room count ∷ []) (value (map sign_of_bit (digits 2 count (number 256 packed))))
    unfolding validate_padding_zero_of unpack_signs_of
    unpack-signs-last = append-passed (wrong_length packed count ∷ wrong_padding packed count ∷ []) (wrong_room room count ∷ []) _ _ clean

    pub unpack-signs-no-room : (room ≡ count → ⊥) → unpack_signs_of packed count room ≡ refused 6 count
    unpack-signs-no-room h = unpack-signs-last ∙ simp (ne_eqb _ _ h)

    pub unpack-signs-value : room ≡ count → unpack_signs_of packed count room ≡ value (map sign_of_bit (digits 2 room (number 256 packed)))
    unpack-signs-value h = unpack-signs-last ∙ rw h (simp (eq-eqb count count refl))

    -- the bytes hold enough signs
    pub unpack-signs-enough : room ≡ count → room ≤ 8 * length packed
    unfolding validate_padding_zero_of
    unpack-signs-enough h =
        let passed = first_passes (wrong_length packed count ∷ wrong_padding packed count ∷ []) tt clean in
        let sized = eqb-true (length packed) (bytes_for count) (not-false _ passed.0) in
        omega (arith, sized, h)
