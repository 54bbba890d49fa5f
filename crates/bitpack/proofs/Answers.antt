-- What a length that is answered tells. Assumes nothing.
use Prim.Native.Nat.{ℕ, ◌-◌, ◌*◌, ◌^◌, ◌≤◌}
use mathlib.Core.Path.{◌≡◌}
use mathlib.Core.List.{[], ◌∷◌}
use borrow.Author.Tests.{ltb-false}
use Rattle.error.specs.Answer.{value}
use Rattle.error.specs.Checks.{wrong_bits}
use Rattle.bitpack.specs.Padding.{bytes_for}
use Rattle.bitpack.specs.Packing.{packed_len_of, wrong_overflow}
use Rattle.error.proofs.Chains.{first-value, first_passes, or-false}

pub record Measured (count bits need : ℕ) : Type 0 where
  pub wide : 1 ≤ bits
  pub narrow : bits ≤ 16
  pub fits : count * bits ≤ 2 ^ 64 - 1
  pub is : bytes_for (count * bits) ≡ need

pub measured : (count bits : ℕ) {need : ℕ} → packed_len_of count bits ≡ value need → Measured count bits need
unfolding packed_len_of
measured count bits e =
    let passed = first_passes (wrong_bits bits ∷ wrong_overflow count bits ∷ []) (bytes_for (count * bits)) e in
    let width = or-false _ _ passed.0 in
    record {
      wide = ltb-false bits 1 width.0;
      narrow = ltb-false 16 bits width.1;
      fits = ltb-false (2 ^ 64 - 1) (count * bits) passed.1.0;
      is = first-value (wrong_bits bits ∷ wrong_overflow count bits ∷ []) (bytes_for (count * bits)) e;
    }
