-- What the checks of a rotation leave of a dimension, its signs and the lengths: a power of two up to 4,096, signs of that number that are -1 or 1,
-- an input and an output of that length. Assumes nothing.
use Prim.Native.Nat.{ℕ, ◌^◌, ◌≤◌, ◌<◌}
use mathlib.Core.Path.{◌≡◌}
use mathlib.Core.Bool.{false, not}
use mathlib.Core.List.{List}
use native.Mathlib.Omega.{arith}
use native.Mathlib.Decide.{dec_lt}
use borrow.Author.Tests.{eqb-true, ltb-false, not-false}
use lib.Count.{ones, count_trailing_zeros}
use lib.Dec.{eqb, ltb}
use lib.ListN.{length, get_or}
use lib.Pow.{pow_mono}
use lib.Ieee.{Float, nan}
use Rattle.error.specs.Answer.{first, accepted}
use Rattle.error.proofs.Chains.{first_passes, or-false}
use Rattle.error.proofs.Places.{each-clear}
use Rattle.rotation.specs.Checks.{bad_sign, rotation_checks}
use Rattle.rotation.proofs.Powers.{one_bit}

-- a power of two that is at most 4,096
pub record Power (n : ℕ) : Type 0 where
  pub bit : ones n ≡ 1
  pub small : n ≤ 4096

pub record Rotatable (n : ℕ) (signs : List Float) (long room : ℕ) : Type 0 where
  pub power : Power n
  pub signs_long : length signs ≡ n
  pub signs_good : (i : ℕ) → i < length signs → bad_sign (get_or signs i nan) ≡ false
  pub input_long : long ≡ n
  pub output_long : room ≡ n

-- the number of butterfly steps, two to which is the dimension
pub power-steps : (n : ℕ) → Power n → n ≡ 2 ^ count_trailing_zeros 64 n
power-steps n p = one_bit 64 n (let small = p.small in omega arith) p.bit

pub power-few : (n : ℕ) → Power n → count_trailing_zeros 64 n ≤ 12
power-few n p = elim (dec_lt 12 (count_trailing_zeros 64 n)) [ yes many ↦ absurd (over many) | no few ↦ omega arith ]
  where
    over : 12 < count_trailing_zeros 64 n → ⊥
    over many =
        let steps = power-steps n p in
        let large = pow_mono many in
        omega (arith, steps, large, p.small)

pub rotatable : (n : ℕ) (signs : List Float) (long room : ℕ) → first (rotation_checks n signs long room) accepted ≡ accepted → Rotatable n signs long room
rotatable n signs long room e =
    let all = first_passes (rotation_checks n signs long room) tt e in
    let power = or-false (not (eqb (ones n) 1)) (ltb 4096 n) all.1.1.0 in
    record {
      power = record { bit = eqb-true (ones n) 1 (not-false _ power.0); small = ltb-false 4096 n power.1 };
      signs_long = eqb-true (length signs) n (not-false _ all.1.1.1.0);
      signs_good = each-clear bad_sign signs nan all.1.1.1.1.0;
      input_long = eqb-true long n (not-false _ all.1.1.1.1.1.0);
      output_long = eqb-true room n (not-false _ all.1.1.1.1.1.1.0);
    }
