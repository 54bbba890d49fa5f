-- What the whole transform answers, by the number of values, and two to the count as the code has it, by a shift. Assumes nothing.
use Prim.Native.Nat.{ℕ, ◌*◌, ◌%◌, ◌^◌, ◌≤◌, ◌<◌}
use mathlib.Core.Path.{◌≡◌}
use mathlib.Core.List.{List}
use mathlib.Core.Logic.{◌≢◌}
use native.Mathlib.Nat.{one-mul, mod-eq_of_lt}
use native.Mathlib.Omega.{arith}
use borrow.Author.Tests.{eq-eqb, ne_eqb}
use lib.ListN.{length}
use lib.Pow.{pow_mono}
use lib.Ieee.{Float, binary32, add, sub}
use Rattle.float.specs.Constants.{pos_zero}
use Rattle.rounding.specs.Butterfly.{stages}
use Rattle.rotation_stages.specs.Transform.{transformed_of}

pub shifted : (count : ℕ) → count ≤ 63 → 1 * 2 ^ count % 18446744073709551616 ≡ 2 ^ count
shifted count few = let most = pow_mono few in rw one-mul (mod-eq_of_lt (omega (arith, most)))

-- no list that a slice has is as long as two to the 64
pub too_many : (count long : ℕ) → 63 < count → long < 18446744073709551616 → long ≢ 2 ^ count
too_many count long more small e = let least = pow_mono more in omega (arith, least)

module _ (count : ℕ) (xs : List Float) where
  pub transformed-all : length xs ≡ 2 ^ count → transformed_of count xs ≡ stages (add binary32) (sub binary32) pos_zero count 1 xs
  unfolding transformed_of
  transformed-all e = simp (eq-eqb _ _ e)

  pub transformed-none : length xs ≢ 2 ^ count → transformed_of count xs ≡ xs
  unfolding transformed_of
  transformed-none e = simp (ne_eqb _ _ e)
