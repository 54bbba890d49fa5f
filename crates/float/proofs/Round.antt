-- A float rounded to the nearest unsigned integer of some bits is in range (`round_unsigned-lt`). Assumes nothing.
use Rattle.std.proofs.Common.{ℕ, ◌+◌, ◌-◌, ◌*◌, ◌/◌, ◌^◌, ◌<◌, min, Bool, true, false, cond, arith, pow_pos}
use lib.Pow.{ones_lt}
use lib.Ieee.{Float, nan, inf, fin, up, down}
use Rattle.float.specs.Rounding.{round_unsigned}

either_lt : (s : Bool) (a c : ℕ) → 0 < c → a < c → cond s 0 a < c
either_lt true a c p h = p
either_lt false a c p h = h

capped : (a c : ℕ) → 0 < c → min a (c - 1) < c
capped a c h = omega arith

pub round_unsigned-lt : (w : ℕ) (x : Float) → round_unsigned w x < 2 ^ w
unfolding round_unsigned
round_unsigned-lt w nan = pow_pos w
round_unsigned-lt w (inf s) = either_lt s (2 ^ w - 1) (2 ^ w) (pow_pos w) (ones_lt w)
round_unsigned-lt w (fin s m e) = either_lt s (min ((2 * (m * up e) + down e) / (2 * down e)) (2 ^ w - 1)) (2 ^ w) (pow_pos w) (capped ((2 * (m * up e) + down e) / (2 * down e)) (2 ^ w) (pow_pos w))
