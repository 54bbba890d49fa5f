-- `rounding_u16::nearest` meets its contract, by the laws of `Whole`. Assumes nothing.
use Prim.Native.Nat.{ℕ, ◌+◌}
use mathlib.Core.Path.{◌≡◌, sym, ap, ◌∙◌}
use native.Mathlib.Omega.{arith}
use lib.Dec.{T}
use lib.IntN.{pos}
use lib.Ieee.{Float, binary32, add, sub, lt, of_int, to_unsigned, in_unsigned, of_bits}
use lib.Ieee.Back.{unsigned_back}
use Rattle.float.proofs.Levels.{levels-in_float}
use Rattle.float.specs.Rounding.{round_unsigned}
use Rattle.float.proofs.Round.{round_unsigned-lt}
use Rattle.rounding_u16.proofs.Whole.{large, half, whole_of, whole-small, left_is, round-down, round_up}
use Rattle.rounding_u16.specs.Inner.{Small}
use Rattle.rounding_u16.proofs.nearest.Goals.{Else-z-n}
use Rattle.rounding_u16.proofs.nearest.Goals as goal

-- the whole number that is left, as a float and as an integer
left : (z : Float) → Small z → sub binary32 (add binary32 z large) large ≡ of_int binary32 (pos (whole_of z))
left z h = left_is z h

whole : (z : Float) → Small z → let n = of_int binary32 (pos (whole_of z)) in T (in_unsigned binary32 16 n) × (to_unsigned 16 n ≡ whole_of z)
whole z h = let small = whole-small z h in unsigned_back binary32 16 (whole_of z) (levels-in_float (whole_of z) (omega (arith, small))) small

cast : (z : Float) → Small z → to_unsigned 16 (sub binary32 (add binary32 z large) large) ≡ whole_of z
cast z h = ap (to_unsigned 16) (left z h) ∙ (whole z h).1

pub float_to_int-whole : goal.float_to_int-whole
unfolding of_bits
float_to_int-whole c = rw (left c.args.z c.requires) (whole c.args.z c.requires).0

-- past the test
up : (c : goal.Else-z-n) → to_unsigned 16 (sub binary32 (add binary32 c.args.z large) large) + 1 ≡ round_unsigned 16 c.args.z
unfolding of_bits
up c = ap (λ (n : ℕ). n + 1) (cast c.args.z c.requires) ∙ round_up c.args.z c.requires (ap (λ (n : Float). lt c.args.z (add binary32 n half)) (sym (left c.args.z c.requires)) ∙ c.if-z-n.false)

pub overflow_add-result : goal.overflow_add-result
unfolding of_bits
overflow_add-result c = record { fits = rw (up (goal.at.overflow_add-result c).Else-z-n) (round_unsigned-lt 16 c.args.z) }

pub returns-then-z-n : goal.returns-then-z-n
unfolding of_bits
returns-then-z-n c = cast c.args.z c.requires ∙ round-down c.args.z c.requires (ap (λ (n : Float). lt c.args.z (add binary32 n half)) (sym (left c.args.z c.requires)) ∙ c.if-z-n.true)

pub returns-else-z-n : goal.returns-else-z-n
unfolding of_bits
returns-else-z-n c = up (goal.at.returns-else-z-n c).Else-z-n
