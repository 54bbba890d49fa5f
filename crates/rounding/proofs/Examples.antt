-- The definitions at work, computed: the smallest and the largest f32 in units, the butterflies of (1, 2, 3, 4), a running sum and a dot product.
-- Assumes nothing.
use mathlib.Core.Path.{◌≡◌, refl}
use Prim.Native.Nat.{◌+◌, ◌-◌, ◌*◌, ◌^◌}
use mathlib.Core.Bool.{true, false}
use mathlib.Core.List.{List, [], ◌∷◌, map}
use lib.IntN.{pos, negsuc}
use lib.Ieee.{fin, inf}
use Rattle.rounding.specs.Signed.{Diff, nought, signed, ◌⊞◌, ◌⊟◌}
use Rattle.rounding.proofs.Signed.{size}
use Rattle.rounding.specs.Value.{val}
use Rattle.float.specs.Units.{unit, mag}
use Rattle.rounding.specs.Sums.{running, total, products, dot}
use Rattle.rounding.specs.Butterfly.{from, entry, stage, stages}

-- 2 ^ -149 is one unit, -1.5 is -3 * 2 ^ 148 of them, and the largest f32 is (2 ^ 24 - 1) * 2 ^ 253
smallest-val : val (fin false 1 (negsuc 148)) ≡ signed false 1
unfolding val mag unit
smallest-val = refl

negative-val : val (fin true 3 (negsuc 0)) ≡ signed true (3 * 2 ^ 148)
unfolding val mag unit
negative-val = refl

largest-val : val (fin false (2 ^ 24 - 1) (pos 104)) ≡ signed false ((2 ^ 24 - 1) * 2 ^ 253)
unfolding val mag unit
largest-val = refl

infinite-val : val (inf true) ≡ nought
unfolding val
infinite-val = refl

-- (1, 2, 3, 4) with the steps 1 and 2: 10, -2, -4, 0, each as a size with a sign
numbers : List Diff
numbers = signed false 1 ∷ signed false 2 ∷ signed false 3 ∷ signed false 4 ∷ []

butterflies-of-four : map size (stages ◌⊞◌ ◌⊟◌ nought 2 1 numbers) ≡ 10 ∷ 2 ∷ 4 ∷ 0 ∷ []
unfolding stages stage entry from numbers
butterflies-of-four = refl

sums-of-four : stages ◌+◌ ◌+◌ 0 2 1 (1 ∷ 2 ∷ 3 ∷ 4 ∷ []) ≡ 10 ∷ 10 ∷ 10 ∷ 10 ∷ []
unfolding stages stage entry from
sums-of-four = refl

-- 1 + 2 ^ -24 + 2 ^ -24 from +0.0 is 1.0: each of the two small terms is lost
lost-terms : total (fin false 1 (pos 0) ∷ fin false 1 (negsuc 23) ∷ fin false 1 (negsuc 23) ∷ []) ≡ fin false 1 (pos 0)
unfolding running lib.Ieee.add
lost-terms = refl

-- (1.5, 2) · (2, -0.25) is 2.5
small-dot : dot (fin false 3 (negsuc 0) ∷ fin false 1 (pos 1) ∷ []) (fin false 1 (pos 1) ∷ fin true 1 (negsuc 1) ∷ []) ≡ fin false 5 (negsuc 0)
unfolding running products lib.Ieee.add lib.Ieee.mul
small-dot = refl
