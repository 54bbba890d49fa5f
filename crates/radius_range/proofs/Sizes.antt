-- The order of the floats above zero is that of their sizes, numbers, and such a float is the one of its size. An infinity is larger than all.
-- Assumes nothing.
use Prim.Native.Nat.{ℕ, ◌+◌, ◌-◌, ◌*◌, ◌/◌, ◌^◌}
use mathlib.Core.Path.{◌≡◌, refl, sym, ap, ◌∙◌}
use mathlib.Core.Bool.{true, false, false≢true}
use native.Mathlib.Omega.{arith}
use borrow.Author.Tests.{lt-ltb, le-ltb}
use lib.Dec.{T, ltb}
use lib.IntN.{ℤ}
use lib.Ieee.{Float, nan, inf, fin, binary32, fits, size, lt, to_bits, of_bits}
use lib.Ieee.Bits.{of_bits-to_bits}
use Rattle.float.specs.Constants.{pos_zero}
use Rattle.float.specs.Units.{unit, mag}
use Rattle.rounding.proofs.Positive.{too_large, number-worth, worth-under, lt-worth}

-- an f32 above zero
pub record Above (x : Float) : Type 0 where
  pub fit : T (fits binary32 x)
  pub positive : lt pos_zero x ≡ true

unfoldable pub size_of : Float → ℕ
size_of nan = 0
size_of (inf s) = too_large
size_of (fin s m e) = mag (fin s m e)

-- ---- what an f32 above zero is

pub data Shape : Float → Type 0 where
  infinite : Shape (inf false)
  finite : (m : ℕ) (e : ℤ) → T (fits binary32 (fin false m e)) → Shape (fin false m e)

pub shape : (x : Float) → Above x → Shape x
unfolding lt
shape nan h = absurd (false≢true h.positive)
shape (inf true) h = absurd (false≢true h.positive)
shape (inf false) h = infinite
shape (fin true m e) h = absurd (false≢true h.positive)
shape (fin false m e) h = finite m e h.fit

-- ---- the order

pub lt_size : (x y : Float) → Shape x → Shape y → lt x y ≡ ltb (size_of x) (size_of y)
unfolding lt size_of
lt_size x y infinite infinite = sym (le-ltb too_large too_large (omega arith))
lt_size x y infinite (finite n d g) = sym (le-ltb too_large (mag (fin false n d)) (omega (arith, worth-under (fin false n d) (number-worth n d g))))
lt_size x y (finite m e h) infinite = sym (lt-ltb (mag (fin false m e)) too_large (worth-under (fin false m e) (number-worth m e h)))
lt_size x y (finite m e h) (finite n d g) = lt-worth (fin false m e) (fin false n d) (number-worth m e h) (number-worth n d g)

-- the pattern of a float goes by its size
size-pattern : (m : ℕ) (e : ℤ) (n : ℕ) (d : ℤ) → mag (fin false m e) ≡ mag (fin false n d) → to_bits binary32 (fin false m e) ≡ to_bits binary32 (fin false n d)
unfolding mag unit to_bits
size-pattern m e n d same = ap (λ (k : ℕ). 0 + (size k - 24) * 2 ^ 23 + k / 2 ^ (size k - 24)) same

-- a float is the one of its size
pub size-one : (x y : Float) → Shape x → Shape y → size_of x ≡ size_of y → x ≡ y
unfolding size_of
size-one x y infinite infinite same = refl
size-one x y infinite (finite n d g) same = absurd (omega (arith, worth-under (fin false n d) (number-worth n d g)))
size-one x y (finite m e h) infinite same = absurd (omega (arith, worth-under (fin false m e) (number-worth m e h)))
size-one x y (finite m e h) (finite n d g) same = sym (of_bits-to_bits binary32 (fin false m e) h) ∙ ap (of_bits binary32) (size-pattern m e n d same) ∙ of_bits-to_bits binary32 (fin false n d) g
