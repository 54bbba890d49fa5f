-- No hidden infinity: what a finite result says of the operands, in either format.
-- A sum, a difference or a product that is finite has finite operands; a quotient may also be a zero over an infinity. Assumes nothing.
use mathlib.Core.Path.{◌≡◌, refl}
use Prim.Native.Nat.{zero, suc, ◌<◌}
use native.Mathlib.Nat.{zero-lt-suc}
use mathlib.Core.Bool.{Bool, true, false, cond, beq}
use lib.Dec.{T, eqb}
use lib.IntN.{pos}
use lib.Ieee.{Float, nan, inf, fin, Format, unlike, neg, add, sub, mul, div}
use lib.Ieee.Scale.{finite}

-- what a finite quotient of x says of its divisor: it is a number other than 0, or an infinity, which leaves a zero
abbrev pub Divisor : Format → Float → Float → Type 0
Divisor f x nan = ⊥
Divisor f x (inf s) = (b : Bool) × (div f x (inf s) ≡ fin b 0 (pos 0))
Divisor f x (fin s m e) = 0 < m

neg-finite : (x : Float) → T (finite (neg x)) → T (finite x)
unfolding neg
neg-finite nan t = t
neg-finite (inf s) t = t
neg-finite (fin s m e) t = tt

pub neg-number : (x : Float) → T (finite x) → T (finite (neg x))
unfolding neg
neg-number nan t = t
neg-number (inf s) t = t
neg-number (fin s m e) t = tt

infinite-sum : (b s : Bool) → T (finite (cond b (inf s) nan)) → ⊥
infinite-sum true s t = t
infinite-sum false s t = t

pub add-finite : (f : Format) (x y : Float) → T (finite (add f x y)) → T (finite x) × T (finite y)
unfolding add
add-finite f nan y t = absurd t
add-finite f (inf s) nan t = absurd t
add-finite f (inf s) (inf u) t = absurd (infinite-sum (beq s u) s t)
add-finite f (inf s) (fin u n d) t = absurd t
add-finite f (fin s m e) nan t = absurd t
add-finite f (fin s m e) (inf u) t = absurd t
add-finite f (fin s m e) (fin u n d) t = (tt, tt)

pub sub-finite : (f : Format) (x y : Float) → T (finite (sub f x y)) → T (finite x) × T (finite y)
unfolding sub
sub-finite f x y t = let h = add-finite f x (neg y) t in (h.0, neg-finite y h.1)

infinite-product : (b s : Bool) → T (finite (cond b nan (inf s))) → ⊥
infinite-product true s t = t
infinite-product false s t = t

pub mul-finite : (f : Format) (x y : Float) → T (finite (mul f x y)) → T (finite x) × T (finite y)
unfolding mul
mul-finite f nan y t = absurd t
mul-finite f (inf s) nan t = absurd t
mul-finite f (inf s) (inf u) t = absurd t
mul-finite f (inf s) (fin u n d) t = absurd (infinite-product (eqb n 0) (unlike s u) t)
mul-finite f (fin s m e) nan t = absurd t
mul-finite f (fin s m e) (inf u) t = absurd (infinite-product (eqb m 0) (unlike s u) t)
mul-finite f (fin s m e) (fin u n d) t = (tt, tt)

pub div-finite : (f : Format) (x y : Float) → T (finite (div f x y)) → T (finite x) × Divisor f x y
unfolding div
div-finite f nan y t = absurd t
div-finite f (inf s) nan t = absurd t
div-finite f (inf s) (inf u) t = absurd t
div-finite f (inf s) (fin u n d) t = absurd t
div-finite f (fin s m e) nan t = absurd t
div-finite f (fin s m e) (inf u) t = (tt, (unlike s u, refl))
div-finite f (fin s m e) (fin u zero d) t = absurd (infinite-product (eqb m 0) (unlike s u) t)
div-finite f (fin s m e) (fin u (suc n) d) t = (tt, zero-lt-suc n)
