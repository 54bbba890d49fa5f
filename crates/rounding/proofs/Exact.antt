-- A product with 1 or -1 rounds nothing: it comes out finite, with the exact value. And the factors of a product may change places. Assumes nothing.
use mathlib.Core.Path.{◌≡◌, refl, sym, ap, ◌∙◌}
use Prim.Native.Nat.{ℕ, ◌*◌}
use native.Mathlib.Nat.{mul-one, mul_comm, mul-pos, zero-lt-suc}
use mathlib.Core.Bool.{Bool, true, false}
use lib.IntN.{ℤ}
use lib.Dec.{T}
use lib.Ieee.{Float, nan, inf, fin, Format, binary32, unlike, up, down, mul, fits}
use lib.Ieee.Exact.{HasValue}
use lib.Ieee.Fits.{down_pos}
use lib.Ieee.Scale.{finite}
use Rattle.rounding.specs.Signed.{signed, turned}
use Rattle.rounding.specs.Value.{val}
use Rattle.float.specs.Constants.{one}
use Rattle.float.specs.Units.{unit, mag}
use Rattle.rounding.proofs.Values.{mag-exact, val-of-value, finite-of-value, round_keeps}

-- ---- the factors of a product may change places
unlike-comm : (s t : Bool) → unlike s t ≡ unlike t s
unlike-comm false false = refl
unlike-comm false true = refl
unlike-comm true false = refl
unlike-comm true true = refl

pub mul_commutes : (f : Format) (x y : Float) → mul f x y ≡ mul f y x
unfolding mul
mul_commutes f nan nan = refl
mul_commutes f nan (inf t) = refl
mul_commutes f nan (fin t n d) = refl
mul_commutes f (inf s) nan = refl
mul_commutes f (inf s) (inf t) = ap inf (unlike-comm s t)
mul_commutes f (inf s) (fin t n d) = rw (unlike-comm s t)
mul_commutes f (fin s m e) nan = refl
mul_commutes f (fin s m e) (inf t) = rw (unlike-comm s t)
mul_commutes f (fin s m e) (fin t n d) = rw (unlike-comm s t, mul_comm (m * up e) (n * up d), mul_comm (down e) (down d))

-- ---- products with 1 and -1
turned-signed : (s t : Bool) (n : ℕ) → signed (unlike s t) n ≡ turned t (signed s n)
turned-signed false false n = refl
turned-signed false true n = refl
turned-signed true false n = refl
turned-signed true true n = refl

times-sign : (s : Bool) (m : ℕ) (e : ℤ) (t : Bool) → T (fits binary32 (fin s m e)) → HasValue (mul binary32 (fin s m e) (one t)) (unlike s t) (mag (fin s m e)) unit
unfolding mul
times-sign s m e t h =
    round_keeps (fin s m e) (unlike s t) (m * up e * 1) (down e * 1) h tt (mul-pos (down_pos e) (zero-lt-suc 0))
    (simp mul-one (sym (mag-exact s m e h)))

pub mul-sign-val : (x : Float) (t : Bool) → T (fits binary32 x) → T (finite x) → val (mul binary32 x (one t)) ≡ turned t (val x)
mul-sign-val nan t h f = absurd f
mul-sign-val (inf s) t h f = absurd f
mul-sign-val (fin s m e) t h f =
    val-of-value (mul binary32 (fin s m e) (one t)) (unlike s t) (mag (fin s m e)) (times-sign s m e t h) ∙ unfold val in turned-signed s t (mag (fin s m e))

pub mul-sign-finite : (x : Float) (t : Bool) → T (fits binary32 x) → T (finite x) → T (finite (mul binary32 x (one t)))
mul-sign-finite nan t h f = absurd f
mul-sign-finite (inf s) t h f = absurd f
mul-sign-finite (fin s m e) t h f = finite-of-value (mul binary32 (fin s m e) (one t)) (unlike s t) (mag (fin s m e)) unit (times-sign s m e t h)
