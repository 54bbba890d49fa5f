-- A sign that passes its check is 1.0 or -1.0, as data and not only as a number. Assumes nothing.
use Prim.Native.Nat.{ℕ, suc, ◌*◌, ◌<◌}
use mathlib.Core.Path.{◌≡◌, refl, sym, ap, ap₂, ◌∙◌, subst}
use mathlib.Core.Bool.{Bool, true, false, not, ◌&&◌, ◌||◌, beq}
use mathlib.Core.List.{List, [], ◌∷◌, map}
use native.Mathlib.Omega.{arith}
use borrow.Author.Tests.{eqb-true}
use lib.Dec.{T, eqb}
use lib.ListN.{length, get_or}
use lib.Ieee.{Float, nan, inf, fin, binary32, up, down, fits, eq, ne, lt}
use lib.Ieee.Back.{whole_unique}
use lib.Ieee.Exact.{HasValue}
use lib.Ieee.Fits.{down_pos}
use Rattle.float.specs.Constants.{one}
use Rattle.rounding.proofs.Close.{AllFit}
use Rattle.rotation.specs.Checks.{bad_sign}
use Rattle.rotation.specs.Exact.{negative}

and_left : (a b : Bool) → (a && b) ≡ true → a ≡ true
and_left true b e = refl
and_left false b e = e

and_right : (a b : Bool) → (a && b) ≡ true → b ≡ true
and_right true b e = e
and_right false b e = cc

same_sign : (u t : Bool) (a : ℕ) → 0 < a → (beq u t || eqb a 0) ≡ true → u ≡ t
same_sign true true a l e = refl
same_sign false false a l e = refl
same_sign true false a l e = absurd (let z = eqb-true a 0 e in omega arith)
same_sign false true a l e = absurd (let z = eqb-true a 0 e in omega arith)

one-fits : (t : Bool) → T (fits binary32 (one t))
unfolding fits
one-fits true = tt
one-fits false = tt

one_value : (t : Bool) → HasValue (one t) t 1 1
one_value t = (refl, refl)

value-of-one : (t : Bool) (s : Float) → eq s (one t) ≡ true → HasValue s t 1 1
unfolding eq
value-of-one t nan e = let z : true ≡ false = sym e in absurd (subst T z tt)
value-of-one t (inf u) e = let z : true ≡ false = sym e in absurd (subst T z tt)
value-of-one t (fin u m e) h =
    let same = eqb-true (m * up e * 1) (1 * down e) (and_left (eqb (m * up e * 1) (1 * down e)) _ h) in
    let above = down_pos e in
    (same_sign u t (m * up e * 1) (omega (arith, same, above)) (and_right (eqb (m * up e * 1) (1 * down e)) _ h), same)

eq-one : (t : Bool) (s : Float) → T (fits binary32 s) → eq s (one t) ≡ true → s ≡ one t
eq-one t s fit e = whole_unique binary32 s (one t) t 1 fit (one-fits t) (value-of-one t s e) (one_value t)

negative-one : (t : Bool) → negative (one t) ≡ t
unfolding lt
negative-one true = refl
negative-one false = refl

sign-is-one : (s : Float) → T (fits binary32 s) → bad_sign s ≡ false → s ≡ one (negative s)
unfolding ne
sign-is-one s fit good = split (eq s (one true)) (eq s (one false)) refl refl good
  where
    named : (t : Bool) → s ≡ one t → s ≡ one (negative s)
    named t e = e ∙ ap one (sym (negative-one t)) ∙ ap (λ (x : Float). one (negative x)) (sym e)

    split : (a b : Bool) → eq s (one true) ≡ a → eq s (one false) ≡ b → (not a && not b) ≡ false → s ≡ one (negative s)
    split true b p q g = named true (eq-one true s fit p)
    split false true p q g = named false (eq-one false s fit q)
    split false false p q g = absurd (subst T g tt)

pub signs-are-ones : (signs : List Float) → AllFit signs → ((i : ℕ) → i < length signs → bad_sign (get_or signs i nan) ≡ false) → signs ≡ map one (map negative signs)
signs-are-ones [] fit good = refl
signs-are-ones (s ∷ signs) fit good =
    ap₂ ◌∷◌ (sign-is-one s fit.0 (good 0 (omega arith))) (signs-are-ones signs fit.1 (λ i l. good (suc i) (omega arith)))
