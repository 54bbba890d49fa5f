-- The test for a NaN: only a NaN differs from itself, and there is one NaN. Assumes nothing.
use Rattle.std.proofs.Common.{◌≡◌, Bool, true, false, T, sym, refl, ap, ◌∙◌, subst, true≢false}
use mathlib.Core.Bool.{false≢true}
use lib.Ieee.{Float, nan, inf, fin, is_nan, ne}
use lib.Ieee.Compare.{differs_from_itself, nan_differs}

pub nan-only : (x : Float) → is_nan x ≡ true → x ≡ nan
unfolding is_nan
nan-only nan h = refl
nan-only (inf s) h = absurd (false≢true h)
nan-only (fin s m e) h = absurd (false≢true h)

-- what the test finds is whether it is a NaN
by-test : (x : Float) (b : Bool) → ne x x ≡ b → b ≡ is_nan x
unfolding is_nan
by-test nan true h = refl
by-test nan false h = absurd (true≢false (sym nan_differs ∙ h))
by-test (inf s) true h = ap is_nan (sym (differs_from_itself (inf s) (subst T (sym h) tt)))
by-test (inf s) false h = refl
by-test (fin s m e) true h = ap is_nan (sym (differs_from_itself (fin s m e) (subst T (sym h) tt)))
by-test (fin s m e) false h = refl

pub differs-nan : (x : Float) → ne x x ≡ is_nan x
differs-nan x = by-test x (ne x x) refl
