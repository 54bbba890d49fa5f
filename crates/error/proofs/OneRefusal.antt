-- Two refusals of one number and one place are the same: `Other` holds no number that has a case of its own. That there is one is what `Refusal::new` ensures. Assumes
-- nothing.
use Rattle.std.specs.Prelude.{ℕ, true, false, cond, eqb}
use mathlib.Core.Path.{◌≡◌, refl, sym, ap, ap₂, ◌∙◌}
use mathlib.Core.Bool.{true≢false, Bool-set}
use mathlib.Core.HLevel.{is_prop→PathP}
use Rattle.error.specs.Listed.{listed}
use Rattle.error.specs.Refusals.{number_of, place_of}
use Rattle.error.specs.declared.Refusal.{Refusal}
use Rattle.error.specs.declared.Refusal.TheVariants as refusal
use Rattle.error.specs.declared.unlisted.Unlisted.{Unlisted}

-- the case of a number that has one; any other gives that of 26, and is not asked for
case_of : ℕ → ℕ → Refusal
case_of n p =
    cond (eqb n 1) (refusal.InvalidBitWidth p)
    (cond (eqb n 2) (refusal.ZeroDimension p)
    (cond (eqb n 3) (refusal.OddDimension p)
    (cond (eqb n 4) (refusal.RotationFailed p)
    (cond (eqb n 5) (refusal.DimensionMismatch p)
    (cond (eqb n 6) (refusal.OutputLength p)
    (cond (eqb n 7) (refusal.InvalidDirection p)
    (cond (eqb n 8) (refusal.ZeroProjectionCount p)
    (cond (eqb n 9) (refusal.NonFiniteMatrix p)
    (cond (eqb n 10) (refusal.MalformedSign p)
    (cond (eqb n 11) (refusal.NonFiniteInput p)
    (cond (eqb n 12) (refusal.NonFiniteScore p)
    (cond (eqb n 13) (refusal.MalformedLength p)
    (cond (eqb n 14) (refusal.MalformedPadding p)
    (cond (eqb n 15) (refusal.MalformedIndex p)
    (cond (eqb n 16) (refusal.MalformedRadius p)
    (cond (eqb n 17) (refusal.MalformedRange p)
    (cond (eqb n 18) (refusal.UndefinedProfile p)
    (cond (eqb n 19) (refusal.LengthOverflow p)
    (cond (eqb n 20) (refusal.ProfileMismatch p)
    (cond (eqb n 21) (refusal.ScanLength p)
    (cond (eqb n 22) (refusal.ScanFull p)
    (cond (eqb n 23) (refusal.MalformedNorm p)
    (cond (eqb n 25) (refusal.ScanNotShorter p) (refusal.StoredDimension p))))))))))))))))))))))))

data Kind (r : Refusal) : Type 0 where
  named : listed (number_of r) ≡ true → case_of (number_of r) (place_of r) ≡ r → Kind r
  other : (u : Unlisted) → r ≡ refusal.Other u (place_of r) → Kind r

kind : (r : Refusal) → Kind r
unfolding case_of
kind (refusal.InvalidBitWidth p) = named refl refl
kind (refusal.ZeroDimension p) = named refl refl
kind (refusal.OddDimension p) = named refl refl
kind (refusal.RotationFailed p) = named refl refl
kind (refusal.DimensionMismatch p) = named refl refl
kind (refusal.OutputLength p) = named refl refl
kind (refusal.InvalidDirection p) = named refl refl
kind (refusal.ZeroProjectionCount p) = named refl refl
kind (refusal.NonFiniteMatrix p) = named refl refl
kind (refusal.MalformedSign p) = named refl refl
kind (refusal.NonFiniteInput p) = named refl refl
kind (refusal.NonFiniteScore p) = named refl refl
kind (refusal.MalformedLength p) = named refl refl
kind (refusal.MalformedPadding p) = named refl refl
kind (refusal.MalformedIndex p) = named refl refl
kind (refusal.MalformedRadius p) = named refl refl
kind (refusal.MalformedRange p) = named refl refl
kind (refusal.UndefinedProfile p) = named refl refl
kind (refusal.LengthOverflow p) = named refl refl
kind (refusal.ProfileMismatch p) = named refl refl
kind (refusal.ScanLength p) = named refl refl
kind (refusal.ScanFull p) = named refl refl
kind (refusal.MalformedNorm p) = named refl refl
kind (refusal.ScanNotShorter p) = named refl refl
kind (refusal.StoredDimension p) = named refl refl
kind (refusal.Other u p) = other u refl

-- such a number holds nothing else
same-unlisted : (u v : Unlisted) → u.number ≡ v.number → u ≡ v
same-unlisted u v n = λ i. record { number = n i; has_no_case = is_prop→PathP (λ j. listed (n j) ≡ false) (λ j. Bool-set (listed (n j)) false) u.has_no_case v.has_no_case i }

apart : (r : Refusal) (u : Unlisted) → listed (number_of r) ≡ true → number_of r ≡ u.number → ⊥
apart r u l n = true≢false (sym l ∙ ap listed n ∙ u.has_no_case)

-- of two refusals of one number and one place each is the other
pub one-refusal : (r s : Refusal) → number_of r ≡ number_of s → place_of r ≡ place_of s → r ≡ s
one-refusal r s n p = go (kind r) (kind s)
  where
    go : Kind r → Kind s → r ≡ s
    go (named l e) (named m f) = sym e ∙ ap₂ case_of n p ∙ f
    go (named l e) (other v f) = absurd (apart r v l (n ∙ ap number_of f))
    go (other u e) (named m f) = absurd (apart s u m (sym n ∙ ap number_of e))
    go (other u e) (other v f) = e ∙ ap₂ refusal.Other (same-unlisted u v (ap number_of (sym e) ∙ n ∙ ap number_of f)) p ∙ sym f
