-- Computed: the sign of a sum, of zero, of minus zero and of a NaN; and where a wrong norm stands among the refusals of a sketch score. Assumes nothing.
use mathlib.Core.Path.{◌≡◌, refl}
use mathlib.Core.Bool.{true, false}
use mathlib.Core.List.{[], ◌∷◌}
use lib.IntN.{pos, negsuc}
use lib.Ieee.{nan, fin, le, lt, eq}
use Rattle.float.specs.Constants.{pos_zero, one}
use Rattle.error.specs.Answer.{value, refused, place}
use Rattle.error.specs.Checks.{bad_value}
use Rattle.setup.specs.declared.TurboMode.TheVariants.{PolarOnly}
use Rattle.qjl.specs.Sketch.{sign_of_sum}
use Rattle.qjl.specs.Score.{signed_score, mode_score}

-- 'a row's sum at or above zero gives +1; below, or NaN, −1': both zeros are at zero
pub sign-of-zero : sign_of_sum pos_zero ≡ pos 1
unfolding sign_of_sum le lt eq
sign-of-zero = refl

pub sign-of-minus-zero : sign_of_sum (fin true 0 (pos 0)) ≡ pos 1
unfolding sign_of_sum le lt eq
sign-of-minus-zero = refl

pub sign-of-nan : sign_of_sum nan ≡ negsuc 0
unfolding sign_of_sum le lt eq
sign-of-nan = refl

-- 'in a sketch score after 10': a sign of 0 beside a norm that is NaN, and that norm alone, whose residual would be 12
pub sign-before-norm : signed_score 1 (one false ∷ []) (pos 0 ∷ []) nan ≡ refused 10 0
unfolding signed_score place bad_value
sign-before-norm = refl

pub norm-before-score : signed_score 1 (one false ∷ []) (pos 1 ∷ []) nan ≡ refused 23 0
unfolding signed_score place bad_value
norm-before-score = refl

-- in `PolarOnly` the norm -1.0 is refused too, after a sign too many; -0.0 is not below zero
pub length-before-norm : mode_score PolarOnly 2 0 [] [] (pos 1 ∷ []) (one true) ≡ refused 5 1
unfolding mode_score
length-before-norm = refl

pub polar-norm-refused : mode_score PolarOnly 2 0 [] [] [] (one true) ≡ refused 23 0
unfolding mode_score lt
polar-norm-refused = refl

pub minus-zero-norm : mode_score PolarOnly 2 0 [] [] [] (fin true 0 (pos 0)) ≡ value pos_zero
unfolding mode_score lt
minus-zero-norm = refl
