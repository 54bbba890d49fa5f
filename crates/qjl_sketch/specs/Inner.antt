-- Private functions of this crate ensure this. No public promise is stated by it. Assumes nothing.
use Rattle.std.specs.Prelude.{◌≡◌, Bool, true, false, List, map, ltb, ℤ, length, Float}
use Rattle.error.specs.Answer.{place}
use Rattle.error.specs.Checks.{bad_value}
use Rattle.qjl.specs.Sketch.{sign_of_sum}

-- The call writes the signs of all values and answers whether it did; where they are judged, it does so only if all of them are finite.
pub record JudgedSigns (judged : Bool) (values : List Float) (old : List ℤ) (wrote : Bool) (new : List ℤ) : Type 0 where
  pub whole : judged ≡ false → wrote ≡ true
  pub clean : judged ≡ true → wrote ≡ true → ltb (place bad_value values) (length values) ≡ false
  pub signs : wrote ≡ true → new ≡ map sign_of_sum values
  pub kept : wrote ≡ false → new ≡ old
