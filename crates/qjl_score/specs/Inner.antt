-- A private function of this crate ensures this. No public promise is stated by it. Assumes nothing.
use Rattle.std.specs.Prelude.{◌≡◌, Float}
use Rattle.error.specs.Answer.{Answer, value}

-- The call says the answer's value, or no value.
pub record ScoreAtOnce (answer said : Answer Float) : Type 0 where
  pub made : {score : Float} → said ≡ value score → answer ≡ value score
