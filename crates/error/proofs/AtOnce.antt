-- An answer that is written at once or not at all. Assumes nothing.
use mathlib.Core.Path.{◌≡◌}
use mathlib.Core.Bool.{true, false, true≢false, false≢true}
use Rattle.error.specs.Answer.{Answer, value}
use Rattle.error.specs.Inner.{AtOnce}

pub at_once-left : {A : Type 0} (answer : Answer A) (old new : A) → new ≡ old → AtOnce answer old false new
at_once-left answer old new h = record { made = λ e. absurd (false≢true e); kept = λ e. h }

pub at_once-made : {A : Type 0} (answer : Answer A) (old new : A) → answer ≡ value new → AtOnce answer old true new
at_once-made answer old new h = record { made = λ e. h; kept = λ e. absurd (true≢false e) }
