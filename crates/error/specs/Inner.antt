-- Private functions of other crates ensure this. No public promise is stated by it. Assumes nothing.
use Rattle.std.specs.Prelude.{◌≡◌, Bool, true, false}
use Rattle.error.specs.Answer.{Answer, value}

-- The call writes the answer's value or nothing, and answers whether it did.
pub record AtOnce {A : Type 0} (answer : Answer A) (old : A) (wrote : Bool) (new : A) : Type 0 where
  pub made : wrote ≡ true → answer ≡ value new
  pub kept : wrote ≡ false → new ≡ old
