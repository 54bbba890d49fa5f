-- The private function that every call of a codebook goes through ensures this. No public promise is stated by it. Assumes nothing.
use Rattle.std.specs.Prelude.{ℕ, [], Float}
use Rattle.error.specs.Answer.{Answer, first, accepted}
use Rattle.codebook.specs.Codebook.{codebook_checks}

-- Every call asks this of its codebook: 1, then 17.
unfoldable pub check_of : ℕ → Float → Float → Answer (Unit {0})
check_of bits lo hi = first (codebook_checks bits lo hi []) accepted
