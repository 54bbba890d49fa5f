-- A private function of this crate ensures this. No public promise is stated by it. Assumes nothing.
use Rattle.std.specs.Prelude.{ℕ, cond, eqb}
use Rattle.scan.specs.declared.Scan.{Scan}

-- So many hits are written into so much room.
unfoldable pub written_of : Scan → ℕ → ℕ
written_of scan room = cond (eqb room scan.tally.kept) room 0
