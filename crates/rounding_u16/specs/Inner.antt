-- A private function asks this of its caller. No public promise is stated by it. Assumes nothing.
use Rattle.std.specs.Prelude.{◌*◌, ◌≤◌, true, false, Float}
use Rattle.std.specs.Float.{nan, inf, fin}
use Rattle.std.specs.Float.Ieee.{up, down}

-- The float is from 0 to 65535, and its sign is not set.
abbrev pub Small : Float → Type 0
Small nan = ⊥
Small (inf s) = ⊥
Small (fin true m e) = ⊥
Small (fin false m e) = m * up e ≤ 65535 * down e
