-- A finite f32 is counted in units of 2 ^ -149, the smallest positive f32. Document 01: 'Every finite f32 is a whole multiple of 2^−149'. Assumes nothing.
use Rattle.std.specs.Prelude.{ℕ, ◌*◌, ◌/◌, ◌^◌, Bool, false, not, Float}
use Rattle.std.specs.Float.{nan, inf, fin}
use Rattle.std.specs.Float.Ieee.{up, down}

-- The float is finite and its sign is not set: of the two zeros only +0.0 counts.
abbrev pub non_negative : Float → Bool
non_negative nan = false
non_negative (inf s) = false
non_negative (fin s m e) = not s

-- This many units make 1.0.
unfoldable pub unit : ℕ
unit = 2 ^ 149

-- This is the size of x in units, and 0 for a NaN and an infinity. The division leaves nothing over where x fits binary32.
unfoldable pub mag : Float → ℕ
mag nan = 0
mag (inf s) = 0
mag (fin s m e) = m * up e * unit / down e
