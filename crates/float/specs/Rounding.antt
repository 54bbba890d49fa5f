-- Every float has an unsigned integer of w bits: NaN and what is below zero give 0, and what is too large gives 2 ^ w - 1. A float can also be brought within
-- bounds. Document 01: '`floor`, `round`, `clamp`, `sqrt` are worked out'. Assumes nothing.
use Rattle.std.specs.Prelude.{ℕ, ◌+◌, ◌-◌, ◌*◌, ◌/◌, ◌^◌, min, cond, Float}
use Rattle.std.specs.Float.{nan, inf, fin}
use Rattle.std.specs.Float.Ieee.{up, down, lt, to_unsigned}

-- This is Rust's `x.floor() as uW`. Floor and truncation differ only below zero, where both end at 0, so it is `x as uW`, which truncates.
abbrev pub floor_unsigned : ℕ → Float → ℕ
floor_unsigned w x = to_unsigned w x

-- This is Rust's `x.round() as uW`, 'rounded half away from zero' (document 01). m * up e / down e is the magnitude, and a half is added before it is cut.
unfoldable pub round_unsigned : ℕ → Float → ℕ
round_unsigned w nan = 0
round_unsigned w (inf s) = cond s 0 (2 ^ w - 1)
round_unsigned w (fin s m e) = cond s 0 (min ((2 * (m * up e) + down e) / (2 * down e)) (2 ^ w - 1))

-- This is Rust's `f32::clamp`: what is below lo is lo, and then what is above hi is hi.
unfoldable pub clamped : Float → Float → Float → Float
clamped lo hi x = let y = cond (lt x lo) lo x in cond (lt hi y) hi y
