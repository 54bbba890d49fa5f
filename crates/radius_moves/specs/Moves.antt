-- This is how far a radius moves by its linear form. Document 02, k): 'For every list of accepted radii below 2^127, show that each radius read from its linear
-- form lies within (max − min) / 65,535 + max / 2^22 + 2^−23 of the original, as exact numbers. It holds for equal radii, for one radius and for spans below
-- 2^−23.' Floats are counted in units of 2^−149 (`mag`, `val`), and the inequality is multiplied by 65,535 × 2^22, so that all numbers in it are whole.
-- Assumes nothing.
use Rattle.std.specs.Prelude.{ℕ, ◌-◌, ◌+◌, ◌*◌, ◌^◌, ◌≤◌, ◌<◌, ◌≡◌, List, T, length, get_or, Float}
use Rattle.std.specs.Float.{nan}
use Rattle.std.specs.Float.Ieee.Scale.{finite}
use Rattle.error.specs.Answer.{value}
use Rattle.float.specs.Units.{unit, mag}
use Rattle.rounding.specs.Signed.{Near, ◌⊙◌}
use Rattle.rounding.specs.Value.{val}
use Rattle.radius.specs.Codec.{compress_range_of, compress_bytes_of, decompress_of, payload_for}
use Rattle.radius.specs.Firsts.{read_back}
use Rattle.radius.specs.Radii.{GoodRadii, range_of}
use Rattle.radius.specs.declared.Range.{Range}
use Rattle.radius.specs.declared.RadiusCodecProfileV1.TheVariants.{BlockLinearU16}

-- 'below 2^127': the size of each radius is below that of 2^127, in units. A NaN and an infinity have size 0; `GoodRadii` or the writer rules them out.
abbrev pub BelowLimit : List Float → Type 0
BelowLimit radii = (i : ℕ) → i < length radii → mag (get_or radii i nan) < 2 ^ 127 * unit

-- 'accepted radii below 2^127'. Accepted are f32 that are finite and not below zero; −0.0 is one.
pub record SmallRadii (radii : List Float) : Type 0 where
  pub good : GoodRadii radii
  pub below : BelowLimit radii

-- '65,535': so many steps lie between min and max.
abbrev pub linear_steps : ℕ
linear_steps = 65535

-- The inequality is multiplied by this: 65,535 × 2^22.
abbrev pub moved_scale : ℕ
moved_scale = linear_steps * 2 ^ 22

-- '2^−23', in units.
unfoldable pub epsilon_units : ℕ
epsilon_units = 2 ^ 126

-- '(max − min) / 65,535 + max / 2^22 + 2^−23', so multiplied.
abbrev pub allowed : ℕ → ℕ → ℕ
allowed span most = 2 ^ 22 * span + linear_steps * most + moved_scale * epsilon_units

-- How far v lies from r, times `scale`, is at most a bound that goes by the range: by max − min, and by max.
abbrev pub MovedBy : ℕ → (ℕ → ℕ → ℕ) → Range → Float → Float → Type 0
MovedBy scale bound range r v = Near (scale ⊙ val v) (scale ⊙ val r) (bound (mag range.max - mag range.min) (mag range.max))

-- The radius v, read where r was written under this range, is a number and lies so near to r.
pub record Moved (range : Range) (r v : Float) : Type 0 where
  pub number : T (finite v)
  pub near : MovedBy moved_scale allowed range r v

-- The radius lies within the range, as exact numbers, so that max − min is not cut off at 0. That min and max are radii of the list is `range_of`'s definition.
pub record InRange (range : Range) (r : Float) : Type 0 where
  pub above_min : mag range.min ≤ mag r
  pub below_max : mag r ≤ mag range.max

-- Radii go through their linear form: compress answers a range, and bytes in an output of just their length; to these decompress answers radii, each of which lies
-- so near to what it was.
pub record ThroughLinear (radii : List Float) : Type 0 where
  pub range_made : compress_range_of radii BlockLinearU16 (2 * length radii) ≡ value (range_of radii)
  pub bytes_made : compress_bytes_of radii BlockLinearU16 (2 * length radii) ≡ value (payload_for BlockLinearU16 radii)
  pub read_made : decompress_of BlockLinearU16 (length radii) (range_of radii) (payload_for BlockLinearU16 radii) (length radii) ≡ value (read_back BlockLinearU16 radii)
  pub inside : (i : ℕ) → i < length radii → InRange (range_of radii) (get_or radii i nan)
  pub moved : (i : ℕ) → i < length radii → Moved (range_of radii) (get_or radii i nan) (get_or (read_back BlockLinearU16 radii) i nan)

-- The theorem: it asks nothing else of the radii.
abbrev pub HowFar : Type 0
HowFar = (radii : List Float) → SmallRadii radii → ThroughLinear radii
