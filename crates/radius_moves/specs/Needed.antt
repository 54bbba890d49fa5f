-- The bound is no larger than document 02 says: `Pinned` has what it comes to, and radii on both sides of it. And each line of `Needed` says of a theorem that would
-- say more that it is false: without 2^−23, without max / 2^22, with 140,000 for 65,535, and without the limit of 2^127. Assumes nothing.
use Rattle.std.specs.Prelude.{ℕ, ◌+◌, ◌*◌, ◌^◌, ◌<◌, ◌≡◌, List, T, length, get_or, Float}
use Rattle.std.specs.Float.{nan, binary32}
use Rattle.std.specs.Float.Ieee.{of_bits}
use Rattle.std.specs.Float.Ieee.Scale.{finite}
use Rattle.float.specs.Units.{unit, mag}
use Rattle.radius.specs.Firsts.{read_back}
use Rattle.radius.specs.Radii.{epsilon_float, GoodRadii, range_of}
use Rattle.radius.specs.declared.Range.{Range}
use Rattle.radius.specs.declared.RadiusCodecProfileV1.TheVariants.{BlockLinearU16}
use Rattle.radius_moves.specs.Moves.{SmallRadii, epsilon_units, allowed, MovedBy, Moved}

-- These two are a float, and the range from one float to another, by their patterns.
abbrev pub float : ℕ → Float
float bits = of_bits binary32 bits

abbrev pub between : ℕ → ℕ → Range
between lo hi = record { min = float lo; max = float hi }

pub record Pinned : Type 0 where
  -- This is allowed of zeros, from 0 to 1.0, and from 1.0 to 2.0: 65,535 / 2 units, 2^22 + 65,535 more, and 65,535 more again, each times 2^149.
  pub of_zeros : allowed 0 0 ≡ 65535 * 2 ^ 148
  pub from_zero : allowed unit unit ≡ (2 ^ 23 + 3 * 65535) * 2 ^ 148
  pub from_one : allowed unit (2 * unit) ≡ (2 ^ 23 + 5 * 65535) * 2 ^ 148
  -- 2^−23 is the span that compress divides by at least.
  pub epsilon_same : mag epsilon_float ≡ epsilon_units
  -- Between 0 and 1.0 a radius may move from 0 to 37830080, and not one place further; between 1.0 and 2.0 from 1.0 to 3F800085.
  pub zero_moved : Moved (between 0x0000_0000 0x3F80_0000) (float 0x0000_0000) (float 0x3783_0080)
  pub zero_further : Moved (between 0x0000_0000 0x3F80_0000) (float 0x0000_0000) (float 0x3783_0081) → ⊥
  pub one_moved : Moved (between 0x3F80_0000 0x4000_0000) (float 0x3F80_0000) (float 0x3F80_0085)
  pub one_further : Moved (between 0x3F80_0000 0x4000_0000) (float 0x3F80_0000) (float 0x3F80_0086) → ⊥

-- Of each list of accepted radii below 2^127 every radius moves by its linear form so far that `scale` times its move is at most this bound.
abbrev pub Within : ℕ → (ℕ → ℕ → ℕ) → Type 0
Within scale bound = (radii : List Float) → SmallRadii radii → (i : ℕ) → i < length radii → MovedBy scale bound (range_of radii) (get_or radii i nan) (get_or (read_back BlockLinearU16 radii) i nan)

pub record Needed : Type 0 where
  pub epsilon_needed : Within (65535 * 2 ^ 22) (λ span most. 2 ^ 22 * span + 65535 * most) → ⊥
  pub most_needed : Within (65535 * 2 ^ 22) (λ span most. 2 ^ 22 * span + 65535 * 2 ^ 22 * epsilon_units) → ⊥
  pub steps_needed : Within (140000 * 2 ^ 22) (λ span most. 2 ^ 22 * span + 140000 * most + 140000 * 2 ^ 22 * epsilon_units) → ⊥
  -- Some accepted radius reads as infinite.
  pub limit_needed : ((radii : List Float) → GoodRadii radii → (i : ℕ) → i < length radii → T (finite (get_or (read_back BlockLinearU16 radii) i nan))) → ⊥
