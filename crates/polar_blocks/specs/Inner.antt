-- Private functions are held to these. No public promise is stated by these. Assumes nothing.
use Rattle.std.specs.Prelude.{ℕ, ◌+◌, ◌-◌, ◌*◌, ◌/◌, ◌%◌, ◌^◌, ◌≤◌, ◌<◌, ◌≡◌, Bool, true, false, not, cond, List, map, length, take, drop, Float, None, Option, Some}
use Rattle.std.specs.Float.{binary32}
use Rattle.std.specs.Float.Ieee.{of_bits, lt, add, mul}
use Rattle.error.specs.Answer.{clear}
use Rattle.float.specs.Constants.{pos_zero}
use Rattle.rounding.specs.Butterfly.{from}
use Rattle.rounding.specs.Sums.{running}
use Rattle.digits.specs.Digits.{number}
use Rattle.radius.specs.Radii.{bad_radius}
use Rattle.radius.specs.Codec.{bad_profile, width_of, radii_for}
use Rattle.radius.specs.declared.Range.{Range}
use Rattle.radius.specs.declared.RadiusCodecProfileV1.{RadiusCodecProfileV1}
use Rattle.polar.specs.Polar.{value_at}
use Rattle.polar_blocks.specs.Payload.{fits_payload}

-- ---- a radius is refused where one of these two tests says so
abbrev pub below_zero : Float → Bool
below_zero x = lt x pos_zero

abbrev pub not_below_infinity : Float → Bool
not_below_infinity x = not (lt x (of_bits binary32 0x7F80_0000))

-- ---- a pair
-- This is the index of pair i in packed bytes.
abbrev pub index_at : ℕ → List ℕ → ℕ → ℕ
index_at bits bytes i = number 256 bytes / 2 ^ (i * bits) % 2 ^ bits

-- A word begins with the index of pair i, and those of the next two pairs follow; where i is a multiple of four, so does that of the third.
pub record Four (bits : ℕ) (bytes : List ℕ) (i word : ℕ) : Type 0 where
  pub first : word % 2 ^ bits ≡ index_at bits bytes i
  pub second : word / 2 ^ bits % 2 ^ bits ≡ index_at bits bytes (i + 1)
  pub third : word / 2 ^ bits / 2 ^ bits % 2 ^ bits ≡ index_at bits bytes (i + 2)
  pub fourth : i % 4 ≡ 0 → word / 2 ^ bits / 2 ^ bits / 2 ^ bits % 2 ^ bits ≡ index_at bits bytes (i + 3)

-- This is r × (qa × c + qb × s) of pair i, with the direction of index d.
unfoldable pub pair_term : List Float → List Float → Float → ℕ → ℕ → Float
pair_term directions rotated r i d =
    mul binary32 r
    (add binary32
    (mul binary32 (value_at rotated (2 * i)) (value_at directions (2 * d)))
    (mul binary32 (value_at rotated (2 * i + 1)) (value_at directions (2 * d + 1))))

-- ---- a block of pairs, of which pair `start` is the first
abbrev pub block_term : List Float → List Float → List Float → List ℕ → ℕ → ℕ → ℕ → Float
block_term directions rotated block indices bits start j = pair_term directions rotated (value_at block j) (start + j) (index_at bits indices (start + j))

-- This is the sum so far with the terms of the block from its pair i on.
abbrev pub block_sum_from : List Float → List Float → List Float → List ℕ → ℕ → ℕ → ℕ → Float → Float
block_sum_from directions rotated block indices bits start i sum =
    running sum (map (λ j. block_term directions rotated block indices bits start j) (from i (length block - i)))

-- Whatever the block's pair i names is there.
pub record Termed (directions rotated block : List Float) (bits start i : ℕ) : Type 0 where
  pub within : i < length block
  pub narrow : bits ≤ 16
  pub query : 2 * (start + i) + 1 < length rotated
  pub table : 2 * 2 ^ bits ≤ length directions

-- Whatever the block's pairs name is there, and the block begins at a multiple of four.
pub record Blocked (directions rotated block : List Float) (indices : List ℕ) (bits start : ℕ) : Type 0 where
  pub aligned : start % 4 ≡ 0
  pub narrow : bits ≤ 16
  pub few : start + length block ≤ 2048
  pub enough : (start + length block) * bits ≤ 8 * length indices
  pub query : 2 * (start + length block) ≤ length rotated
  pub table : 2 * 2 ^ bits ≤ length directions

-- ---- payloads
-- These are the radii of `count` pairs from pair `at` on.
abbrev pub part_radii : RadiusCodecProfileV1 → Range → List ℕ → ℕ → ℕ → List Float
part_radii profile range radii at count = radii_for profile count range (take (width_of profile * count) (drop (width_of profile * at) radii))

-- This is the sum so far with the terms of these pairs, where none of their radii is refused.
abbrev pub added_block : List Float → List Float → RadiusCodecProfileV1 → Range → List ℕ → List ℕ → ℕ → ℕ → ℕ → Float → Option Float
added_block directions rotated profile range radii indices bits at count sum =
    let block = part_radii profile range radii at count in
    cond (clear bad_radius block) (Some (block_sum_from directions rotated block indices bits at 0 sum)) None

-- The block's radii are there, they have room, and so is whatever its pairs name; it begins at a multiple of four.
pub record Addable (directions rotated : List Float) (profile : RadiusCodecProfileV1) (radii indices : List ℕ) (bits at count : ℕ) : Type 0 where
  pub known : bad_profile profile ≡ false
  pub aligned : at % 4 ≡ 0
  pub small : count ≤ 64
  pub sized : width_of profile * (at + count) ≤ length radii
  pub narrow : bits ≤ 16
  pub few : at + count ≤ 2048
  pub enough : (at + count) * bits ≤ 8 * length indices
  pub query : 2 * (at + count) ≤ length rotated
  pub table : 2 * 2 ^ bits ≤ length directions

-- Everything that a payload's sum asks for is there.
pub record Summable (directions rotated : List Float) (profile : RadiusCodecProfileV1) (radii indices : List ℕ) (bits pairs : ℕ) : Type 0 where
  pub fits : fits_payload profile radii indices bits pairs ≡ true
  pub query : pairs ≤ length rotated / 2
  pub table : 2 ^ bits ≤ length directions / 2

-- There are two floats for each of the pairs, and the bytes hold their indices.
pub record Spreadable (indices : List ℕ) (bits pairs room : ℕ) : Type 0 where
  pub double : room ≡ 2 * pairs
  pub few : pairs ≤ 2048
  pub narrow : bits ≤ 16
  pub enough : pairs * bits ≤ 8 * length indices
