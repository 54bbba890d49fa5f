-- The two bytes of a linear radius: how many they are, and that its number comes back from them; each radius of a list that is read back. Assumes nothing.
use Prim.Native.Nat.{ℕ, ◌^◌, ◌<◌}
use mathlib.Core.Path.{◌≡◌, ap, ◌∙◌}
use mathlib.Core.List.{List}
use native.Mathlib.Nat.{mod-eq_of_lt}
use native.Mathlib.Omega.{arith}
use lib.ListN.{length, get_or}
use lib.Ieee.{Float, nan}
use Rattle.lists.proofs.Chunks.{chunks-joined, map_at}
use Rattle.digits.proofs.Laws.{length_digits, number_digits}
use Rattle.float.proofs.Round.{round_unsigned-lt}
use Rattle.radius.specs.Linear.{span_of, quantize_radius_of, linear_bytes, radius_of, linear_radius}
use Rattle.radius.specs.Radii.{range_of}
use Rattle.radius.specs.Firsts.{read_back}
use Rattle.radius.specs.declared.Range.{Range}
use Rattle.radius.specs.declared.RadiusCodecProfileV1.TheVariants.{BlockLinearU16}

pub length-linear_bytes : (range : Range) (r : Float) → length (linear_bytes range r) ≡ 2
unfolding linear_bytes
length-linear_bytes range r = length_digits 256 2 (quantize_radius_of range.min (span_of range) r)

-- the number of a radius takes two bytes
pub quantize_radius_of-small : (lo span r : Float) → quantize_radius_of lo span r < 256 ^ 2
unfolding quantize_radius_of
quantize_radius_of-small lo span r = round_unsigned-lt 16 _

-- the radius that a number stands for needs no bytes between
pub linear-kept : (range : Range) (r : Float) → linear_radius range (linear_bytes range r) ≡ radius_of range (quantize_radius_of range.min (span_of range) r)
unfolding linear_radius linear_bytes
linear-kept range r =
    let n = quantize_radius_of range.min (span_of range) r in
    ap (radius_of range) (number_digits 256 2 n (omega arith) ∙ mod-eq_of_lt (quantize_radius_of-small range.min (span_of range) r))

-- ---- a list read back

pub linear-back : (radii : List Float) (i : ℕ) → i < length radii → let range = range_of radii in get_or (read_back BlockLinearU16 radii) i nan ≡ linear_radius range (linear_bytes range (get_or radii i nan))
unfolding read_back
linear-back radii i h =
    let range = range_of radii in
    ap (λ (l : List Float). get_or l i nan) (chunks-joined (linear_bytes range) 2 (length-linear_bytes range) (linear_radius range) radii) ∙ map_at (λ r. linear_radius range (linear_bytes range r)) radii i nan nan h
