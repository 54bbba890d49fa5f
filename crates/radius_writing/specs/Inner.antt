-- A private function is held to this. No public promise is stated by it. Assumes nothing.
use Rattle.std.specs.Prelude.{Bool, Float}
use Rattle.radius.specs.Linear.{span_of, quantize_radius_of, radius_of}
use Rattle.radius.specs.Radii.{bad_radius}
use Rattle.radius.specs.declared.Range.{Range}

-- The number of such a radius within the range reads as no radius.
abbrev pub bad_kept : Range → Float → Bool
bad_kept range r = bad_radius (radius_of range (quantize_radius_of range.min (span_of range) r))
