-- This is the squared distance of a record from a query: the refusals of scoring, and then the distance by the score. Document 01: 'A distance adds its own 12
-- last.' Document 02: 'Distance does likewise', that is, it answers withdrawn where scoring does. Assumes nothing.
use Rattle.std.specs.Prelude.{ℕ, List, Float}
use Rattle.error.specs.Answer.{Answer}
use Rattle.setup.specs.Lent.{Lent}
use Rattle.setup.specs.declared.Setup.{Setup}
use Rattle.packed.specs.Reading.{radii_of}
use Rattle.turbo_distance.specs.Distance.{distance_from_score_of}
use Rattle.turbo_phased.specs.Estimates.{estimate, where_scored}

unfoldable pub l2_distance_estimate_of : Setup → Lent → List Float → List ℕ → Answer Float
l2_distance_estimate_of s l query bytes = where_scored s l query bytes (distance_from_score_of query (radii_of bytes) (estimate s l query bytes))
