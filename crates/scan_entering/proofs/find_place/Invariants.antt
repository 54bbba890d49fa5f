-- `scan_entering::find_place` meets its contract: each round makes one comparison, and a round that goes on leaves the place as it is, and the comparisons made with those
-- to come. Assumes nothing.
use Rattle.std.proofs.Common.{◌≡◌, ◌+◌}
use Rattle.scan.specs.Entering.{place_up, compared_up}
use Rattle.scan_entering.proofs.find_place.Given as goal

abbrev pub invariant-loop-i : goal.invariant-loop-i
invariant-loop-i l = (l.compared + l.i ≡ l.held) × (place_up l.score l.scores l.held ≡ place_up l.score l.scores l.i) × (compared_up l.score l.scores l.held ≡ l.compared + compared_up l.score l.scores l.i)
