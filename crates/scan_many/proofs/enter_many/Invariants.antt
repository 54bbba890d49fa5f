-- `scan_many::enter_many` meets its contract: each record that enters leaves those behind it. Assumes nothing.
use Rattle.std.proofs.Common.{◌≡◌, [], ◌∷◌, length, drop}
use Rattle.error.specs.Answer.{first, accepted}
use Rattle.turbo_record.specs.Scoring.{record_score_of}
use Rattle.scan.specs.Scans.{scan_of}
use Rattle.scan_many.specs.Many.{records_in, wrong_ends, entered_each}
use Rattle.scan_many.proofs.enter_many.Given as goal

abbrev pub invariant-loop-end : goal.invariant-loop-end
invariant-loop-end l = (first (wrong_ends (length l.bytes) l.start (drop l.end-index l.ends) ∷ []) accepted ≡ accepted)
    × (entered_each (record_score_of l.setup l.directions l.rotated l.projected) (records_in l.bytes 0 l.ends) (scan_of l.initial.next l.initial.numbers l.initial.scores) ≡ entered_each (record_score_of l.setup l.directions l.rotated l.projected) (records_in l.bytes l.start (drop l.end-index l.ends)) (scan_of l.next l.numbers l.scores))
