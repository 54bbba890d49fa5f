-- `scan_many::enter_many` meets its contract: each record that enters leaves those behind it. Assumes nothing.
use Rattle.std.proofs.Common.{◌≡◌, ◌+◌, ◌≤◌, [], ◌∷◌, length, get_or, drop, sym, ◌∙◌}
use Rattle.error.specs.Answer.{first, accepted}
use Rattle.error.proofs.Chains.{first-passed}
use Rattle.setup.specs.Checks.{scalar_checks}
use Rattle.turbo_record.specs.Scoring.{record_score_of}
use Rattle.scan.specs.Scans.{scan_of}
use Rattle.scan_many.specs.Many.{wrong_ends}
use Rattle.scan_many.proofs.Many.{ends-passed, each-done, each_next}
use Rattle.scan_many.proofs.enter_many.Goals.{In-loop-end}
use Rattle.scan_many.proofs.enter_many.Goals as goal

-- the end at hand lies between the start and the bytes' end, and those behind it pass
passed : (c : In-loop-end) → let a = c.args in let l = c.loop-end in
    (l.start ≤ get_or a.ends.now l.end-index 0) × (get_or a.ends.now l.end-index 0 ≤ length a.bytes.now) × (first (wrong_ends (length a.bytes.now) (get_or a.ends.now l.end-index 0) (drop (l.end-index + 1) a.ends.now) ∷ []) accepted ≡ accepted)
passed c = ends-passed _ _ _ _ c.loop-end-test.true c.loop-end.invariant.0

pub slice_bounds-record_score-count : goal.slice_bounds-record_score-count
slice_bounds-record_score-count c = (passed (goal.at.slice_bounds-record_score-count c).In-loop-end).0

pub slice_bounds-record_score-start : goal.slice_bounds-record_score-start
slice_bounds-record_score-start c = (passed (goal.at.slice_bounds-record_score-start c).In-loop-end).0

pub slice_bounds-record_score-end : goal.slice_bounds-record_score-end
slice_bounds-record_score-end c = (passed (goal.at.slice_bounds-record_score-end c).In-loop-end).1

pub loop-end-preserved : goal.loop-end-preserved
loop-end-preserved c = let a = c.args in
    let l = c.loop-end in
    let scored = c.record_score-scored.ensures ∙ first-passed (scalar_checks a.setup) _ c.requires.0 in (
      (passed (goal.at.loop-end-preserved c).In-loop-end).2,
      l.invariant.1 ∙ each_next (record_score_of a.setup a.directions.now a.rotated.now a.projected.now) a.bytes.now l.start (scan_of l.next l.numbers l.scores) a.ends.now l.end-index c.loop-end-test.true c.enter-next.ensures scored,
    )

pub returns : goal.returns
returns c = let a = c.args in
    let l = c.loop-end in
    sym (l.invariant.1 ∙ each-done (record_score_of a.setup a.directions.now a.rotated.now a.projected.now) a.bytes.now l.start (scan_of l.next l.numbers l.scores) a.ends.now l.end-index c.loop-end-test.false)
