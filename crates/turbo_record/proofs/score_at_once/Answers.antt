-- `turbo_record::score_at_once` meets its contract: of a record that was peeked at and is the setup's, a finite sum is the answer. Assumes nothing.
use mathlib.Core.Path.{sym, ap, ◌∙◌, subst}
use Rattle.std.specs.Prelude.{Float, Option, Ok}
use Rattle.error.specs.Outcomes.{says_unless_withdrawn}
use Rattle.turbo_record.specs.Scoring.{record_score_of}
use Rattle.turbo_record.specs.Inner.{Peeked, Answered}
use Rattle.turbo_record.proofs.Peeked.{summed-answered}
use Rattle.turbo_record.proofs.score_at_once.Goals.{Else-other}
use Rattle.turbo_record.proofs.score_at_once.Goals as goal

-- the record was peeked at, and is the setup's
peeked : (c : goal.Else-other) → let a = c.args in Peeked a.setup a.bytes.now c.in-Ok-Some.header
peeked c =
    record { peeked = sym c.peek_record.ensures ∙ ap says_unless_withdrawn (c.in-Ok-Some.is ∙ ap Ok c.in-Ok-Some.field-0-is); dim = c.if-dim-needed.false; alike = sym c.other_match-other.ensures ∙ c.if-other.false }

pub peeked_score-requires : goal.peeked_score-requires
peeked_score-requires c = peeked (goal.at.peeked_score-requires c).Else-other

pub returns-else-other : goal.returns-else-other
returns-else-other c = let a = c.args in
    subst (λ (r : Option Float). Answered r (record_score_of a.setup a.directions.now a.rotated.now a.projected.now a.bytes.now)) (sym c.finite_sum.ensures)
    (summed-answered a.setup a.directions.now a.rotated.now a.projected.now a.bytes.now (peeked (goal.at.returns-else-other c).Else-other) c.peeked_score.result c.peeked_score.ensures)
