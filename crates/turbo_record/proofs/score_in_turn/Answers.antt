-- `turbo_record::score_in_turn` meets its contract: the record is opened, its score is formed and judged. Assumes nothing.
use mathlib.Core.Path.{◌≡◌, sym, ap, ◌∙◌}
use Rattle.std.specs.Prelude.{Ok}
use Rattle.error.specs.Outcomes.{says_unless_withdrawn}
use Rattle.error.specs.Answer.{value}
use Rattle.turbo_opening.specs.Inner.{opened_of}
use Rattle.turbo_opening.proofs.Answers.{open-usable}
use Rattle.turbo_record.proofs.Scoring.{record-refused, record-withdrawn, record-finite, record-infinite}
use Rattle.turbo_record.proofs.score_in_turn.Goals.{In-Ok-Some}
use Rattle.turbo_record.proofs.score_in_turn.Goals as goal

-- the record is opened
opened : (c : goal.In-Ok-Some) → opened_of c.args.setup c.args.bytes.now ≡ value c.in-Ok-Some.header
opened c =
    sym (open-usable c.args.setup c.args.bytes.now c.requires) ∙ sym c.open_record.ensures ∙ ap says_unless_withdrawn (c.in-Ok-Some.is ∙ ap Ok c.in-Ok-Some.field-0-is)

pub opened_score-score-requires : goal.opened_score-score-requires
opened_score-score-requires c = opened (goal.at.opened_score-score-requires c).In-Ok-Some

pub returns-then-is_finite : goal.returns-then-is_finite
returns-then-is_finite c = let a = c.args in
    sym (record-finite a.setup a.directions.now a.rotated.now a.projected.now a.bytes.now (opened (goal.at.returns-then-is_finite c).In-Ok-Some) _ c.opened_score-score.ensures (sym c.is_finite.ensures ∙ c.if-is_finite.true))

pub returns-else-is_finite : goal.returns-else-is_finite
returns-else-is_finite c = let a = c.args in
    sym (record-infinite a.setup a.directions.now a.rotated.now a.projected.now a.bytes.now (opened (goal.at.returns-else-is_finite c).In-Ok-Some) _ c.opened_score-score.ensures (sym c.is_finite.ensures ∙ c.if-is_finite.false))

pub returns-in-Err : goal.returns-in-Err
returns-in-Err c = let a = c.args in
    sym (record-refused a.setup a.directions.now a.rotated.now a.projected.now a.bytes.now (sym (open-usable a.setup a.bytes.now c.requires) ∙ sym c.open_record.ensures ∙ ap says_unless_withdrawn c.in-Err.is))

pub returns-in-Ok-None : goal.returns-in-Ok-None
returns-in-Ok-None c = let a = c.args in
    sym (record-withdrawn a.setup a.directions.now a.rotated.now a.projected.now a.bytes.now (sym (open-usable a.setup a.bytes.now c.requires) ∙ sym c.open_record.ensures ∙ ap says_unless_withdrawn (c.in-Ok-None.is ∙ ap Ok c.in-Ok-None.field-0-is)))
