-- `turbo_record::record_score` meets its contract: behind the scalars the score is the one that is found at once, or the one that is found in turn. Assumes nothing.
use mathlib.Core.Path.{◌≡◌, sym, ap, ◌∙◌, subst}
use Rattle.std.specs.Prelude.{Float, Option}
use Rattle.error.specs.Answer.{first, accepted}
use Rattle.error.specs.Outcomes.{says}
use Rattle.error.proofs.Chains.{first-passed, first-refused}
use Rattle.setup.specs.Checks.{scalar_checks}
use Rattle.turbo_record.specs.Scoring.{record_score_of}
use Rattle.turbo_record.specs.Inner.{Answered}
use Rattle.turbo_record.proofs.record_score.Goals.{In_default}
use Rattle.turbo_record.proofs.record_score.Goals as goal

-- the scalars have passed
usable : (c : goal.In_default) → first (scalar_checks c.args.setup) accepted ≡ accepted
usable c = sym c.check_scalars.ensures ∙ ap says c.in_default.is

pub returns-in-Err : goal.returns-in-Err
returns-in-Err c = sym (first-refused (scalar_checks c.args.setup) _ (sym c.check_scalars.ensures ∙ ap says c.in-Err.is))

pub score_in_turn-requires : goal.score_in_turn-requires
score_in_turn-requires c = usable (goal.at.score_in_turn-requires c).In_default

pub returns-in-Some : goal.returns-in-Some
returns-in-Some c = let a = c.args in
    sym
    (first-passed (scalar_checks a.setup) _ (usable (goal.at.returns-in-Some c).In_default)
    ∙ subst (λ (r : Option Float). Answered r (record_score_of a.setup a.directions.now a.rotated.now a.projected.now a.bytes.now)) c.in-Some.is c.score_at_once.ensures)

pub returns-in-None : goal.returns-in-None
returns-in-None c = c.score_in_turn.ensures ∙ sym (first-passed (scalar_checks c.args.setup) _ (usable (goal.at.returns-in-None c).In_default))
