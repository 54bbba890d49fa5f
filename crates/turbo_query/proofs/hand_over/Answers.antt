-- `turbo_query::hand_over` meets its contract: where the checks pass, both outputs are as long as what is copied to them. Assumes nothing.
use mathlib.Core.Path.{sym, ap, ◌∙◌}
use Rattle.error.specs.Outcomes.{says}
use Rattle.turbo_query.proofs.Answers.{handed-refused, handed-copied}
use Rattle.error.proofs.Passed.{passed_on}
use Rattle.turbo_query.proofs.hand_over.Goals as goal

pub returns-in_err-check_rooms : goal.returns-in_err-check_rooms
returns-in_err-check_rooms c = rw (passed_on c.from_residual.result c.from_residual.ensures.1) (handed-refused _ _ _ _ _ _ (sym c.in_err-check_rooms.ensures))

pub returns : goal.returns
returns c = handed-copied _ _ _ _ (sym c.check_rooms.ensures ∙ ap says c.in_ok-check_rooms.was) c.copy_into.ensures c.copy_into-2.ensures
