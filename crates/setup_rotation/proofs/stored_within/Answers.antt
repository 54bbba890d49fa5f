-- `setup_rotation::stored_within` meets its contract: as many values as the array has room for have room, and the part that the call wrote is copied
-- back. Assumes nothing.
use mathlib.Core.Path.{sym, ap, ◌∙◌}
use native.Mathlib.Omega.{arith}
use Rattle.lists.proofs.Parts.{part-long}
use Rattle.error.specs.Outcomes.{says}
use Rattle.error.proofs.Answers.{both-refused}
use Rattle.error.proofs.Clauses.{said_left}
use Rattle.error.proofs.Passed.{passed_on}
use Rattle.setup_rotation.proofs.Within.{within-refused, within-copied}
use Rattle.setup_rotation.proofs.stored_within.Goals as goal

pub returns-in_err-apply_inverse : goal.returns-in_err-apply_inverse
returns-in_err-apply_inverse c = rw (passed_on c.from_residual.result c.from_residual.ensures.1) (said_left (both-refused _ _ (within-refused _ _ _ _ (λ few. part-long _ _ (omega (arith, c.room_for-room.ensures.small)) ∙ c.room_for-room.ensures.whole few) (sym (ap says c.in_err-apply_inverse.was) ∙ c.apply_inverse.ensures.said))))

pub returns : goal.returns
returns c = said_left (within-copied _ _ _ _ (λ few. part-long _ _ (omega (arith, c.room_for-room.ensures.small)) ∙ c.room_for-room.ensures.whole few) (sym (ap says c.in_ok-apply_inverse.was) ∙ c.apply_inverse.ensures.said) _ _ _ c.apply_inverse.auto.output c.apply_inverse.ensures.left c.copy_into.ensures)
