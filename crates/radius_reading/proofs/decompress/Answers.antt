-- `radius_reading::decompress` meets its contract: the refusal of its checks, or what restore answers. Assumes nothing.
use mathlib.Core.Path.{sym, ap, ◌∙◌}
use lib.ListN.{length}
use Rattle.error.specs.Outcomes.{says}
use Rattle.error.proofs.Answers.{both-refused}
use Rattle.radius_reading.proofs.Checks.{content-refused, content-restore}
use Rattle.error.proofs.Clauses.{said_left}
use Rattle.error.proofs.Passed.{passed_on}
use Rattle.radius_reading.proofs.decompress.Goals as goal

pub returns-in_err-check_content : goal.returns-in_err-check_content
returns-in_err-check_content c = rw (passed_on c.from_residual.result c.from_residual.ensures.1) (said_left (both-refused _ _ (content-refused _ _ _ _ _ (sym c.in_err-check_content.ensures))))

pub returns : goal.returns
returns c = said_left (let a = c.args in
    rw (content-restore a.profile a.count a.range a.payload.now (length a.out.now) (sym c.check_content.ensures ∙ ap says c.in_ok-check_content.was)) (c.restore.ensures.said, c.restore.ensures.left))
