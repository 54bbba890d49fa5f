-- `packed_values::read_radii` meets its contract: withdrawn, the reader's refusal, or the values by the header that was read. Assumes nothing.
use mathlib.Core.Path.{sym, ap, ◌∙◌}
use Rattle.std.specs.Prelude.{Ok}
use Rattle.error.specs.Outcomes.{says_unless_withdrawn}
use Rattle.error.proofs.Answers.{both-refused, both-withdrawn}
use Rattle.packed_values.proofs.Values.{both-as, radii_at-read, radii_refused, radii-withdrawn}
use Rattle.error.proofs.Clauses.{said_left}
use Rattle.error.proofs.Passed.{passed_on}
use Rattle.packed_values.proofs.read_radii.Goals as goal

pub returns : goal.returns
returns c = said_left (let a = c.args in
    both-as a.out.now (radii_at-read a.bytes.now _ (sym c.read_record.ensures ∙ ap says_unless_withdrawn (c.in_ok-header.was ∙ ap Ok c.in-Some.is))) (c.as_filled.ensures ∙ c.radii_at.ensures.said, c.radii_at.ensures.left))

pub returns-in_err-header : goal.returns-in_err-header
returns-in_err-header c = rw (passed_on c.from_residual.result c.from_residual.ensures.1) (said_left (both-refused _ _ (radii_refused c.args.bytes.now _ (sym c.in_err-header.ensures))))

pub returns-in_default : goal.returns-in_default
returns-in_default c = said_left (both-withdrawn _ _ (radii-withdrawn c.args.bytes.now _ (sym c.read_record.ensures ∙ ap says_unless_withdrawn (c.in_ok-header.was ∙ ap Ok c.in_default.is))))
