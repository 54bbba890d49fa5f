-- `turbo_opening::hold_against` meets its contract: each return is one case of the answer's laws. Assumes nothing.
use mathlib.Core.Path.{◌≡◌, sym, ap, ◌∙◌}
use Rattle.std.specs.Prelude.{Ok}
use Rattle.error.specs.Outcomes.{says_unless_withdrawn}
use Rattle.error.specs.Answer.{value}
use Rattle.error.proofs.Passed.{passed_on}
use Rattle.packed.specs.Reading.{read_record_of}
use Rattle.turbo_opening.proofs.Answers.{open-refused, open-withdrawn, open-dim, open-match, open-value}
use Rattle.turbo_opening.proofs.hold_against.Goals.{In-Some}
use Rattle.turbo_opening.proofs.hold_against.Goals as goal

-- the record is read
read : (c : goal.In-Some) → read_record_of c.args.bytes.now ≡ value c.in-Some.header
read c = sym c.read_record.ensures ∙ ap says_unless_withdrawn (c.in_ok-header.was ∙ ap Ok c.in-Some.is)

pub returns-then-dim-needed : goal.returns-then-dim-needed
returns-then-dim-needed c = let a = c.args in
    sym (open-dim a.setup a.bytes.now (read (goal.at.returns-then-dim-needed c).In-Some) c.if-dim-needed.true)

pub returns-then-other : goal.returns-then-other
returns-then-other c = let a = c.args in
    sym (open-match a.setup a.bytes.now (read (goal.at.returns-then-other c).In-Some) c.if-dim-needed.false c.other_match-other.ensures c.if-other.true)

pub returns : goal.returns
returns c = let a = c.args in
    sym (open-value a.setup a.bytes.now (read (goal.at.returns c).In-Some) c.if-dim-needed.false c.other_match-other.ensures c.if-other.false)

pub returns-in_err-header : goal.returns-in_err-header
returns-in_err-header c = let a = c.args in
    rw (passed_on c.from_residual.result c.from_residual.ensures.1) (sym (open-refused a.setup a.bytes.now (sym c.in_err-header.ensures)))

pub returns-in_default : goal.returns-in_default
returns-in_default c = let a = c.args in
    sym (open-withdrawn a.setup a.bytes.now (sym c.read_record.ensures ∙ ap says_unless_withdrawn (c.in_ok-header.was ∙ ap Ok c.in_default.is)))
