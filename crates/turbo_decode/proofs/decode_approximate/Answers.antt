-- `turbo_decode::decode_approximate` meets its contract: each return is one case of the answer's laws. Assumes nothing.
use mathlib.Core.Path.{◌≡◌, sym, ap, ◌∙◌}
use lib.ListN.{length}
use Rattle.std.specs.Prelude.{Ok}
use Rattle.error.specs.Answer.{value, first, accepted}
use Rattle.error.specs.Outcomes.{says, says_unless_withdrawn}
use Rattle.error.proofs.Answers.{both-refused, both-withdrawn, both-value}
use Rattle.setup.specs.Lent.{lent}
use Rattle.setup_tables.specs.Checks.{setup_checks}
use Rattle.setup_tables.proofs.Accepted.{setup-scalars}
use Rattle.turbo_opening.specs.Opening.{open_record_of}
use Rattle.turbo_opening.specs.Inner.{opened_of}
use Rattle.turbo_opening.proofs.Answers.{open-usable}
use Rattle.turbo_decode.proofs.Answers.{decode-setup, decode-withdrawn, decode-closed, decode-room, decode-value, decode-ready}
use Rattle.error.proofs.Clauses.{said_left}
use Rattle.error.proofs.Passed.{passed_on}
use Rattle.turbo_decode.proofs.decode_approximate.Goals.{In-Some, In_ok-check_setup}
use Rattle.turbo_decode.proofs.decode_approximate.Goals as goal

-- the setup passes
passed : (c : goal.In_ok-check_setup) → let a = c.args in first (setup_checks a.setup (lent a.rotation.now a.directions.now a.matrix.now)) accepted ≡ accepted
passed c = sym c.check_setup.ensures ∙ ap says c.in_ok-check_setup.was

-- so that only the record decides whether it is opened
usable : (c : goal.In_ok-check_setup) → let a = c.args in open_record_of a.setup a.bytes.now ≡ opened_of a.setup a.bytes.now
usable c =
    let a = c.args in
    open-usable a.setup a.bytes.now (setup-scalars a.setup (lent a.rotation.now a.directions.now a.matrix.now) (passed c))

-- and it is
opened : (c : goal.In-Some) → let a = c.args in opened_of a.setup a.bytes.now ≡ value c.in-Some.header
opened c =
    let a = c.args in
    let l = lent a.rotation.now a.directions.now a.matrix.now in
    sym (open-usable a.setup a.bytes.now (setup-scalars a.setup l (sym c.check_setup.ensures ∙ ap says c.in_ok-check_setup.was))) ∙ sym c.open_record.ensures ∙ ap says_unless_withdrawn (c.in_ok-header.was ∙ ap Ok c.in-Some.is)

pub returns-in_err-check_setup : goal.returns-in_err-check_setup
returns-in_err-check_setup c = rw (passed_on c.from_residual.result c.from_residual.ensures.1) (said_left (let a = c.args in
    both-refused _ a.out.now (decode-setup a.setup (lent a.rotation.now a.directions.now a.matrix.now) a.bytes.now (length a.out.now) (sym c.in_err-check_setup.ensures))))

pub returns-then-out-dim : goal.returns-then-out-dim
returns-then-out-dim c = said_left (let a = c.args in
    both-refused _ a.out.now (decode-room a.setup (lent a.rotation.now a.directions.now a.matrix.now) a.bytes.now (length a.out.now) (passed (goal.at.returns-then-out-dim c).In_ok-check_setup) (opened (goal.at.returns-then-out-dim c).In-Some) c.if-out-dim.true))

pub decode-requires : goal.decode-requires
decode-requires c = let a = c.args in
    decode-ready a.setup (lent a.rotation.now a.directions.now a.matrix.now) a.bytes.now (length a.out.now) (passed (goal.at.decode-requires c).In_ok-check_setup) (opened (goal.at.decode-requires c).In-Some) c.if-out-dim.false

pub returns : goal.returns
returns c = said_left (let a = c.args in
    both-value _ a.out.now _ (decode-value a.setup (lent a.rotation.now a.directions.now a.matrix.now) a.bytes.now (length a.out.now) (passed (goal.at.returns c).In_ok-check_setup) (opened (goal.at.returns c).In-Some) c.if-out-dim.false) c.decode.ensures)

pub returns-in_err-header : goal.returns-in_err-header
returns-in_err-header c = let a = c.args in
    rw (passed_on c.from_residual-in_err-header.result c.from_residual-in_err-header.ensures.1) (said_left
    (both-refused _ a.out.now (decode-closed a.setup (lent a.rotation.now a.directions.now a.matrix.now) a.bytes.now (length a.out.now) (passed (goal.at.returns-in_err-header c).In_ok-check_setup) (sym (usable (goal.at.returns-in_err-header c).In_ok-check_setup) ∙ sym c.in_err-header.ensures))))

pub returns-in_default : goal.returns-in_default
returns-in_default c = said_left (let a = c.args in
    both-withdrawn _ a.out.now (decode-withdrawn a.setup (lent a.rotation.now a.directions.now a.matrix.now) a.bytes.now (length a.out.now) (passed (goal.at.returns-in_default c).In_ok-check_setup) (sym (usable (goal.at.returns-in_default c).In_ok-check_setup) ∙ sym c.open_record.ensures ∙ ap says_unless_withdrawn (c.in_ok-header.was ∙ ap Ok c.in_default.is))))
