-- `packed_reading::peek_record` meets its contract: behind the checks of the frame come those of the padding. Assumes nothing.
use mathlib.Core.Path.{◌≡◌, sym, ap, ◌∙◌}
use Rattle.std.specs.Prelude.{Ok}
use Rattle.error.specs.Answer.{value}
use Rattle.error.specs.Outcomes.{says, says_unless_withdrawn}
use Rattle.error.proofs.Passed.{passed_on}
use Rattle.packed.specs.Reading.{padding_checks}
use Rattle.packed.specs.Peeking.{read_frame_of, peek_record_of}
use Rattle.packed.proofs.Frame.{frame-withdrawn, frame_refused, frame-whole, frame-then-refused, frame-then-passed}
use Rattle.packed_reading.proofs.peek_record.Goals.{In-Some}
use Rattle.packed_reading.proofs.peek_record.Goals as goal

-- the frame is sound
framed : (c : goal.In-Some) → read_frame_of c.args.bytes.now ≡ value c.in-Some.header
framed c = sym c.read_frame.ensures ∙ ap says_unless_withdrawn (c.in_ok-header.was ∙ ap Ok c.in-Some.is)

pub check_padding-requires : goal.check_padding-requires
check_padding-requires c = let bytes = c.args.bytes.now in frame-whole bytes (padding_checks bytes) (framed (goal.at.check_padding-requires c).In-Some)

pub returns-in_err-check_padding : goal.returns-in_err-check_padding
unfolding peek_record_of
returns-in_err-check_padding c = let bytes = c.args.bytes.now in
    rw (passed_on c.from_residual-in_err-check_padding.result c.from_residual-in_err-check_padding.ensures.1)
    (sym (frame-then-refused bytes (padding_checks bytes) (framed (goal.at.returns-in_err-check_padding c).In-Some) (sym c.in_err-check_padding.ensures)))

pub returns : goal.returns
unfolding peek_record_of
returns c = let bytes = c.args.bytes.now in
    sym (frame-then-passed bytes (padding_checks bytes) (framed (goal.at.returns c).In-Some) (sym c.check_padding.ensures ∙ ap says c.in_ok-check_padding.was))

pub returns-in_err-header : goal.returns-in_err-header
unfolding peek_record_of
returns-in_err-header c = let bytes = c.args.bytes.now in
    rw (passed_on c.from_residual.result c.from_residual.ensures.1) (sym (frame_refused bytes (padding_checks bytes) (sym c.in_err-header.ensures)))

pub returns-in_default : goal.returns-in_default
unfolding peek_record_of
returns-in_default c = let bytes = c.args.bytes.now in
    sym (frame-withdrawn bytes (padding_checks bytes) (sym c.read_frame.ensures ∙ ap says_unless_withdrawn (c.in_ok-header.was ∙ ap Ok c.in_default.is)))
