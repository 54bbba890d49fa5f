-- `packed_reading::read_frame` meets its contract: a record of no bytes is withdrawn; of another come the header's checks, then those of its frame. Assumes nothing.
use mathlib.Core.Path.{◌≡◌, sym, ap, ◌∙◌}
use mathlib.Core.Bool.{false}
use borrow.Author.Tests.{eq-eqb, ne_eqb}
use lib.ListN.{length}
use Rattle.error.specs.Answer.{value}
use Rattle.error.specs.Outcomes.{says}
use Rattle.error.proofs.Chains as chains
use Rattle.error.proofs.Chains.{append-refused, append-passed}
use Rattle.packed.specs.Layout.{header_of}
use Rattle.packed.specs.Reading.{header_checks, is_withdrawn}
use Rattle.packed.specs.Peeking.{frame_checks, read_frame_of}
use Rattle.packed.proofs.Withdrawn.{unless-none, unless-some}
use Rattle.error.proofs.Passed.{passed_on}
use Rattle.packed_reading.proofs.read_frame.Goals.{Else-bytes-eq0}
use Rattle.packed_reading.proofs.read_frame.Goals as goal

-- there are bytes
some : (c : goal.Else-bytes-eq0) → is_withdrawn c.args.bytes.now ≡ false
some c = ne_eqb (length c.args.bytes.now) 0 c.if-bytes-eq0.false

pub returns-then-bytes-eq0 : goal.returns-then-bytes-eq0
unfolding read_frame_of
returns-then-bytes-eq0 c = let bytes = c.args.bytes.now in
    sym (unless-none bytes _ (eq-eqb (length bytes) 0 c.if-bytes-eq0.true))

pub returns-in_err-check_header : goal.returns-in_err-check_header
unfolding read_frame_of
returns-in_err-check_header c = let bytes = c.args.bytes.now in
    rw (passed_on c.from_residual.result c.from_residual.ensures.1) (sym
    (unless-some bytes _ (some (goal.at.returns-in_err-check_header c).Else-bytes-eq0)
    ∙ append-refused (header_checks bytes) (frame_checks bytes) tt (value (header_of bytes)) (sym c.in_err-check_header.ensures)))

pub header_of-found-requires : goal.header_of-found-requires
header_of-found-requires c = sym c.check_header.ensures ∙ ap says c.in_ok-check_header.was

pub returns-in_err-check_frame : goal.returns-in_err-check_frame
unfolding read_frame_of
returns-in_err-check_frame c = let bytes = c.args.bytes.now in
    rw (passed_on c.from_residual-in_err-check_frame.result c.from_residual-in_err-check_frame.ensures.1) (sym
    (unless-some bytes _ (some (goal.at.returns-in_err-check_frame c).Else-bytes-eq0)
    ∙ append-passed (header_checks bytes) (frame_checks bytes) tt (value (header_of bytes)) (sym c.check_header.ensures ∙ ap says c.in_ok-check_header.was)
    ∙ chains.first-refused (frame_checks bytes) (value (header_of bytes)) (sym c.in_err-check_frame.ensures)))

pub returns : goal.returns
unfolding read_frame_of
returns c = let bytes = c.args.bytes.now in
    ap value c.header_of-found.ensures
    ∙ sym
    (unless-some bytes _ (some (goal.at.returns c).Else-bytes-eq0)
    ∙ append-passed (header_checks bytes) (frame_checks bytes) tt (value (header_of bytes)) (sym c.check_header.ensures ∙ ap says c.in_ok-check_header.was)
    ∙ chains.first-passed (frame_checks bytes) (value (header_of bytes)) (sym c.check_frame.ensures ∙ ap says c.in_ok-check_frame.was))
