-- `bitpack_signs_reading::unpack_signs` meets its contract: each return is one case of the answer's laws, and the signs are those of `unpack_sign_bytes`. Assumes nothing.
use mathlib.Core.Path.{sym, ap, ◌∙◌}
use Rattle.error.specs.Outcomes.{says}
use Rattle.error.proofs.Answers.{both-refused, both-value}
use Rattle.bitpack_signs_reading.proofs.SignAnswers.{unpack_signs-padded, unpack-signs-no-room, unpack-signs-value, unpack-signs-enough}
use Rattle.error.proofs.Clauses.{said_left}
use Rattle.error.proofs.Passed.{passed_on}
use Rattle.bitpack_signs_reading.proofs.unpack_signs.Goals as goal

pub returns-in_err-validate_padding_zero : goal.returns-in_err-validate_padding_zero
returns-in_err-validate_padding_zero c = rw (passed_on c.from_residual.result c.from_residual.ensures.1) (said_left (both-refused _ _ (unpack_signs-padded _ _ _ (sym c.in_err-validate_padding_zero.ensures))))

pub returns-then-out-count : goal.returns-then-out-count
returns-then-out-count c = said_left (both-refused _ _ (unpack-signs-no-room _ _ _ (sym c.validate_padding_zero.ensures ∙ ap says c.in_ok-validate_padding_zero.was) c.if-out-count.true))

pub unpack_sign_bytes-requires : goal.unpack_sign_bytes-requires
unpack_sign_bytes-requires c = unpack-signs-enough _ _ _ (sym c.validate_padding_zero.ensures ∙ ap says c.in_ok-validate_padding_zero.was) c.if-out-count.false

pub returns : goal.returns
returns c = said_left (both-value _ _ _ (unpack-signs-value _ _ _ (sym c.validate_padding_zero.ensures ∙ ap says c.in_ok-validate_padding_zero.was) c.if-out-count.false) c.unpack_sign_bytes.ensures)
