-- `bitpack_reading::unpack_indices` meets its contract: each return is one case of the answer's laws, and the indices are those of `unpack_words`. Assumes nothing.
use mathlib.Core.Path.{sym, ap, ◌∙◌}
use native.Mathlib.Omega.{arith}
use Rattle.error.specs.Outcomes.{says}
use Rattle.error.proofs.Answers.{both-refused, both-value}
use Rattle.bitpack.proofs.Answers.{measured}
use Rattle.bitpack_reading.proofs.Answers.{unpack-no-length, unpack-padded, unpack-no-room, unpack-value, unpackable}
use Rattle.error.proofs.Clauses.{said_left}
use Rattle.error.proofs.Passed.{passed_on}
use Rattle.bitpack_reading.proofs.unpack_indices.Goals as goal

pub returns-in_err-packed_len : goal.returns-in_err-packed_len
returns-in_err-packed_len c = rw (passed_on c.from_residual.result c.from_residual.ensures.1) (said_left (both-refused _ _ (unpack-no-length _ _ _ _ (sym c.in_err-packed_len.ensures))))

pub overflow_mul-used : goal.overflow_mul-used
overflow_mul-used c = omega (arith, (measured _ _ (sym c.packed_len.ensures ∙ ap says c.in_ok-packed_len.was)).fits)

pub returns-in_err-validate_padding_zero : goal.returns-in_err-validate_padding_zero
returns-in_err-validate_padding_zero c = rw (passed_on c.from_residual-in_err-validate_padding_zero.result c.from_residual-in_err-validate_padding_zero.ensures.1) (said_left (both-refused _ _ (unpack-padded _ _ _ _ (sym c.packed_len.ensures ∙ ap says c.in_ok-packed_len.was) (sym c.in_err-validate_padding_zero.ensures))))

pub returns-then-out-count : goal.returns-then-out-count
returns-then-out-count c = said_left (both-refused _ _ (unpack-no-room _ _ _ _ (sym c.packed_len.ensures ∙ ap says c.in_ok-packed_len.was) (sym c.validate_padding_zero.ensures ∙ ap says c.in_ok-validate_padding_zero.was) c.if-out-count.true))

pub unpack_words-requires : goal.unpack_words-requires
unpack_words-requires c = unpackable _ _ _ _ (sym c.packed_len.ensures ∙ ap says c.in_ok-packed_len.was) (sym c.validate_padding_zero.ensures ∙ ap says c.in_ok-validate_padding_zero.was) c.if-out-count.false

pub returns : goal.returns
returns c = said_left (both-value _ _ _ (unpack-value _ _ _ _ (sym c.packed_len.ensures ∙ ap says c.in_ok-packed_len.was) (sym c.validate_padding_zero.ensures ∙ ap says c.in_ok-validate_padding_zero.was) c.if-out-count.false) c.unpack_words.ensures)
