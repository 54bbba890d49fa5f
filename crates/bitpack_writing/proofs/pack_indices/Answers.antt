-- `bitpack_writing::pack_indices` meets its contract: each return is one case of the answer's laws, and the bytes are those of `pack_words`. Assumes nothing.
use mathlib.Core.Path.{refl, sym, ap, ◌∙◌}
use Rattle.error.specs.Outcomes.{says}
use Rattle.error.proofs.Answers.{both-refused, both-value}
use Rattle.bitpack_writing.proofs.Answers.{pack-no-length, pack-large, pack-no-room, pack-value, packable}
use Rattle.error.proofs.Clauses.{said_left}
use Rattle.error.proofs.Passed.{passed_on}
use Rattle.error.proofs.Places.{is_found, is_none}
use Rattle.bitpack_writing.proofs.pack_indices.Goals as goal

pub returns-in_err-need : goal.returns-in_err-need
returns-in_err-need c = rw (passed_on c.from_residual.result c.from_residual.ensures.1) (said_left (both-refused _ _ (pack-no-length _ _ _ (sym c.in_err-need.ensures))))

pub returns-in-Some : goal.returns-in-Some
returns-in-Some c = said_left (both-refused _ _ (pack-large _ _ _ (sym c.packed_len.ensures ∙ ap says c.in_ok-need.was) (is_found c.first_bad_index.ensures c.in-Some.is).0 (is_found c.first_bad_index.ensures c.in-Some.is).1))

pub returns-then-out-need : goal.returns-then-out-need
returns-then-out-need c = said_left (both-refused _ _ (pack-no-room _ _ _ (sym c.packed_len.ensures ∙ ap says c.in_ok-need.was) refl (is_none c.first_bad_index.ensures c.in_default.is) c.if-out-need.true))

pub pack_words-requires : goal.pack_words-requires
pack_words-requires c = packable _ _ _ (sym c.packed_len.ensures ∙ ap says c.in_ok-need.was) refl (is_none c.first_bad_index.ensures c.in_default.is) c.if-out-need.false

pub returns : goal.returns
returns c = said_left (both-value _ _ _ (pack-value _ _ _ (sym c.packed_len.ensures ∙ ap says c.in_ok-need.was) refl (is_none c.first_bad_index.ensures c.in_default.is) c.if-out-need.false) c.pack_words.ensures)
