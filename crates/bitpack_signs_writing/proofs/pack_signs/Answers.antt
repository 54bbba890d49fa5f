-- `bitpack_signs_writing::pack_signs` meets its contract: each return is one case of the answer's laws, and the bytes are those of `pack_sign_bytes`. Assumes nothing.
use mathlib.Core.Path.{refl, ◌∙◌}
use Rattle.bitpack.proofs.Lengths.{div_ceil-bytes_for}
use Rattle.error.proofs.Answers.{both-refused, both-value}
use Rattle.bitpack_signs_writing.proofs.SignAnswers.{pack_signs-bad, pack-signs-no-room, pack-signs-value}
use Rattle.error.proofs.Clauses.{said_left}
use Rattle.error.proofs.Places.{is_found, is_none}
use Rattle.bitpack_signs_writing.proofs.pack_signs.Goals as goal

pub returns-in-Some : goal.returns-in-Some
returns-in-Some c = said_left (both-refused _ _ (pack_signs-bad _ _ (is_found c.first_bad_sketch_sign.ensures c.in-Some.is).0 (is_found c.first_bad_sketch_sign.ensures c.in-Some.is).1))

pub returns-then-out-bytes : goal.returns-then-out-bytes
returns-then-out-bytes c = said_left (both-refused _ _ (pack-signs-no-room _ _ refl (is_none c.first_bad_sketch_sign.ensures c.in_default.is) (c.div_ceil-bytes.ensures ∙ div_ceil-bytes_for _) c.if-out-bytes.true))

pub returns : goal.returns
returns c = said_left (both-value _ _ _ (pack-signs-value _ _ refl (is_none c.first_bad_sketch_sign.ensures c.in_default.is) (c.div_ceil-bytes.ensures ∙ div_ceil-bytes_for _) c.if-out-bytes.false) c.pack_sign_bytes.ensures)
