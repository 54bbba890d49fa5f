-- `bitpack::validate_padding_zero` meets its contract: each return is one case of the padding's laws. Assumes nothing.
use mathlib.Core.Path.{sym, ◌∙◌}
use native.Mathlib.Omega.{arith}
use Rattle.bitpack.proofs.Padding.{padding-length, padding-whole, padding-wrong, padding-right}
use Rattle.bitpack.proofs.Lengths.{div_ceil-bytes_for}
use Rattle.bitpack.proofs.validate_padding_zero.Goals as goal

pub returns-then-packed-used_bytes : goal.returns-then-packed-used_bytes
returns-then-packed-used_bytes c = sym (padding-length _ _ (λ e. c.if-packed-used_bytes.true (e ∙ sym (c.div_ceil-used_bytes.ensures ∙ div_ceil-bytes_for _))))

pub returns-then-used_in_last-eq0 : goal.returns-then-used_in_last-eq0
returns-then-used_in_last-eq0 c = let right = c.if-packed-used_bytes.false ∙ c.div_ceil-used_bytes.ensures ∙ div_ceil-bytes_for _ in sym (padding-whole _ _ right (omega arith))

pub returns-then-packed-last-ne0 : goal.returns-then-packed-last-ne0
returns-then-packed-last-ne0 c = sym (padding-wrong _ _ (c.if-packed-used_bytes.false ∙ c.div_ceil-used_bytes.ensures ∙ div_ceil-bytes_for _) (λ e. omega arith) c.if-packed-last-ne0.true)

pub returns : goal.returns
returns c = sym (padding-right _ _ (c.if-packed-used_bytes.false ∙ c.div_ceil-used_bytes.ensures ∙ div_ceil-bytes_for _) (λ e. omega arith) c.if-packed-last-ne0.false)
