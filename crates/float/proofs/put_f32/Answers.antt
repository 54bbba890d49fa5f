-- `float::put_f32` meets its contract: the bytes are the pattern's. Assumes nothing.
use Rattle.std.proofs.Common.{ap, ◌∙◌}
use Rattle.digits.specs.Words.{put_word_of}
use Rattle.float.specs.Bytes.{put_f32_of}
use Rattle.float.proofs.put_f32.Goals as goal

pub returns : goal.returns
unfolding put_f32_of
returns c = c.put_word.ensures ∙ ap (put_word_of _ _) c.to_bits.ensures
