-- `bitpack_reading::unpack_words` meets its contract: the loop starts behind the eights and keeps `Unpacked`, and its turn is a law of it. Assumes nothing.
use mathlib.Core.Path.{sym}
use native.Mathlib.Omega.{arith}
use Rattle.digits.proofs.Masks.{masked}
use Rattle.bitpack_reading.proofs.Eights.{eights-read}
use Rattle.bitpack_reading.proofs.Unpacking.{unpack-start, unpack-turn, unpack-end}
use Rattle.bitpack_reading.proofs.unpack_words.Goals as goal

pub loop-i-init : goal.loop-i-init
loop-i-init c = let eights = c.unpack_narrow-eights.ensures in
    unpack-start _ _ _ c.requires _ _ eights (eights-read _ _ _ c.requires _ _ eights)

pub loop-i-preserved : goal.loop-i-preserved
loop-i-preserved c = unpack-turn _ _ _ c.requires _ _ _ _ _ c.loop-i.invariant (omega arith) _ _ _ _ c.refill-filled.ensures (masked _ _ c.requires.narrow)

pub returns : goal.returns
returns c = sym (unpack-end _ _ _ c.requires _ _ _ _ _ c.loop-i.invariant (omega arith))
