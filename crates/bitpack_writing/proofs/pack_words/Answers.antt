-- `bitpack_writing::pack_words` meets its contract: the loop starts behind the eights and keeps `Packed`, and its two turns are laws of it. Assumes nothing.
use Prim.Native.Nat.{ℕ, ◌+◌}
use mathlib.Core.Path.{sym, ap, ◌∙◌}
use native.Mathlib.Omega.{arith}
use Rattle.digits.proofs.Words.{put_word-room}
use Rattle.digits.proofs.Windows.{shift_in-exact}
use Rattle.bitpack_writing.proofs.Packing.{pack-bound, pack-turn, pack-word, pack-end}
use Rattle.bitpack_writing.proofs.pack_words.Goals.{then-held-ge32, else-held-ge32}
use Rattle.bitpack_writing.proofs.pack_words.Goals as goal

pub loop-i-preserved : goal.loop-i-preserved
loop-i-preserved c = let s = c.loop-i in
    let more = c.loop-i-test.true in
    let sum = ap (λ (m : ℕ). s.acc + m) (shift_in-exact s.held c.args.bits _ (c.requires.small s.i more) (omega (arith, s.invariant.small, c.requires.narrow))) in
    elim c.if-held-ge32.branch [ then-held-ge32 w ↦ rw (w.out-is, w.acc-is, w.held-is, w.k-is) (pack-word _ _ _ c.requires _ _ _ _ _ s.invariant more _ _ sum w.if-held-ge32.true (w.put_word.ensures ∙ put_word-room _ _ _ (rw s.invariant.sized (pack-bound _ _ _ c.requires _ _ _ _ _ s.invariant more w.if-held-ge32.true)))) | else-held-ge32 w ↦ rw (w.out-is, w.acc-is, w.held-is, w.k-is) (pack-turn _ _ _ c.requires _ _ _ _ _ s.invariant more _ sum w.if-held-ge32.false) ]

pub returns : goal.returns
returns c = c.put_rest.ensures ∙ sym (pack-end _ _ _ c.requires _ _ _ _ _ c.loop-i.invariant (omega arith))
