-- `digits::put_word` meets its contract: four stores are one run. Assumes nothing.
use Prim.Native.Nat.{◌+◌, ◌≤◌}
use mathlib.Core.Path.{sym, ◌∙◌}
use native.Mathlib.Omega.{arith}
use lib.ListN.{length, length-set}
use Rattle.digits.specs.Digits.{digits}
use Rattle.lists.proofs.Stores.{store-four}
use Rattle.digits.proofs.Words.{put_word-room, put_word-none}
use Rattle.digits.proofs.put_word.Goals as goal

pub returns-then-out-lt4 : goal.returns-then-out-lt4
returns-then-out-lt4 c = sym (put_word-none _ _ _ (omega arith))

pub returns-then-out-at : goal.returns-then-out-at
returns-then-out-at c = sym (put_word-none _ _ _ (omega arith))

pub bounds-out-at-2 : goal.bounds-out-at-2
bounds-out-at-2 c = simp length-set (omega arith)

pub bounds-out-at-3 : goal.bounds-out-at-3
bounds-out-at-3 c = simp length-set (omega arith)

pub bounds-out-at-4 : goal.bounds-out-at-4
bounds-out-at-4 c = simp length-set (omega arith)

pub returns : goal.returns
unfolding digits
returns c = let a = c.args in
    let room : a.at + 4 ≤ length a.out.now = omega arith in
    store-four _ _ _ _ _ _ room ∙ sym (put_word-room a.out.now a.at a.n room)
