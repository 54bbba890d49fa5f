-- `rotation_stored::apply_at_once` meets its contract: finite sums stand for the check of the matrix's entries. Assumes nothing.
use Prim.Native.Nat.{ℕ}
use mathlib.Core.Path.{refl, sym, ap, subst}
use lib.ListN.{length}
use Rattle.rotation_stored.specs.Stored.{stored_rotated}
use Rattle.rotation_stored.specs.Inner.{Shaped}
use Rattle.rotation_stored.proofs.AtOnce.{judged-same, rotated-at_once}
use Rattle.error.proofs.AtOnce.{at_once-left}
use Rattle.rotation_stored.proofs.apply_at_once.Goals as goal

pub returns-then-not-is_shaped : goal.returns-then-not-is_shaped
returns-then-not-is_shaped c = at_once-left _ _ _ refl

pub judge_rows-requires : goal.judge_rows-requires
judge_rows-requires c = let s = c.is_shaped.ensures (c.if-not-is_shaped.false) in
    subst (λ (n : ℕ). Shaped n (length c.args.matrix.now) (length c.args.input.now) (length c.args.output.now)) (sym s.input_long) s

pub returns : goal.returns
returns c = let a = c.args in
    let s = c.is_shaped.ensures (c.if-not-is_shaped.false) in
    rotated-at_once a.dim a.matrix.now a.input.now (length a.output.now) s (judged-same (ap (λ (n : ℕ). stored_rotated n a.matrix.now a.input.now) s.input_long) c.judge_rows.ensures)
