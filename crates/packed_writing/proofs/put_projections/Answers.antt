-- `packed_writing::put_projections` meets its contract. Assumes nothing.
use mathlib.Core.Path.{◌∙◌}
use native.Mathlib.Nat.{add-zero}
use Rattle.digits.proofs.Words.{put_word-room}
use Rattle.packed_writing.proofs.Stores.{store_nothing}
use Rattle.packed_writing.proofs.put_projections.Goals as goal

pub returns-in-PolarWithQjl : goal.returns-in-PolarWithQjl
returns-in-PolarWithQjl c = let e = c.in-PolarWithQjl.is in
    let h = rw e at c.requires in
    rw e (c.put_word.ensures ∙ put_word-room c.args.out.now c.args.at c.args.projections h)

pub returns-in_default : goal.returns-in_default
returns-in_default c = let a = c.args in rw (c.in_default.is, add-zero) (store_nothing a.out.now a.at)
