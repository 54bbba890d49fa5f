-- `packed_writing::put_norm` meets its contract. Assumes nothing.
use mathlib.Core.Path.{◌∙◌}
use Rattle.float.specs.Bytes.{to_le_bytes}
use Rattle.float.proofs.Bytes.{put_f32-room}
use Rattle.packed_writing.proofs.Stores.{store-last}
use Rattle.lists.proofs.Stores.{store-none}
use native.Mathlib.Omega.{arith}
use Rattle.packed_writing.proofs.put_norm.Goals as goal

pub overflow_sub-at : goal.overflow_sub-at
overflow_sub-at c = let h = rw c.in-Some.is at c.requires in omega (arith, h)

pub returns-in-Some : goal.returns-in-Some
returns-in-Some c = let xs = c.args.out.now in
    let h = rw c.in-Some.is at c.requires in
    rw c.in-Some.is (c.put_f32.ensures ∙ put_f32-room xs _ c.in-Some.x (omega (arith, h)) ∙ store-last xs (to_le_bytes c.in-Some.x) h)

pub returns-in_default : goal.returns-in_default
returns-in_default c = rw c.in_default.is (store-none c.args.out.now)
