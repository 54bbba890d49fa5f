-- `packed_writing::put_range` meets its contract, by the profile. Assumes nothing.
use Prim.Native.Nat.{ℕ}
use mathlib.Core.Path.{ap, ◌∙◌}
use mathlib.Core.List.{List, ◌++◌}
use native.Mathlib.Omega.{arith}
use lib.ListN.{take, drop}
use Rattle.float.specs.Bytes.{to_le_bytes}
use Rattle.float.proofs.Bytes.{length-to_le_bytes, put_f32-room}
use Rattle.packed_writing.proofs.Stores.{store_pair, store_nothing}
use Rattle.packed_writing.proofs.put_range.Goals as goal

pub put_f32-requires : goal.put_f32-requires
put_f32-requires c = let h = rw c.in-BlockLinearU16.is at c.requires in omega (arith, h)

pub put_f32-requires-in-BlockLinearU16 : goal.put_f32-requires-in-BlockLinearU16
put_f32-requires-in-BlockLinearU16 c = let h = rw c.in-BlockLinearU16.is at c.requires in omega (arith, h, c.put_f32.auto.out)

pub returns-in-F32 : goal.returns-in-F32
returns-in-F32 c = rw c.in-F32.is (store_nothing c.args.out.now 6)

pub returns-in-BlockLinearU16 : goal.returns-in-BlockLinearU16
returns-in-BlockLinearU16 c = let xs = c.args.out.now in
    let h = rw c.in-BlockLinearU16.is at c.requires in
    let range = c.args.range in
    rw c.in-BlockLinearU16.is
    (c.put_f32-in-BlockLinearU16.ensures
    ∙ put_f32-room _ 10 range.max (omega (arith, h, c.put_f32.auto.out))
    ∙ ap (λ (l : List ℕ). take 10 l ++ to_le_bytes range.max ++ drop 14 l) (c.put_f32.ensures ∙ put_f32-room xs 6 range.min (omega (arith, h)))
    ∙ store_pair xs (to_le_bytes range.min) (to_le_bytes range.max) 4 4 (length-to_le_bytes range.min) h)

pub returns-in-BlockLogU8 : goal.returns-in-BlockLogU8
returns-in-BlockLogU8 c = rw c.in-BlockLogU8.is (store_nothing c.args.out.now 6)
