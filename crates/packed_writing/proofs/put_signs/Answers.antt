-- `packed_writing::put_signs` meets its contract: packing answers a value. Assumes nothing.
use Prim.Native.Nat.{ℕ}
use mathlib.Core.Path.{ap, ◌∙◌}
use mathlib.Core.List.{List}
use Rattle.error.specs.Answer.{Answer, after}
use Rattle.packed_writing.proofs.put_signs.Goals as goal

pub returns : goal.returns
returns c = c.pack_signs.ensures.left ∙ ap (λ (a : Answer (List ℕ)). after a c.args.out.now) c.requires
