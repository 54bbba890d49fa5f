-- `bitpack_signs_reading::put_signs` meets its contract: four stores are one run. Assumes nothing.
use Prim.Native.Nat.{◌/◌, ◌%◌}
use mathlib.Core.Path.{ap, ◌∙◌}
use native.Mathlib.Omega.{arith}
use lib.IntN.{ℤ}
use lib.ListN.{length-set}
use mir.Syntax.{w8}
use mir.Val.{of_z, to_z}
use Rattle.digits.specs.Digits.{digits}
use Rattle.lists.proofs.Stores.{store-four}
use Rattle.bitpack_signs.proofs.Signs.{sign-back}
use Rattle.bitpack_signs_reading.proofs.put_signs.Goals as goal

pub bounds-out-at-2 : goal.bounds-out-at-2
bounds-out-at-2 c = simp length-set (omega arith)

pub bounds-out-at-3 : goal.bounds-out-at-3
bounds-out-at-3 c = simp length-set (omega arith)

pub bounds-out-at-4 : goal.bounds-out-at-4
bounds-out-at-4 c = simp length-set (omega arith)

pub returns : goal.returns
unfolding digits
returns c = let bits = c.args.bits in
    rw (ap (λ (z : ℤ). to_z w8 (of_z w8 z)) c.sign.ensures ∙ sign-back (bits % 2), ap (λ (z : ℤ). to_z w8 (of_z w8 z)) c.sign-2.ensures ∙ sign-back (bits / 2 % 2), ap (λ (z : ℤ). to_z w8 (of_z w8 z)) c.sign-3.ensures ∙ sign-back (bits / 2 / 2 % 2), ap (λ (z : ℤ). to_z w8 (of_z w8 z)) c.sign-4.ensures ∙ sign-back (bits / 2 / 2 / 2 % 2))
    (store-four _ _ _ _ _ _ c.requires)
