-- `bitpack_signs_reading::put_last_signs` meets its contract: the loop keeps that what is written and what is left are the signs of the digits. Assumes nothing.
use Prim.Native.Nat.{ℕ, ◌-◌, ◌%◌}
use mathlib.Core.Path.{◌≡◌, sym, ap, ◌∙◌}
use mathlib.Core.List.{List, [], ◌++◌, map, append-nil}
use native.Mathlib.Omega.{arith}
use lib.IntN.{ℤ}
use lib.ListN.{length, take, drop, length-set, length-drop, drop_of_length-le}
use mir.Syntax.{w8}
use mir.Val.{of_z, to_z}
use Rattle.digits.specs.Digits.{digits}
use Rattle.lists.proofs.Stores.{lent_back}
use Rattle.bitpack.specs.Signs.{sign_of_bit}
use Rattle.bitpack_signs.proofs.Signs.{sign-back}
use Rattle.bitpack_signs.proofs.SignUnpacking.{sign-next, sign-end}
use Rattle.bitpack_signs_reading.proofs.put_last_signs.Goals as goal

pub loop-x-preserved : goal.loop-x-preserved
loop-x-preserved c = let s = c.loop-x in
    let v = ap (λ (z : ℤ). to_z w8 (of_z w8 z)) c.sign.ensures ∙ sign-back (s.bits % 2) in
    simp length-set (s.invariant ∙ sign-next s.x-items s.x-index s.bits _ v (omega arith))

pub returns : goal.returns
returns c = let s = c.loop-x in
    let a = c.args in
    let out = a.out.now in
    let none : drop (length out - a.from) (drop a.from out) ≡ [] = drop_of_length-le (drop a.from out) (rw length-drop (omega arith)) in
    ap (λ (l : List ℤ). take a.from out ++ (s.x-items ++ l)) none
    ∙ ap (λ (l : List ℤ). take a.from out ++ l) (append-nil s.x-items ∙ sym (s.invariant ∙ sign-end s.x-items s.x-index s.bits (omega arith)))
    ∙ ap (λ (n : ℕ). take a.from out ++ map sign_of_bit (digits 2 n a.last)) (lent_back out a.from (length out - a.from) (omega arith))
