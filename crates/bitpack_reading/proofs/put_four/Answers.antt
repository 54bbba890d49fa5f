-- `bitpack_reading::put_four` meets its contract: four stores are one run, and a mask takes the lowest bits. Assumes nothing.
use Prim.Native.Nat.{◌/◌, ◌^◌}
use native.Mathlib.Omega.{arith}
use lib.ListN.{length-set}
use lib.Pow.{pow_pos}
use Rattle.digits.specs.Digits.{digits}
use Rattle.lists.proofs.Stores.{store-four}
use Rattle.digits.proofs.Masks.{power-shifted, masked, masked-fits}
use Rattle.bitpack_reading.proofs.put_four.Goals as goal

pub overflow_sub-low : goal.overflow_sub-low
overflow_sub-low c = rw (power-shifted c.args.width 64 (omega arith)) (pow_pos _)

pub overflow_cast-out : goal.overflow_cast-out
overflow_cast-out c = record { fits = masked-fits c.args.word c.args.width c.requires.1 }

pub overflow_cast-out-2 : goal.overflow_cast-out-2
overflow_cast-out-2 c = record { fits = masked-fits (c.args.word / 2 ^ c.args.width) c.args.width c.requires.1 }

pub bounds-out-at-2 : goal.bounds-out-at-2
bounds-out-at-2 c = simp length-set (omega arith)

pub overflow_cast-out-3 : goal.overflow_cast-out-3
overflow_cast-out-3 c = record { fits = masked-fits (c.args.word / 2 ^ c.args.width / 2 ^ c.args.width) c.args.width c.requires.1 }

pub bounds-out-at-3 : goal.bounds-out-at-3
bounds-out-at-3 c = simp length-set (omega arith)

pub overflow_cast-out-4 : goal.overflow_cast-out-4
overflow_cast-out-4 c = record { fits = masked-fits (c.args.word / 2 ^ c.args.width / 2 ^ c.args.width / 2 ^ c.args.width) c.args.width c.requires.1 }

pub bounds-out-at-4 : goal.bounds-out-at-4
bounds-out-at-4 c = simp length-set (omega arith)

pub returns : goal.returns
unfolding digits
returns c = let word = c.args.word in
    let width = c.args.width in
    let small = c.requires.1 in
    rw (masked word width small, masked (word / 2 ^ width) width small, masked (word / 2 ^ width / 2 ^ width) width small, masked (word / 2 ^ width / 2 ^ width / 2 ^ width) width small)
    (store-four _ _ _ _ _ _ c.requires.0)
