-- `bitpack_writing::four_of` meets its contract: each index takes its bits above those before it. Assumes nothing.
use Prim.Native.Nat.{ℕ, ◌+◌, ◌<◌, ◌^◌}
use mathlib.Core.Path.{sym, ap, ◌∙◌}
use native.Mathlib.Omega.{arith}
use lib.ListN.{get_or}
use Rattle.lists.proofs.Stores.{run-four}
use Rattle.digits.specs.Digits.{number}
use Rattle.digits.proofs.Windows.{shift_in-word}
use Rattle.bitpack_writing.proofs.Groups.{four-word, four-fits, four-number}
use Rattle.bitpack_writing.proofs.four_of.Goals.{Start}
use Rattle.bitpack_writing.proofs.four_of.Goals as goal

-- the four indices have `width` bits
small : (c : goal.Start) (i : ℕ) → i < 4 → get_or c.args.indices.now (c.args.at + i) 0 < 2 ^ c.args.width
small c i h = c.requires.small (c.args.at + i) (omega (arith, c.requires.within))

pub overflow_cast-low : goal.overflow_cast-low
overflow_cast-low c = omega (arith, c.type_inv.indices c.args.at)

pub overflow_cast-low-2 : goal.overflow_cast-low-2
overflow_cast-low-2 c = omega (arith, c.type_inv.indices (c.args.at + 1))

pub overflow_add-low-2 : goal.overflow_add-low-2
overflow_add-low-2 c = let w = c.args.width in
    record { fits = shift_in-word _ w w _ (c.requires.small c.args.at (omega (arith, c.requires.within))) (small (goal.at.overflow_add-low-2 c).Start 1 (omega arith)) (omega (arith, c.requires.narrow)) }

pub overflow_cast-high : goal.overflow_cast-high
overflow_cast-high c = omega (arith, c.type_inv.indices (c.args.at + 2))

pub overflow_cast-high-2 : goal.overflow_cast-high-2
overflow_cast-high-2 c = omega (arith, c.type_inv.indices (c.args.at + 3))

pub overflow_add-high-3 : goal.overflow_add-high-3
overflow_add-high-3 c = let w = c.args.width in
    record { fits = shift_in-word _ w w _ (small (goal.at.overflow_add-high-3 c).Start 2 (omega arith)) (small (goal.at.overflow_add-high-3 c).Start 3 (omega arith)) (omega (arith, c.requires.narrow)) }

pub overflow_add-result : goal.overflow_add-result
overflow_add-result c = record { fits = four-word c.args.width c.requires.narrow _ _ _ _ (c.requires.small c.args.at (omega (arith, c.requires.within))) (small (goal.at.overflow_add-result c).Start 1 (omega arith)) (small (goal.at.overflow_add-result c).Start 2 (omega arith)) (small (goal.at.overflow_add-result c).Start 3 (omega arith)) }

pub returns : goal.returns
returns c = let w = c.args.width in
    let first = c.requires.small c.args.at (omega (arith, c.requires.within)) in
    let second = small (goal.at.returns c).Start 1 (omega arith) in
    let third = small (goal.at.returns c).Start 2 (omega arith) in
    let fourth = small (goal.at.returns c).Start 3 (omega arith) in
    (four-number w c.requires.narrow _ _ _ _ first second third fourth ∙ ap (number (2 ^ w)) (sym (run-four {A = ℕ} c.args.indices.now c.args.at 0 c.requires.within)), four-fits w c.requires.narrow _ _ _ _ first second third fourth)
