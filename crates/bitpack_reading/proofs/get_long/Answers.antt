-- `bitpack_reading::get_long` meets its contract: two words of four bytes, one behind the other. Assumes nothing.
use Prim.Native.Nat.{ℕ, ◌+◌, ◌≤◌}
use mathlib.Core.Path.{◌≡◌, ap}
use native.Mathlib.Omega.{arith}
use lib.ListN.{length, drop}
use Rattle.digits.specs.Digits.{number}
use Rattle.digits.proofs.Digits.{number_word}
use Rattle.bitpack_reading.proofs.get_long.Goals as goal

pub returns : goal.returns
returns c = let packed = c.args.packed.now in
    let at = c.args.at in
    let fits : at + 8 ≤ length packed = c.requires in
    let eight : at + 4 + 4 ≡ at + 8 = omega arith in
    omega (arith, number_word packed at (omega arith), number_word packed (at + 4) (omega arith), c.get_word.ensures.0, c.get_word-2.ensures.0, ap (λ (m : ℕ). number 256 (drop m packed)) eight)
