-- `bitpack_reading::refill` meets its contract: nothing is read, a word, or bytes. Assumes nothing.
use Prim.Native.Nat.{ℕ, ◌+◌, ◌*◌, ◌^◌, ◌≤◌}
use mathlib.Core.Path.{sym, ap, ◌∙◌}
use native.Mathlib.Omega.{arith}
use lib.ListN.{length, drop}
use Rattle.digits.specs.Digits.{number}
use Rattle.digits.proofs.Digits.{number_word}
use Rattle.digits.proofs.Windows.{shift_in-exact, shift_in-word}
use Rattle.bitpack_reading.proofs.Unpacking.{refill-none, refill-word}
use Rattle.bitpack_reading.proofs.refill.Goals as goal

pub returns-then-width-held : goal.returns-then-width-held
returns-then-width-held c = refill-none _ _ _ _ _ c.requires c.if-width-held.true

pub overflow_add-result : goal.overflow_add-result
overflow_add-result c = let a = c.args in
    let asked = c.requires in
    record { fits = shift_in-word a.acc a.held 32 _ asked.window.fits c.get_word-word.ensures.1 (omega (arith, c.if-width-held.false, asked.narrow)) }

pub returns-then-packed-at-ge4 : goal.returns-then-packed-at-ge4
returns-then-packed-at-ge4 c = let a = c.args in
    let asked = c.requires in
    let short = c.if-width-held.false in
    let four : a.at + 4 ≤ length a.packed.now = omega (arith, c.if-packed-at-ge4.true) in
    let read = number_word a.packed.now a.at four ∙ ap (λ (m : ℕ). m + 2 ^ 32 * number 256 (drop (a.at + 4) a.packed.now)) (sym c.get_word-word.ensures.0) in
    let sum = ap (λ (m : ℕ). a.acc + m) (shift_in-exact a.held 32 _ c.get_word-word.ensures.1 (omega (arith, short, asked.narrow))) in
    refill-word _ _ _ _ _ asked short _ _ four read c.get_word-word.ensures.1 sum
