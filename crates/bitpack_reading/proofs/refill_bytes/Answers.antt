-- `bitpack_reading::refill_bytes` meets its contract: the loop keeps the same bits in the window and behind it. Assumes nothing.
use Prim.Native.Nat.{ℕ, ◌+◌}
use mathlib.Core.Path.{refl, ap, ◌∙◌}
use native.Mathlib.Omega.{arith}
use Rattle.digits.proofs.Digits.{number-drop}
use Rattle.digits.proofs.Windows.{shift_in-exact, shift_in-word}
use Rattle.bitpack_reading.proofs.Unpacking.{refill-bound, refill-byte, refill-same}
use Rattle.bitpack_reading.proofs.refill_bytes.Goals as goal

pub loop-held-init : goal.loop-held-init
loop-held-init c = (c.requires, (refl, refl))

pub bounds-packed-at : goal.bounds-packed-at
bounds-packed-at c = refill-bound _ _ _ _ _ c.loop-held.invariant.0 c.loop-held-test.true

pub overflow_cast-acc : goal.overflow_cast-acc
overflow_cast-acc c = omega (arith, c.type_inv.packed c.loop-held.at)

pub overflow_shl-acc : goal.overflow_shl-acc
overflow_shl-acc c = omega arith

pub overflow_add-acc : goal.overflow_add-acc
overflow_add-acc c = let s = c.loop-held in
    record { fits = shift_in-word s.acc s.held 8 _ s.invariant.0.window.fits (c.type_inv.packed s.at).fits (omega arith) }

pub overflow_add-held : goal.overflow_add-held
overflow_add-held c = omega arith

pub overflow_add-at : goal.overflow_add-at
overflow_add-at c = omega (arith, refill-bound _ _ _ _ _ c.loop-held.invariant.0 c.loop-held-test.true)

pub loop-held-smaller : goal.loop-held-smaller
loop-held-smaller c = omega arith

pub loop-held-preserved : goal.loop-held-preserved
loop-held-preserved c = let s = c.loop-held in
    let asked = s.invariant.0 in
    let short = c.loop-held-test.true in
    let byte = (c.type_inv.packed s.at).fits in
    let sum = ap (λ (m : ℕ). s.acc + m) (shift_in-exact s.held 8 _ byte (omega arith)) in
    (refill-byte _ _ _ _ _ asked short _ sum byte, (omega (arith, s.invariant.1.0), refill-same _ _ _ _ _ asked 8 _ _ (s.at + 1) (number-drop 256 _ _ (refill-bound _ _ _ _ _ asked short)) sum ∙ s.invariant.1.1))

pub returns : goal.returns
returns c = let s = c.loop-held in
    record { window = s.invariant.0.window; enough = c.loop-held-test.false; count = s.invariant.1.0; same = s.invariant.1.1 }
