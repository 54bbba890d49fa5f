-- `bitpack_signs::all_signs` meets its contract, by the laws of `Sweep`. Assumes nothing.
use Rattle.std.proofs.Common.{◌≡◌, ℕ, ℤ, pos, Bool, true, false, cond, refl, sym, ap, ◌∙◌, arith}
use Rattle.bitpack.specs.Signs.{bad_sketch_sign}
use Rattle.error.proofs.Sweep.{swept-pass, swept-spot}
use Rattle.bitpack_signs.proofs.Signs.{signed-at}
use Rattle.bitpack_signs.proofs.all_signs.Goals.{else-stray-ne0, then-stray-ne0}
use Rattle.bitpack_signs.proofs.all_signs.Goals as goal

-- the byte of a number that offends, and of one that does not
stray-one : (bad : Bool) → (◌≡◌ {A = ℕ} (cond bad 1 0) 0 → ⊥) → bad ≡ true
stray-one true h = refl
stray-one false h = absurd (h refl)

stray-none : (bad : Bool) → ◌≡◌ {A = ℕ} (cond bad 1 0) 0 → bad ≡ false
stray-none true h = absurd (omega (arith, h))
stray-none false h = refl

pub loop-sign-preserved : goal.loop-sign-preserved
loop-sign-preserved c = let judged = c.stray.ensures ∙ ap (λ (z : ℤ). cond (bad_sketch_sign z) 1 0) (signed-at c.args.signs.now c.loop-sign.sign-index (omega arith)) in
    elim c.if-stray-ne0.branch [ then-stray-ne0 w ↦ rw w.ok-is (swept-spot bad_sketch_sign _ _ _ (pos 0) (omega arith) (stray-one _ (rw judged at w.if-stray-ne0.true)) c.loop-sign.invariant) | else-stray-ne0 w ↦ rw w.ok-is (swept-pass bad_sketch_sign _ _ _ (pos 0) (omega arith) (stray-none _ (sym judged ∙ w.if-stray-ne0.false)) c.loop-sign.invariant) ]
