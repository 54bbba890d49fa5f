-- `rotation::bad_signs` counts the signs that are neither -1 nor 1: one sign more, and the end. Assumes nothing.
use mathlib.Core.Path.{sym, ◌∙◌}
use native.Mathlib.Omega.{arith}
use lib.Ieee.{nan}
use Rattle.error.proofs.Places.{place-skip, place_end}
use Rattle.rotation.specs.Checks.{bad_sign}
use Rattle.rotation.proofs.bad_signs.Goals.{else-is_bad_sign, then-is_bad_sign}
use Rattle.rotation.proofs.bad_signs.Goals as goal

pub loop-sign-preserved : goal.loop-sign-preserved
loop-sign-preserved c = let inv = c.loop-sign.invariant in
    elim c.if-is_bad_sign.branch [
      | then-is_bad_sign w ↦ (omega (arith, w.bad-is, inv.0), λ e. absurd (omega (arith, w.bad-is, e)))
      | else-is_bad_sign w ↦ (omega (arith, w.bad-is, inv.0), λ e. place-skip bad_sign _ _ nan (omega arith) (sym c.is_bad_sign.ensures ∙ w.if-is_bad_sign.false) (inv.1 (sym w.bad-is ∙ e)))
    ]

pub returns : goal.returns
returns c = λ e. sym (place_end bad_sign _ _ (omega arith) (c.loop-sign.invariant.1 e) ∙ omega arith)
