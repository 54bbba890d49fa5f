-- `error::all_finite` meets its contract, by the laws of `Sweep`. Assumes nothing.
use Rattle.std.proofs.Common.{sym, ◌∙◌, arith}
use lib.Ieee.{nan}
use Rattle.error.specs.Checks.{bad_value}
use Rattle.error.proofs.Sweep.{swept-pass, swept-spot}
use Rattle.error.proofs.Finite.{finite-passes, not-finite-offends}
use Rattle.error.proofs.all_finite.Goals.{else-not-is_finite, then-not-is_finite}
use Rattle.error.proofs.all_finite.Goals as goal

pub loop-x-preserved : goal.loop-x-preserved
loop-x-preserved c = elim c.if-not-is_finite.branch [ then-not-is_finite w ↦ rw w.ok-is (swept-spot bad_value _ _ _ nan (omega arith) (not-finite-offends _ (sym c.is_finite.ensures ∙ w.if-not-is_finite.true)) c.loop-x.invariant) | else-not-is_finite w ↦ rw w.ok-is (swept-pass bad_value _ _ _ nan (omega arith) (finite-passes _ (sym c.is_finite.ensures ∙ w.if-not-is_finite.false)) c.loop-x.invariant) ]
