-- `rotation::bad_signs` counts the signs that are neither -1 nor 1. The loop's invariant says that a count of 0 has found none of those passed bad.
-- Assumes nothing.
use Prim.Native.Nat.{◌+◌, ◌≤◌}
use mathlib.Core.Path.{◌≡◌}
use lib.ListN.{drop}
use Rattle.error.specs.Answer.{place}
use Rattle.rotation.specs.Checks.{bad_sign}
use Rattle.rotation.proofs.bad_signs.Given as goal

abbrev pub invariant-loop-sign : goal.invariant-loop-sign
invariant-loop-sign l = (l.bad ≤ l.sign-index) × (l.bad ≡ 0 → place bad_sign l.signs ≡ l.sign-index + place bad_sign (drop l.sign-index l.signs))
