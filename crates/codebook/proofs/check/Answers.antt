-- `codebook::check` meets its contract: each return is the first check that offends, or the end of the list. Assumes nothing.
use mathlib.Core.Logic.{⊎_elim}
use borrow.Author.Tests.{lt-ltb, le-ltb}
use Rattle.codebook.specs.Inner.{check_of}
use Rattle.codebook.proofs.check.Goals.{then-not-is_finite-via-then-not-is_finite, then-not-is_finite-via-else-not-is_finite+then-not-is_finite-2, then-not-is_finite-via-else-not-is_finite+else-not-is_finite-2+then-max-min}
use Rattle.codebook.proofs.check.Goals as goal

pub returns-then-bits-lt1 : goal.returns-then-bits-lt1
unfolding check_of
returns-then-bits-lt1 c = ⊎_elim (λ w. simp (lt-ltb c.args.bits 1 w)) (λ w. simp (le-ltb c.args.bits 1 w.0, lt-ltb 16 c.args.bits w.1)) c.then-bits-lt1.either

pub returns-then-not-is_finite : goal.returns-then-not-is_finite
unfolding check_of
returns-then-not-is_finite c = simp (le-ltb c.args.bits 1 c.if-bits-lt1.false, le-ltb 16 c.args.bits c.if-bits-gt16.false, ← c.is_finite.ensures)
    (elim c.then-not-is_finite.branch [ then-not-is_finite-via-then-not-is_finite w ↦ simp w.if-not-is_finite.true | then-not-is_finite-via-else-not-is_finite+then-not-is_finite-2 w ↦ simp (w.if-not-is_finite.false, ← w.is_finite-else-not-is_finite.ensures, w.if-not-is_finite-2.true) | then-not-is_finite-via-else-not-is_finite+else-not-is_finite-2+then-max-min w ↦ simp (w.if-not-is_finite.false, ← w.is_finite-else-not-is_finite.ensures, w.if-not-is_finite-2.false, w.if-max-min.true) ])

pub returns : goal.returns
unfolding check_of
returns c = simp (le-ltb c.args.bits 1 c.if-bits-lt1.false, le-ltb 16 c.args.bits c.if-bits-gt16.false, ← c.is_finite.ensures, ← c.is_finite-else-not-is_finite.ensures, c.if-not-is_finite.false, c.if-not-is_finite-2.false, c.if-max-min.false)
