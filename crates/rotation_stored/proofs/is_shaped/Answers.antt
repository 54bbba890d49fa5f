-- `rotation_stored::is_shaped` meets its contract: where it is true, every test has passed. Assumes nothing.
use mathlib.Core.Path.{sym, ◌∙◌}
use mathlib.Core.Bool.{false≢true}
use native.Mathlib.Nat.{mul-le-mul}
use native.Mathlib.Omega.{arith}
use borrow.Author.Tests.{ltb-false, eqb-true, ne_eqb}
use Rattle.rotation_stored.proofs.is_shaped.Goals as goal

pub returns-then-dim-eq0 : goal.returns-then-dim-eq0
returns-then-dim-eq0 c = λ e. absurd (false≢true e)

pub returns-then-dim-eq1 : goal.returns-then-dim-eq1
returns-then-dim-eq1 c = λ e. absurd (false≢true e)

pub returns-then-outside_stored : goal.returns-then-outside_stored
returns-then-outside_stored c = λ e. absurd (false≢true e)

pub overflow_mul-dim : goal.overflow_mul-dim
overflow_mul-dim c = let small = ltb-false 512 c.args.dim (sym c.outside_stored.ensures ∙ c.if-outside_stored.false) in
    let most = mul-le-mul small small in
    record { fits = omega (arith, most) }

pub returns-then-matrix-dim : goal.returns-then-matrix-dim
returns-then-matrix-dim c = λ e. absurd (false≢true e)

pub returns-then-input-dim : goal.returns-then-input-dim
returns-then-input-dim c = λ e. absurd (false≢true e)

pub returns : goal.returns
returns c = λ e.
    record {
      above = ne_eqb _ _ c.if-dim-eq0.false;
      even = ne_eqb _ _ c.if-dim-eq1.false;
      small = sym c.outside_stored.ensures ∙ c.if-outside_stored.false;
      matrix_long = c.if-matrix-dim.false;
      input_long = c.if-input-dim.false;
      output_long = eqb-true _ _ e;
    }
