-- `turbo::is_fitting` meets its contract. Assumes nothing.
use mathlib.Core.Path.{sym, ◌∙◌}
use mathlib.Core.Bool.{true≢false}
use borrow.Author.Tests.{eqb-true}
use Rattle.error.proofs.Passed.{not_refused}
use Rattle.turbo.proofs.is_fitting.Goals as goal

pub returns-then-is_err : goal.returns-then-is_err
returns-then-is_err c = λ e. absurd (true≢false (sym e))

pub returns-then-rotated-setup : goal.returns-then-rotated-setup
returns-then-rotated-setup c = λ e. absurd (true≢false (sym e))

pub returns : goal.returns
returns c = λ e.
    record {
      table = sym c.check_directions.ensures ∙ not_refused _ (sym c.is_err.ensures.value ∙ c.if-is_err.false);
      rotated_long = c.if-rotated-setup.false;
      projected_long = eqb-true _ _ e ∙ c.counted_projections.ensures;
    }
