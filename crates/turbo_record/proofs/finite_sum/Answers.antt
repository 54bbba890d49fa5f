-- `turbo_record::finite_sum` meets its contract: a sum stands where it is finite. Assumes nothing.
use mathlib.Core.Path.{sym, ap, ◌∙◌}
use mathlib.Core.Bool.{Bool, cond}
use Rattle.std.specs.Prelude.{None, Some}
use Rattle.turbo_record.specs.Inner.{finite_sum_of}
use Rattle.turbo_record.proofs.finite_sum.Goals as goal

pub returns-then-is_finite : goal.returns-then-is_finite
returns-then-is_finite c = let x = c.in-Some.x in
    sym (ap finite_sum_of c.in-Some.is ∙ ap (λ (t : Bool). cond t (Some x) None) (sym c.is_finite.ensures ∙ c.if-is_finite.true))
