-- `polar_blocks::all_good` meets its contract: a radius is refused where one of two tests says so. Assumes nothing.
use mathlib.Core.Path.{sym, ap, ◌∙◌}
use mathlib.Core.Bool.{Bool, ◌&&◌}
use Rattle.error.specs.Answer.{clear}
use Rattle.radius.specs.Radii.{bad_radius}
use Rattle.polar_blocks.specs.Inner.{below_zero, not_below_infinity}
use Rattle.radius_reading.proofs.Tests.{radius-tests}
use Rattle.polar_blocks.proofs.Radii.{clear_both}
use Rattle.polar_blocks.proofs.all_good.Goals as goal

pub returns-then-none_below_zero : goal.returns-then-none_below_zero
returns-then-none_below_zero c = let radii = c.args.radii.now in
    c.all_below_infinity.ensures
    ∙ sym (clear_both bad_radius below_zero not_below_infinity radius-tests radii ∙ ap (λ (b : Bool). b && clear not_below_infinity radii) (sym c.none_below_zero.ensures ∙ c.if-none_below_zero.true))

pub returns : goal.returns
returns c = let radii = c.args.radii.now in
    sym (clear_both bad_radius below_zero not_below_infinity radius-tests radii ∙ ap (λ (b : Bool). b && clear not_below_infinity radii) (sym c.none_below_zero.ensures ∙ c.if-none_below_zero.false))
