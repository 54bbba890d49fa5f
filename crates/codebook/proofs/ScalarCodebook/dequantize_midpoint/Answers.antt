-- `codebook::ScalarCodebook::dequantize_midpoint` meets its contract: it says what the check says, then 15, then the midpoint. Assumes nothing.
use mathlib.Core.Path.{sym, ap, ◌∙◌}
use mathlib.Core.List.{[], ◌∷◌}
use native.Mathlib.Omega.{arith}
use borrow.Author.Tests.{le-leb, lt-leb}
use Rattle.error.specs.Answer.{value, first}
use Rattle.error.specs.Outcomes.{says}
use Rattle.codebook.specs.Codebook.{middle_of, dequantize_midpoint_of}
use Rattle.error.specs.Checks.{wrong_index}
use Rattle.codebook.proofs.Checks.{check-refused, check-passed, check-narrow}
use Rattle.float.proofs.Levels.{levels-most, levels-in_float}
use Rattle.error.proofs.Passed.{passed_on}
use Rattle.codebook.proofs.ScalarCodebook.dequantize_midpoint.Goals as goal

pub returns-in_err-check : goal.returns-in_err-check
unfolding dequantize_midpoint_of
returns-in_err-check c = let a = c.args in
    rw (passed_on c.from_residual.result c.from_residual.ensures.1) (sym (check-refused a.self.bits a.self.min a.self.max (first (wrong_index a.self.bits a.index ∷ []) (value (middle_of a.self.bits a.self.min a.self.max a.index)))
    (sym c.in_err-check.ensures)))

pub level_count-levels-requires : goal.level_count-levels-requires
level_count-levels-requires c = let a = c.args in check-narrow a.self.bits a.self.min a.self.max (sym c.check.ensures ∙ ap says c.in_ok-check.was)

pub returns-then-levels-index : goal.returns-then-levels-index
unfolding dequantize_midpoint_of
returns-then-levels-index c = let a = c.args in
    simp (check-passed a.self.bits a.self.min a.self.max (first (wrong_index a.self.bits a.index ∷ []) (value (middle_of a.self.bits a.self.min a.self.max a.index))) (sym c.check.ensures ∙ ap says c.in_ok-check.was), ← c.level_count-levels.ensures, le-leb _ _ c.if-levels-index.true)

pub int_to_float-width : goal.int_to_float-width
int_to_float-width c = let a = c.args in
    levels-in_float c.level_count-levels.result (omega (arith, c.level_count-levels.ensures, levels-most a.self.bits (check-narrow a.self.bits a.self.min a.self.max (sym c.check.ensures ∙ ap says c.in_ok-check.was))))

pub returns : goal.returns
unfolding dequantize_midpoint_of middle_of
returns c = let a = c.args in
    simp (check-passed a.self.bits a.self.min a.self.max (first (wrong_index a.self.bits a.index ∷ []) (value (middle_of a.self.bits a.self.min a.self.max a.index))) (sym c.check.ensures ∙ ap says c.in_ok-check.was), ← c.level_count-levels.ensures, lt-leb _ _ c.if-levels-index.false)
