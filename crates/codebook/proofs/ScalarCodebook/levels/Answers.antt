-- `codebook::ScalarCodebook::levels` meets its contract: it says what the check says, or the power of two. Assumes nothing.
use Prim.Native.Nat.{◌^◌}
use mathlib.Core.Path.{sym, ap, ◌∙◌}
use Rattle.error.specs.Answer.{value}
use Rattle.error.specs.Outcomes.{says}
use Rattle.codebook.specs.Codebook.{levels_of}
use Rattle.codebook.proofs.Checks.{check-refused, check-passed, check-narrow}
use Rattle.error.proofs.Passed.{passed_on}
use Rattle.codebook.proofs.ScalarCodebook.levels.Goals as goal

pub level_count-requires : goal.level_count-requires
level_count-requires c = let a = c.args in
    check-narrow a.self.bits a.self.min a.self.max (sym c.check.ensures ∙ ap says c.in_ok-check.was)

pub returns : goal.returns
unfolding levels_of
returns c = let a = c.args in
    ap value c.level_count.ensures
    ∙ sym (check-passed a.self.bits a.self.min a.self.max (value (2 ^ a.self.bits)) (sym c.check.ensures ∙ ap says c.in_ok-check.was))

pub returns-in_err-check : goal.returns-in_err-check
unfolding levels_of
returns-in_err-check c = let a = c.args in
    rw (passed_on c.from_residual.result c.from_residual.ensures.1) (sym (check-refused a.self.bits a.self.min a.self.max (value (2 ^ a.self.bits)) (sym c.in_err-check.ensures)))
