-- `packed_size::check_code` meets its contract: a check that passes leaves the rest of the list. Assumes nothing.
use mathlib.Core.Path.{◌≡◌, sym, ap, ◌∙◌}
use mathlib.Core.Bool.{false}
use Rattle.error.specs.Answer.{first, accepted}
use Rattle.error.specs.Outcomes.{says}
use Rattle.radius.specs.Codec.{bad_profile}
use Rattle.packed.specs.Reading.{shape_checks}
use Rattle.packed_size.specs.Size.{bad_norm_alone}
use Rattle.packed_size.proofs.Scalars.{code-norm_alone, code_shape, code-projections, code-clear}
use Rattle.error.proofs.Passed.{passed_on}
use Rattle.packed_size.proofs.check_code.Goals.{Else-is_bad_profile, Else-norm_alone, In_ok-check_shape}
use Rattle.packed_size.proofs.check_code.Goals as goal

-- the profile is one that a record has
known : (c : goal.Else-is_bad_profile) → bad_profile c.args.code.profile ≡ false
known c = sym c.is_bad_profile.ensures ∙ c.if-is_bad_profile.false

-- a norm stands beside signs
beside : (c : goal.Else-norm_alone) → let code = c.args.code in bad_norm_alone code.mode code.norm ≡ false
beside c = sym c.norm_alone.ensures ∙ c.if-norm_alone.false

-- the dimension and the bits have passed
shaped : (c : goal.In_ok-check_shape) → let code = c.args.code in first (shape_checks code.mode code.dim code.bits) accepted ≡ accepted
shaped c = sym c.check_shape.ensures ∙ ap says c.in_ok-check_shape.was

pub returns-then-norm_alone : goal.returns-then-norm_alone
returns-then-norm_alone c = sym (code-norm_alone c.args.code (known (goal.at.returns-then-norm_alone c).Else-is_bad_profile) (sym c.norm_alone.ensures ∙ c.if-norm_alone.true))

pub returns-in_err-check_shape : goal.returns-in_err-check_shape
returns-in_err-check_shape c = rw (passed_on c.from_residual.result c.from_residual.ensures.1) (sym (code_shape c.args.code (known (goal.at.returns-in_err-check_shape c).Else-is_bad_profile) (beside (goal.at.returns-in_err-check_shape c).Else-norm_alone) (sym c.in_err-check_shape.ensures)))

pub returns-then-outside_projections : goal.returns-then-outside_projections
returns-then-outside_projections c = sym (code-projections c.args.code (known (goal.at.returns-then-outside_projections c).Else-is_bad_profile) (beside (goal.at.returns-then-outside_projections c).Else-norm_alone) (shaped (goal.at.returns-then-outside_projections c).In_ok-check_shape) (sym c.outside_projections.ensures ∙ c.if-outside_projections.true))

pub returns : goal.returns
returns c = sym (code-clear c.args.code (known (goal.at.returns c).Else-is_bad_profile) (beside (goal.at.returns c).Else-norm_alone) (shaped (goal.at.returns c).In_ok-check_shape) (sym c.outside_projections.ensures ∙ c.if-outside_projections.false))
