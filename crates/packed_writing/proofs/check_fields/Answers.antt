-- `packed_writing::check_fields` meets its contract: the scalars' checks with the record's length, then those of the lengths. Assumes nothing.
use Prim.Native.Nat.{ℕ, ◌/◌}
use mathlib.Core.Path.{◌≡◌, sym, ap, ◌∙◌}
use Rattle.error.specs.Answer.{value, first}
use Rattle.error.proofs.Chains.{first-passed, first-refused, first-value}
use Rattle.error.specs.Outcomes.{says}
use Rattle.packed_size.specs.Size.{code_checks, needed_for, record_size_of}
use Rattle.packed_writing.specs.Writing.{length_checks, field_checks}
use Rattle.packed_writing.proofs.Writing.{fields-code, fields-rest}
use Rattle.error.proofs.Passed.{passed_on}
use Rattle.packed_writing.proofs.check_fields.Goals.{After-check_lengths, In_ok-size}
use Rattle.packed_writing.proofs.check_fields.Goals as goal

pub returns-in_err-size : goal.returns-in_err-size
unfolding record_size_of
returns-in_err-size c = let a = c.args in
    rw (passed_on c.from_residual.result c.from_residual.ensures.1) (sym (fields-code a.code a.radii a.indices a.signs (needed_for a.code) (value (needed_for a.code)) (sym c.in_err-size.ensures)))

-- the scalars have passed
passed : (c : goal.In_ok-size) → let a = c.args in first (code_checks a.code) (value (needed_for a.code)) ≡ value c.in_ok-size.size
unfolding record_size_of
passed c = sym c.record_size.ensures ∙ ap says c.in_ok-size.was

-- what is left are the lengths
lengths-left : (c : goal.After-check_lengths) → {n : ℕ} → (let a = c.args in first (code_checks a.code) (value (needed_for a.code)) ≡ value n) → let a = c.args in first (field_checks a.code a.radii a.indices a.signs) (value (needed_for a.code)) ≡ first (length_checks (a.code.dim / 2) c.counted_in-needed.result a.radii a.indices a.signs) (value (needed_for a.code))
lengths-left c told =
    let a = c.args in
    fields-rest a.code a.radii a.indices a.signs (needed_for a.code) (value (needed_for a.code)) told
    ∙ ap (λ (n : ℕ). first (length_checks (a.code.dim / 2) n a.radii a.indices a.signs) (value (needed_for a.code))) (sym c.counted_in-needed.ensures)

pub returns-in_err-check_lengths : goal.returns-in_err-check_lengths
returns-in_err-check_lengths c = let a = c.args in
    rw (passed_on c.from_residual-in_err-check_lengths.result c.from_residual-in_err-check_lengths.ensures.1) (sym (lengths-left (goal.at.returns-in_err-check_lengths c).After-check_lengths (passed (goal.at.returns-in_err-check_lengths c).In_ok-size) ∙ first-refused (length_checks (a.code.dim / 2) c.counted_in-needed.result a.radii a.indices a.signs) (value (needed_for a.code)) (sym c.in_err-check_lengths.ensures)))

pub returns : goal.returns
returns c = let a = c.args in
    let told = passed (goal.at.returns c).In_ok-size in
    ap value (sym (first-value (code_checks a.code) (needed_for a.code) told))
    ∙ sym (lengths-left (goal.at.returns c).After-check_lengths (passed (goal.at.returns c).In_ok-size) ∙ first-passed (length_checks (a.code.dim / 2) c.counted_in-needed.result a.radii a.indices a.signs) (value (needed_for a.code)) (sym c.check_lengths.ensures ∙ ap says c.in_ok-check_lengths.was))
