-- `packed_writing::write_record` meets its contract: what the checks of scalars and lengths refuse is refused, and else it is what `write_sized` does.
-- Assumes nothing.
use mathlib.Core.Path.{sym, ap, ◌∙◌}
use lib.ListN.{length}
use Rattle.error.specs.Outcomes.{says}
use Rattle.error.specs.Answer.{done}
use Rattle.error.proofs.Answers.{both-refused}
use Rattle.error.proofs.Chains.{first_done, first-value}
use Rattle.packed_size.specs.Size.{needed_for}
use Rattle.packed_writing.specs.Writing.{field_checks}
use Rattle.packed_writing.proofs.Written.{write-fields}
use Rattle.error.proofs.Clauses.{said_left}
use Rattle.error.proofs.Passed.{passed_on}
use Rattle.packed_writing.proofs.write_record.Goals as goal

pub write_sized-requires : goal.write_sized-requires
write_sized-requires c = let a = c.args in
    let cs = field_checks a.code (length a.radii.now) (length a.indices.now) (length a.signs.now) in
    let e = sym c.check_fields.ensures ∙ ap says c.in_ok-need.was in
    (sym (first_done cs (needed_for a.code)) ∙ ap done e, sym (first-value cs (needed_for a.code) e))

pub returns-in_err-need : goal.returns-in_err-need
returns-in_err-need c = let a = c.args in
    let cs = field_checks a.code (length a.radii.now) (length a.indices.now) (length a.signs.now) in
    let e = sym c.in_err-need.ensures in
    rw (passed_on c.from_residual.result c.from_residual.ensures.1) (said_left (both-refused _ _ (write-fields a.code a.radii.now a.indices.now a.signs.now (length a.out.now) (sym (first_done cs (needed_for a.code)) ∙ ap done e))))
