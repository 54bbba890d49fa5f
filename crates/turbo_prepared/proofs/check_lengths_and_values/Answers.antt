-- `turbo_prepared::check_lengths_and_values` meets its contract: each return is one case of the laws of these checks. Assumes nothing.
use mathlib.Core.Path.{sym, ◌∙◌}
use Rattle.turbo_prepared.proofs.Answers.{lengths-rotated, lengths-projected, lengths-passed}
use Rattle.turbo_prepared.proofs.check_lengths_and_values.Goals as goal

pub returns-then-rotated-dim : goal.returns-then-rotated-dim
returns-then-rotated-dim c = let a = c.args in sym (lengths-rotated a.setup a.rotated.now a.projected.now c.if-rotated-dim.true)

pub returns-then-projected-rows : goal.returns-then-projected-rows
returns-then-projected-rows c = let a = c.args in
    sym (lengths-projected a.setup a.rotated.now a.projected.now c.if-rotated-dim.false c.counted_projections-rows.ensures c.if-projected-rows.true)

pub returns : goal.returns
returns c = let a = c.args in
    c.check_values.ensures ∙ sym (lengths-passed a.setup a.rotated.now a.projected.now c.if-rotated-dim.false c.counted_projections-rows.ensures c.if-projected-rows.false)
