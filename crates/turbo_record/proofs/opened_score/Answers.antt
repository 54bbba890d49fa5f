-- `turbo_record::opened_score` meets its contract: the parts of the record are those of the score, by mode. Assumes nothing.
use mathlib.Core.Path.{sym, ◌∙◌}
use Rattle.turbo_opening.proofs.Answers.{opened-as-read}
use Rattle.turbo_record.proofs.Scoring.{record-alone, record-both}
use Rattle.turbo_record.proofs.opened_score.Goals as goal

pub polar_part-polar-requires : goal.polar_part-polar-requires
polar_part-polar-requires c = opened-as-read c.args.setup c.args.bytes.now c.requires

pub residual_part-requires : goal.residual_part-requires
residual_part-requires c = opened-as-read c.args.setup c.args.bytes.now c.requires

pub returns-in-PolarOnly : goal.returns-in-PolarOnly
returns-in-PolarOnly c = let a = c.args in
    c.polar_part-polar.ensures ∙ sym (record-alone a.setup a.directions.now a.rotated.now a.projected.now a.bytes.now c.requires c.in-PolarOnly.is)

pub returns-in-PolarWithQjl : goal.returns-in-PolarWithQjl
returns-in-PolarWithQjl c = let a = c.args in
    sym (record-both a.setup a.directions.now a.rotated.now a.projected.now a.bytes.now c.requires c.in-PolarWithQjl.is _ _ c.polar_part-polar.ensures c.residual_part.ensures)
