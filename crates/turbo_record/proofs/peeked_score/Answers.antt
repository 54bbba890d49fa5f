-- `turbo_record::peeked_score` meets its contract: the parts of the record are those of the score, by mode. Assumes nothing.
use mathlib.Core.Path.{sym, ◌∙◌, subst}
use Rattle.std.specs.Prelude.{Float, Option, Some}
use Rattle.polar.specs.Polar.{polar_sum_of}
use Rattle.packed.specs.Reading.{radii_of, indices_of}
use Rattle.packed.proofs.Frame.{peek-whole}
use Rattle.turbo_record.specs.Inner.{Summed}
use Rattle.turbo_record.proofs.Scoring.{record-alone, record-both}
use Rattle.turbo_record.proofs.Peeked.{peeked-read, peeked_opened}
use Rattle.turbo_record.proofs.peeked_score.Goals.{In-Some}
use Rattle.turbo_record.proofs.peeked_score.Goals as goal

-- the polar sum, where there is one
summed : (c : goal.In-Some) → let a = c.args in Summed (Some c.in-Some.polar) a.bytes.now (polar_sum_of a.rotated.now a.directions.now (indices_of a.bytes.now) (radii_of a.bytes.now))
summed c =
    let a = c.args in
    subst (λ (r : Option Float). Summed r a.bytes.now (polar_sum_of a.rotated.now a.directions.now (indices_of a.bytes.now) (radii_of a.bytes.now))) c.in-Some.is c.peeked_polar.ensures

pub peeked_polar-requires : goal.peeked_polar-requires
peeked_polar-requires c = peek-whole c.args.bytes.now c.requires.peeked

pub residual_of_bits-requires : goal.residual_of_bits-requires
residual_of_bits-requires c = (peeked-read c.args.setup c.args.bytes.now c.requires (summed (goal.at.residual_of_bits-requires c).In-Some).1, c.if-projected-header.false)

pub returns-in-PolarOnly : goal.returns-in-PolarOnly
returns-in-PolarOnly c = let a = c.args in
    ((summed (goal.at.returns-in-PolarOnly c).In-Some).0 ∙ sym (record-alone a.setup a.directions.now a.rotated.now a.projected.now a.bytes.now (peeked_opened a.setup a.bytes.now c.requires (summed (goal.at.returns-in-PolarOnly c).In-Some).1) c.in-PolarOnly.is), (summed (goal.at.returns-in-PolarOnly c).In-Some).1)

pub returns-else-projected-header : goal.returns-else-projected-header
returns-else-projected-header c = let a = c.args in (
  sym
      (record-both a.setup a.directions.now a.rotated.now a.projected.now a.bytes.now (peeked_opened a.setup a.bytes.now c.requires (summed (goal.at.returns-else-projected-header c).In-Some).1) c.in-PolarWithQjl.is _ _
      (summed (goal.at.returns-else-projected-header c).In-Some).0 c.residual_of_bits.ensures),
  (summed (goal.at.returns-else-projected-header c).In-Some).1,
)
