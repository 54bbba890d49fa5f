-- `turbo_record::polar_part` meets its contract: the parts of the two arrays that were filled are the parts that the sum reads. Assumes nothing.
use Prim.Native.Nat.{ℕ}
use mathlib.Core.Path.{ap, ◌∙◌}
use mathlib.Core.List.{List}
use native.Mathlib.Omega.{arith}
use lib.Ieee.{Float}
use Rattle.lists.proofs.Parts.{part-long}
use Rattle.polar.specs.Polar.{polar_sum_of}
use Rattle.packed.specs.Reading.{indices_of}
use Rattle.packed_values.proofs.Scratch.{read_pairs-most, radii-lent, indices-lent}
use Rattle.turbo_record.proofs.polar_part.Goals as goal

pub slice_bounds-radii-end : goal.slice_bounds-radii-end
slice_bounds-radii-end c = omega (arith, read_pairs-most c.args.bytes.now c.requires)

pub slice_bounds-indices-end : goal.slice_bounds-indices-end
slice_bounds-indices-end c = omega (arith, read_pairs-most c.args.bytes.now c.requires)

pub returns : goal.returns
returns c = let a = c.args in
    let most = read_pairs-most a.bytes.now c.requires in
    c.polar_sum.ensures
    ∙ ap (λ (is : List ℕ). polar_sum_of a.rotated.now a.directions.now is c.radii_at.new.out) (indices-lent a.bytes.now c.requires _ _ (part-long _ _ (omega (arith, most))) c.indices_at.ensures.left)
    ∙ ap (λ (rs : List Float). polar_sum_of a.rotated.now a.directions.now (indices_of a.bytes.now) rs) (radii-lent a.bytes.now c.requires _ _ (part-long _ _ (omega (arith, most))) c.radii_at.ensures.left)
