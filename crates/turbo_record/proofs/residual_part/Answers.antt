-- `turbo_record::residual_part` meets its contract: the part of the array that was filled is the part that the residual reads. Assumes nothing.
use Prim.Native.Nat.{ℕ}
use mathlib.Core.Path.{ap, ◌∙◌}
use mathlib.Core.List.{List}
use native.Mathlib.Omega.{arith}
use lib.IntN.{ℤ}
use lib.Ieee.{Float}
use Rattle.lists.proofs.Parts.{part-long}
use Rattle.qjl_residual.specs.Residual.{residual_of}
use Rattle.packed.specs.Fields.{norm_of}
use Rattle.packed.specs.Reading.{signs_of}
use Rattle.packed.proofs.Accepted.{read-header}
use Rattle.packed.proofs.Parts.{header_projections_lem, header_norm_lem}
use Rattle.packed_values.proofs.Scratch.{read-projections-most, signs-lent}
use Rattle.turbo_record.proofs.residual_part.Goals as goal

pub slice_bounds-signs-end : goal.slice_bounds-signs-end
slice_bounds-signs-end c = let bytes = c.args.bytes.now in let most = read-projections-most bytes c.requires in omega (arith, most)

pub overflow_cast-projections : goal.overflow_cast-projections
overflow_cast-projections c = let bytes = c.args.bytes.now in let most = read-projections-most bytes c.requires in omega (arith, most)

pub returns : goal.returns
returns c = let bytes = c.args.bytes.now in let most = read-projections-most bytes c.requires in let is = header_projections_lem bytes (read-header bytes c.requires) in
    let ss = signs-lent bytes c.requires _ _ (part-long _ _ (omega (arith, most))) c.signs_at.ensures.left in
    c.residual.ensures
    ∙ ap (λ (l : List ℤ). residual_of c.args.header.projections c.args.header.norm c.args.projected.now l) ss
    ∙ ap (λ (x : Float). residual_of c.args.header.projections x c.args.projected.now (signs_of bytes)) (header_norm_lem bytes (read-header bytes c.requires))
    ∙ ap (λ (k : ℕ). residual_of k (norm_of bytes) c.args.projected.now (signs_of bytes)) is
