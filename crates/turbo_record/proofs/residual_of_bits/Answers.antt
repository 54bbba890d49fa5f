-- `turbo_record::residual_of_bits` meets its contract: the signs' bytes are the part that the header gives. Assumes nothing.
use mathlib.Core.Path.{sym, ◌∙◌}
use native.Mathlib.Omega.{arith}
use lib.ListN.{length}
use Rattle.packed.proofs.Accepted.{read-header, read_accepts}
use Rattle.packed.proofs.Parts.{Ordered, ordered, signs_part}
use Rattle.packed_values.proofs.Scratch.{read-projections-most}
use Rattle.turbo_record.proofs.Peeked.{bits-residual}
use Rattle.turbo_record.proofs.residual_of_bits.Goals.{Start}
use Rattle.turbo_record.proofs.residual_of_bits.Goals as goal

-- the header's places lie in the record, in their order
within : (c : goal.Start) → Ordered c.args.header (length c.args.bytes.now)
within c =
    let o = ordered c.args.bytes.now (read-header c.args.bytes.now c.requires.0) in
    record { first = o.first; second = o.second; third = o.third; last = o.last ∙ sym (read_accepts c.args.bytes.now c.requires.0).total }

pub overflow_cast-projections : goal.overflow_cast-projections
overflow_cast-projections c = omega (arith, read-projections-most c.args.bytes.now c.requires.0)

pub slice_bounds-bit_sum-count : goal.slice_bounds-bit_sum-count
slice_bounds-bit_sum-count c = let w = within (goal.at.slice_bounds-bit_sum-count c).Start in omega (arith, w.first, w.second, w.third, w.last)

pub slice_bounds-bit_sum-start : goal.slice_bounds-bit_sum-start
slice_bounds-bit_sum-start c = let w = within (goal.at.slice_bounds-bit_sum-start c).Start in omega (arith, w.first, w.second, w.third, w.last)

pub slice_bounds-bit_sum-end : goal.slice_bounds-bit_sum-end
slice_bounds-bit_sum-end c = let w = within (goal.at.slice_bounds-bit_sum-end c).Start in omega (arith, w.first, w.second, w.third, w.last)

pub returns : goal.returns
returns c = let bytes = c.args.bytes.now in
    let own = read-header bytes c.requires.0 in
    bits-residual bytes own c.args.projected.now _ _ _ (signs_part bytes own) c.requires.1 c.scale-scale.ensures c.bit_sum.ensures
