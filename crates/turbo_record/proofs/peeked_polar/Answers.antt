-- `turbo_record::peeked_polar` meets its contract: the payloads are the parts that the header gives. Assumes nothing.
use mathlib.Core.Path.{sym, ◌∙◌}
use native.Mathlib.Omega.{arith}
use lib.ListN.{length}
use Rattle.packed.proofs.Parts.{Ordered, ordered, radii_part, indices_part}
use Rattle.turbo_record.proofs.Peeked.{payload-summed}
use Rattle.turbo_record.proofs.peeked_polar.Goals.{Start}
use Rattle.turbo_record.proofs.peeked_polar.Goals as goal

-- the header's places lie in the record, in their order
within : (c : goal.Start) → Ordered c.args.header (length c.args.bytes.now)
within c =
    let o = ordered c.args.bytes.now c.requires.own in
    record { first = o.first; second = o.second; third = o.third; last = o.last ∙ sym c.requires.sized }

pub slice_bounds-payload_sum-count : goal.slice_bounds-payload_sum-count
slice_bounds-payload_sum-count c = let w = within (goal.at.slice_bounds-payload_sum-count c).Start in omega (arith, w.first, w.second, w.third, w.last)

pub slice_bounds-payload_sum-start : goal.slice_bounds-payload_sum-start
slice_bounds-payload_sum-start c = let w = within (goal.at.slice_bounds-payload_sum-start c).Start in omega (arith, w.first, w.second, w.third, w.last)

pub slice_bounds-payload_sum-end : goal.slice_bounds-payload_sum-end
slice_bounds-payload_sum-end c = let w = within (goal.at.slice_bounds-payload_sum-end c).Start in omega (arith, w.first, w.second, w.third, w.last)

pub slice_bounds-payload_sum-count-2 : goal.slice_bounds-payload_sum-count-2
slice_bounds-payload_sum-count-2 c = let w = within (goal.at.slice_bounds-payload_sum-count-2 c).Start in omega (arith, w.first, w.second, w.third, w.last)

pub slice_bounds-payload_sum-start-2 : goal.slice_bounds-payload_sum-start-2
slice_bounds-payload_sum-start-2 c = let w = within (goal.at.slice_bounds-payload_sum-start-2 c).Start in omega (arith, w.first, w.second, w.third, w.last)

pub slice_bounds-payload_sum-end-2 : goal.slice_bounds-payload_sum-end-2
slice_bounds-payload_sum-end-2 c = let w = within (goal.at.slice_bounds-payload_sum-end-2 c).Start in omega (arith, w.first, w.second, w.third, w.last)

pub returns : goal.returns
returns c = let bytes = c.args.bytes.now in
    let own = c.requires.own in
    payload-summed bytes own c.args.directions.now c.args.rotated.now _ _ (radii_part bytes own) (indices_part bytes own) _ c.payload_sum.ensures
