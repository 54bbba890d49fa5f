-- `polar_blocks::add_block` meets its contract: what was restored is judged, and its terms are added. Assumes nothing.
use Prim.Native.Nat.{ℕ, ◌+◌, ◌-◌, ◌*◌, ◌≤◌}
use mathlib.Core.Path.{◌≡◌, sym, ◌∙◌}
use mathlib.Core.Bool.{false}
use mathlib.Core.List.{List, ◌++◌}
use native.Mathlib.Nat.{mul-add}
use native.Mathlib.Omega.{arith}
use borrow.Rule.Slice.PartMut.{post_of}
use lib.ListN.{length, take, drop, replicate}
use lib.Ieee.{Float, binary32, of_bits}
use Rattle.error.specs.Answer.{after}
use Rattle.lists.proofs.Parts.{part-long, part-read, part-again, part-enough}
use Rattle.radius.specs.Codec.{bad_profile, width_of, restore_of}
use Rattle.radius.specs.declared.Range.{Range}
use Rattle.radius.specs.declared.RadiusCodecProfileV1.{RadiusCodecProfileV1}
use Rattle.polar_blocks.specs.Inner.{part_radii}
use Rattle.polar_blocks.proofs.Radii.{part-restored}
use Rattle.polar_blocks.proofs.Blocks.{added-sum, added_none, block-lent}
use Rattle.polar_blocks.proofs.add_block.Goals.{After-width_of-width}
use Rattle.polar_blocks.proofs.add_block.Goals as goal

-- the width, as it is read
width : (c : goal.After-width_of-width) → c.width_of-width.result ≡ width_of c.args.profile
width c = c.width_of-width.ensures

-- where the block's bytes end
ends : (c : goal.After-width_of-width) → c.width_of-width.result * c.args.at + c.width_of-width.result * c.args.count ≤ length c.args.radii.now
ends c = rw (width c) (omega (arith, c.requires.sized, mul-add (width_of c.args.profile) c.args.at c.args.count))

-- what the array holds at first
abbrev no_radii : List Float
no_radii = replicate 64 (of_bits binary32 0)

-- what the part of the array holds that is read
block-is : (profile : RadiusCodecProfileV1) (range : Range) (radii : List ℕ) (at count width : ℕ) (held new rest : List Float) → bad_profile profile ≡ false → width ≡ width_of profile → width_of profile * (at + count) ≤ length radii
    → count ≤ length held → length new ≡ length (take (count - 0) held)
    → new ≡ after (restore_of profile count range (take (width * at + width * count - width * at) (drop (width * at) radii)) (length (take (count - 0) held))) (take (count - 0) held)
    → take (count - 0) (new ++ rest) ≡ part_radii profile range radii at count
block-is profile range radii at count width held new rest known e sized enough l left =
    part-read count held enough new rest l ∙ left ∙ part-restored profile range radii at count width _ _ known e sized (part-long count held enough)

pub overflow_mul-start : goal.overflow_mul-start
overflow_mul-start c = omega (arith, ends (goal.at.overflow_mul-start c).After-width_of-width)

pub overflow_mul-stop : goal.overflow_mul-stop
overflow_mul-stop c = omega (arith, ends (goal.at.overflow_mul-stop c).After-width_of-width)

pub overflow_add-stop : goal.overflow_add-stop
overflow_add-stop c = omega (arith, ends (goal.at.overflow_add-stop c).After-width_of-width)

pub slice_bounds-restore-end : goal.slice_bounds-restore-end
slice_bounds-restore-end c = ends (goal.at.slice_bounds-restore-end c).After-width_of-width

pub slice_bounds-all_good-end : goal.slice_bounds-all_good-end
slice_bounds-all_good-end c = part-enough c.args.count no_radii c.requires.small c.restore.new.out (post_of 0 (c.args.count - 0) no_radii) c.restore.auto.out

pub returns-then-not-all_good : goal.returns-then-not-all_good
returns-then-not-all_good c = added_none c.args.directions.now c.args.rotated.now c.args.profile c.args.range c.args.radii.now c.args.indices.now c.args.bits c.args.at c.args.count (block-is c.args.profile c.args.range c.args.radii.now c.args.at c.args.count c.width_of-width.result no_radii c.restore.new.out (post_of 0 (c.args.count - 0) no_radii) c.requires.known c.width_of-width.ensures c.requires.sized c.requires.small c.restore.auto.out c.restore.ensures.left) c.args.sum (sym c.all_good.ensures ∙ c.if-not-all_good.true)

pub slice_bounds-block_sum-end : goal.slice_bounds-block_sum-end
slice_bounds-block_sum-end c = part-enough c.args.count no_radii c.requires.small c.restore.new.out (post_of 0 (c.args.count - 0) no_radii) c.restore.auto.out

pub block_sum-requires : goal.block_sum-requires
block_sum-requires c = block-lent _ c.requires (part-again c.args.count no_radii c.requires.small c.restore.new.out (post_of 0 (c.args.count - 0) no_radii) c.restore.auto.out)

pub returns : goal.returns
returns c = added-sum c.args.directions.now c.args.rotated.now c.args.profile c.args.range c.args.radii.now c.args.indices.now c.args.bits c.args.at c.args.count (block-is c.args.profile c.args.range c.args.radii.now c.args.at c.args.count c.width_of-width.result no_radii c.restore.new.out (post_of 0 (c.args.count - 0) no_radii) c.requires.known c.width_of-width.ensures c.requires.sized c.requires.small c.restore.auto.out c.restore.ensures.left) c.args.sum _ (sym c.all_good.ensures ∙ c.if-not-all_good.false) c.block_sum.ensures
