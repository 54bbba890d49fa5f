-- `polar_blocks::payload_sum` meets its contract: what does not fit is left to the caller, and the rest is summed. Assumes nothing.
use Prim.Native.Nat.{◌/◌, ◌^◌, ◌<◌}
use mathlib.Core.Path.{◌≡◌, sym, ◌∙◌}
use mathlib.Core.Bool.{true}
use native.Mathlib.Omega.{arith}
use borrow.Author.Tests.{le-leb, lt-leb}
use lib.ListN.{length}
use Rattle.digits.proofs.Masks.{power-shifted}
use Rattle.polar_blocks.specs.Payload.{fits_payload, payload_sum_of}
use Rattle.polar_blocks.proofs.Blocks.{fits_told}
use Rattle.polar_blocks.proofs.payload_sum.Goals.{Else-not-fits_payload}
use Rattle.polar_blocks.proofs.payload_sum.Goals as goal

-- the payloads fit
fitting : (c : goal.Else-not-fits_payload) → fits_payload c.args.profile c.args.radii.now c.args.indices.now c.args.bits c.args.pairs ≡ true
fitting c = sym c.fits_payload.ensures ∙ c.if-not-fits_payload.false

-- so that an index has few bits
bits-few : (c : goal.Else-not-fits_payload) → c.args.bits < 64
bits-few c = let narrow = (fits_told _ _ _ _ _ (fitting c)).narrow in omega (arith, narrow)

pub returns-then-not-fits_payload : goal.returns-then-not-fits_payload
unfolding payload_sum_of
returns-then-not-fits_payload c = rw (← c.fits_payload.ensures, c.if-not-fits_payload.true)

pub returns-then-rotated-pairs : goal.returns-then-rotated-pairs
unfolding payload_sum_of
returns-then-rotated-pairs c = rw (fitting (goal.at.returns-then-rotated-pairs c).Else-not-fits_payload, lt-leb _ _ c.if-rotated-pairs.true)

pub overflow_shl-levels : goal.overflow_shl-levels
overflow_shl-levels c = bits-few (goal.at.overflow_shl-levels c).Else-not-fits_payload

pub returns-then-directions-levels : goal.returns-then-directions-levels
unfolding payload_sum_of
returns-then-directions-levels c = let few : length c.args.directions.now / 2 < 2 ^ c.args.bits = rw (power-shifted c.args.bits 64 (bits-few (goal.at.returns-then-directions-levels c).Else-not-fits_payload)) at c.if-directions-levels.true in
    rw (fitting (goal.at.returns-then-directions-levels c).Else-not-fits_payload, le-leb _ _ c.if-rotated-pairs.false, lt-leb _ _ few)

pub blocks_sum-requires : goal.blocks_sum-requires
blocks_sum-requires c = record { fits = fitting (goal.at.blocks_sum-requires c).Else-not-fits_payload; query = c.if-rotated-pairs.false; table = rw (power-shifted c.args.bits 64 (bits-few (goal.at.blocks_sum-requires c).Else-not-fits_payload)) at c.if-directions-levels.false }
