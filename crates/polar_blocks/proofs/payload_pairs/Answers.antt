-- `polar_blocks::payload_pairs` meets its contract: the radii are restored into the second half of the output, and spread from there. Assumes nothing.
use Prim.Native.Nat.{◌-◌, ◌*◌, ◌/◌}
use mathlib.Core.Path.{◌≡◌, sym, ap, ◌∙◌}
use mathlib.Core.Bool.{true}
use native.Mathlib.Omega.{arith}
use borrow.Author.Tests.{eq-eqb, ne_eqb}
use borrow.Rule.Slice.PartMut.{same_len_mid}
use lib.ListN.{length}
use Rattle.bitpack.specs.Packing.{indices_in}
use Rattle.polar.specs.Polar.{decoded_pairs}
use Rattle.polar_blocks.specs.Payload.{fits_payload}
use Rattle.polar_blocks.proofs.Radii.{all-restored}
use Rattle.polar_blocks.proofs.Blocks.{fits_told}
use Rattle.polar_blocks.proofs.Spreading.{half-held, half-long, pairs-left, pairs_made}
use Rattle.polar_blocks.proofs.payload_pairs.Goals.{Else-not-fits_payload}
use Rattle.polar_blocks.proofs.payload_pairs.Goals as goal

-- two facts at once, under the names of the clauses
told_left : {A B : Type 0} → A × B → record { told : A; left : B }
told_left p = record { told = p.0; left = p.1 }

-- the payloads fit, and the output has two floats for each pair
fitting : (c : goal.Else-not-fits_payload) → fits_payload c.args.profile c.args.radii.now c.args.indices.now c.args.bits (length c.args.out.now / 2) ≡ true
fitting c = sym c.fits_payload.ensures ∙ c.if-not-fits_payload.false

double : (c : goal.Else-not-fits_payload) → length c.args.out.now ≡ 2 * (length c.args.out.now / 2)
double c = omega (arith, c.if-count-ne0.false)

pub returns-then-count-ne0 : goal.returns-then-count-ne0
returns-then-count-ne0 c = told_left (pairs-left c.args.directions.now c.args.profile c.args.range c.args.radii.now c.args.indices.now c.args.bits c.args.out.now (rw (ne_eqb _ 0 c.if-count-ne0.true)))

pub returns-then-not-fits_payload : goal.returns-then-not-fits_payload
returns-then-not-fits_payload c = told_left (pairs-left c.args.directions.now c.args.profile c.args.range c.args.radii.now c.args.indices.now c.args.bits c.args.out.now (rw (eq-eqb _ 0 c.if-count-ne0.false) (sym c.fits_payload.ensures ∙ c.if-not-fits_payload.true)))

pub spread-requires : goal.spread-requires
spread-requires c = let count = length c.args.out.now in
    let f = fits_told _ _ _ _ _ (fitting (goal.at.spread-requires c).Else-not-fits_payload) in
    record { double = same_len_mid (count / 2) (count - count / 2) c.args.out.now c.restore.new.out c.restore.auto.out ∙ double (goal.at.spread-requires c).Else-not-fits_payload; few = f.few; narrow = f.narrow; enough = f.enough }

pub returns : goal.returns
returns c = let r = c.restore in
    let count = length c.args.out.now in
    let f = fits_told _ _ _ _ _ (fitting (goal.at.returns c).Else-not-fits_payload) in
    let restored = r.ensures.left ∙ all-restored c.args.profile c.args.range c.args.radii.now (count / 2) _ _ f.known f.sized (half-long c.args.out.now (count / 2) (double (goal.at.returns c).Else-not-fits_payload)) in
    told_left (pairs_made c.args.directions.now c.args.profile c.args.range c.args.radii.now c.args.indices.now c.args.bits c.args.out.now _ (rw (eq-eqb _ 0 c.if-count-ne0.false) (fitting (goal.at.returns c).Else-not-fits_payload))
    (c.spread.ensures ∙ ap (decoded_pairs c.args.directions.now (indices_in c.args.bits (count / 2) c.args.indices.now)) (half-held c.args.out.now _ (count / 2) (double (goal.at.returns c).Else-not-fits_payload) ∙ restored)))
