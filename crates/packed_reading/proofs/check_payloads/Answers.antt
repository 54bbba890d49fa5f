-- `packed_reading::check_payloads` meets its contract: the radii's payload is the part that the header gives, and the padding comes behind it. Assumes nothing.
use Prim.Native.Nat.{◌/◌}
use mathlib.Core.Path.{◌≡◌, sym, ap, ◌∙◌}
use native.Mathlib.Omega.{arith}
use lib.ListN.{length}
use Rattle.error.specs.Answer.{place}
use Rattle.radius.specs.Radii.{bad_radius}
use Rattle.radius_reading.proofs.Scan.{first-bad-whole}
use Rattle.packed.specs.Reading.{radii_of}
use Rattle.packed.proofs.Parts.{Ordered, ordered, radii_part, length-radii, header-pairs, header-width, header-radii}
use Rattle.packed.proofs.Payloads.{payload-radius, payload-rest}
use Rattle.packed_reading.proofs.check_payloads.Goals.{After-first_bad_payload-bad, Start}
use Rattle.packed_reading.proofs.check_payloads.Goals as goal

-- the header's places lie in the record, in their order
within : (c : goal.Start) → Ordered c.args.header (length c.args.bytes.now)
within c =
    let o = ordered c.args.bytes.now c.requires.own in
    record { first = o.first; second = o.second; third = o.third; last = o.last ∙ sym c.requires.sized }

found : (c : goal.After-first_bad_payload-bad) → let bytes = c.args.bytes.now in c.first_bad_payload-bad.result ≡ place bad_radius (radii_of bytes)
found c =
    let bytes = c.args.bytes.now in
    let part = radii_part bytes c.requires.own in
    c.first_bad_payload-bad.ensures
    ∙ first-bad-whole c.args.header.profile c.args.header.range _ (c.args.header.dim / 2) (ap length part ∙ length-radii bytes c.requires.sized ∙ sym (header-width bytes c.requires.own))
    ∙ header-radii bytes c.requires.own _ part

pub slice_bounds-first_bad_payload-count : goal.slice_bounds-first_bad_payload-count
slice_bounds-first_bad_payload-count c = let w = within (goal.at.slice_bounds-first_bad_payload-count c).Start in omega (arith, w.first, w.second, w.third, w.last)

pub slice_bounds-first_bad_payload-start : goal.slice_bounds-first_bad_payload-start
slice_bounds-first_bad_payload-start c = let w = within (goal.at.slice_bounds-first_bad_payload-start c).Start in omega (arith, w.first, w.second, w.third, w.last)

pub slice_bounds-first_bad_payload-end : goal.slice_bounds-first_bad_payload-end
slice_bounds-first_bad_payload-end c = let w = within (goal.at.slice_bounds-first_bad_payload-end c).Start in omega (arith, w.first, w.second, w.third, w.last)

pub returns-then-bad-header : goal.returns-then-bad-header
returns-then-bad-header c = let bytes = c.args.bytes.now in
    sym (payload-radius bytes (found (goal.at.returns-then-bad-header c).After-first_bad_payload-bad) (omega (arith, c.if-bad-header.true, header-pairs bytes c.requires.own)))

pub returns : goal.returns
returns c = let bytes = c.args.bytes.now in
    c.check_padding.ensures ∙ sym (payload-rest bytes (found (goal.at.returns c).After-first_bad_payload-bad) (omega (arith, c.if-bad-header.false, header-pairs bytes c.requires.own)))
