-- `packed_reading::check_frame` meets its contract: each return is one case of the checks, in the record's terms. Assumes nothing.
use mathlib.Core.Path.{◌≡◌, sym, ap, ◌∙◌}
use lib.ListN.{length}
use Rattle.radius.specs.Radii.{bad_radius}
use Rattle.packed.specs.Fields.{map_of, profile_of, bounds_of, norm_of}
use Rattle.packed.specs.Layout.{record_length}
use Rattle.packed.specs.Radii.{bad_bounds_for}
use Rattle.packed.proofs.Parts.{ordered, header-bounds, header_norm_lem}
use Rattle.packed.proofs.Payloads.{frame-size, frame-bounds, frame-norm, frame-sound}
use Rattle.packed_reading.proofs.check_frame.Goals.{After-is_bad_radius-bad_norm, Else-bytes-header}
use Rattle.packed_reading.proofs.check_frame.Goals as goal

sized : (c : goal.Else-bytes-header) → let bytes = c.args.bytes.now in length bytes ≡ record_length bytes
sized c = c.if-bytes-header.false ∙ (ordered c.args.bytes.now c.requires).last

-- what the two tests find, in the record's terms
bounds-asked : (c : goal.After-is_bad_radius-bad_norm) → let bytes = c.args.bytes.now in c.bad_bounds_for-bad_range.result ≡ bad_bounds_for (profile_of (map_of bytes)) (bounds_of bytes)
bounds-asked c = c.bad_bounds_for-bad_range.ensures ∙ header-bounds c.args.bytes.now c.requires

norm-asked : (c : goal.After-is_bad_radius-bad_norm) → let bytes = c.args.bytes.now in c.is_bad_radius-bad_norm.result ≡ bad_radius (norm_of bytes)
norm-asked c = c.is_bad_radius-bad_norm.ensures ∙ ap bad_radius (header_norm_lem c.args.bytes.now c.requires)

pub returns-then-bytes-header : goal.returns-then-bytes-header
returns-then-bytes-header c = sym (frame-size c.args.bytes.now (λ e. c.if-bytes-header.true (e ∙ sym (ordered c.args.bytes.now c.requires).last)))

pub returns-then-bad_range : goal.returns-then-bad_range
returns-then-bad_range c = sym (frame-bounds c.args.bytes.now (sized (goal.at.returns-then-bad_range c).Else-bytes-header) (sym (bounds-asked (goal.at.returns-then-bad_range c).After-is_bad_radius-bad_norm) ∙ c.if-bad_range.true))

pub returns-then-bad_norm : goal.returns-then-bad_norm
returns-then-bad_norm c = sym (frame-norm c.args.bytes.now (sized (goal.at.returns-then-bad_norm c).Else-bytes-header) (sym (bounds-asked (goal.at.returns-then-bad_norm c).After-is_bad_radius-bad_norm) ∙ c.if-bad_range.false) (sym (norm-asked (goal.at.returns-then-bad_norm c).After-is_bad_radius-bad_norm) ∙ c.if-bad_norm.true))

pub returns : goal.returns
returns c = sym (frame-sound c.args.bytes.now (sized (goal.at.returns c).Else-bytes-header) (sym (bounds-asked (goal.at.returns c).After-is_bad_radius-bad_norm) ∙ c.if-bad_range.false) (sym (norm-asked (goal.at.returns c).After-is_bad_radius-bad_norm) ∙ c.if-bad_norm.false))
