-- `packed_writing::check_values` meets its contract: each return is one case of the checks, in their order. Assumes nothing.
use mathlib.Core.Path.{refl, ◌≡◌, sym, ap, ◌∙◌}
use mathlib.Core.Bool.{false}
use Rattle.radius.specs.Radii.{bad_radius}
use Rattle.packed_size.specs.Size.{norm_value}
use Rattle.packed_writing.proofs.Written.{values-norm, values-radius, values-lost, values-codes}
use Rattle.error.proofs.Places.{is_found, is_none}
use Rattle.packed_writing.proofs.check_values.Goals.{After-is_bad_radius, Else-is_bad_radius}
use Rattle.packed_writing.proofs.check_values.Goals as goal

-- the norm as the code asks of it
asked : (c : goal.After-is_bad_radius) → c.is_bad_radius.result ≡ bad_radius (norm_value c.args.norm)
asked c = c.is_bad_radius.ensures ∙ ap bad_radius c.norm_value.ensures

normal : (c : goal.Else-is_bad_radius) → bad_radius (norm_value c.args.norm) ≡ false
normal c = sym (c.is_bad_radius.ensures ∙ ap bad_radius c.norm_value.ensures) ∙ c.if-is_bad_radius.false

pub returns-then-is_bad_radius : goal.returns-then-is_bad_radius
returns-then-is_bad_radius c = let a = c.args in
    sym (values-norm a.profile a.bits a.norm a.radii.now a.indices.now a.signs.now (sym (asked (goal.at.returns-then-is_bad_radius c).After-is_bad_radius) ∙ c.if-is_bad_radius.true))

pub returns-in-Some : goal.returns-in-Some
returns-in-Some c = let a = c.args in
    sym (values-radius a.profile a.bits a.norm a.radii.now a.indices.now a.signs.now (normal (goal.at.returns-in-Some c).Else-is_bad_radius) (is_found c.first_bad_radius.ensures c.in-Some.is).0 (is_found c.first_bad_radius.ensures c.in-Some.is).1)

pub returns-then-lost-radii : goal.returns-then-lost-radii
returns-then-lost-radii c = let a = c.args in
    sym (values-lost a.profile a.bits a.norm a.radii.now a.indices.now a.signs.now (normal (goal.at.returns-then-lost-radii c).Else-is_bad_radius) refl (is_none c.first_bad_radius.ensures c.in_default.is) c.requires c.first_bad_read_back-lost.ensures c.if-lost-radii.true)

pub returns : goal.returns
returns c = let a = c.args in
    c.check_codes.ensures
    ∙ sym (values-codes a.profile a.bits a.norm a.radii.now a.indices.now a.signs.now (normal (goal.at.returns c).Else-is_bad_radius) refl (is_none c.first_bad_radius.ensures c.in_default.is) c.requires c.first_bad_read_back-lost.ensures c.if-lost-radii.false)
