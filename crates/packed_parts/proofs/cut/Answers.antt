-- `packed_parts::cut` meets its contract: the bytes between the places, or none at the start. Assumes nothing.
use Prim.Native.Nat.{ℕ, ◌+◌, ◌≤◌}
use mathlib.Core.Path.{◌≡◌, refl, sym, ap, ◌∙◌}
use mathlib.Core.Bool.{false}
use native.Mathlib.Nat.{sub_self}
use native.Mathlib.Omega.{arith}
use lib.ListN.{length}
use Rattle.packed_parts.specs.Parts.{bad_places}
use Rattle.packed_parts.proofs.Cuts.{places-order, cut-outside, start_outside, cut_inside, start-inside}
use Rattle.packed_parts.proofs.cut.Goals.{Else-outside_places}
use Rattle.packed_parts.proofs.cut.Goals as goal

inside : (c : goal.Else-outside_places) → let a = c.args in bad_places (length a.bytes.now) a.from a.to ≡ false
inside c = sym c.outside_places.ensures ∙ c.if-outside_places.false

-- the places lie in order
order : (c : goal.Else-outside_places) → let a = c.args in (a.from ≤ a.to) × (a.to ≤ length a.bytes.now)
order c = let a = c.args in places-order (length a.bytes.now) a.from a.to (sym c.outside_places.ensures ∙ c.if-outside_places.false)

pub returns-then-outside_places : goal.returns-then-outside_places
returns-then-outside_places c = let a = c.args in
    let e = sym c.outside_places.ensures ∙ c.if-outside_places.true in record { held = simp (sub_self, cut-outside a.bytes.now a.from a.to e); stands = record { block = refl; offset = ap (λ (n : ℕ). n + a.bytes.ref_ptr.1) (sym (start_outside a.bytes.now a.from a.to e)) } }

pub slice_bounds-result-count-2 : goal.slice_bounds-result-count-2
slice_bounds-result-count-2 c = let o = order (goal.at.slice_bounds-result-count-2 c).Else-outside_places in omega (arith, o.0, o.1)

pub slice_bounds-result-start-2 : goal.slice_bounds-result-start-2
slice_bounds-result-start-2 c = let o = order (goal.at.slice_bounds-result-start-2 c).Else-outside_places in omega (arith, o.0, o.1)

pub slice_bounds-result-end-2 : goal.slice_bounds-result-end-2
slice_bounds-result-end-2 c = let o = order (goal.at.slice_bounds-result-end-2 c).Else-outside_places in omega (arith, o.0, o.1)

pub returns : goal.returns
returns c = let a = c.args in
    let e = inside (goal.at.returns c).Else-outside_places in record { held = sym (cut_inside a.bytes.now a.from a.to e); stands = record { block = refl; offset = ap (λ (n : ℕ). n + a.bytes.ref_ptr.1) (sym (start-inside a.bytes.now a.from a.to e)) } }
