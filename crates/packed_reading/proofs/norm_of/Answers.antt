-- `packed_reading::norm_of` meets its contract. Assumes nothing.
use Prim.Native.Nat.{◌-◌}
use mathlib.Core.Path.{◌≡◌, sym, ap, ◌∙◌}
use mathlib.Core.Bool.{true}
use native.Mathlib.Omega.{arith}
use borrow.Author.Tests.{eqb-true}
use lib.Ieee.{of_bits}
use Rattle.packed.specs.Fields.{map_of, has_norm, float_at, norm_start, norm_of}
use Rattle.packed.proofs.Headers.{float-run}
use Rattle.packed_reading.proofs.norm_of.Goals.{After-header_length-at, Then-norm_stands}
use Rattle.packed_reading.proofs.norm_of.Goals as goal

-- the norm stands
stands : (c : goal.Then-norm_stands) → has_norm (map_of c.args.bytes.now) ≡ true
stands c = sym c.norm_stands.ensures ∙ c.if-norm_stands.true

-- in the last four bytes of the header
last : (c : goal.After-header_length-at) → c.header_length-at.result - 4 ≡ norm_start (map_of c.args.bytes.now)
last c = let e = c.header_length-at.ensures in omega (arith, e, eqb-true _ 1 (sym c.norm_stands.ensures ∙ c.if-norm_stands.true))

pub overflow_sub-at : goal.overflow_sub-at
overflow_sub-at c = let e = c.header_length-at.ensures in omega (arith, e)

pub get_f32-requires : goal.get_f32-requires
get_f32-requires c = let e = c.header_length-at.ensures in omega (arith, e, c.requires.1)

pub returns-then-norm_stands : goal.returns-then-norm_stands
unfolding norm_of
returns-then-norm_stands c = let e = c.header_length-at.ensures in
    c.get_f32.ensures ∙ float-run c.args.bytes.now _ (omega (arith, e, c.requires.1)) ∙ ap (float_at c.args.bytes.now) (last (goal.at.returns-then-norm_stands c).After-header_length-at) ∙ sym (simp (stands (goal.at.returns-then-norm_stands c).Then-norm_stands))

pub returns : goal.returns
unfolding norm_of of_bits
returns c = sym (simp (sym c.norm_stands.ensures ∙ c.if-norm_stands.false))
