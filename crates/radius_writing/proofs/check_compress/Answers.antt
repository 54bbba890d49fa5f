-- `radius_writing::check_compress` meets its contract: each return is the first check that offends, or none does. Assumes nothing.
use mathlib.Core.Path.{sym, ◌∙◌}
use native.Mathlib.Nat.{mul-le-mul_right}
use native.Mathlib.Omega.{arith}
use borrow.Author.Tests.{lt-ltb, le-ltb, eq-eqb, ne_eqb}
use lib.ListN.{length}
use Rattle.radius.proofs.Widths.{width-most}
use Rattle.error.proofs.Places.{is_found, is_none}
use Rattle.radius_writing.proofs.check_compress.Goals as goal

pub returns-in-Some : goal.returns-in-Some
returns-in-Some c = simp (← (is_found c.first_bad_radius.ensures c.in-Some.is).0, lt-ltb _ _ (is_found c.first_bad_radius.ensures c.in-Some.is).1)

pub returns-then-is_bad_profile : goal.returns-then-is_bad_profile
returns-then-is_bad_profile c = simp (le-ltb _ _ (is_none c.first_bad_radius.ensures c.in_default.is), sym c.is_bad_profile.ensures ∙ c.if-is_bad_profile.true)

pub overflow_mul-need : goal.overflow_mul-need
overflow_mul-need c = let a = c.args in
    let most = mul-le-mul_right (length a.radii.now) (width-most a.profile) in
    rw c.width_of.ensures (omega (arith, most, c.well_formed.0.1))

pub returns-then-room-need : goal.returns-then-room-need
returns-then-room-need c = simp (le-ltb _ _ (is_none c.first_bad_radius.ensures c.in_default.is), sym c.is_bad_profile.ensures ∙ c.if-is_bad_profile.false, ← c.width_of.ensures, ne_eqb _ _ c.if-room-need.true)

pub returns : goal.returns
returns c = simp (le-ltb _ _ (is_none c.first_bad_radius.ensures c.in_default.is), sym c.is_bad_profile.ensures ∙ c.if-is_bad_profile.false, ← c.width_of.ensures, eq-eqb _ _ c.if-room-need.false)
