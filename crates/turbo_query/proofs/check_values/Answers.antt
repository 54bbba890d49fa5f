-- `turbo_query::check_values` meets its contract: each return is one case of the laws of these checks. Assumes nothing.
use mathlib.Core.Path.{refl, sym}
use Rattle.turbo_query.proofs.Turned.{values-rotated, values-projected, values-passed}
use Rattle.error.proofs.Places.{is_found, is_none}
use Rattle.turbo_query.proofs.check_values.Goals as goal

pub returns-in-Some : goal.returns-in-Some
returns-in-Some c = let a = c.args in sym (values-rotated a.rotated.now a.projected.now (is_found c.first_non_finite.ensures c.in-Some.is).0 (is_found c.first_non_finite.ensures c.in-Some.is).1)

pub returns-in-Some-first_non_finite : goal.returns-in-Some-first_non_finite
returns-in-Some-first_non_finite c = let a = c.args in
    sym (values-projected a.rotated.now a.projected.now refl (is_none c.first_non_finite.ensures c.in_default.is) (is_found c.first_non_finite-2.ensures c.in-Some-first_non_finite.is).0 (is_found c.first_non_finite-2.ensures c.in-Some-first_non_finite.is).1)

pub returns : goal.returns
returns c = let a = c.args in
    sym (values-passed a.rotated.now a.projected.now refl (is_none c.first_non_finite.ensures c.in_default.is) refl (is_none c.first_non_finite-2.ensures c.in_default-first_non_finite.is))
