-- `setup_tables::check_rotation` meets its contract, rotation by rotation. Assumes nothing.
use mathlib.Core.Path.{refl}
use Rattle.setup_tables.proofs.Rotations.{sign-offends, signs-pass, entry-offends, entries-pass}
use Rattle.error.proofs.Places.{is_found, is_none}
use Rattle.setup_tables.proofs.check_rotation.Goals as goal

pub returns-in-Some : goal.returns-in-Some
returns-in-Some c = let found = is_found c.first_bad_sign.ensures c.in-Some.is in sign-offends _ _ c.in-FastHadamard.is found.0 found.1

pub returns-in-Some-first_non_finite : goal.returns-in-Some-first_non_finite
returns-in-Some-first_non_finite c = let found = is_found c.first_non_finite.ensures c.in-Some-first_non_finite.is in entry-offends _ _ c.in-Stored.is found.0 found.1

pub returns-in_default : goal.returns-in_default
returns-in_default c = signs-pass _ _ c.in-FastHadamard.is refl (is_none c.first_bad_sign.ensures c.in_default.is)

pub returns-in_default-first_non_finite : goal.returns-in_default-first_non_finite
returns-in_default-first_non_finite c = entries-pass _ _ c.in-Stored.is refl (is_none c.first_non_finite.ensures c.in_default-first_non_finite.is)
