-- `packed_writing::check_codes` meets its contract: each return is one case of the checks, in their order. Assumes nothing.
use mathlib.Core.Path.{refl, sym}
use Rattle.packed_writing.proofs.Written.{codes-large, codes-stray, codes-pass}
use Rattle.error.proofs.Places.{is_found, is_none}
use Rattle.packed_writing.proofs.check_codes.Goals as goal

pub returns-in-Some : goal.returns-in-Some
returns-in-Some c = let a = c.args in sym (codes-large a.bits a.indices.now a.signs.now (is_found c.first_bad_index.ensures c.in-Some.is).0 (is_found c.first_bad_index.ensures c.in-Some.is).1)

pub returns-in-Some-first_bad_sketch_sign : goal.returns-in-Some-first_bad_sketch_sign
returns-in-Some-first_bad_sketch_sign c = let a = c.args in sym (codes-stray a.bits a.indices.now a.signs.now refl (is_none c.first_bad_index.ensures c.in_default.is) (is_found c.first_bad_sketch_sign.ensures c.in-Some-first_bad_sketch_sign.is).0 (is_found c.first_bad_sketch_sign.ensures c.in-Some-first_bad_sketch_sign.is).1)

pub returns : goal.returns
returns c = let a = c.args in sym (codes-pass a.bits a.indices.now a.signs.now refl (is_none c.first_bad_index.ensures c.in_default.is) refl (is_none c.first_bad_sketch_sign.ensures c.in_default-first_bad_sketch_sign.is))
