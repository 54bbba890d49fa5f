-- The parts of a refused record are empty, and so is the signs' part without bit 1 of the map byte: no projections take no byte. Assumes nothing.
use Prim.Native.Nat.{ℕ}
use mathlib.Core.Path.{◌≡◌, refl, ap, ◌∙◌}
use mathlib.Core.Bool.{false}
use mathlib.Core.List.{List, []}
use Rattle.error.specs.Answer.{Answer, value, refused, withdrawn}
use Rattle.packed.specs.declared.Header.{Header}
use Rattle.packed.specs.Fields.{map_of, has_signs, projections_of}
use Rattle.packed.specs.Layout.{radii_bytes, indices_bytes, signs_bytes}
use Rattle.packed.specs.Reading.{part_where, radii_part_of, indices_part_of, signs_part_of, read_record_of}
use Rattle.packed_laws.specs.EmptyParts.{EmptyParts}

-- no part of nothing
part_none : (answer : Answer Header) → part_where answer [] ≡ []
part_none (value header) = refl
part_none (refused n p) = refl
part_none withdrawn = refl

no-projections : (bytes : List ℕ) → has_signs (map_of bytes) ≡ false → projections_of bytes ≡ 0
unfolding projections_of
no-projections bytes none = rw none

signs_none : (bytes : List ℕ) → has_signs (map_of bytes) ≡ false → signs_bytes bytes ≡ []
unfolding signs_bytes
signs_none bytes none = rw (no-projections bytes none)

radii_refused : (bytes : List ℕ) (n p : ℕ) → read_record_of bytes ≡ refused n p → radii_part_of bytes ≡ []
unfolding radii_part_of
radii_refused bytes n p told = ap (λ (answer : Answer Header). part_where answer (radii_bytes bytes)) told

indices_refused : (bytes : List ℕ) (n p : ℕ) → read_record_of bytes ≡ refused n p → indices_part_of bytes ≡ []
unfolding indices_part_of
indices_refused bytes n p told = ap (λ (answer : Answer Header). part_where answer (indices_bytes bytes)) told

signs_refused : (bytes : List ℕ) (n p : ℕ) → read_record_of bytes ≡ refused n p → signs_part_of bytes ≡ []
unfolding signs_part_of
signs_refused bytes n p told = ap (λ (answer : Answer Header). part_where answer (signs_bytes bytes)) told

no_signs : (bytes : List ℕ) → has_signs (map_of bytes) ≡ false → signs_part_of bytes ≡ []
unfolding signs_part_of
no_signs bytes none = ap (part_where (read_record_of bytes)) (signs_none bytes none) ∙ part_none (read_record_of bytes)

pub empty-parts : EmptyParts
empty-parts = record { radii_refused = radii_refused; indices_refused = indices_refused; signs_refused = signs_refused; no_signs = no_signs }
