-- These say where the payloads of a record stand, what the bytes between two places are, and what it is for a reference to stand in the memory of another. 'The
-- reader hands back each payload as a part of the record's own bytes. For a refused record, or for signs that aren't there, the part is empty', and for a withdrawn
-- one. Assumes nothing.
use Rattle.std.specs.Prelude.{ℕ, ◌+◌, ◌-◌, ◌≡◌, Bool, cond, ◌||◌, List, [], ltb, length}
use Rattle.std.specs.Borrow.{Bor}
use Rattle.error.specs.Answer.{Answer, value, refused, withdrawn}
use Rattle.packed.specs.declared.Header.{Header}
use Rattle.packed.specs.Layout.{part_at}
use Rattle.packed.specs.Reading.{read_record_of}
use Rattle.packed_parts.specs.declared.Places.{Places}

-- These are the places of a record that hands back nothing.
abbrev pub nowhere : Places
nowhere = record { radii = 0; indices = 0; signs = 0; end = 0 }

-- A header gives these places; those of a refused or a withdrawn record are all 0.
abbrev pub places_in : Answer Header → Places
places_in (value header) = record { radii = header.radii_start; indices = header.indices_start; signs = header.signs_start; end = header.end }
places_in (refused n p) = nowhere
places_in withdrawn = nowhere

-- This is what `locate` answers.
unfoldable pub locate_of : List ℕ → Places
locate_of bytes = places_in (read_record_of bytes)

-- The two places don't lie in order within `size` bytes.
abbrev pub bad_places : ℕ → ℕ → ℕ → Bool
bad_places size from to = ltb to from || ltb size to

-- These two are what `cut` answers, the bytes from one place up to the other, and where they start: nothing, at the start, where the places are bad.
unfoldable pub cut_of : List ℕ → ℕ → ℕ → List ℕ
cut_of bytes from to = cond (bad_places (length bytes) from to) [] (part_at bytes from (to - from))

unfoldable pub cut_start : List ℕ → ℕ → ℕ → ℕ
cut_start bytes from to = cond (bad_places (length bytes) from to) 0 from

-- `part` starts `at` bytes into the memory that `whole` refers to.
pub record Inside {X : Type 0} (whole part : Bor X) (at : ℕ) : Type 0 where
  pub block : part.ref_ptr.0 ≡ whole.ref_ptr.0
  pub offset : part.ref_ptr.1 ≡ at + whole.ref_ptr.1
