-- This says which parts of a record are empty. Document 01: 'For a refused record, or for signs that aren't there, the part is empty.' Assumes nothing.
use Rattle.std.specs.Prelude.{ℕ, ◌≡◌, false, List, []}
use Rattle.error.specs.Answer.{refused}
use Rattle.packed.specs.Fields.{map_of, has_signs}
use Rattle.packed.specs.Reading.{radii_part_of, indices_part_of, signs_part_of, read_record_of}

pub record EmptyParts : Type 0 where
  pub radii_refused : (bytes : List ℕ) (n p : ℕ) → read_record_of bytes ≡ refused n p → radii_part_of bytes ≡ []
  pub indices_refused : (bytes : List ℕ) (n p : ℕ) → read_record_of bytes ≡ refused n p → indices_part_of bytes ≡ []
  pub signs_refused : (bytes : List ℕ) (n p : ℕ) → read_record_of bytes ≡ refused n p → signs_part_of bytes ≡ []
  -- This holds whatever the bytes are, where bit 1 of the map byte does not stand.
  pub no_signs : (bytes : List ℕ) → has_signs (map_of bytes) ≡ false → signs_part_of bytes ≡ []
