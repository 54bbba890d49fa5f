-- Request b) of document 02 moves what is answered of a record without bytes, and nothing else: 'A record of no bytes now means a withdrawn position. Reading it answers
-- withdrawn'. 'Lengths 1 to 5 still answer 13.' The checks of a record that has bytes are those of now, with what requests c) and h) moved. Assumes nothing.
use Rattle.std.specs.Prelude.{ℕ, ◌≤◌, ◌≡◌, List, [], ◌∷◌, ◌++◌, ℤ, length, Float}
use Rattle.error.specs.Answer.{value, refused, withdrawn, first}
use Rattle.error.specs.Checks.{wrong_room}
use Rattle.packed.specs.declared.Code.{Code}
use Rattle.packed.specs.Fields.{projections_of}
use Rattle.packed.specs.Layout.{pairs_of, radii_bytes, indices_bytes, signs_bytes, header_of}
use Rattle.packed.specs.Reading.{record_checks, read_record_of, radii_of, indices_of, signs_of, part_where, radii_part_of, indices_part_of, signs_part_of, read_radii_of, read_indices_of, read_signs_of}
use Rattle.packed.specs.Accepted.{Accepted}
use Rattle.packed_writing.specs.Writing.{write_record_of}

pub record WithdrawnRecords : Type 0 where
  -- A record of no bytes is withdrawn, and no other record is.
  pub none : read_record_of [] ≡ withdrawn
  pub only : (bytes : List ℕ) → read_record_of bytes ≡ withdrawn → bytes ≡ []
  -- 'Lengths 1 to 5 still answer 13', at the length.
  pub short : (bytes : List ℕ) → 1 ≤ length bytes → length bytes ≤ 5 → read_record_of bytes ≡ refused 13 (length bytes)
  -- A record that is accepted is not withdrawn, and the writer never writes one that is.
  pub accepted_not_withdrawn : (bytes : List ℕ) → Accepted bytes → read_record_of bytes ≡ withdrawn → ⊥
  pub written_not_withdrawn : (code : Code) (radii : List Float) (indices : List ℕ) (signs : List ℤ) (room : ℕ) (bytes : List ℕ)
      → write_record_of code radii indices signs room ≡ value bytes → read_record_of bytes ≡ withdrawn → ⊥
  -- The parts of a withdrawn record are empty, and its values are withdrawn too, whatever room is lent: 6 is not answered.
  pub radii_part : radii_part_of [] ≡ []
  pub indices_part : indices_part_of [] ≡ []
  pub signs_part : signs_part_of [] ≡ []
  pub radii_none : (room : ℕ) → read_radii_of [] room ≡ withdrawn
  pub indices_none : (room : ℕ) → read_indices_of [] room ≡ withdrawn
  pub signs_none : (room : ℕ) → read_signs_of [] room ≡ withdrawn
  -- A record that has bytes is answered as it was.
  pub read_kept : (bytes : List ℕ) → 1 ≤ length bytes → read_record_of bytes ≡ first (record_checks bytes) (value (header_of bytes))
  pub radii_part_kept : (bytes : List ℕ) → 1 ≤ length bytes → radii_part_of bytes ≡ part_where (first (record_checks bytes) (value (header_of bytes))) (radii_bytes bytes)
  pub indices_part_kept : (bytes : List ℕ) → 1 ≤ length bytes → indices_part_of bytes ≡ part_where (first (record_checks bytes) (value (header_of bytes))) (indices_bytes bytes)
  pub signs_part_kept : (bytes : List ℕ) → 1 ≤ length bytes → signs_part_of bytes ≡ part_where (first (record_checks bytes) (value (header_of bytes))) (signs_bytes bytes)
  pub radii_kept : (bytes : List ℕ) (room : ℕ) → 1 ≤ length bytes → read_radii_of bytes room ≡ first (record_checks bytes ++ (wrong_room room (pairs_of bytes) ∷ [])) (value (radii_of bytes))
  pub indices_kept : (bytes : List ℕ) (room : ℕ) → 1 ≤ length bytes → read_indices_of bytes room ≡ first (record_checks bytes ++ (wrong_room room (pairs_of bytes) ∷ [])) (value (indices_of bytes))
  pub signs_kept : (bytes : List ℕ) (room : ℕ) → 1 ≤ length bytes → read_signs_of bytes room ≡ first (record_checks bytes ++ (wrong_room room (projections_of bytes) ∷ [])) (value (signs_of bytes))
