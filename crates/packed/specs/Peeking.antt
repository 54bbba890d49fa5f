-- A record is read but for its radii: the reader's checks in their order, without 16. Whoever judges the radii as they are read makes the rest of the reader's checks by
-- that. Assumes nothing.
use Rattle.std.specs.Prelude.{ℕ, List, [], ◌∷◌, ◌++◌, length}
use Rattle.error.specs.Answer.{Answer, value, Check, check, first, each}
use Rattle.error.specs.Checks.{differs}
use Rattle.radius.specs.Radii.{bad_radius, wrong_norm}
use Rattle.packed.specs.Fields.{map_of, profile_of, bounds_of, norm_of}
use Rattle.packed.specs.Layout.{record_length, header_of}
use Rattle.packed.specs.Radii.{bad_bounds_for}
use Rattle.packed.specs.Reading.{unless_withdrawn, radii_of, wrong_size, header_checks, padding_checks}
use Rattle.packed.specs.declared.Header.{Header}

-- Of `payload_checks` these are the ones before the radii, and from the radii on.
abbrev pub frame_checks : List ℕ → List Check
frame_checks bytes =
    wrong_size (differs (length bytes) (record_length bytes)) bytes
    ∷ check (bad_bounds_for (profile_of (map_of bytes)) (bounds_of bytes)) 17 0
    ∷ wrong_norm (norm_of bytes)
    ∷ []

abbrev pub radii_checks : List ℕ → List Check
radii_checks bytes = each bad_radius 16 (radii_of bytes) ∷ padding_checks bytes

-- This is the answer where only `checks` are made behind those of the frame.
abbrev pub framed_of : List ℕ → List Check → Answer Header
framed_of bytes checks = unless_withdrawn bytes (first (header_checks bytes ++ (frame_checks bytes ++ checks)) (value (header_of bytes)))

unfoldable pub read_frame_of : List ℕ → Answer Header
read_frame_of bytes = framed_of bytes []

-- This is what `peek_record` answers: what the reader does but for the check of the radii.
unfoldable pub peek_record_of : List ℕ → Answer Header
peek_record_of bytes = framed_of bytes (padding_checks bytes)
