-- These are the values of a record by a header at hand: those of the bytes between the header's own places, by the codecs' own calls. For the header that the reader
-- answered they are the record's values. Assumes nothing.
use Rattle.std.specs.Prelude.{ℕ, ◌/◌, List, [], ◌∷◌, ℤ, length, Float}
use Rattle.error.specs.Answer.{Answer, Check, first}
use Rattle.bitpack.specs.Packing.{unpack_indices_of}
use Rattle.bitpack.specs.Signs.{unpack_signs_of}
use Rattle.radius.specs.Codec.{restore_of}
use Rattle.packed.specs.declared.Header.{Header}
use Rattle.packed.specs.Reading.{wrong_size}
use Rattle.packed_parts.specs.Parts.{bad_places, cut_of}

-- '13: byte length wrong. Place: the length found.' Here the bytes are too short for the places, or these are not in order.
abbrev pub wrong_places : List ℕ → ℕ → ℕ → Check
wrong_places bytes from to = wrong_size (bad_places (length bytes) from to) bytes

-- These three are what `radii_at`, `indices_at` and `signs_at` answer. `room` is the output's length. The radii are not judged again.
unfoldable pub radii_at_of : List ℕ → Header → ℕ → Answer (List Float)
radii_at_of bytes header room =
    first
    (wrong_places bytes header.radii_start header.indices_start ∷ [])
    (restore_of header.profile (header.dim / 2) header.range (cut_of bytes header.radii_start header.indices_start) room)

unfoldable pub indices_at_of : List ℕ → Header → ℕ → Answer (List ℕ)
indices_at_of bytes header room =
    first
    (wrong_places bytes header.indices_start header.signs_start ∷ [])
    (unpack_indices_of (cut_of bytes header.indices_start header.signs_start) (header.dim / 2) header.bits room)

unfoldable pub signs_at_of : List ℕ → Header → ℕ → Answer (List ℤ)
signs_at_of bytes header room =
    first
    (wrong_places bytes header.signs_start header.end ∷ [])
    (unpack_signs_of (cut_of bytes header.signs_start header.end) header.projections room)
