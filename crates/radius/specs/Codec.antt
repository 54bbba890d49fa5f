-- Radii are written as bytes under a profile and read back, refusals included. Quotes are document 01's. Assumes nothing.
use Rattle.std.specs.Prelude.{ℕ, ◌+◌, ◌*◌, Bool, true, false, length, Float}
use mathlib.Core.List.{List, [], ◌∷◌, map, flat_map}
use Rattle.error.specs.Answer.{Answer, value, Check, check, first, each}
use Rattle.error.specs.Checks.{differs, wrong_room}
use Rattle.float.specs.Bytes.{of_le_bytes, to_le_bytes}
use Rattle.lists.specs.Chunks.{chunks}
use Rattle.radius.specs.Radii.{bad_radius, bad_range, no_range, range_of}
use Rattle.radius.specs.Linear.{linear_bytes, linear_radius}
use Rattle.radius.specs.declared.Range.{Range}
use Rattle.radius.specs.declared.RadiusCodecProfileV1.{RadiusCodecProfileV1}
use Rattle.radius.specs.declared.RadiusCodecProfileV1.TheVariants.{F32, BlockLinearU16, BlockLogU8}

-- '18: .. profile BlockLogU8.'
abbrev pub bad_profile : RadiusCodecProfileV1 → Bool
bad_profile F32 = false
bad_profile BlockLinearU16 = false
bad_profile BlockLogU8 = true

-- '18: .. Place: .. 0.'
abbrev pub wrong_profile : RadiusCodecProfileV1 → Check
wrong_profile profile = check (bad_profile profile) 18 0

-- A radius takes this many bytes. BlockLogU8, which is refused, has no bytes, no range and no radii in any definition here.
abbrev pub width_of : RadiusCodecProfileV1 → ℕ
width_of F32 = 4
width_of BlockLinearU16 = 2
width_of BlockLogU8 = 0

-- '13: byte length wrong. Place: the length found.'
abbrev pub wrong_payload : RadiusCodecProfileV1 → ℕ → List ℕ → Check
wrong_payload profile count payload = check (differs (length payload) (width_of profile * count)) 13 (length payload)

-- ---- compress: 'F32 copies the four little-endian bytes; −0.0 is kept.' 'BlockLinearU16 holds a range of two floats'

-- 'Compress: 16, 18.' 'In every call 6 comes after all input checks.' `room` is the output's length.
abbrev pub compress_checks : List Float → RadiusCodecProfileV1 → ℕ → List Check
compress_checks radii profile room =
    each bad_radius 16 radii
    ∷ wrong_profile profile
    ∷ wrong_room room (width_of profile * length radii)
    ∷ []

-- This range goes with the bytes; where there is none it is that of no radii, 0, 0.
abbrev pub range_for : RadiusCodecProfileV1 → List Float → Range
range_for F32 radii = no_range
range_for BlockLinearU16 radii = range_of radii
range_for BlockLogU8 radii = no_range

-- These are the bytes of all radii, one after the other.
abbrev pub payload_for : RadiusCodecProfileV1 → List Float → List ℕ
payload_for F32 radii = flat_map to_le_bytes radii
payload_for BlockLinearU16 radii = flat_map (linear_bytes (range_of radii)) radii
payload_for BlockLogU8 radii = []

-- These two are what `compress` answers: the range that it returns, and the bytes that it writes.
unfoldable pub compress_range_of : List Float → RadiusCodecProfileV1 → ℕ → Answer Range
compress_range_of radii profile room = first (compress_checks radii profile room) (value (range_for profile radii))

unfoldable pub compress_bytes_of : List Float → RadiusCodecProfileV1 → ℕ → Answer (List ℕ)
compress_bytes_of radii profile room = first (compress_checks radii profile room) (value (payload_for profile radii))

-- ---- decompress

-- These are the `count` radii that a payload stands for.
abbrev pub radii_for : RadiusCodecProfileV1 → ℕ → Range → List ℕ → List Float
radii_for F32 count range payload = map of_le_bytes (chunks 4 count payload)
radii_for BlockLinearU16 count range payload = map (linear_radius range) (chunks 2 count payload)
radii_for BlockLogU8 count range payload = []

-- 'then 17 for linear only, 16 for F32 only'. BlockLogU8 is refused before, so nothing offends here.
abbrev pub wrong_content : RadiusCodecProfileV1 → ℕ → Range → List ℕ → Check
wrong_content F32 count range payload = each bad_radius 16 (map of_le_bytes (chunks 4 count payload))
wrong_content BlockLinearU16 count range payload = check (bad_range range) 17 0
wrong_content BlockLogU8 count range payload = check false 18 0

-- 'Decompress: 18, 13 (also where the length passes usize), then 17 for linear only, 16 for F32 only.' 'In every call 6 comes after all input checks.'
-- A length here is any natural number, so one that passes usize is simply wrong. `room` is the output's length.
abbrev pub decompress_checks : RadiusCodecProfileV1 → ℕ → Range → List ℕ → ℕ → List Check
decompress_checks profile count range payload room =
    wrong_profile profile
    ∷ wrong_payload profile count payload
    ∷ wrong_content profile count range payload
    ∷ wrong_room room count
    ∷ []

unfoldable pub decompress_of : RadiusCodecProfileV1 → ℕ → Range → List ℕ → ℕ → Answer (List Float)
decompress_of profile count range payload room = first (decompress_checks profile count range payload room) (value (radii_for profile count range payload))

-- ---- restore: decompress for radii that were judged before

-- It refuses with 18, 13 and 6 as decompress does, and with neither 17 nor 16.
unfoldable pub restore_of : RadiusCodecProfileV1 → ℕ → Range → List ℕ → ℕ → Answer (List Float)
restore_of profile count range payload room = first (wrong_profile profile ∷ wrong_payload profile count payload ∷ wrong_room room count ∷ []) (value (radii_for profile count range payload))

-- ---- the bytes of a payload with what has to go with it

-- BlockLinearU16 has two floats more, of four bytes each.
abbrev pub besides : RadiusCodecProfileV1 → ℕ
besides F32 = 0
besides BlockLinearU16 = 8
besides BlockLogU8 = 0

-- Document 01 leaves open what BlockLogU8 answers here; it is refused as everywhere.
unfoldable pub encoded_bytes_of : RadiusCodecProfileV1 → List ℕ → Answer ℕ
encoded_bytes_of profile payload = first (wrong_profile profile ∷ []) (value (length payload + besides profile))
