-- Request h) of document 02 moves what is answered of records of an even dimension up to 4,096 that is no power of two, and nothing else: 'A record may now have any
-- even dimension to 4,096; 4 is left .. to records above 4,096.' Document 01's check of the dimension stands here, and the lists of reading, of the size and of writing
-- with it; all else in them is as it is now. Assumes nothing.
use Rattle.std.specs.Prelude.{ℕ, ◌%◌, ◌/◌, ◌<◌, ◌≡◌, Bool, true, false, not, ◌||◌, ◌&&◌, List, [], ◌∷◌, ◌++◌, ltb, leb, eqb, ℤ, length, Float}
use Rattle.std.specs.Int.Count.{ones}
use Rattle.error.specs.Answer.{Answer, value, refused, Check, check, first}
use Rattle.error.specs.Checks.{wrong_room}
use Rattle.radius.specs.Codec.{bad_profile, wrong_profile}
use Rattle.setup.specs.Checks.{wrong_projections}
use Rattle.setup.specs.Setups.{counted}
use Rattle.setup.specs.declared.TurboMode.{TurboMode}
use Rattle.packed.specs.declared.Code.{Code}
use Rattle.packed.specs.Fields.{map_of, mode_of, dim_of, bits_of, projections_of}
use Rattle.packed.specs.Layout.{header_length, header_of}
use Rattle.packed.specs.Reading.{wrong_size, bad_map, wrong_map, bad_polar_bits, payload_checks, record_checks, unless_withdrawn, read_record_of}
use Rattle.packed_size.specs.Size.{bad_norm_alone, needed_for, record_size_of}
use Rattle.packed_writing.specs.Writing.{length_checks, value_checks, record_of, write_record_of}

-- This is a dimension that passes now and did not: it is above 0 and even, at most 4,096, and no power of two, which would have one bit set.
abbrev pub is_moved : ℕ → Bool
is_moved dim = ltb 0 dim && eqb (dim % 2) 0 && leb dim 4096 && not (eqb (ones dim) 1)

-- This is a record that has another answer: it has such a dimension, and what is checked before the dimension passes, 13 and 18.
abbrev pub is_moved_record : List ℕ → Bool
is_moved_record bytes = not (ltb (length bytes) 6) && not (bad_map (map_of bytes)) && is_moved (dim_of bytes)

-- This is a code whose size and writing have another answer: before its dimension both causes of 18 are checked.
abbrev pub is_moved_code : Code → Bool
is_moved_code code = not (bad_profile code.profile) && not (bad_norm_alone code.mode code.norm) && is_moved code.dim

-- ---- the lists with document 01's check of the dimension

-- '4: even dimension that is no power of two, or above 4,096. Place: the dimension.'
abbrev pub wrong_record_power : ℕ → Check
wrong_record_power dim = check (not (eqb (ones dim) 1) || ltb 4096 dim) 4 dim

-- '2: dimension 0. Place 0.' '3: odd dimension. Place: the dimension.' Then come 4 and 1.
abbrev pub shape_checks_of_powers : TurboMode → ℕ → ℕ → List Check
shape_checks_of_powers mode dim bits = check (eqb dim 0) 2 0 ∷ check (eqb (dim % 2) 1) 3 dim ∷ wrong_record_power dim ∷ check (bad_polar_bits mode bits) 1 bits ∷ []

-- 'under six bytes 13; 18; 2; 3; 4; 1 ..; header cut short 13; 8; ..'. Then come the payloads.
abbrev pub record_checks_of_powers : List ℕ → List Check
record_checks_of_powers bytes =
    wrong_size (ltb (length bytes) 6) bytes
    ∷ wrong_map bytes
    ∷ shape_checks_of_powers (mode_of (map_of bytes)) (dim_of bytes) (bits_of bytes)
    ++ (wrong_size (ltb (length bytes) (header_length (map_of bytes))) bytes
    ∷ wrong_projections (mode_of (map_of bytes)) (projections_of bytes)
    ∷ payload_checks bytes)

-- '18 for BlockLogU8', 18 for a norm without signs, '2, 3, 4, 1 (16 is refused beside signs), 8'.
abbrev pub code_checks_of_powers : Code → List Check
code_checks_of_powers code =
    wrong_profile code.profile
    ∷ check (bad_norm_alone code.mode code.norm) 18 0
    ∷ shape_checks_of_powers code.mode code.dim code.bits
    ++ (wrong_projections code.mode code.projections ∷ [])

-- '.. 5 for radii, indices and signs, ..'. Then come the values, and 6.
abbrev pub write_checks_of_powers : Code → List Float → List ℕ → List ℤ → ℕ → List Check
write_checks_of_powers code radii indices signs room =
    code_checks_of_powers code
    ++ length_checks (code.dim / 2) (counted code.mode code.projections) (length radii) (length indices) (length signs)
    ++ value_checks code.profile code.bits code.norm radii indices signs
    ++ (wrong_room room (needed_for code) ∷ [])

-- ---- the claim

pub record OtherDimensions : Type 1 where
  -- Every other record is answered as it was, whatever is answered behind the checks; so are every other code's size and writing.
  pub read_kept : (bytes : List ℕ) → is_moved_record bytes ≡ false → read_record_of bytes ≡ unless_withdrawn bytes (first (record_checks_of_powers bytes) (value (header_of bytes)))
  pub checks_kept : {A : Type 0} (bytes : List ℕ) (a : Answer A) → is_moved_record bytes ≡ false → first (record_checks bytes) a ≡ first (record_checks_of_powers bytes) a
  pub size_kept : (code : Code) → is_moved_code code ≡ false → record_size_of code ≡ first (code_checks_of_powers code) (value (needed_for code))
  pub write_kept : (code : Code) (radii : List Float) (indices : List ℕ) (signs : List ℤ) (room : ℕ) → is_moved_code code ≡ false
      → write_record_of code radii indices signs room ≡ first (write_checks_of_powers code radii indices signs room) (value (record_of code radii indices signs))
  -- Each of these was 4, at the dimension.
  pub read_moved : {A : Type 0} (bytes : List ℕ) (a : Answer A) → is_moved_record bytes ≡ true → first (record_checks_of_powers bytes) a ≡ refused 4 (dim_of bytes)
  pub size_moved : {A : Type 0} (code : Code) (a : Answer A) → is_moved_code code ≡ true → first (code_checks_of_powers code) a ≡ refused 4 code.dim
  pub write_moved : {A : Type 0} (code : Code) (radii : List Float) (indices : List ℕ) (signs : List ℤ) (room : ℕ) (a : Answer A) → is_moved_code code ≡ true
      → first (write_checks_of_powers code radii indices signs room) a ≡ refused 4 code.dim
  -- Now 4 is answered of a record, of its size and of its writing only where the dimension, its place, is above 4,096.
  pub read_above : (bytes : List ℕ) (p : ℕ) → read_record_of bytes ≡ refused 4 p → (p ≡ dim_of bytes) × (4096 < dim_of bytes)
  pub size_above : (code : Code) (p : ℕ) → record_size_of code ≡ refused 4 p → (p ≡ code.dim) × (4096 < code.dim)
  pub write_above : (code : Code) (radii : List Float) (indices : List ℕ) (signs : List ℤ) (room p : ℕ)
      → write_record_of code radii indices signs room ≡ refused 4 p → (p ≡ code.dim) × (4096 < code.dim)
