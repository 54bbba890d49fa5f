-- The header's fields of what was written are the fields that were given: the map byte, the dimension, the bits, the projections that count, the range and the
-- norm; and the whole length is the room that was lent. Assumes nothing.
use Prim.Native.Nat.{ℕ, ◌+◌, ◌*◌, ◌^◌, ◌<◌}
use mathlib.Core.Path.{◌≡◌, sym, ap, ◌∙◌}
use mathlib.Core.Bool.{false}
use mathlib.Core.List.{List, ◌++◌, map}
use native.Mathlib.Omega.{arith}
use borrow.Author.Tests.{ltb-false}
use lib.Dec.{T, ltb, eqb}
use lib.IntN.{ℤ}
use lib.ListN.{length, length-append}
use lib.Ieee.{Float, binary32, fits}
use Rattle.error.proofs.Chains.{or-false}
use Rattle.digits.specs.Digits.{number}
use Rattle.digits.proofs.Laws.{length_digits}
use Rattle.bitpack.specs.Signs.{bit_of_sign, sign_bytes}
use Rattle.bitpack.specs.Padding.{bytes_for}
use Rattle.radius.specs.Codec.{bad_profile, width_of, range_for, payload_for}
use Rattle.radius.proofs.RoundTrip.{Floats}
use Rattle.setup.specs.declared.TurboMode.{TurboMode}
use Rattle.setup.specs.declared.TurboMode.TheVariants.{PolarOnly, PolarWithQjl}
use Rattle.packed.specs.declared.Code.{Code}
use Rattle.packed.specs.Fields.{map_of, norm_bit, has_norm, profile_of, mode_of, dim_of, bits_of, bounds_of, projections_of, norm_start, norm_of}
use Rattle.packed.specs.Layout.{header_length, record_length, part_at, header_of}
use Rattle.setup.specs.Checks.{bad_projections}
use Rattle.packed_size.specs.Size.{is_given, norm_value, map_for}
use Rattle.bitpack.specs.Packing.{index_bytes}
use Rattle.packed_writing.specs.Writing.{norm_bytes, header_bytes, record_of}
use Rattle.setup.specs.Setups.{counted}
use Rattle.packed_size.proofs.Maps.{map-tells, mode-back, profile-back}
use Rattle.packed_writing.proofs.FieldsBack.{map_back, dim-back, bits_back, projections-back, bounds-back, norm-back, norm_part-back}
use Rattle.packed_writing.proofs.PartsBack.{length-header, length-payload_for}
use Rattle.packed_laws.specs.RoundTrips.{norm_part, header_for}
use Rattle.packed_laws.proofs.Ranges.{min-fits, max-fits}
use Rattle.packed_laws.proofs.Inputs.{WrittenRecord}

counted-small : (mode : TurboMode) (m : ℕ) → bad_projections mode m ≡ false → counted mode m < 4294967296
counted-small PolarOnly m e = omega arith
counted-small PolarWithQjl m e = let h = ltb-false 4096 m (or-false (eqb m 0) (ltb 4096 m) e).1 in omega (arith, h)

length-record : (code : Code) (radii : List Float) (indices : List ℕ) (signs : List ℤ) → bad_profile code.profile ≡ false
    → length (record_of code radii indices signs) ≡ header_length (map_for code.profile code.mode code.norm) + (width_of code.profile * length radii + (bytes_for (length indices * code.bits) + bytes_for (length signs)))
unfolding record_of
length-record code radii indices signs known =
    let header = header_bytes code (range_for code.profile radii) in
    length-append header (payload_for code.profile radii ++ (index_bytes code.bits indices ++ sign_bytes signs))
    ∙ rw (length-header code (range_for code.profile radii), length-append (payload_for code.profile radii) (index_bytes code.bits indices ++ sign_bytes signs), length-payload_for code.profile radii known, length-append (index_bytes code.bits indices) (sign_bytes signs), length_digits 256 (bytes_for (length indices * code.bits)) (number (2 ^ code.bits) indices), length_digits 256 (bytes_for (length signs)) (number 2 (map bit_of_sign signs)))

module _ {code : Code} {radii : List Float} {indices : List ℕ} {signs : List ℤ} {room : ℕ} {bytes : List ℕ} (w : WrittenRecord code radii indices signs room bytes) where
  pub map-written : map_of bytes ≡ map_for code.profile code.mode code.norm
  map-written = ap map_of w.made ∙ map_back code radii indices signs

  pub mode-written : mode_of (map_of bytes) ≡ code.mode
  mode-written = ap mode_of map-written ∙ mode-back code.profile code.mode code.norm

  pub profile-written : profile_of (map_of bytes) ≡ code.profile
  profile-written = ap profile_of map-written ∙ profile-back code.profile code.mode code.norm w.known

  pub dim-written : dim_of bytes ≡ code.dim
  dim-written = ap dim_of w.made ∙ dim-back code radii indices signs (omega (arith, w.most))

  pub bits-written : bits_of bytes ≡ code.bits
  bits-written = ap bits_of w.made ∙ bits_back code radii indices signs

  -- without signs they count as 0
  pub projections-written : projections_of bytes ≡ counted code.mode code.projections
  projections-written = ap projections_of w.made ∙ projections-back code radii indices signs (counted-small code.mode code.projections w.projections_inside)

  -- the range of the radii; F32 has none, and 0, 0 stands for it
  pub bounds-written : Floats radii → bounds_of bytes ≡ range_for code.profile radii
  bounds-written f = ap bounds_of w.made ∙ bounds-back code radii indices signs w.known (min-fits radii f) (max-fits radii f)

  pub given-written : has_norm (map_of bytes) ≡ is_given code.norm
  given-written = ap has_norm map-written ∙ (map-tells code.profile code.mode code.norm).given

  -- without one it is 1.0
  pub norm-written : T (fits binary32 (norm_value code.norm)) → norm_of bytes ≡ norm_value code.norm
  norm-written f = ap norm_of w.made ∙ norm-back code radii indices signs w.beside f

  pub norm_part-written : norm_part bytes ≡ norm_bytes code.norm
  norm_part-written =
      ap norm_part w.made
      ∙ ap (λ (m : ℕ). part_at (record_of code radii indices signs) (norm_start m) (4 * norm_bit m)) (map_back code radii indices signs)
      ∙ norm_part-back code radii indices signs w.beside

  pub length-written : length bytes ≡ room
  length-written =
      ap length w.made
      ∙ length-record code radii indices signs w.known
      ∙ rw (w.radii_long, w.indices_long, w.signs_long) (omega (arith, w.sized))

  -- the length that the header tells is the same
  pub total-written : record_length bytes ≡ room
  total-written = rw (profile-written, map-written, dim-written, bits-written, projections-written) (sym w.sized)

  -- all of the header by value
  pub header-written : Floats radii → T (fits binary32 (norm_value code.norm)) → header_of bytes ≡ header_for code radii
  unfolding header_of header_for
  header-written f g = rw (bounds-written f, norm-written g, given-written, profile-written, mode-written, map-written, dim-written, bits-written, projections-written)
