-- What was written meets every condition on reading. Assumes nothing.
use Prim.Native.Nat.{ℕ, ◌≤◌, ◌<◌}
use mathlib.Core.Path.{◌≡◌, sym, ◌∙◌}
use mathlib.Core.Bool.{true, false, true≢false}
use mathlib.Core.List.{List}
use native.Mathlib.Omega.{arith}
use borrow.Author.Tests.{ltb-false, eqb-false}
use lib.Dec.{T, ltb, eqb}
use lib.IntN.{ℤ}
use lib.ListN.{length, get_or}
use lib.Ieee.{Float, nan, binary32, fits}
use Rattle.std.specs.Prelude.{Option}
use Rattle.error.proofs.Chains.{or-false}
use Rattle.radius.specs.Codec.{bad_profile, range_for}
use Rattle.radius.specs.Radii.{bad_radius}
use Rattle.radius.specs.declared.RadiusCodecProfileV1.{RadiusCodecProfileV1}
use Rattle.radius.specs.declared.RadiusCodecProfileV1.TheVariants.{F32, BlockLinearU16, BlockLogU8}
use Rattle.radius.proofs.RoundTrip.{Floats}
use Rattle.setup.specs.declared.TurboMode.{TurboMode}
use Rattle.setup.specs.declared.TurboMode.TheVariants.{PolarOnly, PolarWithQjl}
use Rattle.packed.specs.declared.Code.{Code}
use Rattle.packed.specs.Fields.{map_of, has_range, has_signs, has_norm}
use Rattle.packed.specs.Layout.{header_length}
use Rattle.packed.specs.Radii.{bad_bounds}
use Rattle.packed.specs.Reading.{bad_polar_bits}
use Rattle.setup.specs.Checks.{bad_projections}
use Rattle.packed.specs.Accepted.{Accepted}
use Rattle.packed_size.specs.Size.{norm_value, map_for, bad_norm_alone}
use Rattle.packed_size.proofs.Maps.{map-tells}
use Rattle.setup.specs.Setups.{counted}
use Rattle.packed_size.proofs.Scalars.{bits_inside}
use Rattle.packed_laws.proofs.Ranges.{range-good}
use Rattle.packed_laws.proofs.Inputs.{WrittenRecord}
use Rattle.packed_laws.proofs.Fields.{map-written, dim-written, bits-written, projections-written, bounds-written, norm-written, length-written, total-written}
use Rattle.packed_laws.proofs.Payloads.{radii-written, indices-clean, signs-clean}

-- without signs the map byte says so
no_signs : (profile : RadiusCodecProfileV1) (norm : Option Float) → has_signs (map_for profile PolarOnly norm) ≡ false
no_signs profile norm = (map-tells profile PolarOnly norm).signs

signs-bits : (profile : RadiusCodecProfileV1) (mode : TurboMode) (norm : Option Float) (b : ℕ) → bad_polar_bits mode b ≡ false → has_signs (map_for profile mode norm) ≡ true → b ≤ 15
signs-bits profile PolarOnly norm b e s = absurd (true≢false (sym s ∙ no_signs profile norm))
signs-bits profile PolarWithQjl norm b e s = ltb-false 15 b (or-false (ltb b 1) (ltb 15 b) e).1

signs-counted : (profile : RadiusCodecProfileV1) (mode : TurboMode) (norm : Option Float) (m : ℕ) → bad_projections mode m ≡ false → has_signs (map_for profile mode norm) ≡ true → (0 < counted mode m) × (counted mode m ≤ 4096)
signs-counted profile PolarOnly norm m e s = absurd (true≢false (sym s ∙ no_signs profile norm))
signs-counted profile PolarWithQjl norm m e s =
    let both = or-false (eqb m 0) (ltb 4096 m) e in
    let above = eqb-false m 0 both.0 in
    (omega (arith, above), ltb-false 4096 m both.1)

-- a norm that is given stands beside signs
norm-signs : (profile : RadiusCodecProfileV1) (mode : TurboMode) (norm : Option Float) → bad_norm_alone mode norm ≡ false → has_norm (map_for profile mode norm) ≡ true → has_signs (map_for profile mode norm) ≡ true
norm-signs profile PolarOnly norm e t = absurd (true≢false (sym t ∙ (map-tells profile PolarOnly norm).given ∙ e))
norm-signs profile PolarWithQjl norm e t = (map-tells profile PolarWithQjl norm).signs

-- the range of linear radii is one that a record may hold
range-passes : (profile : RadiusCodecProfileV1) (mode : TurboMode) (norm : Option Float) (radii : List Float) → bad_profile profile ≡ false → ((i : ℕ) → i < length radii → bad_radius (get_or radii i nan) ≡ false)
    → has_range (map_for profile mode norm) ≡ true → bad_bounds (range_for profile radii) ≡ false
range-passes F32 mode norm radii e h t = absurd (true≢false (sym t ∙ (map-tells F32 mode norm).linear))
range-passes BlockLinearU16 mode norm radii e h t = range-good radii h
range-passes BlockLogU8 mode norm radii e h t = absurd (true≢false e)

module _ {code : Code} {radii : List Float} {indices : List ℕ} {signs : List ℤ} {room : ℕ} {bytes : List ℕ} (w : WrittenRecord code radii indices signs room bytes) where
  header-fits : header_length (map_of bytes) ≤ length bytes
  header-fits = rw (map-written w) (omega (arith, length-written w, w.sized))

  -- each of the reader's conditions holds of what was written
  pub accepted-written : Floats radii → T (fits binary32 (norm_value code.norm)) → Accepted bytes
  accepted-written f g =
      let b = bits_inside code.mode code.bits w.bits_inside in
      record {
        long = omega (arith, header-fits);
        map = rw (map-written w) (map-tells code.profile code.mode code.norm).most;
        norm_beside = rw (map-written w) (norm-signs code.profile code.mode code.norm w.beside);
        above = rw (dim-written w) w.above;
        even = rw (dim-written w) w.even;
        most = rw (dim-written w) w.most;
        least_bits = rw (bits-written w) b.0;
        most_bits = rw (bits-written w) b.1;
        residual_bits = rw (map-written w, bits-written w) (signs-bits code.profile code.mode code.norm code.bits w.bits_inside);
        header = header-fits;
        projections = rw (map-written w, projections-written w) (signs-counted code.profile code.mode code.norm code.projections w.projections_inside);
        total = length-written w ∙ sym (total-written w);
        bounds = rw (map-written w, bounds-written w f) (range-passes code.profile code.mode code.norm radii w.known w.radii_good);
        norm = rw (norm-written w g) w.norm_good;
        radii = rw (radii-written w f) w.read_good;
        indices = indices-clean w;
        signs = signs-clean w;
      }
