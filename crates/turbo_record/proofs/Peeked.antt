-- A record that was peeked at and is the setup's is opened where no radius offends, and its sums are those of its payloads. Assumes nothing.
use Prim.Native.Nat.{ℕ, ◌/◌}
use mathlib.Core.Path.{◌≡◌, refl, sym, ap, ◌∙◌}
use mathlib.Core.Bool.{Bool, true, false, cond}
use mathlib.Core.List.{List}
use lib.IntN.{ℤ}
use lib.ListN.{length}
use lib.Ieee.{Float, binary32, mul}
use lib.Ieee.Scale.{finite}
use Rattle.std.specs.Prelude.{None, Option, Some}
use Rattle.error.specs.Answer.{value, clear}
use Rattle.bitpack.specs.Packing.{indices_in}
use Rattle.bitpack.specs.Signs.{signs_in}
use Rattle.radius.specs.Codec.{radii_for}
use Rattle.radius.specs.Radii.{bad_radius}
use Rattle.polar.specs.Polar.{polar_sum_of}
use Rattle.polar_blocks.specs.Payload.{payload_sum_of}
use Rattle.polar_blocks.proofs.Told.{sum_told}
use Rattle.qjl_residual.specs.Residual.{scale_of, sign_sum_of, residual_of}
use Rattle.qjl_residual.proofs.SignSums.{residual-product}
use Rattle.setup.specs.declared.Setup.{Setup}
use Rattle.packed.specs.declared.Header.{Header}
use Rattle.packed.specs.Fields.{map_of, profile_of, bits_of, bounds_of, projections_of, norm_of}
use Rattle.packed.specs.Layout.{pairs_of, radii_bytes, indices_bytes, signs_bytes, header_of}
use Rattle.packed.specs.Reading.{read_record_of, radii_of, indices_of, signs_of}
use Rattle.packed.proofs.Frame.{peek-read}
use Rattle.packed.proofs.Parts.{header_projections_lem, header_norm_lem}
use Rattle.turbo_opening.specs.Inner.{opened_of}
use Rattle.turbo_opening.proofs.Answers.{open-value}
use Rattle.turbo_record.specs.Scoring.{record_score, record_score_of}
use Rattle.turbo_record.specs.Inner.{Peeked, Summed, Answered, finite_sum_of}
use Rattle.turbo_record.proofs.Scoring.{record-finite}

-- ---- a record that was peeked at

module _ (s : Setup) (bytes : List ℕ) {header : Header} (p : Peeked s bytes header) (good : clear bad_radius (radii_of bytes) ≡ true) where
  pub peeked-read : read_record_of bytes ≡ value header
  peeked-read = peek-read bytes p.peeked good

  pub peeked_opened : opened_of s bytes ≡ value header
  peeked_opened = open-value s bytes peeked-read p.dim {b = false} (sym p.alike) refl

-- ---- its polar sum, from the payloads that the header gives

module _ (bytes : List ℕ) {header : Header} (own : header ≡ header_of bytes) where
  header-radii : (payload : List ℕ) → payload ≡ radii_bytes bytes → radii_for header.profile (header.dim / 2) header.range payload ≡ radii_of bytes
  unfolding header_of radii_of
  header-radii payload e = ap (λ (h : Header). radii_for h.profile (h.dim / 2) h.range payload) own ∙ ap (radii_for (profile_of (map_of bytes)) (pairs_of bytes) (bounds_of bytes)) e

  header-indices : (payload : List ℕ) → payload ≡ indices_bytes bytes → indices_in header.bits (header.dim / 2) payload ≡ indices_of bytes
  unfolding header_of indices_of
  header-indices payload e = ap (λ (h : Header). indices_in h.bits (h.dim / 2) payload) own ∙ ap (indices_in (bits_of bytes) (pairs_of bytes)) e

  pub payload-summed : (directions rotated : List Float) (radii indices : List ℕ) → radii ≡ radii_bytes bytes → indices ≡ indices_bytes bytes
      → (r : Option Float) → r ≡ payload_sum_of directions rotated header.profile header.range radii indices header.bits (header.dim / 2)
      → Summed r bytes (polar_sum_of rotated directions (indices_of bytes) (radii_of bytes))
  payload-summed directions rotated radii indices f g (Some x) e =
      let told = sum_told directions rotated header.profile header.range radii indices header.bits (header.dim / 2) e in (
        told.0
            ∙ ap (λ (is : List ℕ). polar_sum_of rotated directions is (radii_for header.profile (header.dim / 2) header.range radii)) (header-indices indices g)
            ∙ ap (polar_sum_of rotated directions (indices_of bytes)) (header-radii radii f),
        sym (ap (clear bad_radius) (header-radii radii f)) ∙ told.1,
      )
  payload-summed directions rotated radii indices f g None e = tt

  -- ---- its residual, from the bytes of its signs

  pub bits-residual : (projected : List Float) (payload : List ℕ) (a b : Float) → payload ≡ signs_bytes bytes → length projected ≡ header.projections
      → a ≡ scale_of header.projections header.norm → b ≡ sign_sum_of (signs_in (length projected) payload) projected
      → mul binary32 a b ≡ residual_of (projections_of bytes) (norm_of bytes) projected (signs_of bytes)
  unfolding signs_of
  bits-residual projected payload a b part long scale sum =
      let many = header_projections_lem bytes own in
      residual-product (projections_of bytes) (norm_of bytes) projected (signs_in (projections_of bytes) (signs_bytes bytes))
      (scale ∙ ap (λ (m : ℕ). scale_of m header.norm) many ∙ ap (scale_of (projections_of bytes)) (header_norm_lem bytes own))
      (sum ∙ ap (λ (m : ℕ). sign_sum_of (signs_in m payload) projected) (long ∙ many) ∙ ap (λ (l : List ℕ). sign_sum_of (signs_in (projections_of bytes) l) projected) part)

-- ---- its score

module _ (s : Setup) (directions rotated projected : List Float) (bytes : List ℕ) {header : Header} (p : Peeked s bytes header) where
  either : (x : Float) (t : Bool) → finite x ≡ t → Summed (Some x) bytes (record_score s directions rotated projected bytes) → Answered (cond t (Some x) None) (record_score_of s directions rotated projected bytes)
  either x true f summed = record-finite s directions rotated projected bytes (peeked_opened s bytes p summed.1) x summed.0 f
  either x false f summed = tt

  -- a sum that is finite is the answer
  pub summed-answered : (r : Option Float) → Summed r bytes (record_score s directions rotated projected bytes) → Answered (finite_sum_of r) (record_score_of s directions rotated projected bytes)
  summed-answered (Some x) summed = either x (finite x) refl summed
  summed-answered None summed = tt
