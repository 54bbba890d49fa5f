-- No call refuses with the number 0 or with that of a withdrawn position, and one that takes no record does not answer withdrawn. Assumes nothing.
use Prim.Native.Nat.{ℕ, ◌*◌, ◌-◌, ◌<◌}
use mathlib.Core.Path.{◌≡◌, refl, sym, subst}
use mathlib.Core.Bool.{Bool, true, false, ◌&&◌, ◌||◌, cond}
use mathlib.Core.List.{List, [], ◌∷◌, ◌++◌}
use native.Mathlib.Omega.{arith}
use borrow.Author.Tests.{ltb-true}
use lib.Dec.{ltb, leb}
use lib.IntN.{ℤ}
use lib.ListN.{length}
use lib.Ieee.{Float}
use Rattle.error.specs.Answer.{Answer, value, refused, withdrawn, Check, check, first, each, accepted}
use Rattle.error.specs.Checks.{wrong_bits, wrong_room, wrong_index, wrong_input, wrong_score, bad_index}
use Rattle.error.proofs.Chains.{value-not-refused, value-not-withdrawn, and-true, first-not_withdrawn}
use Rattle.bitpack.specs.Padding.{bytes_for, wrong_length, wrong_padding, validate_padding_zero_of}
use Rattle.bitpack.specs.Packing.{wrong_overflow, packed_len_of, pack_indices_of, unpack_indices_of}
use Rattle.bitpack.specs.Signs.{bad_sketch_sign, pack_signs_of, unpack_signs_of}
use Rattle.codebook.specs.Codebook.{wrong_bounds, wrong_value, uniform_of, levels_of, quantize_of, dequantize_midpoint_of}
use Rattle.polar.specs.Angle.{dequantize_angle_of}
use Rattle.radius.specs.Codec.{bad_profile, compress_checks, compress_range_of, radii_for, decompress_checks, decompress_of, encoded_bytes_of}
use Rattle.radius.specs.Radii.{wrong_norm}
use Rattle.radius.specs.declared.Range.{Range}
use Rattle.radius.specs.declared.RadiusCodecProfileV1.{RadiusCodecProfileV1}
use Rattle.radius.specs.declared.RadiusCodecProfileV1.TheVariants.{F32, BlockLinearU16, BlockLogU8}
use Rattle.rotation.specs.Checks.{rotation_checks}
use Rattle.rotation.specs.Rotation.{apply_of, apply_inverse_of}
use Rattle.setup.specs.Lent.{Lent}
use Rattle.rotation_stored.specs.Checks.{stored_checks}
use Rattle.rotation_stored.specs.Stored.{stored_apply_of, stored_apply_inverse_of}
use Rattle.setup.specs.declared.RotationKind.{RotationKind}
use Rattle.setup.specs.declared.RotationKind.TheVariants.{FastHadamard, Stored}
use Rattle.setup.specs.declared.Setup.{Setup}
use Rattle.setup.specs.declared.TurboMode.{TurboMode}
use Rattle.setup.specs.declared.TurboMode.TheVariants.{PolarOnly, PolarWithQjl}
use Rattle.setup.specs.Setups.{counted_projections_of}
use Rattle.setup_tables.specs.Checks.{setup_checks}
use Rattle.rounding.specs.Rows.{projected}
use Rattle.qjl.specs.Sketch.{vector_checks, sketch_of}
use Rattle.qjl_residual.specs.Residual.{residual_of}
use Rattle.qjl.specs.Score.{signed_checks, signed_score, mode_score, sketch_score_of}
use Rattle.packed.specs.declared.Code.{Code}
use Rattle.packed.specs.Layout.{pairs_of}
use Rattle.packed.specs.Fields.{projections_of}
use Rattle.packed.specs.Reading.{unless_withdrawn, record_checks, read_record_of, radii_of, read_radii_of, read_indices_of, read_signs_of}
use Rattle.packed.proofs.Withdrawn.{unless-refused}
use Rattle.packed_size.specs.Size.{needed_for, code_checks, record_size_of}
use Rattle.packed_writing.specs.Writing.{field_checks, value_checks, write_record_of}
use Rattle.turbo_query.specs.Query.{query_checks, prepare_checks, prepare_rotated_of}
use Rattle.turbo_record.specs.Scoring.{record_score, reading_checks}
use Rattle.turbo_phased.specs.Estimates.{estimate, where_scored, inner_product_estimate_of, prepared_checks, inner_product_estimate_prepared_of, joined}
use Rattle.turbo_distance.specs.Distance.{distance_sum, cut_at_zero, wrong_sum, distance_by_sum}
use Rattle.turbo.specs.Distance.{l2_distance_estimate_of}
use Rattle.turbo.proofs.Answers.{phased-joined, prepared-phased-joined}
use Rattle.turbo_decode.specs.Decode.{decode_checks, decode_approximate_of}
use Rattle.scan.specs.declared.Tally.{Tally}
use Rattle.scan.specs.declared.Scan.{Scan}
use Rattle.scan.specs.Opening.{wrong_scan_length, open_of}
use Rattle.scan.specs.Entering.{most}
use Rattle.scan.specs.Events.{take_of}
use Rattle.scan.specs.Shortening.{wrong_shorter, shorten_of}
use Rattle.scan_taking.specs.Taking.{by_query, by_prepared, event_of}
use Rattle.scan_many.specs.Many.{wrong_ends, take_many_of}
use Rattle.scan_closing.specs.Closing.{close_of}
use Rattle.capi_answers.specs.Told.{withdrawn_number}

-- whether every check of a list has a number above 0 and below that of a withdrawn position
abbrev between : List Check → Bool
between [] = true
between (check offends n p ∷ cs) = ltb 0 n && (ltb n withdrawn_number && between cs)

-- refused with such a number, if at all
abbrev pub Numbered : {A : Type 0} → Answer A → Type 0
Numbered a = (n p : ℕ) → a ≡ refused n p → (0 < n) × (n < withdrawn_number)

pub value-numbered : {A : Type 0} (x : A) → Numbered (value x)
value-numbered x n p e = value-not-refused e

pub first-numbered : {A : Type 0} (cs : List Check) (a : Answer A) → between cs ≡ true → Numbered a → Numbered (first cs a)
first-numbered [] a t end n p e = end n p e
first-numbered (check true m q ∷ cs) a t end n p e =
    let low = and-true (ltb 0 m) (ltb m withdrawn_number && between cs) t in
    let high = and-true (ltb m withdrawn_number) (between cs) low.1 in
    let same : m ≡ n = cc in
    let least = ltb-true 0 m low.0 in
    let most = ltb-true m withdrawn_number high.0 in
    (omega (arith, same, least), omega (arith, same, most))
first-numbered (check false m q ∷ cs) a t end n p e =
    let low = and-true (ltb 0 m) (ltb m withdrawn_number && between cs) t in
    first-numbered cs a (and-true (ltb m withdrawn_number) (between cs) low.1).1 end n p e

-- nor withdrawn
abbrev pub Plain : {A : Type 0} → Answer A → Type 0
Plain a = Numbered a × (a ≡ withdrawn → ⊥)

first_plain : {A : Type 0} (cs : List Check) (a : Answer A) → between cs ≡ true → Plain a → Plain (first cs a)
first_plain cs a t end = (first-numbered cs a t end.0, first-not_withdrawn cs a end.1)

-- where an answer is refused with such a number, so it is behind the check for a withdrawn position
unless-numbered : {A : Type 0} (bytes : List ℕ) (a : Answer A) → Numbered a → Numbered (unless_withdrawn bytes a)
unless-numbered bytes a end n p e = end n p (unless-refused bytes a e).1

-- a chain with a value at its end
chain : {A : Type 0} (cs : List Check) (x : A) → between cs ≡ true → Plain (first cs (value x))
chain cs x t = first_plain cs (value x) t (value-numbered x, λ e. value-not-withdrawn e)

-- ---- bits

pub packed_len-numbered : (count bits : ℕ) → Plain (packed_len_of count bits)
unfolding packed_len_of
packed_len-numbered count bits = chain (wrong_bits bits ∷ wrong_overflow count bits ∷ []) _ refl

pub pack-numbered : (indices : List ℕ) (bits room : ℕ) → Plain (pack_indices_of indices bits room)
unfolding pack_indices_of
pack-numbered indices bits room =
    chain (wrong_bits bits ∷ wrong_overflow (length indices) bits ∷ each (bad_index bits) 15 indices ∷ wrong_room room (bytes_for (length indices * bits)) ∷ []) _ refl

pub unpack-numbered : (packed : List ℕ) (count bits room : ℕ) → Plain (unpack_indices_of packed count bits room)
unfolding unpack_indices_of
unpack-numbered packed count bits room =
    chain (wrong_bits bits ∷ wrong_overflow count bits ∷ wrong_length packed (count * bits) ∷ wrong_padding packed (count * bits) ∷ wrong_room room count ∷ []) _ refl

pub pack_signs-numbered : (signs : List ℤ) (room : ℕ) → Plain (pack_signs_of signs room)
unfolding pack_signs_of
pack_signs-numbered signs room = chain (each bad_sketch_sign 10 signs ∷ wrong_room room (bytes_for (length signs)) ∷ []) _ refl

pub unpack_signs-numbered : (packed : List ℕ) (count room : ℕ) → Plain (unpack_signs_of packed count room)
unfolding unpack_signs_of
unpack_signs-numbered packed count room = chain (wrong_length packed count ∷ wrong_padding packed count ∷ wrong_room room count ∷ []) _ refl

pub padding-numbered : (packed : List ℕ) (used : ℕ) → Plain (validate_padding_zero_of packed used)
unfolding validate_padding_zero_of
padding-numbered packed used = chain (wrong_length packed used ∷ wrong_padding packed used ∷ []) _ refl

-- ---- codebook and angle

pub uniform-numbered : (bits : ℕ) (lo hi : Float) → Plain (uniform_of bits lo hi)
unfolding uniform_of
uniform-numbered bits lo hi = chain (wrong_bits bits ∷ wrong_bounds lo hi ∷ []) _ refl

pub levels-numbered : (bits : ℕ) (lo hi : Float) → Plain (levels_of bits lo hi)
unfolding levels_of
levels-numbered bits lo hi = chain (wrong_bits bits ∷ wrong_bounds lo hi ∷ []) _ refl

pub quantize-numbered : (bits : ℕ) (lo hi x : Float) → Plain (quantize_of bits lo hi x)
unfolding quantize_of
quantize-numbered bits lo hi x = chain (wrong_bits bits ∷ wrong_bounds lo hi ∷ wrong_value x ∷ []) _ refl

pub midpoint-numbered : (bits : ℕ) (lo hi : Float) (index : ℕ) → Plain (dequantize_midpoint_of bits lo hi index)
unfolding dequantize_midpoint_of
midpoint-numbered bits lo hi index = chain (wrong_bits bits ∷ wrong_bounds lo hi ∷ wrong_index bits index ∷ []) _ refl

pub angle-numbered : (bits index : ℕ) → Plain (dequantize_angle_of bits index)
unfolding dequantize_angle_of
angle-numbered bits index = chain (wrong_bits bits ∷ wrong_index bits index ∷ []) _ refl

-- ---- radii

pub compress-numbered : (radii : List Float) (profile : RadiusCodecProfileV1) (room : ℕ) → Plain (compress_range_of radii profile room)
unfolding compress_range_of
compress-numbered radii profile room = chain (compress_checks radii profile room) _ refl

pub decompress-numbered : (profile : RadiusCodecProfileV1) (count : ℕ) (range : Range) (payload : List ℕ) (room : ℕ) → Plain (decompress_of profile count range payload room)
unfolding decompress_of
decompress-numbered F32 count range payload room = chain (decompress_checks F32 count range payload room) _ refl
decompress-numbered BlockLinearU16 count range payload room = chain (decompress_checks BlockLinearU16 count range payload room) _ refl
decompress-numbered BlockLogU8 count range payload room = chain (decompress_checks BlockLogU8 count range payload room) (radii_for BlockLogU8 count range payload) refl

pub encoded-numbered : (profile : RadiusCodecProfileV1) (payload : List ℕ) → Plain (encoded_bytes_of profile payload)
unfolding encoded_bytes_of
encoded-numbered profile payload = chain (check (bad_profile profile) 18 0 ∷ []) _ refl

-- ---- rotation, setup and sketch

pub apply-numbered : (n : ℕ) (signs xs : List Float) (room : ℕ) → Plain (apply_of n signs xs room)
unfolding apply_of
apply-numbered n signs xs room = chain (rotation_checks n signs (length xs) room) _ refl

pub inverse-numbered : (n : ℕ) (signs xs : List Float) (room : ℕ) → Plain (apply_inverse_of n signs xs room)
unfolding apply_inverse_of
inverse-numbered n signs xs room = chain (rotation_checks n signs (length xs) room) _ refl

pub stored-numbered : (n : ℕ) (matrix xs : List Float) (room : ℕ) → Plain (stored_apply_of n matrix xs room)
unfolding stored_apply_of
stored-numbered n matrix xs room = chain (stored_checks n matrix (length xs) room) _ refl

pub stored-inverse-numbered : (n : ℕ) (matrix xs : List Float) (room : ℕ) → Plain (stored_apply_inverse_of n matrix xs room)
unfolding stored_apply_inverse_of
stored-inverse-numbered n matrix xs room = chain (stored_checks n matrix (length xs) room) _ refl

-- the numbers of a list of checks under a setup, from those under either rotation
rotations : (list : Setup → List Check) (s : Setup)
    → between (list (record { mode = s.mode; dim = s.dim; bits = s.bits; projections = s.projections; kind = FastHadamard })) ≡ true
    → between (list (record { mode = s.mode; dim = s.dim; bits = s.bits; projections = s.projections; kind = Stored })) ≡ true
    → between (list s) ≡ true
rotations list s hadamard stored = either s.kind
  where
    either : (k : RotationKind) → between (list (record { mode = s.mode; dim = s.dim; bits = s.bits; projections = s.projections; kind = k })) ≡ true
    either FastHadamard = hadamard
    either Stored = stored

module _ (s : Setup) (l : Lent) where
  setup-between : between (setup_checks s l) ≡ true
  setup-between = rotations (λ z. setup_checks z l) s refl refl

  pub setup-numbered : Plain (first (setup_checks s l) accepted)
  setup-numbered = chain (setup_checks s l) _ setup-between

  pub sketch-numbered : (vector : List Float) (room : ℕ) → Plain (sketch_of s l vector room)
  unfolding sketch_of
  sketch-numbered vector room = chain (vector_checks s l vector ++ (wrong_room room (counted_projections_of s) ∷ [])) _ (rotations (λ z. vector_checks z l vector ++ (wrong_room room (counted_projections_of z) ∷ [])) s refl refl)

  pub prepare-numbered : (query : List Float) (room space : ℕ) → Plain (prepare_rotated_of s l query room space)
  unfolding prepare_rotated_of
  prepare-numbered query room space = chain (prepare_checks s l query room space) _ (rotations (λ z. prepare_checks z l query room space) s refl refl)

  pub decode-numbered : (bytes : List ℕ) (room : ℕ) → Numbered (decode_approximate_of s l bytes room)
  unfolding decode_approximate_of
  decode-numbered bytes room = first-numbered (setup_checks s l) _ setup-between (unless-numbered bytes _ (chain (decode_checks s bytes room) _ refl).0)

mode_score-numbered : (mode : TurboMode) (n m : ℕ) (matrix query : List Float) (signs : List ℤ) (norm : Float) → Plain (mode_score mode n m matrix query signs norm)
unfolding mode_score signed_score
mode_score-numbered PolarOnly n m matrix query signs norm = chain (wrong_input (length signs) 0 ∷ wrong_norm norm ∷ []) _ refl
mode_score-numbered PolarWithQjl n m matrix query signs norm =
    chain (signed_checks m (projected n m matrix query) signs norm (residual_of m norm (projected n m matrix query) signs)) _ refl

pub sketch_score-numbered : (s : Setup) (l : Lent) (query : List Float) (sketch : List ℤ) (norm : Float) → Plain (sketch_score_of s l query sketch norm)
unfolding sketch_score_of
sketch_score-numbered s l query sketch norm =
    first_plain (vector_checks s l query) _ (rotations (λ z. vector_checks z l query) s refl refl) (mode_score-numbered s.mode s.dim s.projections l.matrix query sketch norm)

-- ---- record

pub record_size-numbered : (code : Code) → Plain (record_size_of code)
unfolding record_size_of
record_size-numbered code = chain (code_checks code) _ refl

pub write-numbered : (code : Code) (radii : List Float) (indices : List ℕ) (signs : List ℤ) (room : ℕ)
    → Plain (write_record_of code radii indices signs room)
unfolding write_record_of
write-numbered code radii indices signs room =
    chain
    (field_checks code (length radii) (length indices) (length signs)
    ++ value_checks code.profile code.bits code.norm radii indices signs
    ++ (wrong_room room (needed_for code) ∷ []))
    _ refl

pub read-numbered : (bytes : List ℕ) → Numbered (read_record_of bytes)
unfolding read_record_of
read-numbered bytes = unless-numbered bytes _ (chain (record_checks bytes) _ refl).0

pub read_radii-numbered : (bytes : List ℕ) (room : ℕ) → Numbered (read_radii_of bytes room)
unfolding read_radii_of
read_radii-numbered bytes room = unless-numbered bytes _ (chain (record_checks bytes ++ (wrong_room room (pairs_of bytes) ∷ [])) _ refl).0

pub read_indices-numbered : (bytes : List ℕ) (room : ℕ) → Numbered (read_indices_of bytes room)
unfolding read_indices_of
read_indices-numbered bytes room = unless-numbered bytes _ (chain (record_checks bytes ++ (wrong_room room (pairs_of bytes) ∷ [])) _ refl).0

pub read_signs-numbered : (bytes : List ℕ) (room : ℕ) → Numbered (read_signs_of bytes room)
unfolding read_signs_of
read_signs-numbered bytes room = unless-numbered bytes _ (chain (record_checks bytes ++ (wrong_room room (projections_of bytes) ∷ [])) _ refl).0

-- ---- scores

-- what stands behind all that scoring asks
scored-numbered : {A : Type 0} (s : Setup) (l : Lent) (query : List Float) (bytes : List ℕ) (a : Answer A) → Numbered a → Numbered (where_scored s l query bytes a)
scored-numbered s l query bytes a end = first-numbered (query_checks s l query) _ (rotations (λ z. query_checks z l query) s refl refl) (unless-numbered bytes _ (first-numbered (reading_checks s bytes (estimate s l query bytes)) a refl end))

module _ (s : Setup) (l : Lent) (query : List Float) (bytes : List ℕ) where
  pub estimate-numbered : Numbered (inner_product_estimate_of s l query bytes)
  unfolding inner_product_estimate_of
  estimate-numbered = scored-numbered s l query bytes _ (value-numbered (estimate s l query bytes))

  pub distance-numbered : Numbered (l2_distance_estimate_of s l query bytes)
  unfolding l2_distance_estimate_of distance_by_sum
  distance-numbered =
      let sum = distance_sum query (radii_of bytes) (estimate s l query bytes) in
      scored-numbered s l query bytes (distance_by_sum sum) (chain (wrong_sum sum ∷ wrong_score (cut_at_zero sum) ∷ []) _ refl).0

pub estimate-prepared-numbered : (s : Setup) (directions rotated values : List Float) (bytes : List ℕ) → Numbered (inner_product_estimate_prepared_of s directions rotated values bytes)
unfolding inner_product_estimate_prepared_of
estimate-prepared-numbered s directions rotated values bytes =
    first-numbered (prepared_checks s directions rotated values) _ (rotations (λ z. prepared_checks z directions rotated values) s refl refl) (unless-numbered bytes _ (chain (reading_checks s bytes (record_score s directions rotated values bytes)) _ refl).0)

-- ---- scan

pub open-numbered : (k : ℕ) → Plain (open_of k)
unfolding open_of
open-numbered k = chain (wrong_scan_length k ∷ []) _ refl

pub shorten-numbered : (tally : Tally) (n : ℕ) → Plain (shorten_of tally n)
unfolding shorten_of
shorten-numbered tally n = chain (wrong_shorter tally.length n ∷ []) _ refl

pub close-numbered : (scan : Scan) (room : ℕ) → Plain (close_of scan room)
unfolding close_of
close-numbered scan room = chain (wrong_room room scan.tally.kept ∷ []) _ refl

-- 22 first, and then an answer with the phase of its refusal
asked-numbered : {A : Type 0} (full : Bool) (e : Answer (Answer A)) → Numbered (joined e) → Numbered (joined (first (check full 22 0 ∷ []) e))
asked-numbered true e end = first-numbered (check true 22 0 ∷ []) (joined e) refl end
asked-numbered false e end = end

pub take-numbered : (tally : Tally) (s : Setup) (l : Lent) (query : List Float) (bytes : List ℕ) → Numbered (joined (take_of tally.taken (event_of (by_query s l query bytes))))
take-numbered tally s l query bytes =
    asked-numbered (leb most tally.taken) (event_of (by_query s l query bytes)) (subst (λ (a : Answer Float). Numbered a) (sym (phased-joined s l query bytes)) (estimate-numbered s l query bytes))

pub take_prepared-numbered : (tally : Tally) (s : Setup) (directions rotated values : List Float) (bytes : List ℕ) → Numbered (joined (take_of tally.taken (event_of (by_prepared s directions rotated values bytes))))
take_prepared-numbered tally s directions rotated values bytes =
    asked-numbered (leb most tally.taken) (event_of (by_prepared s directions rotated values bytes))
    (subst (λ (a : Answer Float). Numbered a) (sym (prepared-phased-joined s directions rotated values bytes)) (estimate-prepared-numbered s directions rotated values bytes))

-- one list of checks behind another
between-append : (cs ds : List Check) → between cs ≡ true → between ds ≡ true → between (cs ++ ds) ≡ true
between-append [] ds t u = u
between-append (check offends n p ∷ cs) ds t u =
    let low = and-true (ltb 0 n) (ltb n withdrawn_number && between cs) t in
    let high = and-true (ltb n withdrawn_number) (between cs) low.1 in
    simp (low.0, high.0, between-append cs ds high.1 u)

-- one check or another
cond-between : (other : Bool) (c d : Check) → between (c ∷ []) ≡ true → between (d ∷ []) ≡ true → between (cond other c d ∷ []) ≡ true
cond-between true c d t u = t
cond-between false c d t u = u

ends-between : (long start : ℕ) (ends : List ℕ) → between (wrong_ends long start ends ∷ []) ≡ true
unfolding wrong_ends
ends-between long start [] = refl
ends-between long start (end ∷ ends) = cond-between (ltb end start || ltb long end) (check true 5 end) (wrong_ends long end ends) refl (ends-between long end ends)

pub take_many-numbered : (scan : Scan) (s : Setup) (directions rotated values : List Float) (bytes ends : List ℕ) → Plain (take_many_of scan s directions rotated values bytes ends)
unfolding take_many_of
take_many-numbered scan s directions rotated values bytes ends =
    let full = check (ltb (most - scan.tally.taken) (length ends)) 22 0 in
    chain ((full ∷ prepared_checks s directions rotated values) ++ (wrong_ends (length bytes) 0 ends ∷ [])) _
    (between-append (full ∷ prepared_checks s directions rotated values) (wrong_ends (length bytes) 0 ends ∷ [])
    (rotations (λ z. full ∷ prepared_checks z directions rotated values) s refl refl)
    (ends-between (length bytes) 0 ends))
