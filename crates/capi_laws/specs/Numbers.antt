-- By the number alone a caller in C tells a value, a refusal and a withdrawn position apart: 0 is told of a value, 255 of a withdrawn position, and no call refuses with
-- either. A call that takes no record never answers withdrawn. Each field is named by its call. Assumes nothing.
use Rattle.std.specs.Prelude.{ℕ, ◌<◌, ◌≡◌, List, ℤ, Float}
use Rattle.error.specs.Answer.{Answer, refused, withdrawn, first, accepted, done}
use Rattle.bitpack.specs.Padding.{validate_padding_zero_of}
use Rattle.bitpack.specs.Packing.{packed_len_of, pack_indices_of, unpack_indices_of}
use Rattle.bitpack.specs.Signs.{pack_signs_of, unpack_signs_of}
use Rattle.codebook.specs.Codebook.{uniform_of, levels_of, quantize_of, dequantize_midpoint_of}
use Rattle.polar.specs.Angle.{dequantize_angle_of}
use Rattle.radius.specs.Codec.{compress_range_of, decompress_of, encoded_bytes_of}
use Rattle.radius.specs.declared.Range.{Range}
use Rattle.radius.specs.declared.RadiusCodecProfileV1.{RadiusCodecProfileV1}
use Rattle.rotation.specs.Rotation.{apply_of, apply_inverse_of}
use Rattle.rotation_stored.specs.Stored.{stored_apply_of, stored_apply_inverse_of}
use Rattle.setup.specs.Lent.{Lent}
use Rattle.setup.specs.declared.Setup.{Setup}
use Rattle.setup_tables.specs.Checks.{setup_checks}
use Rattle.qjl.specs.Sketch.{sketch_of}
use Rattle.qjl.specs.Score.{sketch_score_of}
use Rattle.packed.specs.declared.Code.{Code}
use Rattle.packed.specs.Reading.{read_record_of, read_radii_of, read_indices_of, read_signs_of}
use Rattle.packed_size.specs.Size.{record_size_of}
use Rattle.packed_writing.specs.Writing.{write_record_of}
use Rattle.turbo_query.specs.Query.{prepare_rotated_of}
use Rattle.turbo_phased.specs.Estimates.{inner_product_estimate_of, inner_product_estimate_prepared_of, joined}
use Rattle.turbo.specs.Distance.{l2_distance_estimate_of}
use Rattle.turbo_decode.specs.Decode.{decode_approximate_of}
use Rattle.scan.specs.declared.Tally.{Tally}
use Rattle.scan.specs.declared.Scan.{Scan}
use Rattle.scan.specs.Opening.{open_of}
use Rattle.scan.specs.Events.{take_of}
use Rattle.scan.specs.Shortening.{shorten_of}
use Rattle.scan_taking.specs.Taking.{by_query, by_prepared, event_of}
use Rattle.scan_many.specs.Many.{take_many_of}
use Rattle.scan_closing.specs.Closing.{close_of}
use Rattle.capi_answers.specs.Told.{said, withdrawn_number, told}

-- What the two lent numbers hold tells which of three kinds of answer it was, and which refusal.
pub record ThreeKinds {A : Type 0} (a : Answer A) : Type 0 where
  pub value_by_zero : (p : ℕ) → told a ≡ said 0 p → done a ≡ accepted
  pub withdrawn_by_number : (p : ℕ) → told a ≡ said withdrawn_number p → a ≡ withdrawn
  pub refused_by_others : (n p : ℕ) → told a ≡ said n p → 0 < n → (n ≡ withdrawn_number → ⊥) → a ≡ refused n p

-- Beside that, the answer is never withdrawn: it is a value or a refusal.
pub record TwoKinds {A : Type 0} (a : Answer A) : Type 0 where
  pub kinds : ThreeKinds a
  pub not_withdrawn : a ≡ withdrawn → ⊥

pub record Numbers : Type 1 where
  -- The answer of a call whose value stands in lent memory is told by the same numbers as the answer with that value, of which the fields below speak.
  pub without_value : {A : Type 0} (a : Answer A) → told (done a) ≡ told a
  -- These calls take a record.
  pub inner_product_estimate : (s : Setup) (l : Lent) (query : List Float) (bytes : List ℕ) → ThreeKinds (inner_product_estimate_of s l query bytes)
  pub inner_product_estimate_prepared : (s : Setup) (directions rotated values : List Float) (bytes : List ℕ) → ThreeKinds (inner_product_estimate_prepared_of s directions rotated values bytes)
  pub l2_distance_estimate : (s : Setup) (l : Lent) (query : List Float) (bytes : List ℕ) → ThreeKinds (l2_distance_estimate_of s l query bytes)
  pub decode_approximate : (s : Setup) (l : Lent) (bytes : List ℕ) (room : ℕ) → ThreeKinds (decode_approximate_of s l bytes room)
  pub read_record : (bytes : List ℕ) → ThreeKinds (read_record_of bytes)
  pub read_radii : (bytes : List ℕ) (room : ℕ) → ThreeKinds (read_radii_of bytes room)
  pub read_indices : (bytes : List ℕ) (room : ℕ) → ThreeKinds (read_indices_of bytes room)
  pub read_signs : (bytes : List ℕ) (room : ℕ) → ThreeKinds (read_signs_of bytes room)
  pub scan_take : (tally : Tally) (s : Setup) (l : Lent) (query : List Float) (bytes : List ℕ) → ThreeKinds (joined (take_of tally.taken (event_of (by_query s l query bytes))))
  pub scan_take_prepared : (tally : Tally) (s : Setup) (directions rotated values : List Float) (bytes : List ℕ) → ThreeKinds (joined (take_of tally.taken (event_of (by_prepared s directions rotated values bytes))))
  -- This takes many records and answers for all of them at once: the withdrawn ones are counted.
  pub scan_take_many : (scan : Scan) (s : Setup) (directions rotated values : List Float) (bytes ends : List ℕ) → TwoKinds (take_many_of scan s directions rotated values bytes ends)
  -- These take none.
  pub check_setup : (s : Setup) (l : Lent) → TwoKinds (first (setup_checks s l) accepted)
  pub packed_len : (count bits : ℕ) → TwoKinds (packed_len_of count bits)
  pub pack_indices : (indices : List ℕ) (bits room : ℕ) → TwoKinds (pack_indices_of indices bits room)
  pub unpack_indices : (packed : List ℕ) (count bits room : ℕ) → TwoKinds (unpack_indices_of packed count bits room)
  pub pack_signs : (signs : List ℤ) (room : ℕ) → TwoKinds (pack_signs_of signs room)
  pub unpack_signs : (packed : List ℕ) (count room : ℕ) → TwoKinds (unpack_signs_of packed count room)
  pub validate_padding_zero : (packed : List ℕ) (used : ℕ) → TwoKinds (validate_padding_zero_of packed used)
  pub apply : (n : ℕ) (signs xs : List Float) (room : ℕ) → TwoKinds (apply_of n signs xs room)
  pub apply_inverse : (n : ℕ) (signs xs : List Float) (room : ℕ) → TwoKinds (apply_inverse_of n signs xs room)
  pub stored_apply : (n : ℕ) (matrix xs : List Float) (room : ℕ) → TwoKinds (stored_apply_of n matrix xs room)
  pub stored_apply_inverse : (n : ℕ) (matrix xs : List Float) (room : ℕ) → TwoKinds (stored_apply_inverse_of n matrix xs room)
  pub dequantize_angle : (bits index : ℕ) → TwoKinds (dequantize_angle_of bits index)
  pub sketch : (s : Setup) (l : Lent) (vector : List Float) (room : ℕ) → TwoKinds (sketch_of s l vector room)
  pub sketch_score : (s : Setup) (l : Lent) (query : List Float) (sketch : List ℤ) (norm : Float) → TwoKinds (sketch_score_of s l query sketch norm)
  pub prepare_query : (s : Setup) (l : Lent) (query : List Float) (room space : ℕ) → TwoKinds (prepare_rotated_of s l query room space)
  pub compress : (radii : List Float) (profile : RadiusCodecProfileV1) (room : ℕ) → TwoKinds (compress_range_of radii profile room)
  pub decompress : (profile : RadiusCodecProfileV1) (count : ℕ) (range : Range) (payload : List ℕ) (room : ℕ) → TwoKinds (decompress_of profile count range payload room)
  pub encoded_bytes : (profile : RadiusCodecProfileV1) (payload : List ℕ) → TwoKinds (encoded_bytes_of profile payload)
  pub uniform : (bits : ℕ) (lo hi : Float) → TwoKinds (uniform_of bits lo hi)
  pub levels : (bits : ℕ) (lo hi : Float) → TwoKinds (levels_of bits lo hi)
  pub quantize : (bits : ℕ) (lo hi x : Float) → TwoKinds (quantize_of bits lo hi x)
  pub dequantize_midpoint : (bits : ℕ) (lo hi : Float) (index : ℕ) → TwoKinds (dequantize_midpoint_of bits lo hi index)
  pub record_size : (code : Code) → TwoKinds (record_size_of code)
  pub write_record : (code : Code) (radii : List Float) (indices : List ℕ) (signs : List ℤ) (room : ℕ) → TwoKinds (write_record_of code radii indices signs room)
  pub scan_open : (k : ℕ) → TwoKinds (open_of k)
  pub scan_shorten : (tally : Tally) (n : ℕ) → TwoKinds (shorten_of tally n)
  pub scan_close : (scan : Scan) (room : ℕ) → TwoKinds (close_of scan room)
