-- A value, a refusal and a withdrawn position are told apart by the number, since no refusal has the number of either of the others. Assumes nothing.
use Prim.Native.Nat.{ℕ, ◌<◌}
use mathlib.Core.Path.{◌≡◌, refl, sym}
use native.Mathlib.Omega.{arith}
use Rattle.error.specs.Answer.{Answer, value, refused, withdrawn, accepted, done}
use Rattle.capi_answers.specs.Told.{said, withdrawn_number, told}
use Rattle.capi_laws.specs.Numbers.{ThreeKinds, TwoKinds, Numbers}
use Rattle.capi_laws.proofs.Numbered as numbered
use Rattle.capi_laws.proofs.Numbered.{Numbered, Plain}

same_number : {m n p q : ℕ} → said m p ≡ said n q → m ≡ n
same_number e = cc

by_zero : {A : Type 0} (a : Answer A) → Numbered a → (p : ℕ) → told a ≡ said 0 p → done a ≡ accepted
by_zero (value x) h p e = refl
by_zero (refused n q) h p e = let low = (h n q refl).0 in let same = same_number e in absurd (omega (arith, low, same))
by_zero withdrawn h p e = let same = same_number e in absurd (omega (arith, same))

by_number : {A : Type 0} (a : Answer A) → Numbered a → (p : ℕ) → told a ≡ said withdrawn_number p → a ≡ withdrawn
by_number (value x) h p e = let same = same_number e in absurd (omega (arith, same))
by_number (refused n q) h p e = let high = (h n q refl).1 in let same = same_number e in absurd (omega (arith, high, same))
by_number withdrawn h p e = refl

by-others : {A : Type 0} (a : Answer A) (n p : ℕ) → told a ≡ said n p → 0 < n → (n ≡ withdrawn_number → ⊥) → a ≡ refused n p
by-others (value x) n p e above other = let same = same_number e in absurd (omega (arith, above, same))
by-others (refused m q) n p e above other = cc
by-others withdrawn n p e above other = absurd (other (sym (same_number e)))

three-kinds : {A : Type 0} {a : Answer A} → Numbered a → ThreeKinds a
three-kinds {A} {a} h = record { value_by_zero = by_zero a h; withdrawn_by_number = by_number a h; refused_by_others = by-others a }

two-kinds : {A : Type 0} {a : Answer A} → Plain a → TwoKinds a
two-kinds h = record { kinds = three-kinds h.0; not_withdrawn = h.1 }

without_value : {A : Type 0} (a : Answer A) → told (done a) ≡ told a
without_value (value x) = refl
without_value (refused n p) = refl
without_value withdrawn = refl

pub numbers : Numbers
numbers = record {
  without_value = without_value;
  check_setup = λ s l. two-kinds (numbered.setup-numbered s l);
  packed_len = λ count bits. two-kinds (numbered.packed_len-numbered count bits);
  pack_indices = λ indices bits room. two-kinds (numbered.pack-numbered indices bits room);
  unpack_indices = λ packed count bits room. two-kinds (numbered.unpack-numbered packed count bits room);
  pack_signs = λ signs room. two-kinds (numbered.pack_signs-numbered signs room);
  unpack_signs = λ packed count room. two-kinds (numbered.unpack_signs-numbered packed count room);
  validate_padding_zero = λ packed used. two-kinds (numbered.padding-numbered packed used);
  apply = λ n signs xs room. two-kinds (numbered.apply-numbered n signs xs room);
  apply_inverse = λ n signs xs room. two-kinds (numbered.inverse-numbered n signs xs room);
  stored_apply = λ n matrix xs room. two-kinds (numbered.stored-numbered n matrix xs room);
  stored_apply_inverse = λ n matrix xs room. two-kinds (numbered.stored-inverse-numbered n matrix xs room);
  dequantize_angle = λ bits index. two-kinds (numbered.angle-numbered bits index);
  sketch = λ s l vector room. two-kinds (numbered.sketch-numbered s l vector room);
  sketch_score = λ s l query sketch norm. two-kinds (numbered.sketch_score-numbered s l query sketch norm);
  prepare_query = λ s l query room space. two-kinds (numbered.prepare-numbered s l query room space);
  inner_product_estimate = λ s l query bytes. three-kinds (numbered.estimate-numbered s l query bytes);
  inner_product_estimate_prepared = λ s directions rotated values bytes. three-kinds (numbered.estimate-prepared-numbered s directions rotated values bytes);
  l2_distance_estimate = λ s l query bytes. three-kinds (numbered.distance-numbered s l query bytes);
  decode_approximate = λ s l bytes room. three-kinds (numbered.decode-numbered s l bytes room);
  compress = λ radii profile room. two-kinds (numbered.compress-numbered radii profile room);
  decompress = λ profile count range payload room. two-kinds (numbered.decompress-numbered profile count range payload room);
  encoded_bytes = λ profile payload. two-kinds (numbered.encoded-numbered profile payload);
  uniform = λ bits lo hi. two-kinds (numbered.uniform-numbered bits lo hi);
  levels = λ bits lo hi. two-kinds (numbered.levels-numbered bits lo hi);
  quantize = λ bits lo hi x. two-kinds (numbered.quantize-numbered bits lo hi x);
  dequantize_midpoint = λ bits lo hi index. two-kinds (numbered.midpoint-numbered bits lo hi index);
  read_record = λ bytes. three-kinds (numbered.read-numbered bytes);
  read_radii = λ bytes room. three-kinds (numbered.read_radii-numbered bytes room);
  read_indices = λ bytes room. three-kinds (numbered.read_indices-numbered bytes room);
  read_signs = λ bytes room. three-kinds (numbered.read_signs-numbered bytes room);
  record_size = λ code. two-kinds (numbered.record_size-numbered code);
  write_record = λ code radii indices signs room. two-kinds (numbered.write-numbered code radii indices signs room);
  scan_open = λ k. two-kinds (numbered.open-numbered k);
  scan_shorten = λ tally n. two-kinds (numbered.shorten-numbered tally n);
  scan_take = λ tally s l query bytes. three-kinds (numbered.take-numbered tally s l query bytes);
  scan_take_prepared = λ tally s directions rotated values bytes. three-kinds (numbered.take_prepared-numbered tally s directions rotated values bytes);
  scan_take_many = λ scan s directions rotated values bytes ends. two-kinds (numbered.take_many-numbered scan s directions rotated values bytes ends);
  scan_close = λ scan room. two-kinds (numbered.close-numbered scan room);
}
