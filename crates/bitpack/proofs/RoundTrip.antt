-- What is packed comes back, and what is unpacked packs to the same bytes: for every width and every input that is accepted.
-- Assumes nothing.
use Prim.Native.Nat.{ℕ, zero, suc, ◌*◌, ◌/◌, ◌%◌, ◌^◌, ◌<◌, suc-le-suc}
use mathlib.Core.Path.{◌≡◌, refl, sym, ap, ◌∙◌}
use mathlib.Core.Bool.{Bool, true, false, not, cond, ◌||◌}
use mathlib.Core.List.{List, [], ◌∷◌, map}
use native.Mathlib.Nat.{mod-eq_of_lt, div-one, lt_of_lt_of_le, le_of_suc-le-suc, not-suc-le-zero, mul_comm, mul-one}
use native.Mathlib.Omega.{arith}
use lib.Dec.{ltb, eqb}
use lib.IntN.{ℤ, pos, negsuc}
use lib.Pow.{pow_pos, pow_mono}
use lib.ListN.{length, get_or, length-map, get_or-map}
use borrow.Author.Tests.{lt-leb, leb-false, ltb-false, eqb-true, eqb-false}
use Rattle.error.specs.Answer.{value, check, place, each}
use Rattle.digits.specs.Digits.{number, digits}
use Rattle.digits.proofs.Laws.{Below, below-head, below-tail, length_digits, digits-below, number_lt, number_digits, repack}
use Rattle.error.specs.Checks.{wrong_bits, wrong_room, bad_index}
use Rattle.bitpack.specs.Padding.{bytes_for, bad_padding, wrong_length, wrong_padding}
use Rattle.bitpack.specs.Packing.{pack_indices_of, unpack_indices_of, wrong_overflow}
use Rattle.bitpack.specs.Signs.{is_plus, bad_sketch_sign, bit_of_sign, sign_of_bit, pack_signs_of, unpack_signs_of}
use Rattle.error.proofs.Chains.{Passed, first_passes, first-value, first-accepts, or-false}
use Rattle.error.proofs.Places.{each-clear, each_none}
use Rattle.error.proofs.Differs.{differs-not, differs-same}
use Rattle.digits.proofs.Powers.{power-power}
use Rattle.bitpack.proofs.Bits.{number_bit, padded-number}

-- ---- digits of `bits` bits each in bytes, and back; `used` is how many bits they take

module _ (bits used : ℕ) (ds : List ℕ) (total : length ds * bits ≡ used) (below : Below (2 ^ bits) ds) where
  -- the number stays within the bits that are used
  used-bound : number (2 ^ bits) ds < 2 ^ used
  used-bound = rw (← total, mul_comm, power-power bits (length ds)) (number_lt (2 ^ bits) ds below)

  -- and so within the bytes
  bytes-bound : number (2 ^ bits) ds < 256 ^ bytes_for used
  bytes-bound = rw (← power-power 8 (bytes_for used)) (lt_of_lt_of_le used-bound (pow_mono (omega arith)))

  bytes-number : number 256 (digits 256 (bytes_for used) (number (2 ^ bits) ds)) ≡ number (2 ^ bits) ds
  bytes-number = number_digits 256 (bytes_for used) (number (2 ^ bits) ds) (omega arith) ∙ mod-eq_of_lt bytes-bound

  length-bytes : length (digits 256 (bytes_for used) (number (2 ^ bits) ds)) ≡ bytes_for used
  length-bytes = length_digits 256 (bytes_for used) (number (2 ^ bits) ds)

  bytes-clean : bad_padding (digits 256 (bytes_for used) (number (2 ^ bits) ds)) used ≡ false
  bytes-clean =
      padded-number (digits 256 (bytes_for used) (number (2 ^ bits) ds)) used length-bytes (digits-below 256 (bytes_for used) (number (2 ^ bits) ds) (omega arith))
      ∙ rw bytes-number (lt-leb (2 ^ used) (number (2 ^ bits) ds) used-bound)

  bytes_back : digits (2 ^ bits) (length ds) (number 256 (digits 256 (bytes_for used) (number (2 ^ bits) ds))) ≡ ds
  bytes_back = repack (2 ^ bits) 256 (bytes_for used) ds below (omega arith) bytes-bound

-- bytes without padding, as digits of `bits` bits each, and back
module _ (bits count used : ℕ) (packed : List ℕ) (total : count * bits ≡ used) (below : Below 256 packed) (sized : length packed ≡ bytes_for used) (clean : bad_padding packed used ≡ false) where
  clean-bound : number 256 packed < (2 ^ bits) ^ count
  clean-bound =
      let bound = leb-false (2 ^ used) (number 256 packed) (sym (padded-number packed used sized below) ∙ clean) in
      rw (← power-power bits count, mul_comm, total) bound

  clean_back : digits 256 (bytes_for used) (number (2 ^ bits) (digits (2 ^ bits) count (number 256 packed))) ≡ packed
  clean_back = rw (← sized) (repack 256 (2 ^ bits) count packed below (pow_pos bits) clean-bound)

-- ---- indices

module _ (indices : List ℕ) (bits room : ℕ) {packed : List ℕ} (told : pack_indices_of indices bits room ≡ value packed) where
  pack-passed : Passed (wrong_bits bits ∷ wrong_overflow (length indices) bits ∷ each (bad_index bits) 15 indices ∷ wrong_room room (bytes_for (length indices * bits)) ∷ [])
  unfolding pack_indices_of
  pack-passed = first_passes (wrong_bits bits ∷ wrong_overflow (length indices) bits ∷ each (bad_index bits) 15 indices ∷ wrong_room room (bytes_for (length indices * bits)) ∷ []) _ told

  -- the bytes are the number's digits
  pub pack-bytes : digits 256 (bytes_for (length indices * bits)) (number (2 ^ bits) indices) ≡ packed
  unfolding pack_indices_of
  pack-bytes = first-value (wrong_bits bits ∷ wrong_overflow (length indices) bits ∷ each (bad_index bits) 15 indices ∷ wrong_room room (bytes_for (length indices * bits)) ∷ []) _ told

  -- every index that was packed fits
  pub pack-below : Below (2 ^ bits) indices
  pack-below = record { at = λ i h. leb-false (2 ^ bits) (get_or indices i 0) (each-clear (bad_index bits) indices 0 pack-passed.1.1.0 i h) }

  -- as many bytes as the indices need
  pub pack-length : length packed ≡ bytes_for (length indices * bits)
  pack-length = ap length (sym pack-bytes) ∙ length_digits 256 (bytes_for (length indices * bits)) (number (2 ^ bits) indices)

  -- unpacking what packing wrote gives the indices back
  pub unpack_pack : unpack_indices_of packed (length indices) bits (length indices) ≡ value indices
  unfolding unpack_indices_of
  unpack_pack =
      let used : ℕ = length indices * bits in
      rw (← pack-bytes)
      (first-accepts
      (wrong_bits bits
      ∷ wrong_overflow (length indices) bits
      ∷ wrong_length (digits 256 (bytes_for used) (number (2 ^ bits) indices)) used
      ∷ wrong_padding (digits 256 (bytes_for used) (number (2 ^ bits) indices)) used
      ∷ wrong_room (length indices) (length indices)
      ∷ [])
      (value (digits (2 ^ bits) (length indices) (number 256 (digits 256 (bytes_for used) (number (2 ^ bits) indices)))))
      (pack-passed.0, (pack-passed.1.0, (differs-not _ _ (length-bytes bits used indices refl pack-below), (bytes-clean bits used indices refl pack-below, (differs-not (length indices) (length indices) refl, tt)))))
      ∙ ap value (bytes_back bits used indices refl pack-below))

  -- 'Index i of b bits occupies bits i×b upward, least significant first; bit k is bit k mod 8 of byte k/8.'
  pub pack_bit : (k : ℕ) → get_or packed (k / 8) 0 / 2 ^ (k % 8) % 2 ≡ get_or indices (k / bits) 0 / 2 ^ (k % bits) % 2
  pack_bit k =
      let used : ℕ = length indices * bits in
      let wide = ltb-false bits 1 (or-false (ltb bits 1) (ltb 16 bits) pack-passed.0).0 in
      rw (← pack-bytes)
      (sym (number_bit 8 (digits 256 (bytes_for used) (number (2 ^ bits) indices)) k (omega arith) (digits-below 256 (bytes_for used) (number (2 ^ bits) indices) (omega arith)))
      ∙ ap (λ (n : ℕ). n / 2 ^ k % 2) (bytes-number bits used indices refl pack-below)
      ∙ number_bit bits indices k wide pack-below)

module _ (packed : List ℕ) (count bits room : ℕ) {indices : List ℕ} (told : unpack_indices_of packed count bits room ≡ value indices) where
  unpack-passed : Passed (wrong_bits bits ∷ wrong_overflow count bits ∷ wrong_length packed (count * bits) ∷ wrong_padding packed (count * bits) ∷ wrong_room room count ∷ [])
  unfolding unpack_indices_of
  unpack-passed = first_passes (wrong_bits bits ∷ wrong_overflow count bits ∷ wrong_length packed (count * bits) ∷ wrong_padding packed (count * bits) ∷ wrong_room room count ∷ []) _ told

  -- the indices are the number's digits
  pub unpack_indices : digits (2 ^ bits) count (number 256 packed) ≡ indices
  unfolding unpack_indices_of
  unpack_indices = first-value (wrong_bits bits ∷ wrong_overflow count bits ∷ wrong_length packed (count * bits) ∷ wrong_padding packed (count * bits) ∷ wrong_room room count ∷ []) _ told

  -- as many indices as were asked for, each of which fits
  pub unpack-length : length indices ≡ count
  unpack-length = ap length (sym unpack_indices) ∙ length_digits (2 ^ bits) count (number 256 packed)

  pub unpack-below : Below (2 ^ bits) indices
  unpack-below = rw (← unpack_indices) (digits-below (2 ^ bits) count (number 256 packed) (pow_pos bits))

  -- packing what unpacking gave gives the same bytes
  pub pack_unpack : Below 256 packed → pack_indices_of indices bits (length packed) ≡ value packed
  unfolding pack_indices_of
  pack_unpack below =
      let ds : List ℕ = digits (2 ^ bits) count (number 256 packed) in
      let many : length ds ≡ count = length_digits (2 ^ bits) count (number 256 packed) in
      let sized = differs-same (length packed) (bytes_for (count * bits)) unpack-passed.1.1.0 in
      rw (← unpack_indices, many)
      (first-accepts
      (wrong_bits bits
      ∷ wrong_overflow count bits
      ∷ check (ltb (place (bad_index bits) ds) count) 15 (place (bad_index bits) ds)
      ∷ wrong_room (length packed) (bytes_for (count * bits))
      ∷ [])
      (value (digits 256 (bytes_for (count * bits)) (number (2 ^ bits) ds)))
      (unpack-passed.0, (unpack-passed.1.0, (rw many at (each_none (bad_index bits) ds 0 (λ i h. lt-leb (2 ^ bits) (get_or ds i 0) ((digits-below (2 ^ bits) count (number 256 packed) (pow_pos bits)).at i h))), (differs-not _ _ sized, tt))))
      ∙ ap value (clean_back bits count (count * bits) packed refl below sized unpack-passed.1.1.1.0))

  -- the same bits, from the bytes' side
  pub unpack_bit : Below 256 packed → (k : ℕ) → get_or packed (k / 8) 0 / 2 ^ (k % 8) % 2 ≡ get_or indices (k / bits) 0 / 2 ^ (k % bits) % 2
  unpack_bit below k = pack_bit indices bits (length packed) (pack_unpack below) k

-- ---- a sign and its bit

-- a number that is a sign comes back from its bit
pub sign_bit : (z : ℤ) → bad_sketch_sign z ≡ false → sign_of_bit (bit_of_sign z) ≡ z
sign_bit (pos n) h = by (eqb n 1) refl h
  where
    by : (t : Bool) → eqb n 1 ≡ t → not (t || false) ≡ false → sign_of_bit (cond (eqb n 1) 1 0) ≡ pos n
    by true e g = rw e (ap pos (sym (eqb-true n 1 e)))
    by false e g = absurd (eqb-false 1 1 (let z : true ≡ false = g in rw z refl) refl)
sign_bit (negsuc n) h = by (eqb n 0) refl h
  where
    by : (t : Bool) → eqb n 0 ≡ t → not (false || t) ≡ false → sign_of_bit 0 ≡ negsuc n
    by true e g = ap negsuc (sym (eqb-true n 0 e))
    by false e g = absurd (eqb-false 1 1 (let z : true ≡ false = g in rw z refl) refl)

-- a bit comes back from its sign
pub bit-sign : (b : ℕ) → b < 2 → bit_of_sign (sign_of_bit b) ≡ b
bit-sign zero h = refl
bit-sign (suc zero) h = refl
bit-sign (suc (suc b)) h = absurd (omega (arith, h))

signs-bits : (signs : List ℤ) → ((i : ℕ) → i < length signs → bad_sketch_sign (get_or signs i (pos 0)) ≡ false) → map sign_of_bit (map bit_of_sign signs) ≡ signs
signs-bits [] h = refl
signs-bits (z ∷ zs) h = let rest = signs-bits zs (λ i g. h (suc i) (suc-le-suc g)) in rw (sign_bit z (h 0 (omega arith)), rest) refl

bits-signs : (bits : List ℕ) → Below 2 bits → map bit_of_sign (map sign_of_bit bits) ≡ bits
bits-signs [] h = refl
bits-signs (b ∷ bs) h = let rest = bits-signs bs (below-tail h) in rw (bit-sign b (below-head h), rest) refl

bit-small : (z : ℤ) → bit_of_sign z < 2
bit-small z = by (is_plus z)
  where
    by : (t : Bool) → cond t 1 0 < 2
    by true = omega arith
    by false = omega arith

bits_below : (signs : List ℤ) → Below 2 (map bit_of_sign signs)
bits_below signs = record { at = λ i h. rw (get_or-map bit_of_sign signs i (pos 0)) (bit-small (get_or signs i (pos 0))) }

-- behind the last digit there are only zeros
digit-below : (bits : List ℕ) (k : ℕ) → Below 2 bits → get_or bits k 0 < 2
digit-below [] k h = omega arith
digit-below (b ∷ bs) zero h = below-head h
digit-below (b ∷ bs) (suc k) h = digit-below bs k (below-tail h)

-- a digit of one bit is that bit
one-wide : (bits : List ℕ) (k : ℕ) → Below 2 bits → get_or bits (k / 1) 0 / 2 ^ (k % 1) % 2 ≡ get_or bits k 0
one-wide bits k below =
    let whole : k / 1 ≡ k = omega arith in
    let none : k % 1 ≡ 0 = omega arith in
    rw (whole, none) (ap (λ (n : ℕ). n % 2) (div-one (get_or bits k 0)) ∙ mod-eq_of_lt (digit-below bits k below))

-- what a bit stands for is a sign
bit-good : (b : ℕ) → bad_sketch_sign (sign_of_bit b) ≡ false
bit-good b = by (eqb b 1)
  where
    by : (t : Bool) → bad_sketch_sign (cond t (pos 1) (negsuc 0)) ≡ false
    by true = refl
    by false = refl

pub bits-good : (bits : List ℕ) (i : ℕ) → i < length (map sign_of_bit bits) → bad_sketch_sign (get_or (map sign_of_bit bits) i (pos 0)) ≡ false
bits-good [] i h = absurd (not-suc-le-zero h)
bits-good (b ∷ bs) zero h = bit-good b
bits-good (b ∷ bs) (suc i) h = bits-good bs i (le_of_suc-le-suc h)

-- ---- signs

module _ (signs : List ℤ) (room : ℕ) {packed : List ℕ} (told : pack_signs_of signs room ≡ value packed) where
  pack_signs-passed : Passed (each bad_sketch_sign 10 signs ∷ wrong_room room (bytes_for (length signs)) ∷ [])
  unfolding pack_signs_of
  pack_signs-passed = first_passes (each bad_sketch_sign 10 signs ∷ wrong_room room (bytes_for (length signs)) ∷ []) _ told

  pub pack_signs-bytes : digits 256 (bytes_for (length signs)) (number 2 (map bit_of_sign signs)) ≡ packed
  unfolding pack_signs_of
  pack_signs-bytes = first-value (each bad_sketch_sign 10 signs ∷ wrong_room room (bytes_for (length signs)) ∷ []) _ told

  -- as many bytes as the signs need
  pub pack_signs-length : length packed ≡ bytes_for (length signs)
  pack_signs-length = ap length (sym pack_signs-bytes) ∙ length_digits 256 (bytes_for (length signs)) (number 2 (map bit_of_sign signs))

  -- unpacking what packing wrote gives the signs back
  pub unpack_pack_signs : unpack_signs_of packed (length signs) (length signs) ≡ value signs
  unfolding unpack_signs_of
  unpack_pack_signs =
      let n : ℕ = length signs in
      let bits : List ℕ = map bit_of_sign signs in
      let bytes : List ℕ = digits 256 (bytes_for n) (number 2 bits) in
      let many : length bits ≡ n = length-map signs bit_of_sign in
      let total : length bits * 1 ≡ n = mul-one (length bits) ∙ many in
      let small = bits_below signs in
      let back : digits 2 n (number 256 bytes) ≡ bits = rw many at (bytes_back 1 n bits total small) in
      rw (← pack_signs-bytes)
      (first-accepts
      (wrong_length bytes n ∷ wrong_padding bytes n ∷ wrong_room n n ∷ [])
      (value (map sign_of_bit (digits 2 n (number 256 bytes))))
      (differs-not _ _ (length-bytes 1 n bits total small), (bytes-clean 1 n bits total small, (differs-not n n refl, tt)))
      ∙ ap value (ap (map sign_of_bit) back ∙ signs-bits signs (each-clear bad_sketch_sign signs (pos 0) pack_signs-passed.0)))

  -- 'bit k is bit k mod 8 of byte k/8. .. Sign +1 is bit 1, −1 is bit 0', and behind the signs there is no bit
  pub pack_signs_bit : (k : ℕ) → get_or packed (k / 8) 0 / 2 ^ (k % 8) % 2 ≡ get_or (map bit_of_sign signs) k 0
  pack_signs_bit k =
      let n : ℕ = length signs in
      let bits : List ℕ = map bit_of_sign signs in
      let bytes : List ℕ = digits 256 (bytes_for n) (number 2 bits) in
      let total : length bits * 1 ≡ n = mul-one (length bits) ∙ length-map signs bit_of_sign in
      let small = bits_below signs in
      rw (← pack_signs-bytes)
      (sym (number_bit 8 bytes k (omega arith) (digits-below 256 (bytes_for n) (number 2 bits) (omega arith)))
      ∙ ap (λ (x : ℕ). x / 2 ^ k % 2) (bytes-number 1 n bits total small)
      ∙ number_bit 1 bits k (omega arith) small
      ∙ one-wide bits k small)

module _ (packed : List ℕ) (count room : ℕ) {signs : List ℤ} (told : unpack_signs_of packed count room ≡ value signs) where
  unpack_signs-passed : Passed (wrong_length packed count ∷ wrong_padding packed count ∷ wrong_room room count ∷ [])
  unfolding unpack_signs_of
  unpack_signs-passed = first_passes (wrong_length packed count ∷ wrong_padding packed count ∷ wrong_room room count ∷ []) _ told

  pub unpack_signs-bits : map sign_of_bit (digits 2 count (number 256 packed)) ≡ signs
  unfolding unpack_signs_of
  unpack_signs-bits = first-value (wrong_length packed count ∷ wrong_padding packed count ∷ wrong_room room count ∷ []) _ told

  -- as many signs as were asked for
  pub unpack_signs-length : length signs ≡ count
  unpack_signs-length = ap length (sym unpack_signs-bits) ∙ length-map (digits 2 count (number 256 packed)) sign_of_bit ∙ length_digits 2 count (number 256 packed)

  -- packing what unpacking gave gives the same bytes
  pub pack_unpack_signs : Below 256 packed → pack_signs_of signs (length packed) ≡ value packed
  unfolding pack_signs_of
  pack_unpack_signs below =
      let bits : List ℕ = digits 2 count (number 256 packed) in
      let found : List ℤ = map sign_of_bit bits in
      let many : length found ≡ count = length-map bits sign_of_bit ∙ length_digits 2 count (number 256 packed) in
      let sized = differs-same (length packed) (bytes_for count) unpack_signs-passed.0 in
      let same : map bit_of_sign found ≡ bits = bits-signs bits (digits-below 2 count (number 256 packed) (omega arith)) in
      rw (← unpack_signs-bits, many, same)
      (first-accepts
      (check (ltb (place bad_sketch_sign found) count) 10 (place bad_sketch_sign found) ∷ wrong_room (length packed) (bytes_for count) ∷ [])
      (value (digits 256 (bytes_for count) (number 2 bits)))
      (rw many at (each_none bad_sketch_sign found (pos 0) (bits-good bits)), (differs-not _ _ sized, tt))
      ∙ ap value (clean_back 1 count count packed (mul-one count) below sized unpack_signs-passed.1.0))

  -- the same bits, from the bytes' side
  pub unpack_signs_bit : Below 256 packed → (k : ℕ) → get_or packed (k / 8) 0 / 2 ^ (k % 8) % 2 ≡ get_or (map bit_of_sign signs) k 0
  unpack_signs_bit below k = pack_signs_bit signs (length packed) (pack_unpack_signs below) k
