-- The sum by the bits of a number: it is the sum by the signs of its digits, and what one value, one byte and the last bits add. Assumes nothing.
use Prim.Native.Nat.{ℕ, zero, suc, ◌+◌, ◌*◌, ◌/◌, ◌%◌, ◌≤◌, ◌<◌}
use mathlib.Core.Path.{◌≡◌, refl, sym, ap, ◌∙◌}
use mathlib.Core.List.{List, [], ◌∷◌, map}
use native.Mathlib.Nat.{add-mul-div_left}
use native.Mathlib.Numerals.{add-one}
use native.Mathlib.Omega.{arith}
use lib.ListN.{length, get_or, drop, drop_of_length-le, length-drop}
use lib.Seq.{drop-cons}
use lib.Ieee.{Float, nan, binary32, add, mul, neg, of_int, of_bits}
use Rattle.float.specs.Constants.{pos_zero}
use Rattle.rounding.specs.Sums.{running, products}
use Rattle.digits.specs.Digits.{number, digits}
use Rattle.digits.proofs.Laws.{number-nil}
use Rattle.bitpack.specs.Signs.{sign_of_bit, signs_in}
use Rattle.digits.proofs.Digits.{number-drop}
use Rattle.bitpack_signs.proofs.SignUnpacking.{byte-alone}
use Rattle.qjl_residual.specs.Residual.{sign_sum_of}
use Rattle.qjl_bits.specs.Inner.{bit_sum_from}

-- ---- by the digits

pub bits-digits : (acc : Float) (y : ℕ) (vs : List Float) → bit_sum_from acc y vs ≡ running acc (products (map (of_int binary32) (map sign_of_bit (digits 2 (length vs) y))) vs)
unfolding bit_sum_from running products digits
bits-digits acc y [] = refl
bits-digits acc y (v ∷ vs) = bits-digits (add binary32 acc (mul binary32 (of_int binary32 (sign_of_bit (y % 2))) v)) (y / 2) vs

-- the sum by signs is one by the bits of all bytes
pub sum-bits : (bytes : List ℕ) (vs : List Float) → sign_sum_of (signs_in (length vs) bytes) vs ≡ bit_sum_from pos_zero (number 256 bytes) vs
unfolding sign_sum_of
sum-bits bytes vs = sym (bits-digits pos_zero (number 256 bytes) vs)

-- ---- a value more

pub bits_none : (acc : Float) (y : ℕ) (vs : List Float) (i : ℕ) → length vs ≤ i → bit_sum_from acc y (drop i vs) ≡ acc
unfolding bit_sum_from
bits_none acc y vs i h = rw (drop_of_length-le vs h)

bits-next : (acc : Float) (y : ℕ) (vs : List Float) (i : ℕ) → i < length vs → bit_sum_from acc y (drop i vs) ≡ bit_sum_from (add binary32 acc (mul binary32 (of_int binary32 (sign_of_bit (y % 2))) (get_or vs i nan))) (y / 2) (drop (i + 1) vs)
unfolding bit_sum_from
bits-next acc y vs i h = rw (add-one i, drop-cons vs i nan)

-- with its sign found by itself
pub bits-more : (acc x : Float) (y : ℕ) (vs : List Float) (i : ℕ) → i < length vs → x ≡ mul binary32 (of_int binary32 (sign_of_bit (y % 2))) (get_or vs i nan) → bit_sum_from acc y (drop i vs) ≡ bit_sum_from (add binary32 acc x) (y / 2) (drop (i + 1) vs)
bits-more acc x y vs i h e = bits-next acc y vs i h ∙ ap (λ (u : Float). bit_sum_from (add binary32 acc u) (y / 2) (drop (i + 1) vs)) (sym e)

-- with bits above that wait
pub bits_above : (acc x : Float) (b m : ℕ) (vs : List Float) (i j : ℕ) → j ≡ i + 1 → i < length vs → x ≡ mul binary32 (of_int binary32 (sign_of_bit (b % 2))) (get_or vs i nan) → bit_sum_from acc (b + 2 * m) (drop i vs) ≡ bit_sum_from (add binary32 acc x) (b / 2 + m) (drop j vs)
bits_above acc x b m vs i j next h e =
    let low : b % 2 ≡ (b + 2 * m) % 2 = omega arith in
    bits-more acc x (b + 2 * m) vs i h (e ∙ ap (λ (d : ℕ). mul binary32 (of_int binary32 (sign_of_bit d)) (get_or vs i nan)) low)
    ∙ ap (λ (y : ℕ). bit_sum_from (add binary32 acc x) y (drop (i + 1) vs)) (add-mul-div_left b m {y = 2} (omega arith))
    ∙ ap (λ (k : ℕ). bit_sum_from (add binary32 acc x) (b / 2 + m) (drop k vs)) (sym next)

-- ---- the last bits

-- at most eight values take their bits from one byte
pub bits-last : (acc : Float) (byte next : ℕ) (vs : List Float) → length vs ≤ 8 → bit_sum_from acc (byte + 256 * next) vs ≡ bit_sum_from acc byte vs
bits-last acc byte next vs h =
    bits-digits acc (byte + 256 * next) vs
    ∙ ap (λ (ds : List ℕ). running acc (products (map (of_int binary32) (map sign_of_bit ds)) vs)) (byte-alone (length vs) byte next h)
    ∙ sym (bits-digits acc byte vs)

-- ---- several values at once

-- the two signs as they stand in the code
pub sign-entry : (bit : ℕ) → bit < 2 → get_or (neg (of_bits binary32 1065353216) ∷ of_bits binary32 1065353216 ∷ []) bit nan ≡ of_int binary32 (sign_of_bit bit)
unfolding of_bits neg of_int
sign-entry zero h = refl
sign-entry (suc zero) h = refl
sign-entry (suc (suc n)) h = let no : ⊥ = omega (arith, h) in absurd no

-- four values, by the lowest four bits
pub bits-four : (acc a b c d : Float) (bits next : ℕ) (vs : List Float) (at : ℕ) → at + 4 ≤ length vs
    → a ≡ mul binary32 (of_int binary32 (sign_of_bit (bits % 2))) (get_or vs at nan)
    → b ≡ mul binary32 (of_int binary32 (sign_of_bit (bits / 2 % 2))) (get_or vs (at + 1) nan)
    → c ≡ mul binary32 (of_int binary32 (sign_of_bit (bits / 2 / 2 % 2))) (get_or vs (at + 2) nan)
    → d ≡ mul binary32 (of_int binary32 (sign_of_bit (bits / 2 / 2 / 2 % 2))) (get_or vs (at + 3) nan)
    → bit_sum_from acc (bits + 16 * next) (drop at vs) ≡ bit_sum_from (add binary32 (add binary32 (add binary32 (add binary32 acc a) b) c) d) (bits / 16 + next) (drop (at + 4) vs)
bits-four acc a b c d bits next vs at fits p q r s =
    let one : bits + 16 * next ≡ bits + 2 * (2 * (2 * (2 * next))) = omega arith in
    let all : bits / 2 / 2 / 2 / 2 ≡ bits / 16 = omega arith in
    ap (λ (y : ℕ). bit_sum_from acc y (drop at vs)) one
    ∙ bits_above acc a bits (2 * (2 * (2 * next))) vs at (at + 1) refl (omega arith) p
    ∙ bits_above (add binary32 acc a) b (bits / 2) (2 * (2 * next)) vs (at + 1) (at + 2) (omega arith) (omega arith) q
    ∙ bits_above (add binary32 (add binary32 acc a) b) c (bits / 2 / 2) (2 * next) vs (at + 2) (at + 3) (omega arith) (omega arith) r
    ∙ bits_above (add binary32 (add binary32 (add binary32 acc a) b) c) d (bits / 2 / 2 / 2) next vs (at + 3) (at + 4) (omega arith) (omega arith) s
    ∙ ap (λ (m : ℕ). bit_sum_from (add binary32 (add binary32 (add binary32 (add binary32 acc a) b) c) d) (m + next) (drop (at + 4) vs)) all

-- a byte's eight, in two halves
pub bits_byte : (acc half whole : Float) (byte next : ℕ) (vs : List Float) (at : ℕ) → byte < 256
    → ((m : ℕ) → bit_sum_from acc (byte + 16 * m) (drop at vs) ≡ bit_sum_from half (byte / 16 + m) (drop (at + 4) vs))
    → ((m : ℕ) → bit_sum_from half (byte / 16 + 16 * m) (drop (at + 4) vs) ≡ bit_sum_from whole (byte / 16 / 16 + m) (drop (at + 4 + 4) vs))
    → bit_sum_from acc (byte + 256 * next) (drop at vs) ≡ bit_sum_from whole next (drop (at + 8) vs)
bits_byte acc half whole byte next vs at small low high =
    let start : byte + 256 * next ≡ byte + 16 * (16 * next) = omega arith in
    let end : byte / 16 / 16 + next ≡ next = omega (arith, small) in
    let place : at + 4 + 4 ≡ at + 8 = omega arith in
    ap (λ (y : ℕ). bit_sum_from acc y (drop at vs)) start
    ∙ low (16 * next)
    ∙ high next
    ∙ ap (λ (y : ℕ). bit_sum_from whole y (drop (at + 4 + 4) vs)) end
    ∙ ap (λ (k : ℕ). bit_sum_from whole next (drop k vs)) place

-- ---- the loop over bytes

-- eight values each of k bytes are added
abbrev pub BytesAdded : List ℕ → List Float → Float → ℕ → Type 0
BytesAdded packed projected sum k = sign_sum_of (signs_in (length projected) packed) projected ≡ bit_sum_from sum (number 256 (drop k packed)) (drop (8 * k) projected)

module _ (packed : List ℕ) (projected : List Float) (sum : Float) (k : ℕ) (inv : BytesAdded packed projected sum k) where
  pub bytes-turn : (whole : Float) → k < length packed → ((next : ℕ) → bit_sum_from sum (get_or packed k 0 + 256 * next) (drop (8 * k) projected) ≡ bit_sum_from whole next (drop (8 * k + 8) projected))
      → BytesAdded packed projected whole (k + 1)
  bytes-turn whole here added =
      let place : 8 * k + 8 ≡ 8 * (k + 1) = omega arith in
      inv
      ∙ ap (λ (y : ℕ). bit_sum_from sum y (drop (8 * k) projected)) (number-drop 256 packed k here)
      ∙ added (number 256 (drop (k + 1) packed))
      ∙ ap (λ (i : ℕ). bit_sum_from whole (number 256 (drop (k + 1) packed)) (drop i projected)) place

  -- fewer than eight values are left for the last byte
  pub bytes-last : (r : Float) → length projected / 8 ≤ k → k < length packed → r ≡ bit_sum_from sum (get_or packed k 0) (drop (8 * k) projected) → r ≡ sign_sum_of (signs_in (length projected) packed) projected
  bytes-last r done here e =
      let few : length (drop (8 * k) projected) ≤ 8 = simp length-drop (omega (arith, done)) in
      e
      ∙ sym
      (inv
      ∙ ap (λ (y : ℕ). bit_sum_from sum y (drop (8 * k) projected)) (number-drop 256 packed k here)
      ∙ bits-last sum (get_or packed k 0) (number 256 (drop (k + 1) packed)) (drop (8 * k) projected) few)

  -- no byte is left
  pub bytes-none : (r : Float) → length packed ≤ k → r ≡ bit_sum_from sum 0 (drop (8 * k) projected) → r ≡ sign_sum_of (signs_in (length projected) packed) projected
  bytes-none r over e =
      e
      ∙ sym
      (inv
      ∙ ap (λ (bytes : List ℕ). bit_sum_from sum (number 256 bytes) (drop (8 * k) projected)) (drop_of_length-le packed over)
      ∙ ap (λ (y : ℕ). bit_sum_from sum y (drop (8 * k) projected)) (number-nil 256))
