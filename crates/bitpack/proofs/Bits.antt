-- Bits of a number and bits of its digits: what the definitions by digits say in document 01's own terms,
-- 'bit k is bit k mod 8 of byte k/8', and when the padding is zero.
-- Assumes nothing.
use Prim.Native.Nat.{ℕ, zero, suc, ◌+◌, ◌-◌, ◌*◌, ◌/◌, ◌%◌, ◌^◌, ◌≤◌, ◌<◌}
use mathlib.Core.Path.{◌≡◌, refl, sym, ap, ◌∙◌}
use mathlib.Core.Bool.{Bool, true, false, ◌&&◌}
use mathlib.Core.List.{List, [], ◌∷◌}
use native.Mathlib.Nat.{zero-div, zero-mod, div-one, div-div-eq-div-mul, add-mul-div_left, add-mul-mod_self_left, mod-eq_of_lt, div-eq_of_lt, zero-add, one-mul, le-div_iff_mul-le, div-add-mod, pow-zero, pow-succ', mod-lt, mul-le-mul_left}
use native.Mathlib.Omega.{arith}
use lib.Dec.{leb, ltb, eqb}
use lib.Pow.{pow-add, pow_pos, field, mod-mod-pow}
use lib.ListN.{length, get_or, take, drop}
use lib.Seq.{length-take-le, get_or-take}
use borrow.Author.Tests.{le-leb, lt-leb, eq-eqb, ne_eqb, ltb-true, ltb-false, eqb-true, eqb-false}
use Rattle.digits.specs.Digits.{number}
use Rattle.digits.proofs.Laws.{Below, below-head, below-tail, number_lt}
use Rattle.error.specs.Checks.{differs}
use Rattle.bitpack.specs.Padding.{bytes_for, bad_padding}
use Rattle.digits.proofs.Digits.{number-drop, number-end, number-run}
use Rattle.digits.proofs.Powers.{power-power}

-- digit i of a number
pub digit_at : (base : ℕ) (ds : List ℕ) (i : ℕ) → 0 < base → Below base ds → number base ds / base ^ i % base ≡ get_or ds i 0
unfolding number
digit_at base [] i h below = rw (zero-div, zero-mod) refl
digit_at base (d ∷ ds) zero h below = rw (pow-zero, div-one, add-mul-mod_self_left d base (number base ds)) (mod-eq_of_lt (below-head below))
digit_at base (d ∷ ds) (suc i) h below =
    rw (pow-succ', ← div-div-eq-div-mul, add-mul-div_left d (number base ds) h, div-eq_of_lt (below-head below), zero-add)
    (digit_at base ds i h (below-tail below))

-- a bit within the lowest b bits
low_bit : (y b j : ℕ) → j < b → y / 2 ^ j % 2 ≡ y % 2 ^ b / 2 ^ j % 2
low_bit y b j h =
    let whole : b ≡ b - j + j = omega arith in
    let part : b - j ≡ b - j - 1 + 1 = omega arith in
    sym
    (ap (λ (n : ℕ). y % 2 ^ n / 2 ^ j % 2) whole
    ∙ ap (λ (n : ℕ). n % 2) (field y (b - j) j)
    ∙ ap (λ (n : ℕ). y / 2 ^ j % 2 ^ n % 2) part
    ∙ mod-mod-pow (y / 2 ^ j) (b - j - 1) 1)

-- 'Index i of b bits occupies bits i×b upward, least significant first': bit k of the number is bit k mod b of digit k / b
pub number_bit : (b : ℕ) (ds : List ℕ) (k : ℕ) → 0 < b → Below (2 ^ b) ds → number (2 ^ b) ds / 2 ^ k % 2 ≡ get_or ds (k / b) 0 / 2 ^ (k % b) % 2
number_bit b ds k h below =
    let x : ℕ = number (2 ^ b) ds in
    let where-is : 2 ^ k ≡ (2 ^ b) ^ (k / b) * 2 ^ (k % b) = ap (λ (n : ℕ). 2 ^ n) (sym (div-add-mod k b)) ∙ pow-add 2 (b * (k / b)) (k % b) ∙ ap (λ (n : ℕ). n * 2 ^ (k % b)) (power-power b (k / b)) in
    ap (λ (n : ℕ). x / n % 2) where-is
    ∙ ap (λ (n : ℕ). n % 2) (sym (div-div-eq-div-mul x ((2 ^ b) ^ (k / b)) (2 ^ (k % b))))
    ∙ low_bit (x / (2 ^ b) ^ (k / b)) b (k % b) (mod-lt k h)
    ∙ ap (λ (n : ℕ). n / 2 ^ (k % b) % 2) (digit_at (2 ^ b) ds (k / b) (pow_pos b) below)

-- ---- padding

-- the last byte, and the number of those before it
module _ (packed : List ℕ) (n : ℕ) (sized : length packed ≡ suc n) (below : Below 256 packed) where
  last-parts : number 256 packed ≡ number 256 (take n packed) + 256 ^ n * get_or packed n 0
  last-parts =
      let none = number-end 256 packed (n + 1) (omega (arith, sized)) in
      let last = number-drop 256 packed n (omega (arith, sized)) in
      let whole = number-run 256 packed 0 n (omega (arith, sized)) in
      whole ∙ ap (λ (m : ℕ). number 256 (take n packed) + 256 ^ n * m) (ap (λ (m : ℕ). number 256 (drop m packed)) (zero-add n) ∙ last ∙ omega (arith, none))

  before_last : number 256 (take n packed) < 256 ^ n
  before_last =
      let short : length (take n packed) ≡ n = length-take-le n packed (omega (arith, sized)) in
      let bytes : Below 256 (take n packed) = record { at = λ i g. rw (get_or-take n packed i 0 (omega (arith, short, g))) (below.at i (omega (arith, short, g, sized))) } in
      rw short at (number_lt 256 (take n packed) bytes)

  -- the number reaches past its lowest 8 n + r bits exactly where the last byte does past its lowest r bits
  module _ (r : ℕ) where
    used-power : 2 ^ (8 * n + r) ≡ 256 ^ n * 2 ^ r
    used-power = pow-add 2 (8 * n) r ∙ ap (λ (m : ℕ). m * 2 ^ r) (power-power 8 n)

    last_under : get_or packed n 0 < 2 ^ r → number 256 packed < 2 ^ (8 * n + r)
    last_under h =
        let more = mul-le-mul_left (256 ^ n) h in
        rw (used-power, last-parts) (omega (arith, before_last, more))

    last-over : 2 ^ r ≤ get_or packed n 0 → 2 ^ (8 * n + r) ≤ number 256 packed
    last-over h =
        let more = mul-le-mul_left (256 ^ n) h in
        rw (used-power, last-parts) (omega (arith, more))

    last-tells : (t : Bool) → ltb (get_or packed n 0) (2 ^ r) ≡ t → differs (get_or packed n 0 / 2 ^ r) 0 ≡ leb (2 ^ (8 * n + r)) (number 256 packed)
    last-tells true e =
        let h = ltb-true (get_or packed n 0) (2 ^ r) e in
        rw (lt-leb (2 ^ (8 * n + r)) (number 256 packed) (last_under h), eq-eqb (get_or packed n 0 / 2 ^ r) 0 (div-eq_of_lt h)) refl
    last-tells false e =
        let h = ltb-false (get_or packed n 0) (2 ^ r) e in
        let some : 1 ≤ get_or packed n 0 / 2 ^ r = (le-div_iff_mul-le (pow_pos r)).1 (rw one-mul h) in
        rw (le-leb (2 ^ (8 * n + r)) (number 256 packed) (last-over h), ne_eqb (get_or packed n 0 / 2 ^ r) 0 (λ z. omega (arith, some, z))) refl

-- the padding is not zero exactly where the bytes' number reaches past the bits that are used
pub padded-number : (packed : List ℕ) (used : ℕ) → length packed ≡ bytes_for used → Below 256 packed → bad_padding packed used ≡ leb (2 ^ used) (number 256 packed)
unfolding bad_padding
padded-number packed used sized below = by (eqb (used % 8) 0) refl
  where
    by : (t : Bool) → eqb (used % 8) 0 ≡ t → (differs (used % 8) 0 && differs (get_or packed (length packed - 1) 0 / 2 ^ (used % 8)) 0) ≡ leb (2 ^ used) (number 256 packed)
    by true e =
        let whole = eqb-true (used % 8) 0 e in
        let all : 8 * length packed ≡ used = omega (arith, sized, whole) in
        let bound : number 256 packed < 2 ^ used = rw (← all, power-power 8 (length packed)) (number_lt 256 packed below) in
        rw (e, lt-leb (2 ^ used) (number 256 packed) bound) refl
    by false e =
        let part = eqb-false (used % 8) 0 e in
        let n : ℕ = used / 8 in
        let sized' : length packed ≡ suc n = omega (arith, sized, part) in
        let last : length packed - 1 ≡ n = omega (arith, sized') in
        let parts : 8 * n + used % 8 ≡ used = div-add-mod used 8 in
        rw (e, last) (last-tells packed n sized' below (used % 8) (ltb (get_or packed n 0) (2 ^ (used % 8))) refl ∙ ap (λ (m : ℕ). leb (2 ^ m) (number 256 packed)) parts)
