-- An index in packed bytes is a digit of their number, and stands in any word that begins at or before its first bit and ends at or behind its last. Bytes that are
-- missing count as 0. Assumes nothing.
use Prim.Native.Nat.{ℕ, zero, suc, ◌+◌, ◌-◌, ◌*◌, ◌/◌, ◌%◌, ◌^◌, ◌≤◌, ◌<◌}
use mathlib.Core.Path.{◌≡◌, refl, sym, ap, ◌∙◌}
use mathlib.Core.List.{List, [], ◌∷◌}
use native.Mathlib.Nat.{pow-zero, pow-succ', div-one, div-div-eq-div-mul, div-eq_of_lt, add-mul-div_left, zero-div, add-mul, mul_assoc, mul_left_comm, mul_comm, eq-or-lt_of_le, not-suc-le-zero, le_of_suc-le-suc}
use mathlib.Core.Logic.{⊎_elim}
use native.Mathlib.Omega.{arith}
use lib.ListN.{get_or, drop}
use lib.Pow.{shr-shr}
use Rattle.digits.specs.Digits.{number, digits}
use Rattle.digits.specs.Inner.{four_at}
use Rattle.digits.proofs.Laws.{Below, below-head, below-tail}
use Rattle.bitpack.specs.Packing.{indices_in}
use Rattle.digits.proofs.Powers.{power-power}
use Rattle.digits.proofs.Windows.{low-out, shift-out}
use Rattle.polar_blocks.specs.Inner.{index_at, Four}

-- ---- a digit, by its place
digits-at : (base n x i : ℕ) → i < n → get_or (digits base n x) i 0 ≡ x / base ^ i % base
unfolding digits
digits-at base zero x i h = absurd (not-suc-le-zero h)
digits-at base (suc n) x zero h = rw (pow-zero, div-one)
digits-at base (suc n) x (suc i) h = digits-at base n (x / base) i (le_of_suc-le-suc h) ∙ rw (pow-succ', ← div-div-eq-div-mul)

pub index-digit : (bits pairs : ℕ) (bytes : List ℕ) (i : ℕ) → i < pairs → index_at bits bytes i ≡ get_or (indices_in bits pairs bytes) i 0
index-digit bits pairs bytes i h =
    sym (digits-at (2 ^ bits) pairs (number 256 bytes) i h ∙ ap (λ (p : ℕ). number 256 bytes / p % 2 ^ bits) (sym (power-power bits i) ∙ ap (λ (m : ℕ). 2 ^ m) (mul_comm bits i)))

-- ---- a word at some bytes
-- the number from a byte on, whether or not that byte is there
number-suc : (bytes : List ℕ) (i : ℕ) → number 256 (drop i bytes) ≡ get_or bytes i 0 + 256 * number 256 (drop (suc i) bytes)
unfolding number
number-suc [] zero = refl
number-suc [] (suc i) = refl
number-suc (b ∷ bs) zero = refl
number-suc (b ∷ bs) (suc i) = number-suc bs i

number-next : (bytes : List ℕ) (i next : ℕ) → next ≡ suc i → number 256 (drop i bytes) ≡ get_or bytes i 0 + 256 * number 256 (drop next bytes)
number-next bytes i next e = rw e (number-suc bytes i)

-- four bytes from a place on, whether or not they are there, and what stands above them
pub number-four : (bytes : List ℕ) (at : ℕ) → number 256 (drop at bytes) ≡ number 256 (four_at bytes at) + 2 ^ 32 * number 256 (drop (at + 4) bytes)
unfolding number
number-four bytes at =
    let a = number-next bytes at (at + 1) (omega arith) in
    let b = number-next bytes (at + 1) (at + 2) (omega arith) in
    let c = number-next bytes (at + 2) (at + 3) (omega arith) in
    let d = number-next bytes (at + 3) (at + 4) (omega arith) in
    omega (arith, a, b, c, d)

pub number-eight : (bytes : List ℕ) (at low high : ℕ) → low ≡ number 256 (four_at bytes at) → high ≡ number 256 (four_at bytes (at + 4))
    → number 256 (drop at bytes) ≡ low + 4294967296 * high + 2 ^ 64 * number 256 (drop (at + 8) bytes)
number-eight bytes at low high e f = let a = number-four bytes at in let b = number-four bytes (at + 4) in let s : at + 4 + 4 ≡ at + 8 = omega arith in let b' = rw s at b in omega (arith, a, b', e, f)

-- ---- an index in a word
-- what stands from a byte on
number-from : (bytes : List ℕ) (at : ℕ) → Below 256 bytes → number 256 bytes / 2 ^ (8 * at) ≡ number 256 (drop at bytes)
unfolding number
number-from bytes zero below = div-one (number 256 bytes)
number-from [] (suc at) below = zero-div (2 ^ (8 * suc at))
number-from (b ∷ bs) (suc at) below =
    let n : ℕ = number 256 bs in
    let small = div-eq_of_lt (below-head below) in
    let eight : 8 * suc at ≡ 8 + 8 * at = omega arith in
    let first : (b + 256 * n) / 2 ^ 8 ≡ n = omega (arith, add-mul-div_left b n {y = 256} (omega arith), small) in
    ap (λ (m : ℕ). (b + 256 * n) / 2 ^ m) eight ∙ sym (shr-shr (b + 256 * n) 8 (8 * at)) ∙ ap (λ (m : ℕ). m / 2 ^ (8 * at)) first ∙ number-from bs at (below-tail below)

-- index i stands s bits above the first of a word of so many bits
index_word : (bits held : ℕ) (bytes : List ℕ) (at s i word rest : ℕ) → Below 256 bytes → 8 * at + s ≡ i * bits → s + bits ≤ held → number 256 (drop at bytes) ≡ word + 2 ^ held * rest
    → word / 2 ^ s % 2 ^ bits ≡ index_at bits bytes i
index_word bits held bytes at s i word rest below place fits stands =
    sym
    (ap (λ (m : ℕ). number 256 bytes / 2 ^ m % 2 ^ bits) (sym place)
    ∙ ap (λ (m : ℕ). m % 2 ^ bits) (sym (shr-shr (number 256 bytes) (8 * at) s) ∙ ap (λ (m : ℕ). m / 2 ^ s) (number-from bytes at below ∙ stands) ∙ shift-out s held (omega arith) word rest)
    ∙ low-out bits (held - s) (omega arith) (word / 2 ^ s) rest)

-- four indices from a multiple of four on end within eight bytes
aligned-fits : (i bits : ℕ) → i % 4 ≡ 0 → bits ≤ 16 → i * bits % 8 + bits + bits + bits + bits ≤ 64
aligned-fits i bits aligned narrow =
    let whole : i ≡ i / 4 * 4 = omega (arith, aligned) in
    let place : i * bits ≡ 4 * (i / 4 * bits) = ap (λ (n : ℕ). n * bits) whole ∙ mul_assoc (i / 4) 4 bits ∙ omega (arith, mul_left_comm (i / 4) 4 bits) in
    ⊎_elim (λ (e : bits ≡ 16). rw e (omega arith)) (λ (l : bits < 16). omega (arith, place, l)) (eq-or-lt_of_le narrow)

-- the word that begins with an index has the next two as well, and the third where the first is a multiple of four
pub word-four : (bits : ℕ) (bytes : List ℕ) (i word rest : ℕ) → Below 256 bytes → bits ≤ 16 → number 256 (drop (i * bits / 8) bytes) ≡ word + 2 ^ 64 * rest → Four bits bytes i (word / 2 ^ (i * bits % 8))
word-four bits bytes i word rest below narrow stands =
    record {
      first = index_word bits 64 bytes at s i word rest below (omega arith) (omega arith) stands;
      second = ap (λ (m : ℕ). m % 2 ^ bits) one ∙ index_word bits 64 bytes at (s + bits) (i + 1) word rest below (omega (arith, add-mul i 1 bits)) (omega arith) stands;
      third = ap (λ (m : ℕ). m % 2 ^ bits) two ∙ index_word bits 64 bytes at (s + bits + bits) (i + 2) word rest below (omega (arith, add-mul i 2 bits)) (omega arith) stands;
      fourth = λ aligned. ap (λ (m : ℕ). m % 2 ^ bits) three ∙ index_word bits 64 bytes at (s + bits + bits + bits) (i + 3) word rest below (omega (arith, add-mul i 3 bits)) (aligned-fits i bits aligned narrow) stands;
    }
  where
    at : ℕ
    at = i * bits / 8

    s : ℕ
    s = i * bits % 8

    one : word / 2 ^ s / 2 ^ bits ≡ word / 2 ^ (s + bits)
    one = shr-shr word s bits

    two : word / 2 ^ s / 2 ^ bits / 2 ^ bits ≡ word / 2 ^ (s + bits + bits)
    two = ap (λ (m : ℕ). m / 2 ^ bits) one ∙ shr-shr word (s + bits) bits

    three : word / 2 ^ s / 2 ^ bits / 2 ^ bits / 2 ^ bits ≡ word / 2 ^ (s + bits + bits + bits)
    three = ap (λ (m : ℕ). m / 2 ^ bits) two ∙ shr-shr word (s + bits + bits) bits

-- and the first of four bytes' number
pub four-index : (bits : ℕ) (bytes : List ℕ) (i : ℕ) → Below 256 bytes → bits ≤ 16 → number 256 (four_at bytes (i * bits / 8)) / 2 ^ (i * bits % 8) % 2 ^ bits ≡ index_at bits bytes i
four-index bits bytes i below narrow = index_word bits 32 bytes (i * bits / 8) (i * bits % 8) i _ _ below (omega arith) (omega arith) (number-four bytes (i * bits / 8))
