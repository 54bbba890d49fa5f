-- Digits one at a time: what a loop over a list of digits reads, and what a loop that writes digits leaves.
-- Assumes nothing.
use Prim.Native.Nat.{ℕ, zero, suc, ◌+◌, ◌-◌, ◌*◌, ◌/◌, ◌%◌, ◌^◌, ◌≤◌, ◌<◌}
use mathlib.Core.Path.{◌≡◌, refl, sym, ap, ◌∙◌}
use mathlib.Core.List.{List, ◌∷◌, ◌++◌, append-nil}
use native.Mathlib.Nat.{add-mul-mod_self_left, add-mul-div_left, pow-succ', mul_assoc}
use native.Mathlib.Numerals.{add-one}
use native.Mathlib.Omega.{arith}
use lib.ListN.{length, get_or, take, drop, set, drop_of_length-le, take-append-drop, length-drop}
use lib.Seq.{drop-cons, take_all, length-take-le, drop-drop}
use Rattle.digits.specs.Digits.{number, digits}
use Rattle.digits.specs.Inner.{four_at}
use Rattle.lists.proofs.Stores.{run-four, store-next}
use Rattle.digits.proofs.Laws.{number-nil, number-cons, number_append, digits-none, digits_more}

-- the lowest n digits do not see what stands above them
pub digits_low : (base n low high : ℕ) → 0 < base → digits base n (low + base ^ n * high) ≡ digits base n low
unfolding digits
digits_low base zero low high h = refl
digits_low base (suc n) low high h =
    let e : low + base ^ suc n * high ≡ low + base * (base ^ n * high) = rw (pow-succ', mul_assoc) in
    rw (e, add-mul-mod_self_left low base (base ^ n * high), add-mul-div_left low (base ^ n * high) h, digits_low base n (low / base) high h)

-- ---- reading

pub number-drop : (base : ℕ) (ds : List ℕ) (i : ℕ) → i < length ds → number base (drop i ds) ≡ get_or ds i 0 + base * number base (drop (i + 1) ds)
number-drop base ds i h = ap (number base) (drop-cons ds i 0 h) ∙ number-cons base (get_or ds i 0) (drop (suc i) ds) ∙ rw add-one

pub number-end : (base : ℕ) (ds : List ℕ) (i : ℕ) → length ds ≤ i → number base (drop i ds) ≡ 0
number-end base ds i h = ap (number base) (drop_of_length-le ds h) ∙ number-nil base

-- a run of n digits from index i, and what stands above it
pub number-run : (base : ℕ) (ds : List ℕ) (i n : ℕ) → i + n ≤ length ds → number base (drop i ds) ≡ number base (take n (drop i ds)) + base ^ n * number base (drop (i + n) ds)
number-run base ds i n h =
    ap (number base) (sym (take-append-drop n (drop i ds)))
    ∙ number_append base (take n (drop i ds)) (drop n (drop i ds))
    ∙ rw (length-take-le n (drop i ds) (rw length-drop (omega arith)), drop-drop)

-- a word of four bytes at `at`, and what stands above it
pub number_word : (bytes : List ℕ) (at : ℕ) → at + 4 ≤ length bytes → number 256 (drop at bytes) ≡ number 256 (four_at bytes at) + 2 ^ 32 * number 256 (drop (at + 4) bytes)
number_word bytes at h = number-run 256 bytes at 4 h ∙ rw (run-four {A = ℕ} bytes at 0 h)

-- ---- writing: what stands before k, and the digits that are still to be written from k on

pub digits-next : (base n k y : ℕ) → k < n → digits base (n - k) y ≡ y % base ∷ digits base (n - (k + 1)) (y / base)
digits-next base n k y h =
    let e : n - k ≡ suc (n - (k + 1)) = omega arith in
    ap (λ (m : ℕ). digits base m y) e ∙ digits_more base (n - (k + 1)) y

pub write-next : (base : ℕ) (out : List ℕ) (k y : ℕ) → k < length out → take k out ++ digits base (length out - k) y ≡ take (k + 1) (set out k (y % base)) ++ digits base (length out - (k + 1)) (y / base)
write-next base out k y h =
    ap (λ (ds : List ℕ). take k out ++ ds) (digits-next base (length out) k y h)
    ∙ store-next out k (y % base) (digits base (length out - (k + 1)) (y / base)) h

pub write-end : (base : ℕ) (out : List ℕ) (k y : ℕ) → length out ≤ k → take k out ++ digits base (length out - k) y ≡ out
write-end base out k y h =
    let e : length out - k ≡ 0 = omega arith in
    ap (λ (m : ℕ). take k out ++ digits base m y) e
    ∙ ap (λ (ds : List ℕ). take k out ++ ds) (digits-none base y)
    ∙ append-nil (take k out)
    ∙ take_all k out h
