-- Laws of numbers and their digits: digits of a number and the number of digits undo each other, and both go through a split of the list.
-- `repack` is the round trip of packing: digits in one base, written as digits in another, come back.
-- Assumes nothing.
use Prim.Native.Nat.{ℕ, zero, suc, ◌+◌, ◌*◌, ◌/◌, ◌%◌, ◌^◌, ◌<◌, suc-le-suc}
use mathlib.Core.Path.{◌≡◌, refl, sym, ap}
use mathlib.Core.List.{List, [], ◌∷◌, ◌++◌}
use native.Mathlib.Nat.{zero-add, mul-pos, mul-le-mul_left, pow-zero, pow-suc, pow-succ', div-one, div-div-eq-div-mul, mod-one, not-suc-le-zero, le_of_suc-le-suc, mod-lt, mod-eq_of_lt, div-eq_of_lt, add-mul-div_left, add-mul-mod_self_left, suc-add}
use native.Mathlib.Omega.{arith}
use lib.Arith.{mod-mul}
use lib.ListN.{length, get_or}
use Rattle.digits.specs.Digits.{number, digits}

-- every item is a digit of the base
pub record Below (base : ℕ) (ds : List ℕ) : Type 0 where
  pub at : (i : ℕ) → i < length ds → get_or ds i 0 < base

pub below-head : {base d : ℕ} {ds : List ℕ} → Below base (d ∷ ds) → d < base
below-head h = h.at 0 (omega arith)

pub below-tail : {base d : ℕ} {ds : List ℕ} → Below base (d ∷ ds) → Below base ds
below-tail h = record { at = λ i g. h.at (suc i) (suc-le-suc g) }

below-cons-at : (base d : ℕ) (ds : List ℕ) → d < base → Below base ds → (i : ℕ) → i < length (d ∷ ds) → get_or (d ∷ ds) i 0 < base
below-cons-at base d ds h hs zero g = h
below-cons-at base d ds h hs (suc i) g = hs.at i (le_of_suc-le-suc g)

pub below-cons : {base d : ℕ} {ds : List ℕ} → d < base → Below base ds → Below base (d ∷ ds)
below-cons {base} {d} {ds} h hs = record { at = below-cons-at base d ds h hs }

-- ---- one digit

pub number-nil : (base : ℕ) → number base [] ≡ 0
unfolding number
number-nil base = refl

pub number-cons : (base d : ℕ) (ds : List ℕ) → number base (d ∷ ds) ≡ d + base * number base ds
unfolding number
number-cons base d ds = refl

pub digits-none : (base x : ℕ) → digits base 0 x ≡ []
unfolding digits
digits-none base x = refl

pub digits_more : (base n x : ℕ) → digits base (suc n) x ≡ x % base ∷ digits base n (x / base)
unfolding digits
digits_more base n x = refl

-- a power of a base above 0 is above 0
pub power_pos : {base : ℕ} (n : ℕ) → 0 < base → 0 < base ^ n
power_pos zero h = rw pow-zero (omega arith)
power_pos {base} (suc n) h = rw pow-suc (mul-pos (power_pos n h) h)

-- ---- lengths and bounds

pub length_digits : (base n x : ℕ) → length (digits base n x) ≡ n
unfolding digits
length_digits base zero x = refl
length_digits base (suc n) x = ap suc (length_digits base n (x / base))

pub digits-below : (base n x : ℕ) → 0 < base → Below base (digits base n x)
unfolding digits
digits-below base zero x h = record { at = λ i g. absurd (not-suc-le-zero g) }
digits-below base (suc n) x h = below-cons (mod-lt x h) (digits-below base n (x / base) h)

pub number_lt : (base : ℕ) (ds : List ℕ) → Below base ds → number base ds < base ^ length ds
unfolding number
number_lt base [] h = rw pow-zero (omega arith)
number_lt base (d ∷ ds) h =
    let more = mul-le-mul_left base (number_lt base ds (below-tail h)) in
    let head = below-head h in
    rw pow-succ' (omega (arith, more, head))

-- ---- there and back

pub number_digits : (base n x : ℕ) → 0 < base → number base (digits base n x) ≡ x % base ^ n
unfolding number digits
number_digits base zero x h = rw pow-zero (sym (mod-one x))
number_digits base (suc n) x h =
    let rest = number_digits base n (x / base) h in
    let whole = mod-mul x (power_pos n h) h in
    rw (rest, pow-suc, whole) (omega arith)

pub digits_number : (base : ℕ) (ds : List ℕ) → Below base ds → digits base (length ds) (number base ds) ≡ ds
unfolding number digits
digits_number base [] h = refl
digits_number base (d ∷ ds) h =
    let low = below-head h in
    let positive : 0 < base = omega arith in
    rw (add-mul-mod_self_left d base (number base ds), mod-eq_of_lt low, add-mul-div_left d (number base ds) positive, div-eq_of_lt low, zero-add, digits_number base ds (below-tail h))

-- ---- a list in two parts

pub number_append : (base : ℕ) (xs ys : List ℕ) → number base (xs ++ ys) ≡ number base xs + base ^ length xs * number base ys
unfolding number
number_append base [] ys = rw pow-zero (omega arith)
number_append base (x ∷ xs) ys = rw (number_append base xs ys, pow-succ') (omega arith)

pub digits_append : (base m n x : ℕ) → digits base (m + n) x ≡ digits base m x ++ digits base n (x / base ^ m)
unfolding digits
digits_append base zero n x = rw (zero-add, pow-zero, div-one)
digits_append base (suc m) n x = rw (suc-add, digits_append base m n (x / base), div-div-eq-div-mul, ← pow-succ')

-- ---- packing

-- Digits in one base, written as n digits in another base that are enough for their number, come back.
pub repack : (base other n : ℕ) (ds : List ℕ) → Below base ds → 0 < other → number base ds < other ^ n → digits base (length ds) (number other (digits other n (number base ds))) ≡ ds
repack base other n ds h positive enough = rw (number_digits other n (number base ds) positive, mod-eq_of_lt enough) (digits_number base ds h)
