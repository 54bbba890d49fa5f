-- Floats that are numbers and not below zero, by their size in units: `Worth`. A sum, a difference that is not below zero, a product or a quotient of
-- two such floats has the exact size, rounded once, where that is not too large: `add-worth` to `div-worth`; a quotient whose dividend is no larger than its divisor
-- never passes 1.0: `quotient-one`. The size of such a float is kept by rounding (`worth-kept`) and below `too_large`, and the comparison of two is that of their sizes
-- (`lt-worth`). Assumes nothing.
use mathlib.Core.Path.{◌≡◌, refl, sym, ap, ◌∙◌, subst}
use mathlib.Core.Logic.{◌⊎◌, inl, inr}
use Prim.Native.Nat.{ℕ, zero, suc, ◌+◌, ◌-◌, ◌*◌, ◌^◌, ◌≤◌, ◌<◌}
use native.Mathlib.Nat.{mul-pos, mul-le-mul_right, le_of_mul-le-mul_right, lt_of_le_of_lt, lt_of_mul-lt-mul_right, mul-lt-mul_of_pos_right, zero-lt-suc}
use native.Mathlib.Omega.{arith}
use mathlib.Core.Bool.{Bool, true, false}
use borrow.Author.Tests.{ltb-true, ltb-false, lt-ltb, le-ltb}
use lib.IntN.{ℤ, pos}
use lib.Dec.{T, ltb, lit≤}
use lib.Ieee.{Float, nan, inf, fin, binary32, low, up, down, unlike, add, sub, mul, div, below, lt, of_int, round, units, size, fits}
use lib.Ieee.Back.{round_whole}
use lib.Ieee.Exact.{HasValue, units_val}
use lib.Ieee.Fits.{up_pos, down_pos, round_is, round-fits, of_int-fits}
use lib.Ieee.Order.{drop, kept}
use lib.Ieee.Scale.{finite, overflow}
use Rattle.rounding.specs.Signed.{Diff, signed, Same}
use Rattle.rounding.specs.Value.{val}
use Rattle.float.specs.Constants.{pos_zero, one}
use Rattle.float.specs.Units.{unit, mag}
use Rattle.float.proofs.Units.{mag-zero}
use Rattle.rounding.proofs.Monotone.{rounded-same, rounded-most}
use Rattle.rounding.proofs.Nearest.{rounded, rounded-error}
use Rattle.rounding.proofs.Product.{product-scaled, div_is}
use Rattle.rounding.proofs.Sum.{Rounds, add_rounds, sub-rounds, crossed}
use Rattle.rounding.proofs.Values.{unit-is, unit-pos, mag-exact, val-signed, val-of-value, finite-of-value, round_val, rescaled, round_keeps, mag-under}

-- 2 ^ 128, in units: every finite f32 is smaller
unfoldable pub too_large : ℕ
too_large = overflow binary32

-- x is an f32, and the number of n units; a zero may have either sign
pub record Worth (x : Float) (n : ℕ) : Type 0 where
  pub fit : T (fits binary32 x)
  pub number : T (finite x)
  pub is : val x ≡ signed false n

signed-size : (s t : Bool) (m n : ℕ) → signed s m ≡ signed t n → m ≡ n
signed-size false false m n e = ap (λ (d : Diff). d.plus) e
signed-size true true m n e = ap (λ (d : Diff). d.minus) e
signed-size true false m n e = ap (λ (d : Diff). d.minus) e ∙ ap (λ (d : Diff). d.plus) e
signed-size false true m n e = ap (λ (d : Diff). d.plus) e ∙ ap (λ (d : Diff). d.minus) e

pub worth-mag : {x : Float} {n : ℕ} → Worth x n → mag x ≡ n
worth-mag {x} {n} h = let s = val-signed x in signed-size s.0 false (mag x) n (sym s.1 ∙ h.is)

-- a float without a sign
pub number-worth : (m : ℕ) (e : ℤ) → T (fits binary32 (fin false m e)) → Worth (fin false m e) (mag (fin false m e))
unfolding val
number-worth m e h = record { fit = h; number = tt; is = refl }

pub zero-worth : Worth pos_zero 0
unfolding val mag unit fits
zero-worth = record { fit = tt; number = tt; is = refl }

pub one-worth : Worth (one false) unit
unfolding val mag unit fits
one-worth = record { fit = tt; number = tt; is = refl }

-- one with a sign is a zero
pub worth-sign : (s : Bool) (m : ℕ) (e : ℤ) {n : ℕ} → Worth (fin s m e) n → T s → n ≡ 0
unfolding val
worth-sign true m e h t = sym (ap (λ (d : Diff). d.plus) h.is)
worth-sign false m e h t = absurd t

-- ---- the sizes of finite f32
pub worth-under : (x : Float) {n : ℕ} → Worth x n → n < too_large
unfolding too_large
worth-under x h = rw (← worth-mag h) (mag-under x h.fit)

too_large-some : 3 ≤ too_large
unfolding too_large
too_large-some = lit≤ tt

-- what is at most 3 / 4 of that stays below it when it is rounded
pub rounded-under : (n c : ℕ) → 0 < c → 4 * n ≤ 3 * too_large * c → rounded 24 n c < too_large
rounded-under n c C l = under (rounded 24 n c) too_large too_large-some l (rounded-error n c C).above
  where
    under : (g P : ℕ) → 3 ≤ P → 4 * n ≤ 3 * P * c → 2 ^ 24 * (g * c) ≤ 2 ^ 24 * n + (n + 2 ^ 23 * c) → g < P
    under g P some l h =
        let a : 2 ^ 26 * g ≤ (2 ^ 24 + 1) * 3 * P + 2 ^ 25 = le_of_mul-le-mul_right {m = 2 ^ 26 * g} {n = (2 ^ 24 + 1) * 3 * P + 2 ^ 25} (omega (arith, h, l)) C in
        omega arith

round_number : (s : Bool) (num den : ℕ) → rounded 24 (num * unit) den < too_large → T (finite (round binary32 s num den))
unfolding too_large
round_number s num den l =
    let n = num * 2 ^ low binary32 in
    let q = kept 24 n den in
    let k = drop 24 n den in
    let small : q * 2 ^ k < overflow binary32 = subst (λ (u : ℕ). rounded 24 (num * u) den < overflow binary32) (sym unit-is) l in
    subst (λ (x : Float). T (finite x)) (sym (round_is binary32 s num den)) (finite-of-value (units binary32 s q k) s (q * 2 ^ k) (2 ^ low binary32) (units_val binary32 s q k small))

-- ---- what `round` makes of a fraction that is n / c units
zero-rounded : (c : ℕ) → 0 < c → rounded 24 0 c ≡ 0
unfolding size
zero-rounded c C = let h = rounded-most 23 0 c 0 C refl (omega arith) in omega arith

round-worth : (s : Bool) (num den n c : ℕ) → 0 < den → 0 < c → num * unit * c ≡ n * den → (T s → n ≡ 0) → rounded 24 n c < too_large → Worth (round binary32 s num den) (rounded 24 n c)
round-worth s num den n c D C e z l =
    let same : rounded 24 (num * unit) den ≡ rounded 24 n c = rounded-same 23 (num * unit) den n c D C e in
    let t = round_number s num den (subst (λ (g : ℕ). g < too_large) (sym same) l) in
    record { fit = round-fits binary32 s num den; number = t; is = round_val s num den t ∙ ap (signed s) same ∙ unsigned s z }
  where
    unsigned : (s : Bool) → (T s → n ≡ 0) → signed s (rounded 24 n c) ≡ signed false (rounded 24 n c)
    unsigned false z = refl
    unsigned true z = rw (z tt, zero-rounded c C)

-- ---- the size of a float is kept by rounding
pub worth-kept : (x : Float) {n : ℕ} → Worth x n → rounded 24 n 1 ≡ n
worth-kept nan h = absurd h.number
worth-kept (inf s) h = absurd h.number
worth-kept (fin s m e) {n} h =
    let x = fin s m e in
    let z = round binary32 s (m * up e) (down e) in
    let units = mag-exact s m e h.fit in
    let v : HasValue z s (mag x) unit = round_keeps x s (m * up e) (down e) h.fit tt (down_pos e) (sym units) in
    let same : rounded 24 (m * up e * unit) (down e) ≡ mag x =
    signed-size s s (rounded 24 (m * up e * unit) (down e)) (mag x) (sym (round_val s (m * up e) (down e) (finite-of-value z s (mag x) unit v)) ∙ val-of-value z s (mag x) v) in
    rounded-same 23 n 1 (m * up e * unit) (down e) (omega arith) (down_pos e) (omega (arith, units, ap (λ (k : ℕ). k * down e) (worth-mag h))) ∙ same ∙ worth-mag h

-- ---- sums and differences
rounds-worth : {v : Float} {z : Diff} (n : ℕ) → Rounds v z → Same z (signed false n) → rounded 24 n 1 < too_large → Worth v (rounded 24 n 1)
rounds-worth {v} {z} n r w l =
    let known = exactly r.sign r.exact r.same in
    let fraction : r.num * unit * 1 ≡ n * r.den = omega (arith, r.scaled, ap (λ (d : ℕ). d * r.den) known.0) in
    subst (λ (x : Float). Worth x (rounded 24 n 1)) (sym r.made) (round-worth r.sign r.num r.den n 1 r.den_pos (omega arith) fraction known.1 l)
  where
    exactly : (s : Bool) (d : ℕ) → Same z (signed s d) → (d ≡ n) × (T s → n ≡ 0)
    exactly false d h = (omega (arith, h.even, w.even), λ t. absurd t)
    exactly true d h = (omega (arith, h.even, w.even), λ t. omega (arith, h.even, w.even))

pub add-worth : (x y : Float) {a b : ℕ} → Worth x a → Worth y b → rounded 24 (a + b) 1 < too_large → Worth (add binary32 x y) (rounded 24 (a + b) 1)
add-worth x y {a} {b} h k l = rounds-worth (a + b) (add_rounds x y h.fit k.fit h.number k.number) (rw (h.is, k.is) (record { even = omega arith })) l

-- a difference is never too large
pub sub-worth : (x y : Float) {a b : ℕ} → Worth x a → Worth y b → b ≤ a → Worth (sub binary32 x y) (rounded 24 (a - b) 1)
sub-worth x y {a} {b} h k o =
    rounds-worth (a - b) (sub-rounds x y h.fit k.fit h.number k.number) (rw (h.is, k.is) (record { even = omega arith }))
    (lt_of_le_of_lt (rounded-most 23 (a - b) 1 a (omega arith) (worth-kept x h) (omega arith)) (worth-under x h))

-- ---- products and quotients
-- of two that have unlike signs one is a zero
unlike-zero : (s t : Bool) {a b : ℕ} → (T s → a ≡ 0) → (T t → b ≡ 0) → T (unlike s t) → (a ≡ 0) ⊎ (b ≡ 0)
unlike-zero true false f g t = inl (f tt)
unlike-zero false true f g t = inr (g tt)
unlike-zero true true f g t = absurd t
unlike-zero false false f g t = absurd t

pub mul-worth : (x y : Float) {a b : ℕ} → Worth x a → Worth y b → rounded 24 (a * b) unit < too_large → Worth (mul binary32 x y) (rounded 24 (a * b) unit)
mul-worth nan y h k l = absurd h.number
mul-worth (inf s) y h k l = absurd h.number
mul-worth (fin s m e) nan h k l = absurd k.number
mul-worth (fin s m e) (inf t) h k l = absurd k.number
mul-worth (fin s m e) (fin t n d) {a} {b} h k l = unfold mul in
    let scaled = product-scaled (m * up e) (down e) (down d) (n * up d) (mag (fin s m e)) (mag (fin t n d)) (mag-exact s m e h.fit) (mag-exact t n d k.fit) in
    round-worth (unlike s t) (m * up e * (n * up d)) (down e * down d) (a * b) unit (mul-pos (down_pos e) (down_pos d)) unit-pos
    (rw (worth-mag h, worth-mag k) at scaled) (λ w. elim (unlike-zero s t (worth-sign s m e h) (worth-sign t n d k) w) [ inl z ↦ rw z (omega arith) | inr z ↦ rw z (omega arith) ]) l

quotient-scaled : (m e d n A B u : ℕ) → A * e ≡ m * u → B * d ≡ n * u → m * d * u * B ≡ A * u * (n * e)
quotient-scaled m e d n A B u p q = omega (arith, ap (λ (x : ℕ). x * (d * B)) p, ap (λ (x : ℕ). A * e * x) q)

pub div-worth : (x y : Float) {a b : ℕ} → Worth x a → Worth y b → 0 < b → rounded 24 (a * unit) b < too_large → Worth (div binary32 x y) (rounded 24 (a * unit) b)
div-worth nan y h k P l = absurd h.number
div-worth (inf s) y h k P l = absurd h.number
div-worth (fin s m e) nan h k P l = absurd k.number
div-worth (fin s m e) (inf t) h k P l = absurd k.number
div-worth (fin s m e) (fin t zero d) {a} {b} h k P l = absurd (omega (arith, P, worth-mag k, mag-zero t d))
div-worth (fin s m e) (fin t (suc n) d) {a} {b} h k P l =
    let scaled = quotient-scaled (m * up e) (down e) (down d) (suc n * up d) (mag (fin s m e)) (mag (fin t (suc n) d)) unit (mag-exact s m e h.fit) (mag-exact t (suc n) d k.fit) in
    rw (div_is s m e t n d)
    (round-worth (unlike s t) (m * up e * down d) (suc n * up d * down e) (a * unit) b (mul-pos (mul-pos (zero-lt-suc n) (up_pos d)) (down_pos e)) P
    (rw (worth-mag h, worth-mag k) at scaled) (λ w. elim (unlike-zero s t (worth-sign s m e h) (worth-sign t (suc n) d k) w) [ inl z ↦ rw z (omega arith) | inr z ↦ absurd (omega (arith, P, z)) ]) l)

-- ---- a quotient whose dividend is no larger than its divisor never passes 1.0
pub quotient-one : (a b : ℕ) → 0 < b → a ≤ b → rounded 24 (a * unit) b ≤ unit
quotient-one a b P h = rounded-most 23 (a * unit) b unit P (worth-kept (one false) one-worth) (omega (arith, mul-le-mul_right unit h))

pub quotient-worth : (x y : Float) {a b : ℕ} → Worth x a → Worth y b → 0 < b → a ≤ b → Worth (div binary32 x y) (rounded 24 (a * unit) b)
quotient-worth x y {a} {b} h k P l = div-worth x y h k P (lt_of_le_of_lt (quotient-one a b P l) (worth-under (one false) one-worth))

-- ---- whole numbers
pub whole-worth : (n : ℕ) → n ≤ 2 ^ 24 → Worth (of_int binary32 (pos n)) (n * unit)
unfolding of_int
whole-worth n h =
    let x = round binary32 false n 1 in
    let v = rescaled x false n 1 (n * unit) unit (omega arith) (omega arith) (round_whole binary32 false n h) in
    record { fit = of_int-fits binary32 (pos n); number = finite-of-value x false (n * unit) unit v; is = val-of-value x false (n * unit) v }

-- ---- comparisons
ltb-scaled : (A B a b u c : ℕ) → 0 < u → 0 < c → A * u ≡ a * c → B * u ≡ b * c → ltb A B ≡ ltb a b
ltb-scaled A B a b u c U C p q = by (ltb A B) refl
  where
    by : (t : Bool) → ltb A B ≡ t → t ≡ ltb a b
    by true k = sym (lt-ltb a b (lt_of_mul-lt-mul_right c (omega (arith, p, q, mul-lt-mul_of_pos_right (ltb-true A B k) U))))
    by false k = sym (le-ltb a b (le_of_mul-le-mul_right {m = b} {n = a} (omega (arith, p, q, mul-le-mul_right u (ltb-false A B k))) C))

-- two floats that have the same denominator, by the signs; one with a sign is a zero
below-worth : (s t : Bool) (A B a b c : ℕ) → 0 < c → A * unit ≡ a * c → B * unit ≡ b * c → (T s → a ≡ 0) → (T t → b ≡ 0) → below s A t B ≡ ltb a b
below-worth false false A B a b c C p q f g = ltb-scaled A B a b unit c unit-pos C p q
below-worth false true A B a b c C p q f g = sym (le-ltb a b (omega (arith, g tt)))
below-worth true false A B a b c C p q f g =
    ltb-scaled 0 (A + B) 0 b unit c unit-pos C (omega arith) (omega (arith, p, q, ap (λ (n : ℕ). n * c) (f tt))) ∙ ap (λ (n : ℕ). ltb n b) (sym (f tt))
below-worth true true A B a b c C p q f g = ltb-scaled B A b a unit c unit-pos C q p ∙ rw (f tt, g tt)

pub lt-worth : (x y : Float) {a b : ℕ} → Worth x a → Worth y b → lt x y ≡ ltb a b
unfolding lt
lt-worth nan y h k = absurd h.number
lt-worth (inf s) y h k = absurd h.number
lt-worth (fin s m e) nan h k = absurd k.number
lt-worth (fin s m e) (inf t) h k = absurd k.number
lt-worth (fin s m e) (fin t n d) {a} {b} h k =
    let p = crossed (m * up e) (down e) (down d) (mag (fin s m e)) (mag-exact s m e h.fit) in
    let q = crossed (n * up d) (down d) (down e) (mag (fin t n d)) (mag-exact t n d k.fit) in
    below-worth s t (m * up e * down d) (n * up d * down e) a b (down e * down d) (mul-pos (down_pos e) (down_pos d))
    (rw (worth-mag h) at p) (omega (arith, rw (worth-mag k) at q)) (worth-sign s m e h) (worth-sign t n d k)
