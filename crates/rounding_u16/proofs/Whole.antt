-- What is left of a small float when 2 ^ 23 is added and taken away again: the nearest whole number, a half to either side. Then one comparison with the half above
-- it rounds the half away from zero. Assumes nothing.
use Prim.Native.Nat.{ℕ, suc, ◌+◌, ◌-◌, ◌*◌, ◌/◌, ◌%◌, ◌^◌, ◌≤◌, ◌<◌, min, compare, Ordering}
use mathlib.Core.Path.{◌≡◌, sym, ap, ◌∙◌, subst}
use mathlib.Core.Bool.{Bool, true, false, not, cond, true≢false}
use native.Mathlib.Nat.{mul-pos, add-mul, div-eq_of_lt-le, le_trans, le_of_eq, mul_assoc, mul_right_comm, mul-le-mul_right, mul-lt-mul_of_pos_right, le_of_mul-le-mul_right, lt_of_mul-lt-mul_right, lt_of_lt_of_le, div-add-mod', mod-lt, le-div_iff_mul-le, div-lt_iff_lt-mul, not-le_of_lt, lt_of_not-le, le_of_suc-le-suc}
use native.Mathlib.Omega.{arith}
use borrow.Author.Tests.{ltb-true, ltb-false, le-ltb}
use lib.Arith.{lt_of_le-ne}
use lib.Dec.{T, is_le, compare_is_eq, eqb, leb→le, nleb→lt, eqb→eq, eqb_refl}
use lib.IntN.{ℤ, pos, negsuc}
use lib.Pow.{pow-add, pow_pos, pow_mono, shl_lt}
use lib.Ieee.{Float, nan, inf, fin, binary32, up, down, size, nearest, units, round, sum, add, sub, neg, lt, of_int}
use lib.Ieee.Digits.{size-le, size-lt}
use lib.Ieee.Exact.{HasValue, round_exact}
use lib.Ieee.Fits.{core, round_is, down_pos}
use lib.Ieee.Nearest.{closest, closest_same}
use lib.Ieee.Scale.{round_same}
use lib.Ieee.Back.{round_whole}
use Rattle.float.specs.Rounding.{round_unsigned}
use Rattle.rounding_u16.specs.Inner.{Small}

-- ---- a fraction to the nearest whole number

abbrev Compared : Ordering → ℕ → ℕ → Type 0
Compared Ordering.lt a b = a < b
Compared Ordering.eq a b = a ≡ b
Compared Ordering.gt a b = b < a

compared : (a b : ℕ) → Compared (compare a b) a b
compared a b = go (compare a b) (leb→le a b) (nleb→lt a b) (eqb→eq a b) (λ (e : a ≡ b). subst (λ (x : ℕ). T (eqb a x)) e (eqb_refl a))
  where
    go : (o : Ordering) → (T (is_le o) → a ≤ b) → (T (not (is_le o)) → b < a) → (T (compare_is_eq o) → a ≡ b) → (a ≡ b → T (compare_is_eq o)) → Compared o a b
    go Ordering.lt h k e n = lt_of_le-ne (h tt) n
    go Ordering.eq h k e n = e tt
    go Ordering.gt h k e n = k tt

-- q is at most a half from a / d
pub record Near (a d q : ℕ) : Type 0 where
  pub above : 2 * (q * d) ≤ 2 * a + d
  pub below : 2 * a ≤ 2 * (q * d) + d

tie-near : (q t r d a : ℕ) → t ≤ 1 → q * d + r ≡ a → r * 2 ≡ d → Near a d (q + t)
tie-near q t r d a h e x = let k = mul-le-mul_right d h in record { above = omega arith; below = omega arith }

whole-near : (o : Ordering) (q r d a : ℕ) → q * d + r ≡ a → r < d → Compared o (r * 2) d → Near a d (nearest q o)
whole-near Ordering.lt q r d a e h x = record { above = omega arith; below = omega arith }
whole-near Ordering.eq q r d a e h x = tie-near q (q % 2) r d a (omega arith) e x
whole-near Ordering.gt q r d a e h x = record { above = omega arith; below = omega arith }

closest-near : (a d : ℕ) → 0 < d → Near a d (closest a d)
closest-near a d D = whole-near (compare (a % d * 2) d) (a / d) (a % d) d a (div-add-mod' a d) (mod-lt a D) (compared (a % d * 2) d)

-- ---- a fraction from 2 ^ 23 to 2 ^ 24 keeps its whole part, and no more

size_is : (n j : ℕ) → 2 ^ j ≤ n → n < 2 ^ suc j → size n ≡ suc j
size_is n j least most =
    let upper = size-le n (suc j) most in
    let lower : suc j ≤ size n = le_of_suc-le-suc (lt_of_not-le (λ (h : suc (size n) ≤ suc j). not-le_of_lt (size-lt n) (le_trans (pow_mono (le_of_suc-le-suc h)) least))) in
    omega (arith, upper, lower)

module _ (a d : ℕ) (D : 0 < d) (least : 2 ^ 23 * d ≤ a) (most : a < 2 ^ 24 * d) where
  dropped : size (a * 2 ^ 149 / d) ≡ 173
  dropped =
      size_is (a * 2 ^ 149 / d) 172
      ((le-div_iff_mul-le D).1 (le_trans (le_of_eq (ap (λ (x : ℕ). x * d) (pow-add 2 23 149) ∙ mul_right_comm (2 ^ 23) (2 ^ 149) d)) (mul-le-mul_right (2 ^ 149) least)))
      ((div-lt_iff_lt-mul D).1 (lt_of_lt_of_le (mul-lt-mul_of_pos_right most (pow_pos 149)) (le_of_eq (mul_right_comm (2 ^ 24) d (2 ^ 149) ∙ ap (λ (x : ℕ). x * d) (sym (pow-add 2 24 149))))))

  whole-round : round binary32 false a d ≡ units binary32 false (closest a d) 149
  whole-round =
      round_is binary32 false a d
      ∙ ap (λ (k : ℕ). core binary32 false (a * 2 ^ 149) d (k - 24)) dropped
      ∙ ap (λ (q : ℕ). units binary32 false q 149) (closest_same (a * 2 ^ 149) (d * 2 ^ 149) a d (mul-pos D (pow_pos 149)) D (mul_right_comm a (2 ^ 149) d ∙ mul_assoc a d (2 ^ 149)))

closest-whole : (q : ℕ) → closest q 1 ≡ q
closest-whole q = let near = closest-near q 1 (omega arith) in omega (arith, near.above, near.below)

whole-units : (q : ℕ) → 2 ^ 23 ≤ q → q < 2 ^ 24 → round binary32 false q 1 ≡ units binary32 false q 149
whole-units q least most = whole-round q 1 (omega arith) (omega arith) (omega arith) ∙ ap (λ (x : ℕ). units binary32 false x 149) (closest-whole q)

-- ---- 2 ^ 23 added, and taken away again

abbrev pub large : Float
large = fin false 1 (pos 23)

-- the sum, a whole number
abbrev summed : ℕ → ℕ → ℕ
summed v d = closest (v + 2 ^ 23 * d) d

module _ (v d : ℕ) (D : 0 < d) (small : v ≤ 65535 * d) where
  summed-near : Near (v + 2 ^ 23 * d) d (summed v d)
  summed-near = closest-near (v + 2 ^ 23 * d) d D

  summed-least : 2 ^ 23 ≤ summed v d
  summed-least = let l : 2 ^ 24 ≤ 2 * summed v d + 1 = le_of_mul-le-mul_right (omega (arith, summed-near.below)) D in omega arith

  summed-most : summed v d ≤ 2 ^ 23 + 65535
  summed-most = let l : 2 * summed v d ≤ 2 ^ 24 + 131071 = le_of_mul-le-mul_right (omega (arith, summed-near.above)) D in omega arith

  -- what is left is as near to v / d
  left_near : Near v d (summed v d - 2 ^ 23)
  left_near =
      let w : ℕ = summed v d - 2 ^ 23 in
      let e : summed v d ≡ w + 2 ^ 23 = omega (arith, summed-least) in
      let p : summed v d * d ≡ w * d + 2 ^ 23 * d = ap (λ (x : ℕ). x * d) e ∙ add-mul w (2 ^ 23) d in
      record { above = omega (arith, summed-near.above, p); below = omega (arith, summed-near.below, p) }

added : (m : ℕ) (e : ℤ) → m * up e ≤ 65535 * down e → add binary32 (fin false m e) large ≡ round binary32 false (summed (m * up e) (down e)) 1
unfolding add sum
added m e small =
    let v = m * up e in
    let d = down e in
    let D = down_pos e in
    round_same binary32 false (v * 1 + 1 * 2 ^ 23 * d) (d * 1) (v + 2 ^ 23 * d) d (omega (arith, D)) D (omega arith)
    ∙ whole-round (v + 2 ^ 23 * d) d D (omega arith) (omega (arith, D))
    ∙ sym (whole-units (summed v d) (summed-least v d D small) (omega (arith, summed-most v d D small)))

taken : (y : Float) (q : ℕ) → HasValue y false q 1 → 2 ^ 23 ≤ q → sub binary32 y large ≡ round binary32 false (q - 2 ^ 23) 1
unfolding sub neg add sum
taken nan q h least = absurd h
taken (inf s) q h least = absurd h
taken (fin true m e) q h least = absurd (true≢false h.0)
taken (fin false m e) q h least =
    let v = m * up e in
    let d = down e in
    let w : ℕ = q - 2 ^ 23 in
    let p : q * d ≡ w * d + 2 ^ 23 * d = let e : q ≡ w + 2 ^ 23 = omega (arith, least) in ap (λ (x : ℕ). x * d) e ∙ add-mul w (2 ^ 23) d in
    ap (λ (b : Bool). cond b (round binary32 true (1 * 2 ^ 23 * d - v * 1) (d * 1)) (round binary32 false (v * 1 - 1 * 2 ^ 23 * d) (d * 1))) (le-ltb (v * 1) (1 * 2 ^ 23 * d) (omega (arith, h.1, p)))
    ∙ round_same binary32 false (v * 1 - 1 * 2 ^ 23 * d) (d * 1) w 1 (omega (arith, down_pos e)) (omega arith) (omega (arith, h.1, p))

-- ---- the half above a whole number

abbrev pub half : Float
half = fin false 1 (negsuc 0)

halved : (x : Float) (w : ℕ) → HasValue x false w 1 → w < 65536 → HasValue (add binary32 x half) false (2 * w + 1) 2
unfolding add sum
halved nan w h k = absurd h
halved (inf s) w h k = absurd h
halved (fin true m e) w h k = absurd (true≢false h.0)
halved (fin false m e) w h k =
    subst (λ (x : Float). HasValue x false (2 * w + 1) 2)
    (sym (round_same binary32 false (m * up e * 2 + 1 * 1 * down e) (down e * 2) (2 * w + 1) 2 (omega (arith, down_pos e)) (omega arith) (omega (arith, h.1))))
    (round_exact binary32 false (2 * w + 1) 2 (2 * w + 1) 148 (omega arith) (omega arith) (lt_of_lt_of_le (shl_lt 24 148 (omega arith)) (pow_mono {i = 172} {j = 277} (omega arith))) (sym (mul_assoc (2 * w + 1) (2 ^ 148) 2)))

-- v / d compared with it
module _ (m : ℕ) (e : ℤ) (w : ℕ) where
  below_half : (h : Float) → HasValue h false (2 * w + 1) 2 → lt (fin false m e) h ≡ true → 2 * (m * up e) < (2 * w + 1) * down e
  unfolding lt
  below_half nan g t = absurd g
  below_half (inf s) g t = absurd g
  below_half (fin true n k) g t = absurd (true≢false g.0)
  below_half (fin false n k) g t =
      let l = ltb-true (m * up e * down k) (n * up k * down e) t in
      lt_of_mul-lt-mul_right (down k) (omega (arith, l, ap (λ (x : ℕ). x * down e) g.1))

  not_below-half : (h : Float) → HasValue h false (2 * w + 1) 2 → lt (fin false m e) h ≡ false → (2 * w + 1) * down e ≤ 2 * (m * up e)
  unfolding lt
  not_below-half nan g t = absurd g
  not_below-half (inf s) g t = absurd g
  not_below-half (fin true n k) g t = absurd (true≢false g.0)
  not_below-half (fin false n k) g t =
      let l = ltb-false (m * up e * down k) (n * up k * down e) t in
      le_of_mul-le-mul_right (omega (arith, l, ap (λ (x : ℕ). x * down e) g.1)) (down_pos k)

-- ---- the number that v / d rounds to

module _ (v d w : ℕ) (D : 0 < d) (small : v ≤ 65535 * d) (near : Near v d w) where
  -- it is k
  rounds : (k : ℕ) → k * (2 * d) ≤ 2 * v + d → 2 * v + d < (k + 1) * (2 * d) → k ≡ min ((2 * v + d) / (2 * d)) 65535
  rounds k least most =
      let q : (2 * v + d) / (2 * d) ≡ k = div-eq_of_lt-le (2 * d) least most in
      let l : 2 * k ≤ 131071 = le_of_mul-le-mul_right (omega (arith, least)) D in
      omega (arith, q, l)

  rounds-down : 2 * v < (2 * w + 1) * d → w ≡ min ((2 * v + d) / (2 * d)) 65535
  rounds-down h = rounds w (omega (arith, near.above)) (omega (arith, h))

  rounds-up : (2 * w + 1) * d ≤ 2 * v → w + 1 ≡ min ((2 * v + d) / (2 * d)) 65535
  rounds-up h = rounds (w + 1) (omega (arith, h)) (omega (arith, near.below, D))

-- ---- a small float

-- the nearest whole number, a half to either side
abbrev pub whole_of : Float → ℕ
whole_of nan = 0
whole_of (inf s) = 0
whole_of (fin s m e) = summed (m * up e) (down e) - 2 ^ 23

pub whole-small : (z : Float) → Small z → whole_of z < 65536
whole-small nan h = absurd h
whole-small (inf s) h = absurd h
whole-small (fin true m e) h = absurd h
whole-small (fin false m e) h = omega (arith, summed-most (m * up e) (down e) (down_pos e) h)

-- it is left after the sum and the difference
pub left_is : (z : Float) → Small z → sub binary32 (add binary32 z large) large ≡ of_int binary32 (pos (whole_of z))
unfolding of_int
left_is nan h = absurd h
left_is (inf s) h = absurd h
left_is (fin true m e) h = absurd h
left_is (fin false m e) h =
    let q = summed (m * up e) (down e) in
    ap (λ (y : Float). sub binary32 y large) (added m e h)
    ∙ taken (round binary32 false q 1) q (round_whole binary32 false q (omega (arith, summed-most (m * up e) (down e) (down_pos e) h))) (summed-least (m * up e) (down e) (down_pos e) h)

-- the half above it
above : (z : Float) → Small z → HasValue (add binary32 (of_int binary32 (pos (whole_of z))) half) false (2 * whole_of z + 1) 2
unfolding of_int
above z h = let s = whole-small z h in halved (round binary32 false (whole_of z) 1) (whole_of z) (round_whole binary32 false (whole_of z) (omega (arith, s))) s

pub round-down : (z : Float) → Small z → lt z (add binary32 (of_int binary32 (pos (whole_of z))) half) ≡ true → whole_of z ≡ round_unsigned 16 z
unfolding round_unsigned
round-down nan h t = absurd h
round-down (inf s) h t = absurd h
round-down (fin true m e) h t = absurd h
round-down (fin false m e) h t =
    rounds-down (m * up e) (down e) (whole_of (fin false m e)) (down_pos e) h (left_near (m * up e) (down e) (down_pos e) h)
    (below_half m e (whole_of (fin false m e)) _ (above (fin false m e) h) t)

pub round_up : (z : Float) → Small z → lt z (add binary32 (of_int binary32 (pos (whole_of z))) half) ≡ false → whole_of z + 1 ≡ round_unsigned 16 z
unfolding round_unsigned
round_up nan h t = absurd h
round_up (inf s) h t = absurd h
round_up (fin true m e) h t = absurd h
round_up (fin false m e) h t =
    rounds-up (m * up e) (down e) (whole_of (fin false m e)) (down_pos e) h (left_near (m * up e) (down e) (down_pos e) h)
    (not_below-half m e (whole_of (fin false m e)) _ (above (fin false m e) h) t)
