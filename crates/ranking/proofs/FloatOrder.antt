-- Less than is a strict weak order on finite floats: of two at most one is less, and what is not less than a second that is not less than a third is not less than the
-- third. The two zeros are equal in it. Assumes nothing.
use mathlib.Core.Path.{◌≡◌, refl, ap, ◌∙◌}
use Prim.Native.Nat.{ℕ, ◌+◌, ◌*◌, ◌<◌, ◌≤◌}
use native.Mathlib.Nat.{mul_right_comm, mul-le-mul_right, le_of_mul-le-mul_right, eq_of_mul-eq-mul_right, zero-mul, le_of_eq, le_trans}
use native.Mathlib.Omega.{arith}
use mathlib.Core.Bool.{Bool, true, false}
use lib.Dec.{T}
use lib.Ieee.{Float, nan, inf, fin, up, down, below, lt}
use lib.Ieee.Fits.{down_pos}
use lib.Ieee.Scale.{finite}
use borrow.Author.Tests.{ltb-true, ltb-false, le-ltb}

-- ---- the sizes of three floats as the fractions P / p, Q / q and R / r, with the signs s, t and u
cross-trans : (P Q R p q r : ℕ) → 0 < q → Q * p ≤ P * q → R * q ≤ Q * r → R * p ≤ P * r
cross-trans P Q R p q r q-pos pq qr =
    le_of_mul-le-mul_right {m = R * p} {n = P * r} {k = q}
    (le_trans (le_of_eq (mul_right_comm R p q)) (le_trans (mul-le-mul_right p qr) (le_trans (le_of_eq (mul_right_comm Q r p)) (le_trans (mul-le-mul_right r pq) (le_of_eq (mul_right_comm P q r))))))
    q-pos

nought : (R q p : ℕ) → 0 < q → R * q ≤ 0 → R * p ≤ 0
nought R q p q-pos h =
    let z : R ≡ 0 = eq_of_mul-eq-mul_right q q-pos R 0 (omega arith) in
    le_of_eq (ap (λ (n : ℕ). n * p) z ∙ zero-mul p)

below-neg-trans : (P Q R p q r : ℕ) → 0 < p → 0 < q → 0 < r → (s t u : Bool)
    → below s (P * q) t (Q * p) ≡ false → below t (Q * r) u (R * q) ≡ false → below s (P * r) u (R * p) ≡ false
below-neg-trans P Q R p q r p-pos q-pos r-pos false false false a b =
    le-ltb _ _ (cross-trans P Q R p q r q-pos (ltb-false _ _ a) (ltb-false _ _ b))
below-neg-trans P Q R p q r p-pos q-pos r-pos false false true a b = refl
below-neg-trans P Q R p q r p-pos q-pos r-pos false true false a b =
    let z = ltb-false 0 (Q * r + R * q) b in
    let y = nought R q p q-pos (omega arith) in
    le-ltb (P * r) (R * p) (omega arith)
below-neg-trans P Q R p q r p-pos q-pos r-pos false true true a b = refl
below-neg-trans P Q R p q r p-pos q-pos r-pos true false false a b =
    let z = ltb-false 0 (P * q + Q * p) a in
    let w = ltb-false (Q * r) (R * q) b in
    let v = nought Q p r p-pos (omega arith) in
    let y = nought R q p q-pos (omega arith) in
    let x = nought P q r q-pos (omega arith) in
    le-ltb 0 (P * r + R * p) (omega arith)
below-neg-trans P Q R p q r p-pos q-pos r-pos true false true a b =
    let z = ltb-false 0 (P * q + Q * p) a in
    let x = nought P q r q-pos (omega arith) in
    le-ltb (R * p) (P * r) (omega arith)
below-neg-trans P Q R p q r p-pos q-pos r-pos true true false a b =
    let z = ltb-false (Q * p) (P * q) a in
    let w = ltb-false 0 (Q * r + R * q) b in
    let v = nought Q r p r-pos (omega arith) in
    let y = nought R q p q-pos (omega arith) in
    let x = nought P q r q-pos (omega arith) in
    le-ltb 0 (P * r + R * p) (omega arith)
below-neg-trans P Q R p q r p-pos q-pos r-pos true true true a b =
    le-ltb _ _ (cross-trans R Q P r q p q-pos (ltb-false _ _ b) (ltb-false _ _ a))

below-asym : (a b : ℕ) (s t : Bool) → below s a t b ≡ true → below t b s a ≡ false
below-asym a b false false h = le-ltb b a (omega (arith, ltb-true a b h))
below-asym a b false true h = absurd (omega (arith, ap bit h))
  where
    bit : Bool → ℕ
    bit true = 1
    bit false = 0
below-asym a b true false h = refl
below-asym a b true true h = le-ltb a b (omega (arith, ltb-true b a h))

-- ---- the two laws
pub lt-neg-trans : (x y z : Float) → T (finite x) → T (finite y) → T (finite z) → lt x y ≡ false → lt y z ≡ false → lt x z ≡ false
unfolding lt
lt-neg-trans (fin s m e) (fin t n d) (fin u k g) f1 f2 f3 a b =
    below-neg-trans (m * up e) (n * up d) (k * up g) (down e) (down d) (down g) (down_pos e) (down_pos d) (down_pos g) s t u a b
lt-neg-trans nan y z f1 f2 f3 a b = absurd f1
lt-neg-trans (inf s) y z f1 f2 f3 a b = absurd f1
lt-neg-trans (fin s m e) nan z f1 f2 f3 a b = absurd f2
lt-neg-trans (fin s m e) (inf t) z f1 f2 f3 a b = absurd f2
lt-neg-trans (fin s m e) (fin t n d) nan f1 f2 f3 a b = absurd f3
lt-neg-trans (fin s m e) (fin t n d) (inf u) f1 f2 f3 a b = absurd f3

pub lt-asym : (x y : Float) → T (finite x) → T (finite y) → lt x y ≡ true → lt y x ≡ false
unfolding lt
lt-asym (fin s m e) (fin t n d) f1 f2 a = below-asym (m * up e * down d) (n * up d * down e) s t a
lt-asym nan y f1 f2 a = absurd f1
lt-asym (inf s) y f1 f2 a = absurd f1
lt-asym (fin s m e) nan f1 f2 a = absurd f2
lt-asym (fin s m e) (inf t) f1 f2 a = absurd f2
