-- A rounded sum or difference of two f32 is the exact one, a whole number of units, rounded once (`Rounds`). So 2 ^ 24 times the error is at most the size of the
-- exact one, with no absolute term. Assumes nothing.
use mathlib.Core.Path.{◌≡◌, refl, sym, ap, ◌∙◌, subst}
use Prim.Native.Nat.{ℕ, ◌+◌, ◌-◌, ◌*◌, ◌^◌, ◌≤◌, ◌<◌}
use native.Mathlib.Nat.{le_of_lt, le_trans, le_of_eq, le_antisymm, mul_comm, mul-sub, mul_assoc, mul_right_comm, mul-le-mul_right, le_of_mul-le-mul_right, mul-pos, add-mul}
use native.Mathlib.Omega.{arith}
use mathlib.Core.Bool.{Bool, true, false, not, ◌&&◌, cond}
use lib.Dec.{T, ltb, ltb→lt, nltb→le}
use lib.Ieee.{Float, nan, inf, fin, binary32, up, down, neg, sum, add, sub, round, fits}
use lib.Ieee.Fits.{down_pos, neg-fits}
use lib.Ieee.Scale.{finite}
use Rattle.rounding.specs.Signed.{Diff, signed, opposite, ◌⊞◌, ◌⊟◌, ◌⊙◌, Near, Same}
use Rattle.rounding.proofs.Signed.{size}
use Rattle.rounding.specs.Value.{val}
use Rattle.float.specs.Units.{unit, mag}
use Rattle.rounding.proofs.Finite.{neg-number, add-finite, sub-finite}
use Rattle.rounding.proofs.Nearest.{whole-rounded-apart, Apart, rounded}
use Rattle.rounding.proofs.Values.{mag-exact, round_val}

-- v is z, a whole number of units, rounded once: the fraction num / den that `round` is given comes to z
pub record Rounds (v : Float) (z : Diff) : Type 0 where
  pub sign : Bool
  pub num : ℕ
  pub den : ℕ
  pub exact : ℕ
  pub made : v ≡ round binary32 sign num den
  pub den_pos : 0 < den
  pub scaled : num * unit ≡ exact * den
  pub same : Same z (signed sign exact)

round-rounds : (σ : Bool) (num c d : ℕ) {z : Diff} → 0 < c → num * unit ≡ d * c → Same z (signed σ d) → Rounds (round binary32 σ num c) z
round-rounds σ num c d C e w = record { sign = σ; num = num; den = c; exact = d; made = refl; den_pos = C; scaled = e; same = w }

-- ---- a sum of two, by the signs
module _ (a b c A B : ℕ) (C : 0 < c) (p : a * unit ≡ A * c) (q : b * unit ≡ B * c) where
  sum-scaled : (a + b) * unit ≡ (A + B) * c
  sum-scaled = add-mul a b unit ∙ ap (λ (x : ℕ). x + b * unit) p ∙ ap (λ (x : ℕ). A * c + x) q ∙ sym (add-mul A B c)

  order-scaled : a ≤ b → A ≤ B
  order-scaled h = le_of_mul-le-mul_right (le_trans (le_of_eq (sym p)) (le_trans (mul-le-mul_right unit h) (le_of_eq q))) C

  difference-scaled : (a - b) * unit ≡ (A - B) * c
  difference-scaled =
      mul_comm (a - b) unit ∙ mul-sub unit a b ∙ ap (λ (x : ℕ). x - unit * b) (mul_comm unit a ∙ p ∙ mul_comm A c)
      ∙ ap (λ (x : ℕ). c * A - x) (mul_comm unit b ∙ q ∙ mul_comm B c) ∙ sym (mul-sub c A B) ∙ mul_comm c (A - B)

module _ (a b c A B : ℕ) (C : 0 < c) (p : a * unit ≡ A * c) (q : b * unit ≡ B * c) where
  sum_alike : (s : Bool) → Rounds (round binary32 s (a + b) c) (signed s A ⊞ signed s B)
  sum_alike false = round-rounds false (a + b) c (A + B) C (sum-scaled a b c A B C p q) (omega arith)
  sum_alike true = round-rounds true (a + b) c (A + B) C (sum-scaled a b c A B C p q) (omega arith)

  -- the second one is larger
  second-larger : (s : Bool) → a < b → Rounds (round binary32 (not s) (b - a) c) (signed s A ⊞ signed (not s) B)
  second-larger false l = round-rounds true (b - a) c (B - A) C (difference-scaled b a c B A C q p) (omega (arith, order-scaled a b c A B C p q (le_of_lt l)))
  second-larger true l = round-rounds false (b - a) c (B - A) C (difference-scaled b a c B A C q p) (omega (arith, order-scaled a b c A B C p q (le_of_lt l)))

  -- the first one is no smaller; an exact zero may have either sign
  first-larger : (s : Bool) → b ≤ a → Rounds (round binary32 s (a - b) c) (signed s A ⊞ signed (not s) B)
  first-larger false l = round-rounds false (a - b) c (A - B) C (difference-scaled a b c A B C p q) (omega (arith, order-scaled b a c B A C q p l))
  first-larger true l = round-rounds true (a - b) c (A - B) C (difference-scaled a b c A B C p q) (omega (arith, order-scaled b a c B A C q p l))

  both_equal : (s σ : Bool) → b ≤ a → a ≤ b → Rounds (round binary32 σ (a - b) c) (signed s A ⊞ signed (not s) B)
  both_equal s σ l g =
      let e : A ≡ B = le_antisymm (order-scaled a b c A B C p q g) (order-scaled b a c B A C q p l) in
      round-rounds σ (a - b) c (A - B) C (difference-scaled a b c A B C p q) (cancel s σ e)
    where
      cancel : (s σ : Bool) → A ≡ B → Same (signed s A ⊞ signed (not s) B) (signed σ (A - B))
      cancel false false e = omega arith
      cancel false true e = omega arith
      cancel true false e = omega arith
      cancel true true e = omega arith

  first-kept : (s y : Bool) → b ≤ a → (T (not y) → a ≤ b) → Rounds (round binary32 (s && y) (a - b) c) (signed s A ⊞ signed (not s) B)
  first-kept false y l g = first-larger false l
  first-kept true true l g = first-larger true l
  first-kept true false l g = both_equal true false l (g tt)

  sum-unlike : (s : Bool) → Rounds (cond (ltb a b) (round binary32 (not s) (b - a) c) (round binary32 (s && ltb b a) (a - b) c)) (signed s A ⊞ signed (not s) B)
  sum-unlike s = go (ltb a b) (ltb→lt a b) (nltb→le a b)
    where
      go : (x : Bool) → (T x → a < b) → (T (not x) → b ≤ a) → Rounds (cond x (round binary32 (not s) (b - a) c) (round binary32 (s && ltb b a) (a - b) c)) (signed s A ⊞ signed (not s) B)
      go true h k = second-larger s (h tt)
      go false h k = first-kept s (ltb b a) (k tt) (nltb→le b a)

  sum-rounds : (s t : Bool) → Rounds (sum binary32 s a t b c) (signed s A ⊞ signed t B)
  unfolding sum
  sum-rounds false false = sum_alike false
  sum-rounds false true = sum-unlike false
  sum-rounds true false = sum-unlike true
  sum-rounds true true = sum_alike true

-- the fractions that `add` hands to `sum` have the denominator of both
pub crossed : (m e d M : ℕ) → M * e ≡ m * unit → m * d * unit ≡ M * (e * d)
crossed m e d M h = mul_right_comm m d unit ∙ ap (λ (x : ℕ). x * d) (sym h) ∙ mul_assoc M e d

pub add_rounds : (x y : Float) → T (fits binary32 x) → T (fits binary32 y) → T (finite x) → T (finite y) → Rounds (add binary32 x y) (val x ⊞ val y)
add_rounds nan y h k f g = absurd f
add_rounds (inf s) y h k f g = absurd f
add_rounds (fin s m e) nan h k f g = absurd g
add_rounds (fin s m e) (inf u) h k f g = absurd g
add_rounds (fin s m e) (fin u n d) h k f g = unfold add val in
    sum-rounds (m * up e * down d) (n * up d * down e) (down e * down d) (mag (fin s m e)) (mag (fin u n d)) (mul-pos (down_pos e) (down_pos d))
    (crossed (m * up e) (down e) (down d) (mag (fin s m e)) (mag-exact s m e h))
    (crossed (n * up d) (down d) (down e) (mag (fin u n d)) (mag-exact u n d k) ∙ ap (λ (x : ℕ). mag (fin u n d) * x) (mul_comm (down d) (down e)))
    s u

-- ---- a difference is the sum with the negative
neg-val : (x : Float) → val (neg x) ≡ opposite (val x)
unfolding val neg mag
neg-val nan = refl
neg-val (inf s) = refl
neg-val (fin false m e) = refl
neg-val (fin true m e) = refl

pub sub-rounds : (x y : Float) → T (fits binary32 x) → T (fits binary32 y) → T (finite x) → T (finite y) → Rounds (sub binary32 x y) (val x ⊟ val y)
unfolding sub
sub-rounds x y h k f g = subst (λ (z : Diff). Rounds (add binary32 x (neg y)) (val x ⊞ z)) (neg-val y) (add_rounds x (neg y) h (neg-fits binary32 y k) f (neg-number y g))

-- ---- the error of one rounding
apart-near : (σ : Bool) (g d : ℕ) (z : Diff) → Same z (signed σ d) → Apart (2 ^ 24) g d d → Near (2 ^ 24 ⊙ signed σ g) (2 ^ 24 ⊙ z) (size z)
apart-near false g d z e h = record { above = omega (arith, h.above); below = omega (arith, h.below) }
apart-near true g d z e h = record { above = omega (arith, h.above); below = omega (arith, h.below) }

rounds-near : (v : Float) (z : Diff) → Rounds v z → T (finite v) → Near (2 ^ 24 ⊙ val v) (2 ^ 24 ⊙ z) (size z)
rounds-near v z r t =
    let g = rounded 24 (r.num * unit) r.den in
    let h : Apart (2 ^ 24) g r.exact r.exact = subst (λ (n : ℕ). Apart (2 ^ 24) (rounded 24 n r.den) r.exact r.exact) (sym r.scaled) (whole-rounded-apart 23 r.exact r.den r.den_pos) in
    let is : val v ≡ signed r.sign g = ap val r.made ∙ round_val r.sign r.num r.den (subst (λ (x : Float). T (finite x)) r.made t) in
    subst (λ (x : Diff). Near (2 ^ 24 ⊙ x) (2 ^ 24 ⊙ z) (size z)) (sym is) (apart-near r.sign g r.exact z r.same h)

pub add-near : (x y : Float) → T (fits binary32 x) → T (fits binary32 y) → T (finite (add binary32 x y))
    → Near (2 ^ 24 ⊙ val (add binary32 x y)) (2 ^ 24 ⊙ (val x ⊞ val y)) (size (val x ⊞ val y))
add-near x y h k t = let f = add-finite binary32 x y t in rounds-near (add binary32 x y) (val x ⊞ val y) (add_rounds x y h k f.0 f.1) t

pub sub-near : (x y : Float) → T (fits binary32 x) → T (fits binary32 y) → T (finite (sub binary32 x y))
    → Near (2 ^ 24 ⊙ val (sub binary32 x y)) (2 ^ 24 ⊙ (val x ⊟ val y)) (size (val x ⊟ val y))
sub-near x y h k t = let f = sub-finite binary32 x y t in rounds-near (sub binary32 x y) (val x ⊟ val y) (sub-rounds x y h k f.0 f.1) t
