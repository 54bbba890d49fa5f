-- A direction entry passes exactly where −1 is at most it and it is at most 1: a NaN is in neither order, and an infinity fails one.
-- Assumes nothing.
use Prim.Native.Nat.{ℕ, ◌+◌, ◌*◌}
use mathlib.Core.Path.{◌≡◌, refl, sym, ◌∙◌}
use mathlib.Core.Bool.{Bool, true, false, not, ◌&&◌, ◌||◌, false≢true, or-not_self, and-false, or-true}
use native.Mathlib.Nat.{add_comm}
use native.Mathlib.Omega.{arith}
use borrow.Author.Tests.{ltb-true, ltb-false, eqb-true, not-true, not-false, eq-eqb, ne_eqb}
use lib.Dec.{ltb, eqb}
use lib.IntN.{ℤ, pos}
use lib.Ieee.{Float, nan, inf, fin, below, level, lt, le, eq, up, down}
use Rattle.setup_tables.specs.Checks.{bad_direction}

-- of two numbers, one is less, or they are equal, which e says
less-or-equal : (a b : ℕ) (e : Bool) → (a ≡ b → e ≡ true) → ((a ≡ b → ⊥) → e ≡ false) → (ltb a b || e) ≡ not (ltb b a)
less-or-equal a b e same other = split (ltb a b) refl (ltb b a) refl
  where
    split : (p : Bool) → ltb a b ≡ p → (q : Bool) → ltb b a ≡ q → (ltb a b || e) ≡ not (ltb b a)
    split true f true g = absurd (omega (arith, ltb-true a b f, ltb-true b a g))
    split true f false g = simp (f, g)
    split false f true g = let l = ltb-true b a g in simp (f, g, other (λ z. omega (arith, l, z)))
    split false f false g = simp (f, g, same (omega (arith, ltb-false a b f, ltb-false b a g)))

both_zero : (a b : ℕ) → (eqb a b && eqb a 0) ≡ not (ltb 0 (b + a))
both_zero a b = split (ltb 0 (b + a)) refl (eqb a 0) refl
  where
    split : (p : Bool) → ltb 0 (b + a) ≡ p → (q : Bool) → eqb a 0 ≡ q → (eqb a b && eqb a 0) ≡ not (ltb 0 (b + a))
    split true f true g = let l = ltb-true 0 (b + a) f in let z = eqb-true a 0 g in simp (f, ne_eqb a b (λ e. omega (arith, l, z, e)))
    split true f false g = simp (f, g, and-false)
    split false f q g = let l = ltb-false 0 (b + a) f in let z : a ≡ 0 = omega (arith, l) in let w : a ≡ b = omega (arith, l) in simp (f, eq-eqb a 0 z, eq-eqb a b w)

-- a signed number is below another or level with it exactly where the other is not below it
signed-total : (s : Bool) (a : ℕ) (t : Bool) (b : ℕ) → (below s a t b || level s a t b) ≡ not (below t b s a)
signed-total false a false b = less-or-equal a b (eqb a b && true) (λ h. simp (eq-eqb a b h)) (λ h. simp (ne_eqb a b h))
signed-total false a true b = both_zero a b
signed-total true a false b = rw (both_zero a b, add_comm b a) (or-not_self (ltb 0 (a + b)))
signed-total true a true b = less-or-equal b a (eqb a b && true) (λ h. simp (eq-eqb a b (sym h))) (λ h. simp (ne_eqb a b (λ e. h (sym e))))

-- of two finite floats, the first is at most the second exactly where the second is not below it
pub le_not_lt : (s : Bool) (m : ℕ) (e : ℤ) (t : Bool) (n : ℕ) (d : ℤ) → le (fin s m e) (fin t n d) ≡ not (lt (fin t n d) (fin s m e))
unfolding le lt eq
le_not_lt s m e t n d = signed-total s (m * up e * down d) t (n * up d * down e)

-- ---- the two tests, and what they say of an entry

finite-within : (s : Bool) (m : ℕ) (e : ℤ) → le (fin true 1 (pos 0)) (fin s m e) ≡ true → le (fin s m e) (fin false 1 (pos 0)) ≡ true → bad_direction (fin s m e) ≡ false
unfolding bad_direction
finite-within s m e low high =
    let p : lt (fin s m e) (fin true 1 (pos 0)) ≡ false = not-true _ (sym (le_not_lt true 1 (pos 0) s m e) ∙ low) in
    let q : lt (fin false 1 (pos 0)) (fin s m e) ≡ false = not-true _ (sym (le_not_lt s m e false 1 (pos 0)) ∙ high) in
    simp (p, q)

finite-below : (s : Bool) (m : ℕ) (e : ℤ) → le (fin true 1 (pos 0)) (fin s m e) ≡ false → bad_direction (fin s m e) ≡ true
unfolding bad_direction
finite-below s m e low = let p : lt (fin s m e) (fin true 1 (pos 0)) ≡ true = not-false _ (sym (le_not_lt true 1 (pos 0) s m e) ∙ low) in simp p

finite-above : (s : Bool) (m : ℕ) (e : ℤ) → le (fin s m e) (fin false 1 (pos 0)) ≡ false → bad_direction (fin s m e) ≡ true
unfolding bad_direction
finite-above s m e high = let q : lt (fin false 1 (pos 0)) (fin s m e) ≡ true = not-false _ (sym (le_not_lt s m e false 1 (pos 0)) ∙ high) in simp (q, or-true)

pub direction-within : (x : Float) → le (fin true 1 (pos 0)) x ≡ true → le x (fin false 1 (pos 0)) ≡ true → bad_direction x ≡ false
unfolding le lt eq
direction-within nan low high = absurd (false≢true low)
direction-within (inf true) low high = absurd (false≢true low)
direction-within (inf false) low high = absurd (false≢true high)
direction-within (fin s m e) low high = finite-within s m e low high

pub direction-below : (x : Float) → le (fin true 1 (pos 0)) x ≡ false → bad_direction x ≡ true
unfolding bad_direction
direction-below nan low = refl
direction-below (inf s) low = refl
direction-below (fin s m e) low = finite-below s m e low

pub direction-above : (x : Float) → le x (fin false 1 (pos 0)) ≡ false → bad_direction x ≡ true
unfolding bad_direction
direction-above nan high = refl
direction-above (inf s) high = refl
direction-above (fin s m e) high = finite-above s m e high
