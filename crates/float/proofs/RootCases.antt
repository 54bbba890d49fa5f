-- The cases of the root. The specials compute (`square_root-nan` and those below it). A program tells them apart by three comparisons, with 0.0 for equality and
-- for order, and with the infinity (`root-of-zero`, `root-of-infinite`, `root-of-none`); what is left is finite, not negative (`positive-finite`), and of more than 0
-- units (`positive-units`). Assumes nothing.
use Rattle.std.proofs.Common.{◌≡◌, ℕ, zero, suc, ◌*◌, ◌^◌, ◌<◌, Bool, true, false, ◌&&◌, ◌||◌, T, eqb, ltb, ◌⊎◌, ℤ, pos, sym, refl, ap, ◌∙◌, subst, inl, inr, true≢false, lt_irrefl, zero-lt-suc, eq-zero-or-pos, mul-pos, zero-mul, mul-one, arith, pow_pos, ltb-true, lt-ltb, ne_eqb}
use mathlib.Core.Bool.{beq, false≢true}
use lib.Ieee.{Float, nan, inf, fin, binary32, up, down, fits, to_bits, lt, eq}
use lib.Ieee.Fits.{up_pos}
use Rattle.float.specs.Units.{non_negative, mag}
use Rattle.float.specs.Inner.{significand_of, shift_of}
use Rattle.float.specs.SquareRoot.{square_root}
use Rattle.float.proofs.Decode.{significand-low, decode-to_bits, mag-to_bits}

-- ---- the specials

pub square_root-nan : square_root nan ≡ nan
unfolding square_root
square_root-nan = refl

pub square_root-infinity : square_root (inf false) ≡ inf false
unfolding square_root
square_root-infinity = refl

pub square_root-minus-infinity : square_root (inf true) ≡ nan
unfolding square_root
square_root-minus-infinity = refl

-- of either sign
pub square_root-zero : (s : Bool) (e : ℤ) → square_root (fin s 0 e) ≡ fin s 0 e
unfolding square_root
square_root-zero s e = refl

pub square_root-negative : (m : ℕ) (e : ℤ) → square_root (fin true (suc m) e) ≡ nan
unfolding square_root
square_root-negative m e = refl

-- ---- the comparisons

abbrev zero-float : Float
zero-float = fin false 0 (pos 0)

some : (m : ℕ) (e : ℤ) → 0 < suc m * up e * 1
some m e = subst (λ (n : ℕ). 0 < n) (sym (mul-one (suc m * up e))) (mul-pos (zero-lt-suc m) (up_pos e))

not-level : (a b : ℕ) (t : Bool) → 0 < a → b ≡ 0 → (eqb a b && t) ≡ true → ⊥
not-level a b t h e l =
    let f : eqb a b ≡ false = ne_eqb a b (λ p. omega arith) in
    false≢true (sym (ap (λ (x : Bool). x && t) f) ∙ l)

or-true : (t : Bool) → (t || true) ≡ true
or-true true = refl
or-true false = refl

level-zero : (a b : ℕ) (t : Bool) → a ≡ 0 → b ≡ 0 → (eqb a b && (t || eqb a 0)) ≡ true
level-zero a b t p q = ap (λ (x : ℕ). eqb x b && (t || eqb x 0)) p ∙ ap (λ (x : ℕ). eqb 0 x && (t || true)) q ∙ or-true t

none : (e : ℤ) → 0 * up e * 1 ≡ 0
none e = mul-one (0 * up e) ∙ zero-mul (up e)

not_under : (a b : ℕ) → b ≡ 0 → 0 < a → ltb b a ≡ false → ⊥
not_under a b e h l = true≢false (sym (lt-ltb b a (omega arith)) ∙ l)

pub root-of-zero : (x : Float) → eq x zero-float ≡ true → x ≡ square_root x
unfolding eq square_root
root-of-zero nan h = absurd (false≢true h)
root-of-zero (inf s) h = absurd (false≢true h)
root-of-zero (fin s zero e) h = refl
root-of-zero (fin s (suc m) e) h = absurd (not-level (suc m * up e * 1) (0 * down e) (beq s false || eqb (suc m * up e * 1) 0) (some m e) (zero-mul (down e)) h)

pub root-of-infinite : (x : Float) → lt zero-float x ≡ true → lt x (inf false) ≡ false → x ≡ square_root x
unfolding lt square_root
root-of-infinite nan g h = absurd (false≢true g)
root-of-infinite (inf true) g h = absurd (false≢true g)
root-of-infinite (inf false) g h = refl
root-of-infinite (fin s m e) g h = absurd (true≢false h)

pub root-of-none : (x : Float) → eq x zero-float ≡ false → lt zero-float x ≡ false → nan ≡ square_root x
unfolding eq lt square_root
root-of-none nan g h = refl
root-of-none (inf true) g h = refl
root-of-none (inf false) g h = absurd (true≢false h)
root-of-none (fin true zero e) g h = absurd (true≢false (sym (level-zero (0 * up e * 1) (0 * down e) false (none e) (zero-mul (down e))) ∙ g))
root-of-none (fin false zero e) g h = absurd (true≢false (sym (level-zero (0 * up e * 1) (0 * down e) true (none e) (zero-mul (down e))) ∙ g))
root-of-none (fin true (suc m) e) g h = refl
root-of-none (fin false (suc m) e) g h = absurd (not_under (suc m * up e * 1) (0 * down e) (zero-mul (down e)) (some m e) h)

pub positive-finite : (x : Float) → lt zero-float x ≡ true → lt x (inf false) ≡ true → T (non_negative x)
unfolding lt
positive-finite nan g h = absurd (false≢true g)
positive-finite (inf true) g h = absurd (false≢true g)
positive-finite (inf false) g h = absurd (false≢true h)
positive-finite (fin true m e) g h = absurd (false≢true g)
positive-finite (fin false m e) g h = tt

other-positive : (a u v d : ℕ) → 0 < a → 0 < u → a * u ≡ v * d → 0 < v
other-positive a u zero d A U h = absurd (lt_irrefl 0 (subst (λ (n : ℕ). 0 < n) (h ∙ zero-mul d) (mul-pos A U)))
other-positive a u (suc v) d A U h = zero-lt-suc v

magnitude : (a b : ℕ) → ltb (0 * b) (a * 1) ≡ true → 0 < a
magnitude a b h = omega (arith, ltb-true (0 * b) (a * 1) h)

pub positive-mag : (x : Float) → T (fits binary32 x) → lt zero-float x ≡ true → lt x (inf false) ≡ true → 0 < mag x
unfolding lt
positive-mag nan f g h = absurd (false≢true g)
positive-mag (inf true) f g h = absurd (false≢true g)
positive-mag (inf false) f g h = absurd (false≢true h)
positive-mag (fin true m e) f g h = absurd (false≢true g)
positive-mag (fin false m e) f g h =
    let b = to_bits binary32 (fin false m e) in
    subst (λ (n : ℕ). 0 < n) (sym (mag-to_bits (fin false m e) f tt))
    (other-positive (m * up e) (2 ^ 149) (significand_of b * 2 ^ shift_of b) (down e) (magnitude (m * up e) (down e) g) (pow_pos 149) (decode-to_bits (fin false m e) f tt).1)

-- a pattern of 0 is that of 0 units
pub to_bits-positive : (x : Float) → T (fits binary32 x) → T (non_negative x) → 0 < mag x → 0 < to_bits binary32 x
to_bits-positive x f g h = go (eq-zero-or-pos (to_bits binary32 x))
  where
    empty : (b : ℕ) → b ≡ 0 → significand_of b * 2 ^ shift_of b ≡ 0
    empty b e = ap (λ (n : ℕ). n * 2 ^ shift_of b) (significand-low b (omega arith) ∙ e) ∙ zero-mul (2 ^ shift_of b)

    go : (to_bits binary32 x ≡ 0) ⊎ (0 < to_bits binary32 x) → 0 < to_bits binary32 x
    go (inl e) = absurd (lt_irrefl 0 (subst (λ (n : ℕ). 0 < n) (mag-to_bits x f g ∙ empty (to_bits binary32 x) e) h))
    go (inr l) = l
