-- What a pattern below the infinity's stands for: `significand_of b * 2 ^ shift_of b` units of 2 ^ -149, not negative (`decode`); and every finite f32 that is not
-- negative has such a pattern (`non_negative-to_bits`), so its units are read off its pattern (`units-toBits`) and are its exact value (`units-value`). Assumes nothing.
use Rattle.std.proofs.Common.{◌≡◌, ℕ, zero, suc, ◌+◌, ◌-◌, ◌*◌, ◌/◌, ◌%◌, ◌^◌, ◌<◌, ◌≤◌, Bool, true, false, cond, not, T, eqb, ltb, sym, refl, ap, ◌∙◌, subst, mod-eq_of_lt, sub-one, arith, ltb→lt, le-ltb, lt-ltb, ne_eqb, le-leb}
use native.Mathlib.Decide.{dec_lt}
use borrow.Author.Tests.{lt-leb}
use lib.Ieee.{Float, nan, inf, fin, binary32, odd, of_fields, of_bits, to_bits, fits}
use lib.Ieee.Exact.{HasValue, odd_sign}
use lib.Ieee.Bits.{of_bits-to_bits}
use Rattle.float.specs.Units.{non_negative, unit, mag}
use Rattle.float.specs.Inner.{significand_of, shift_of}
use Rattle.float.proofs.Units.{mag-of-value}

-- ---- the fields of a pattern

pub significand-low : (b : ℕ) → b < 2 ^ 23 → significand_of b ≡ b
unfolding significand_of
significand-low b h = ap (λ (t : Bool). cond t b (2 ^ 23 + b % 2 ^ 23)) (lt-ltb b (2 ^ 23) h)

pub significand-high : (b : ℕ) → 2 ^ 23 ≤ b → significand_of b ≡ 2 ^ 23 + b % 2 ^ 23
unfolding significand_of
significand-high b h = ap (λ (t : Bool). cond t b (2 ^ 23 + b % 2 ^ 23)) (le-ltb b (2 ^ 23) h)

pub significand-lt : (b : ℕ) → significand_of b < 2 ^ 24
significand-lt b = go (dec_lt b (2 ^ 23))
  where
    more : 2 ^ 23 + b % 2 ^ 23 < 2 ^ 24
    more = omega arith

    go : Dec (b < 2 ^ 23) → significand_of b < 2 ^ 24
    go (yes h) = rw (significand-low b h) (omega arith)
    go (no h) = rw (significand-high b (omega arith)) more

pub significand-positive : (b : ℕ) → 0 < b → 0 < significand_of b
significand-positive b h = go (dec_lt b (2 ^ 23))
  where
    go : Dec (b < 2 ^ 23) → 0 < significand_of b
    go (yes l) = rw (significand-low b l) h
    go (no l) = rw (significand-high b (omega arith)) (omega arith)

pub shift_le : (b : ℕ) → b < 0x7F80_0000 → shift_of b ≤ 253
unfolding shift_of
shift_le b h = omega arith

fields-below : (b k : ℕ) → b < 0x7F80_0000 → b / 2 ^ 23 ≡ suc k → (2 ^ 23 ≤ b) × (suc k < 255)
fields-below b k h e = (omega arith, omega arith)

of_fields-normal : (s : Bool) (k t : ℕ) → suc k < 255 → of_fields binary32 s (suc k) t ≡ odd 24 s (2 ^ 23 + t) k 149
unfolding of_fields
of_fields-normal s k t h = ap (λ (q : Bool). cond q (cond (eqb t 0) (inf s) nan) (odd 24 s (2 ^ 23 + t) k 149)) (ne_eqb (suc k) 255 (λ e. omega arith))

of_fields-low : (s : Bool) (t : ℕ) → of_fields binary32 s 0 t ≡ odd 24 s t 0 149
unfolding of_fields
of_fields-low s t = refl

of_bits-positive : (b : ℕ) → b < 0x8000_0000 → of_bits binary32 b ≡ of_fields binary32 false (b / 2 ^ 23) (b % 2 ^ 23)
unfolding of_bits
of_bits-positive b h =
    ap (λ (q : Bool). of_fields binary32 q (b % 0x8000_0000 / 2 ^ 23) (b % 2 ^ 23)) (lt-leb 0x8000_0000 b h)
    ∙ ap (λ (n : ℕ). of_fields binary32 false (n / 2 ^ 23) (b % 2 ^ 23)) (mod-eq_of_lt h)

no_field : (b : ℕ) → b / 2 ^ 23 ≡ 0 → b < 2 ^ 23
no_field b e = omega arith

pub shift_is : (b x : ℕ) → b / 2 ^ 23 ≡ x → shift_of b ≡ x - 1
unfolding shift_of
shift_is b x e = ap (λ (n : ℕ). n - 1) e

decode-field : (b x : ℕ) → b < 0x7F80_0000 → b / 2 ^ 23 ≡ x → HasValue (of_fields binary32 false x (b % 2 ^ 23)) false (significand_of b * 2 ^ shift_of b) (2 ^ 149)
decode-field b zero h e =
    let l : b < 2 ^ 23 = no_field b e in
    rw (of_fields-low false (b % 2 ^ 23), shift_is b 0 e, significand-low b l, mod-eq_of_lt l) (odd_sign 24 false b 0 149)
decode-field b (suc k) h e =
    let r = fields-below b k h e in
    rw (of_fields-normal false k (b % 2 ^ 23) r.1, shift_is b (suc k) e ∙ sub-one (suc k), significand-high b r.0) (odd_sign 24 false (2 ^ 23 + b % 2 ^ 23) k 149)

pub decode : (b : ℕ) → b < 0x7F80_0000 → HasValue (of_bits binary32 b) false (significand_of b * 2 ^ shift_of b) (2 ^ 149)
decode b h = rw (of_bits-positive b (omega arith)) (decode-field b (b / 2 ^ 23) h refl)

-- ---- which patterns are those of a finite float that is not negative

value-non_negative : (x : Float) (a c : ℕ) → HasValue x false a c → non_negative x ≡ true
value-non_negative nan a c h = absurd h
value-non_negative (inf s) a c h = absurd h
value-non_negative (fin s m e) a c h = ap not h.0

odd-non_negative : (d : ℕ) (s : Bool) (q k l : ℕ) → non_negative (odd d s q k l) ≡ not s
unfolding odd
odd-non_negative d s zero k l = refl
odd-non_negative d s (suc q) k l = refl

either-non_negative : (p q s : Bool) (x : Float) → non_negative x ≡ false → non_negative (cond p (cond q (inf s) nan) x) ≡ false
either-non_negative true true s x h = refl
either-non_negative true false s x h = refl
either-non_negative false q s x h = h

negative-fields : (x t : ℕ) → non_negative (of_fields binary32 true x t) ≡ false
unfolding of_fields
negative-fields zero t = odd-non_negative 24 true t 0 149
negative-fields (suc x) t = either-non_negative (eqb (suc x) 255) (eqb t 0) true (odd 24 true (2 ^ 23 + t) x 149) (odd-non_negative 24 true (2 ^ 23 + t) x 149)

special-or : (t : Bool) → non_negative (cond t (inf false) nan) ≡ false
special-or true = refl
special-or false = refl

special-fields : (t : ℕ) → non_negative (of_fields binary32 false 255 t) ≡ false
unfolding of_fields
special-fields t = special-or (eqb t 0)

special-field : (b : ℕ) → 0x7F80_0000 ≤ b → b < 0x8000_0000 → b / 2 ^ 23 ≡ 255
special-field b h l = omega arith

of_bits-negative : (b : ℕ) → 0x8000_0000 ≤ b → of_bits binary32 b ≡ of_fields binary32 true (b % 0x8000_0000 / 2 ^ 23) (b % 2 ^ 23)
unfolding of_bits
of_bits-negative b h = ap (λ (q : Bool). of_fields binary32 q (b % 0x8000_0000 / 2 ^ 23) (b % 2 ^ 23)) (le-leb 0x8000_0000 b h)

-- a pattern's float is finite and not negative exactly where the pattern is below the infinity's
pub non_negative-of_bits : (b : ℕ) → non_negative (of_bits binary32 b) ≡ ltb b 0x7F80_0000
non_negative-of_bits b = go (dec_lt b 0x7F80_0000) (dec_lt b 0x8000_0000)
  where
    go : Dec (b < 0x7F80_0000) → Dec (b < 0x8000_0000) → non_negative (of_bits binary32 b) ≡ ltb b 0x7F80_0000
    go (yes h) l = value-non_negative (of_bits binary32 b) (significand_of b * 2 ^ shift_of b) (2 ^ 149) (decode b h) ∙ sym (lt-ltb b 0x7F80_0000 h)
    go (no g) (yes l) =
        let h : 0x7F80_0000 ≤ b = omega arith in
        rw (of_bits-positive b l, special-field b h l, special-fields (b % 2 ^ 23), le-ltb b 0x7F80_0000 h) refl
    go (no g) (no l) =
        let h : 0x8000_0000 ≤ b = omega arith in
        rw (of_bits-negative b h, negative-fields (b % 0x8000_0000 / 2 ^ 23) (b % 2 ^ 23), le-ltb b 0x7F80_0000 (omega arith)) refl

-- ---- from a float to its pattern

pub non_negative-to_bits : (x : Float) → T (fits binary32 x) → non_negative x ≡ ltb (to_bits binary32 x) 0x7F80_0000
non_negative-to_bits x h = ap non_negative (sym (of_bits-to_bits binary32 x h)) ∙ non_negative-of_bits (to_bits binary32 x)

pub mag-of_bits : (b : ℕ) → b < 0x7F80_0000 → mag (of_bits binary32 b) ≡ significand_of b * 2 ^ shift_of b
unfolding unit
mag-of_bits b h = mag-of-value (of_bits binary32 b) false (significand_of b * 2 ^ shift_of b) (decode b h)

pub to_bits-below : (x : Float) → T (fits binary32 x) → T (non_negative x) → to_bits binary32 x < 0x7F80_0000
to_bits-below x h n = ltb→lt (to_bits binary32 x) 0x7F80_0000 (subst T (non_negative-to_bits x h) n)

pub decode-to_bits : (x : Float) → T (fits binary32 x) → T (non_negative x) → HasValue x false (significand_of (to_bits binary32 x) * 2 ^ shift_of (to_bits binary32 x)) (2 ^ 149)
decode-to_bits x h n =
    let b = to_bits binary32 x in
    subst (λ (y : Float). HasValue y false (significand_of b * 2 ^ shift_of b) (2 ^ 149)) (of_bits-to_bits binary32 x h) (decode b (to_bits-below x h n))

pub mag-to_bits : (x : Float) → T (fits binary32 x) → T (non_negative x) → mag x ≡ significand_of (to_bits binary32 x) * 2 ^ shift_of (to_bits binary32 x)
unfolding unit
mag-to_bits x h n = mag-of-value x false (significand_of (to_bits binary32 x) * 2 ^ shift_of (to_bits binary32 x)) (decode-to_bits x h n)
