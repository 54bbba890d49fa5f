-- One radius between a least and a greatest: what its number is, what is read from that, and how far it moves. By monotone rounding the quotient never passes
-- 1.0, and what is read never lies below the least. Assumes nothing.
use mathlib.Core.Path.{◌≡◌, refl, sym, subst}
use Prim.Native.Nat.{ℕ, ◌+◌, ◌-◌, ◌*◌, ◌^◌, ◌≤◌, ◌<◌}
use native.Mathlib.Nat.{le_trans, lt_of_le_of_lt, mul-pos, mul-le-mul_left, mul-le-mul_right}
use native.Mathlib.Omega.{arith}
use mathlib.Core.Bool.{Bool, true, false, cond}
use borrow.Author.Tests.{ltb-true, ltb-false, le-ltb}
use lib.Dec.{ltb, lit≤}
use lib.IntN.{pos}
use lib.Ieee.{Float, binary32, add, sub, mul, div, of_int, of_bits}
use lib.Ieee.Bits.{of_bits-fits}
use Rattle.float.specs.Constants.{pos_zero, one}
use Rattle.float.specs.Rounding.{clamped}
use Rattle.float.specs.Units.{unit, mag}
use Rattle.rounding.specs.Signed.{signed, Near, ◌⊙◌}
use Rattle.rounding.specs.Value.{val}
use Rattle.rounding.proofs.HalfAway.{round_unsigned-near}
use Rattle.rounding.proofs.Monotone.{rounded-mono, rounded-same, rounded-most, rounded-least}
use Rattle.rounding.proofs.Nearest.{Apart, rounded, rounded-error, whole-error}
use Rattle.rounding.proofs.Positive.{too_large, Worth, zero-worth, worth-mag, worth-kept, worth-under, rounded-under, one-worth, add-worth, sub-worth, mul-worth, quotient-one, quotient-worth, whole-worth, lt-worth}
use Rattle.rounding.proofs.Values.{unit-pos, unit-large}
use Rattle.radius.specs.Linear.{span_of, quantize_radius_of, radius_of}
use Rattle.radius.specs.Radii.{top_float, epsilon_float}
use Rattle.radius.specs.declared.Range.{Range}
use Rattle.radius.proofs.Linear.{quantize_radius_of-small}
use Rattle.radius_moves.specs.Moves.{moved_scale, epsilon_units, allowed, Moved}
use Rattle.radius_moves.proofs.Numbers.{Bounded, quotient-near, times-near, number-near, share-near, part-near, sum_near, wide-end, narrow-end}

-- ---- constants
top-worth : Worth top_float (65535 * unit)
unfolding of_bits val mag unit
top-worth = record { fit = of_bits-fits binary32 0x477F_FF00; number = tt; is = refl }

epsilon-worth : Worth epsilon_float epsilon_units
unfolding of_bits val mag unit epsilon_units
epsilon-worth = record { fit = of_bits-fits binary32 0x3400_0000; number = tt; is = refl }

unit-some : 2 ^ 40 ≤ unit
unit-some = le_trans (lit≤ tt) unit-large

-- ---- the clamp does not act between 0.0 and 1.0
clamp-worth : (x : Float) {n : ℕ} → Worth x n → n ≤ unit → Worth (clamped pos_zero (one false) x) n
unfolding clamped
clamp-worth x {n} h l = rw (lt-worth x pos_zero h zero-worth, le-ltb n 0 (omega arith), lt-worth (one false) x one-worth h, le-ltb unit n l) h

-- ---- from a radius to its number, where the span is some d above 0: p is the exact distance from the least

-- what is known of the number n: the rounded distance, its share of the span, 65,535 times that, and the error of each step
record KnownNumber (d p n : ℕ) : Type 0 where
  distance : ℕ
  share : ℕ
  product : ℕ
  distance_most : distance ≤ d
  distance_error : Apart (2 ^ 24) distance p p
  share_most : share ≤ unit
  share_error : Apart (2 ^ 24) (share * d) (distance * unit) (distance * unit + 2 ^ 23 * d)
  product_error : Apart (2 ^ 24) product (65535 * share) (65535 * share)
  number_error : Apart 2 (n * unit) product unit

module _ (lo width r : Float) (l d D R : ℕ) (hl : Worth lo l) (hw : Worth width d) (hr : Worth r R) (is : d ≡ rounded 24 D 1) (wide : 0 < d) (least : l ≤ R) (most : R - l ≤ D) where
  quantized : KnownNumber d (R - l) (quantize_radius_of lo width r)
  unfolding quantize_radius_of
  quantized =
      let a = rounded 24 (R - l) 1 in
      let ha = sub-worth r lo hr hl least in
      let am : a ≤ d = subst (λ (n : ℕ). a ≤ n) (sym is) (rounded-mono 23 (R - l) 1 D 1 (omega arith) (omega arith) (omega (arith, most))) in
      let x = rounded 24 (a * unit) d in
      let xm : x ≤ unit = quotient-one a d wide am in
      let hx = quotient-worth (sub binary32 r lo) width ha hw wide am in
      let z = clamped pos_zero (one false) (div binary32 (sub binary32 r lo) width) in
      let hz = clamp-worth (div binary32 (sub binary32 r lo) width) hx xm in
      let y = rounded 24 (65535 * x) 1 in
      let ym : y ≤ 65535 * unit = rounded-most 23 (65535 * x) 1 (65535 * unit) (omega arith) (worth-kept top_float top-worth) (omega (arith, xm)) in
      let hy : Worth (mul binary32 z top_float) y = product-worth z x hz (lt_of_le_of_lt ym (worth-under top_float top-worth)) in
      record {
        distance = a;
        share = x;
        product = y;
        distance_most = am;
        distance_error = whole-error (R - l);
        share_most = xm;
        share_error = rounded-error (a * unit) d wide;
        product_error = whole-error (65535 * x);
        number_error = round_unsigned-near 16 (mul binary32 z top_float) hy (omega (arith, ym, unit-pos));
      }
    where
      product-worth : (z : Float) (x : ℕ) → Worth z x → rounded 24 (65535 * x) 1 < too_large → Worth (mul binary32 z top_float) (rounded 24 (65535 * x) 1)
      product-worth z x h l =
          let same : rounded 24 (x * (65535 * unit)) unit ≡ rounded 24 (65535 * x) 1 = rounded-same 23 (x * (65535 * unit)) unit (65535 * x) 1 unit-pos (omega arith) (omega arith) in
          rw same at (mul-worth z top_float h top-worth (rw same l))

-- ---- from a number to the radius that is read

-- what is known of the radius v: the share that the number is, the part of the span, and the error of each step
record KnownRadius (l d n v : ℕ) : Type 0 where
  share : ℕ
  part : ℕ
  share_most : share ≤ unit
  share_error : Apart (2 ^ 24) (share * 65535) (n * unit) (n * unit + 2 ^ 23 * 65535)
  part_most : part ≤ d
  part_error : Apart (2 ^ 24) (part * unit) (d * share) (d * share + 2 ^ 23 * unit)
  least : l ≤ v
  sum_error : Apart (2 ^ 24) v (l + part) (l + part)

share-worth : (n : ℕ) → n ≤ 65535 → Worth (div binary32 (of_int binary32 (pos n)) top_float) (rounded 24 (n * unit) 65535)
share-worth n h =
    let some : 0 < 65535 * unit = mul-pos (omega arith) unit-pos in
    rw (rounded-same 23 (n * unit * unit) (65535 * unit) (n * unit) 65535 some (omega arith) (omega arith)) at
    (quotient-worth (of_int binary32 (pos n)) top_float (whole-worth n (omega arith)) top-worth some (mul-le-mul_right unit h))

module _ (lo width : Float) (l d n : ℕ) (hl : Worth lo l) (hw : Worth width d) (under : 4 * (l + d) ≤ 3 * too_large) (small : n ≤ 65535) where
  restored : (v : ℕ) × Worth (add binary32 lo (mul binary32 width (div binary32 (of_int binary32 (pos n)) top_float))) v × KnownRadius l d n v
  restored =
      let s = rounded 24 (n * unit) 65535 in
      let sm = quotient-one n 65535 (omega arith) small in
      let g = rounded 24 (d * s) unit in
      let gm : g ≤ d = rounded-most 23 (d * s) unit d unit-pos (worth-kept width hw) (mul-le-mul_left d sm) in
      let share = div binary32 (of_int binary32 (pos n)) top_float in
      let hg = mul-worth width share hw (share-worth n small) (lt_of_le_of_lt gm (worth-under width hw)) in
      let v = rounded 24 (l + g) 1 in (
        v,
        add-worth lo (mul binary32 width share) hl hg (rounded-under (l + g) 1 (omega arith) (omega (arith, under, gm))),
        record {
          share = s;
          part = g;
          share_most = sm;
          share_error = rounded-error (n * unit) 65535 (omega arith);
          part_most = gm;
          part_error = rounded-error (d * s) unit unit-pos;
          least = rounded-least 23 (l + g) 1 l (omega arith) (worth-kept lo hl) (omega arith);
          sum_error = whole-error (l + g);
        },
      )

-- ---- both together: R is the radius, l and H are the ends of its range
wide-bounded : (l d D H R n v : ℕ) → epsilon_units < d → l + D ≤ H → l ≤ R → R - l ≤ D → Apart (2 ^ 24) d D D → n ≤ 65535 → KnownNumber d (R - l) n → KnownRadius l d n v → Bounded v (l + (R - l)) D H
wide-bounded l d D H R n v wide most least below span small q r =
    let p = R - l in
    let twice : p ≤ 2 * d = twofold p d D below span.below in
    let h1 = quotient-near unit d unit-some q.share q.distance p q.distance_most twice q.distance_error q.share_error in
    let h2 = times-near unit d q.product q.share q.share_most q.product_error in
    let h3 = number-near unit d n q.product q.number_error in
    let h4 = share-near unit d unit-some r.share n small r.share_error in
    let h5 = part-near unit d r.part r.share r.share_most r.part_error in
    wide-end v r.part l p d D H wide most r.part_most span (sum_near unit d unit-some r.part r.share n q.product q.share p h1 h2 h3 h4 h5) r.sum_error
  where
    twofold : (p d D : ℕ) → p ≤ D → 2 ^ 24 * D ≤ 2 ^ 24 * d + D → p ≤ 2 * d
    twofold p d D a b = omega arith

narrow-bounded : (l d D H R n v : ℕ) → d ≤ epsilon_units → l + D ≤ H → R - l ≤ D → Apart (2 ^ 24) d D D → KnownRadius l d n v → Bounded v (l + (R - l)) D H
narrow-bounded l d D H R n v small most below span r = narrow-end v l (R - l) d D H small below most span r.least (sum-most v l r.part d r.part_most r.sum_error.above)
  where
    sum-most : (v l g d : ℕ) → g ≤ d → 2 ^ 24 * v ≤ 2 ^ 24 * (l + g) + (l + g) → 2 ^ 24 * v ≤ 2 ^ 24 * (l + d) + (l + d)
    sum-most v l g d m h = omega arith

near_of : (t v r w : ℕ) → Apart t v r w → Near (t ⊙ signed false v) (t ⊙ signed false r) w
near_of t v r w h = record { above = omega (arith, h.above); below = omega (arith, h.below) }

module _ (range : Range) (r : Float) (l H R : ℕ) (hl : Worth range.min l) (hh : Worth range.max H) (hr : Worth r R) (least : l ≤ R) (most : R ≤ H) (top : 2 * H ≤ too_large) where
  -- the radius that is read where r was written: its size, and how near it lies
  read-bounded : (v : ℕ) × Worth (radius_of range (quantize_radius_of range.min (span_of range) r)) v × Bounded v R (H - l) H
  unfolding span_of radius_of
  read-bounded =
      let width = sub binary32 range.max range.min in
      let d = rounded 24 (H - l) 1 in
      let hw : Worth width d = sub-worth range.max range.min hh hl (omega arith) in
      rw (lt-worth epsilon_float width epsilon-worth hw) (go d hw refl (ltb epsilon_units d) refl)
    where
      sum-under : (l d D H P : ℕ) → l + D ≤ H → 2 * H ≤ P → 2 ^ 24 * d ≤ 2 ^ 24 * D + D → 4 * (l + d) ≤ 3 * P
      sum-under l d D H P a b c = omega arith

      go : (d : ℕ) → Worth (sub binary32 range.max range.min) d → d ≡ rounded 24 (H - l) 1 → (t : Bool) → ltb epsilon_units d ≡ t
          → let n = quantize_radius_of range.min (cond t (sub binary32 range.max range.min) epsilon_float) r in
          (v : ℕ) × Worth (add binary32 range.min (mul binary32 (sub binary32 range.max range.min) (div binary32 (of_int binary32 (pos n)) top_float))) v × Bounded v R (H - l) H
      go d hw is t told =
          let width = sub binary32 range.max range.min in
          let D = H - l in
          let span : Apart (2 ^ 24) d D D = subst (λ (n : ℕ). Apart (2 ^ 24) n D D) (sym is) (whole-error D) in
          let whole : l + D ≤ H = omega arith in
          let n = quantize_radius_of range.min (cond t width epsilon_float) r in
          let small : n ≤ 65535 = omega (arith, quantize_radius_of-small range.min (cond t width epsilon_float) r) in
          let v = restored range.min width l d n hl hw (sum-under l d D H too_large whole top span.above) small in
          (v.0, v.1, subst (λ (x : ℕ). Bounded v.0 x D H) (omega (arith, least)) (by t told span whole small v.0 v.2))
        where
          by : (t : Bool) → ltb epsilon_units d ≡ t → Apart (2 ^ 24) d (H - l) (H - l) → l + (H - l) ≤ H
              → let n = quantize_radius_of range.min (cond t (sub binary32 range.max range.min) epsilon_float) r in
              n ≤ 65535 → (v : ℕ) → KnownRadius l d n v → Bounded v (l + (R - l)) (H - l) H
          by true told span whole small v known =
              let wide = ltb-true epsilon_units d told in
              let q = quantized range.min (sub binary32 range.max range.min) r l d (H - l) R hl hw hr is (omega arith) least (omega arith) in
              wide-bounded l d (H - l) H R (quantize_radius_of range.min (sub binary32 range.max range.min) r) v wide whole least (omega arith) span small q known
          by false told span whole small v known = narrow-bounded l d (H - l) H R (quantize_radius_of range.min epsilon_float r) v (ltb-false epsilon_units d told) whole (omega arith) span known

  pub radius-moved : Moved range r (radius_of range (quantize_radius_of range.min (span_of range) r))
  radius-moved =
      let v = read-bounded in
      record { number = v.1.number; near = rw (hr.is, worth-mag hl, worth-mag hh, v.1.is) (near_of moved_scale v.0 R (allowed (H - l) H) v.2) }
