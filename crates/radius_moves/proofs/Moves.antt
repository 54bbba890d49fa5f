-- The theorem over lists, and over what compress and decompress answer: each radius of a list lies near to what is read from its linear form, under the range of
-- the list. Assumes nothing.
use mathlib.Core.Path.{◌≡◌, refl, sym, ap}
use Prim.Native.Nat.{ℕ, zero, suc, ◌+◌, ◌*◌, ◌^◌, ◌≤◌, ◌<◌, suc-le-suc, zero-le}
use native.Mathlib.Nat.{mul-le-mul_left, le_trans, le_refl, le_of_lt, not-suc-le-zero, le_of_suc-le-suc, zero-mul, zero-div}
use native.Mathlib.Omega.{arith}
use mathlib.Core.Bool.{Bool, true, false, not, cond, true≢false}
use mathlib.Core.List.{List, [], ◌∷◌}
use borrow.Author.Tests.{ltb-true, ltb-false, eq-eqb}
use lib.Dec.{T, ltb}
use lib.IntN.{ℤ, pos}
use lib.ListN.{length, get_or}
use lib.Ieee.{Float, nan, inf, fin, binary32, fits, lt, up, down}
use lib.Ieee.Bits.{is_true}
use lib.Ieee.Scale.{finite}
use Rattle.error.specs.Answer.{value}
use Rattle.error.proofs.Chains.{Passed, first-accepts}
use Rattle.error.proofs.Places.{each_none}
use Rattle.float.specs.Constants.{pos_zero}
use Rattle.float.specs.Units.{unit, mag}
use Rattle.lists.proofs.Chunks.{length-joined}
use Rattle.rounding.specs.Value.{val}
use Rattle.rounding.proofs.Positive.{too_large, Worth, number-worth, zero-worth, worth-mag, lt-worth}
use Rattle.radius.specs.Codec.{compress_checks, compress_range_of, compress_bytes_of, decompress_checks, decompress_of, payload_for}
use Rattle.radius.specs.Firsts.{read_back}
use Rattle.radius.specs.Linear.{linear_bytes}
use Rattle.radius.specs.Radii.{bad_radius, bad_range, least, greatest, range_of}
use Rattle.radius.specs.declared.RadiusCodecProfileV1.TheVariants.{BlockLinearU16}
use Rattle.radius.proofs.Linear.{length-linear_bytes, linear-kept, linear-back}
use Rattle.radius.proofs.Ranges.{min-has, max-has, range-order}
use Rattle.radius_moves.specs.Moves.{SmallRadii, InRange, Moved, HowFar}
use Rattle.radius_moves.proofs.Radius.{radius-moved}

-- x is a number, not below zero
abbrev Held : Float → Type 0
Held x = Worth x (mag x)

-- ---- an accepted radius is the number of its units
no-units : (m : ℕ) (e : ℤ) → m * up e ≤ 0 → mag (fin true m e) ≡ 0
unfolding mag
no-units m e h = let none : m * up e ≡ 0 = omega arith in rw (none, zero-mul, zero-div)

radius-held : (r : Float) → T (fits binary32 r) → bad_radius r ≡ false → Held r
unfolding val lt
radius-held nan f good = absurd (true≢false good)
radius-held (inf s) f good = absurd (true≢false good)
radius-held (fin false m e) f good = number-worth m e f
radius-held (fin true m e) f good =
    let none = no-units m e (let h = ltb-false 0 (m * up e * 1 + 0 * 1 * down e) good in omega (arith, h)) in
    record { fit = f; number = tt; is = rw none }

-- ---- the range holds every radius
abbrev AllHeld : List Float → Type 0
AllHeld rs = (i : ℕ) → i < length rs → Held (get_or rs i nan)

rest-held : (r : Float) (rs : List Float) → AllHeld (r ∷ rs) → AllHeld rs
rest-held r rs all i h = all (suc i) (suc-le-suc h)

-- of two that were compared one is no larger than both, the other no smaller
lower : (t : Bool) {r m : Float} → Held r → Held m → ltb (mag r) (mag m) ≡ t → Held (cond t r m) × (mag (cond t r m) ≤ mag r) × (mag (cond t r m) ≤ mag m)
lower true f g e = (f, le_refl _, le_of_lt (ltb-true _ _ e))
lower false f g e = (g, ltb-false _ _ e, le_refl _)

higher : (t : Bool) {r m : Float} → Held r → Held m → ltb (mag m) (mag r) ≡ t → Held (cond t r m) × (mag r ≤ mag (cond t r m)) × (mag m ≤ mag (cond t r m))
higher true f g e = (f, le_refl _, le_of_lt (ltb-true _ _ e))
higher false f g e = (g, ltb-false _ _ e, le_refl _)

-- what holds of the first and of the others holds of all
pub each_of : (P : Float → Type 0) (r : Float) (rs : List Float) → P r → ((i : ℕ) → i < length rs → P (get_or rs i nan)) → (i : ℕ) → i < length (r ∷ rs) → P (get_or (r ∷ rs) i nan)
each_of P r rs p q zero h = p
each_of P r rs p q (suc i) h = q i (le_of_suc-le-suc h)

least-most : (m : Float) (rs : List Float) → Held m → AllHeld rs → (mag (least m rs) ≤ mag m) × ((i : ℕ) → i < length rs → mag (least m rs) ≤ mag (get_or rs i nan))
unfolding least
least-most m [] f all = (le_refl _, λ i h. absurd (not-suc-le-zero h))
least-most m (r ∷ rs) f all =
    let g = all 0 (omega arith) in
    let c = lower (lt r m) g f (sym (lt-worth r m g f)) in
    let z = least-most (cond (lt r m) r m) rs c.0 (rest-held r rs all) in
    (le_trans z.0 c.2, each_of (λ x. mag (least (cond (lt r m) r m) rs) ≤ mag x) r rs (le_trans z.0 c.1) z.1)

greatest-least : (m : Float) (rs : List Float) → Held m → AllHeld rs → (mag m ≤ mag (greatest m rs)) × ((i : ℕ) → i < length rs → mag (get_or rs i nan) ≤ mag (greatest m rs))
unfolding greatest
greatest-least m [] f all = (le_refl _, λ i h. absurd (not-suc-le-zero h))
greatest-least m (r ∷ rs) f all =
    let g = all 0 (omega arith) in
    let c = higher (lt m r) g f (sym (lt-worth m r f g)) in
    let z = greatest-least (cond (lt m r) r m) rs c.0 (rest-held r rs all) in
    (le_trans c.2 z.0, each_of (λ x. mag x ≤ mag (greatest (cond (lt m r) r m) rs)) r rs (le_trans c.1 z.0) z.1)

all-inside : (rs : List Float) → AllHeld rs → (i : ℕ) → i < length rs → InRange (range_of rs) (get_or rs i nan)
unfolding range_of
all-inside [] all i h = absurd (not-suc-le-zero h)
all-inside (r ∷ rs) all i h =
    let lo = least-most r rs (all 0 (omega arith)) (rest-held r rs all) in
    let hi = greatest-least r rs (all 0 (omega arith)) (rest-held r rs all) in
    record { above_min = each_of (λ x. mag (least r rs) ≤ mag x) r rs lo.0 lo.1 i h; below_max = each_of (λ x. mag x ≤ mag (greatest r rs)) r rs hi.0 hi.1 i h }

-- ---- the theorem
too_large-half : 2 * (2 ^ 127 * unit) ≡ too_large
unfolding too_large unit
too_large-half = refl

zero_held : Held pos_zero
zero_held = number-worth 0 (pos 0) zero-worth.fit

module _ (radii : List Float) (s : SmallRadii radii) where
  held : AllHeld radii
  held i h = radius-held (get_or radii i nan) (s.good.fit i h) (s.good.good i h)

  min-held : Held (range_of radii).min
  min-held = min-has Held radii zero_held held

  max-held : Held (range_of radii).max
  max-held = max-has Held radii zero_held held

  max-small : 2 * mag (range_of radii).max ≤ too_large
  max-small = rw (← too_large-half) (mul-le-mul_left 2 (max-has (λ x. mag x ≤ 2 ^ 127 * unit) radii (rw (worth-mag zero-worth) zero-le) (λ i h. le_of_lt (s.below i h))))

  compress-passes : Passed (compress_checks radii BlockLinearU16 (2 * length radii))
  compress-passes = (each_none bad_radius radii nan s.good.good, (refl, (ap not (eq-eqb (2 * length radii) (2 * length radii) refl), tt)))

  range_made : compress_range_of radii BlockLinearU16 (2 * length radii) ≡ value (range_of radii)
  unfolding compress_range_of
  range_made = first-accepts (compress_checks radii BlockLinearU16 (2 * length radii)) _ compress-passes

  bytes_made : compress_bytes_of radii BlockLinearU16 (2 * length radii) ≡ value (payload_for BlockLinearU16 radii)
  unfolding compress_bytes_of
  bytes_made = first-accepts (compress_checks radii BlockLinearU16 (2 * length radii)) _ compress-passes

  linear-range-passes : bad_range (range_of radii) ≡ false
  linear-range-passes = rw (is_true (finite (range_of radii).min) min-held.number, is_true (finite (range_of radii).max) max-held.number) (range-order radii)

  read_made : decompress_of BlockLinearU16 (length radii) (range_of radii) (payload_for BlockLinearU16 radii) (length radii) ≡ value (read_back BlockLinearU16 radii)
  unfolding decompress_of read_back
  read_made =
      let long = length-joined (linear_bytes (range_of radii)) 2 (length-linear_bytes (range_of radii)) radii in
      first-accepts (decompress_checks BlockLinearU16 (length radii) (range_of radii) (payload_for BlockLinearU16 radii) (length radii)) _ (refl, (ap not (eq-eqb _ _ long), (linear-range-passes, (ap not (eq-eqb (length radii) (length radii) refl), tt))))

  moved : (i : ℕ) → i < length radii → Moved (range_of radii) (get_or radii i nan) (get_or (read_back BlockLinearU16 radii) i nan)
  moved i h =
      let range = range_of radii in
      let r = get_or radii i nan in
      let within = all-inside radii held i h in
      rw (linear-back radii i h, linear-kept range r) (radius-moved range r (mag range.min) (mag range.max) (mag r) min-held max-held (held i h) within.above_min within.below_max max-small)

pub how-far : HowFar
how-far radii s = record { range_made = range_made radii s; bytes_made = bytes_made radii s; read_made = read_made radii s; inside = all-inside radii (held radii s); moved = moved radii s }
