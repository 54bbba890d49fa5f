-- A payload's sum block by block: what is still to be judged and added from a pair on, how it starts, what a block does to it, and its end. Assumes nothing.
use Prim.Native.Nat.{ℕ, zero, suc, ◌+◌, ◌-◌, ◌*◌, ◌^◌, ◌/◌, ◌%◌, ◌≤◌, ◌<◌}
use mathlib.Core.Path.{◌≡◌, refl, sym, ap, ◌∙◌}
use mathlib.Core.Bool.{Bool, true, false, cond, ◌&&◌}
use mathlib.Core.List.{List, [], ◌∷◌, ◌++◌, map}
use native.Mathlib.Nat.{mul-le-mul_left, mul-le-mul_right, add-zero, add-suc, suc-add, zero-add, sub-zero}
use mathlib.Core.Logic.{◌⊎◌}
use native.Mathlib.Omega.{arith}
use Rattle.std.specs.Prelude.{None, Option, Some}
use Rattle.std.proofs.Common.{inl, inr}
use Rattle.std.proofs.lemmas.Bool.{cases_lt}
use lib.ListN.{length, take, drop, take-append-drop, drop_of_length-le, length-drop}
use lib.Seq.{get_or-take, get_or-drop, drop-drop, length-take-le}
use lib.Ieee.{Float, binary32, add}
use borrow.Author.Tests.{le-leb, leb-true, eqb-true, not-true}
use Rattle.error.specs.Answer.{place, clear}
use Rattle.error.proofs.Chains.{and-true}
use Rattle.float.specs.Constants.{pos_zero}
use Rattle.rounding.specs.Butterfly.{from}
use Rattle.rounding.specs.Sums.{running}
use Rattle.rounding.proofs.Running.{from-none, total-more}
use Rattle.bitpack.specs.Padding.{bytes_for}
use Rattle.bitpack.specs.Packing.{indices_in}
use Rattle.radius.specs.Radii.{bad_radius}
use Rattle.radius.specs.Codec.{bad_profile, width_of, radii_for}
use Rattle.radius.specs.declared.Range.{Range}
use Rattle.radius.specs.declared.RadiusCodecProfileV1.{RadiusCodecProfileV1}
use Rattle.polar.specs.Polar.{value_at, term, polar_sum_of}
use Rattle.polar_blocks.specs.Payload.{fits_payload, payload_sum_of}
use Rattle.polar_blocks.specs.Inner.{pair_term, block_term, block_sum_from, Blocked, part_radii, Addable, added_block, Summable}
use Rattle.polar_blocks.proofs.Indices.{index-digit}
use Rattle.polar_blocks.proofs.Radii.{clear-append, radii_part, radii_long}

-- ---- lists of terms

-- two runs of items of the same length have the same images, where each has that of its partner
map-shift : {A : Type 0} (f g : ℕ → A) (s t n : ℕ) → ((j : ℕ) → j < n → f (s + j) ≡ g (t + j)) → map f (from s n) ≡ map g (from t n)
unfolding from
map-shift f g s t zero e = refl
map-shift f g s t (suc n) e =
    let here : f s ≡ g t = rw (add-zero s, add-zero t) at (e 0 (omega arith)) in
    let rest = map-shift f g (suc s) (suc t) n (λ j h. let next = e (suc j) (omega (arith, h)) in rw (suc-add s j, suc-add t j) (rw (add-suc s j, add-suc t j) at next)) in
    rw (here, rest)

from-join : (a m k : ℕ) → from a (m + k) ≡ from a m ++ from (a + m) k
unfolding from
from-join a zero k = rw (zero-add k, add-zero a)
from-join a (suc m) k = rw (suc-add m k) (ap (λ (l : List ℕ). a ∷ l) (from-join (suc a) m k ∙ rw (suc-add a m, ← add-suc a m)))

from-split : (i n count : ℕ) → i + count ≤ n → from i (n - i) ≡ from i count ++ from (i + count) (n - (i + count))
from-split i n count h = let e : n - i ≡ count + (n - (i + count)) = omega arith in ap (from i) e ∙ from-join i count (n - (i + count))

running-append : (acc : Float) (f : ℕ → Float) (xs ys : List ℕ) → running acc (map f (xs ++ ys)) ≡ running (running acc (map f xs)) (map f ys)
unfolding running
running-append acc f [] ys = refl
running-append acc f (x ∷ xs) ys = running-append (add binary32 acc (f x)) f xs ys

-- four turns of a loop over terms at once
pub total-four : (f : ℕ → Float) (n i : ℕ) (acc a b c d : Float) {whole : Float} → i + 4 ≤ n → a ≡ f i → b ≡ f (i + 1) → c ≡ f (i + 2) → d ≡ f (i + 3) → whole ≡ running acc (map f (from i (n - i)))
    → whole ≡ running (add binary32 (add binary32 (add binary32 (add binary32 acc a) b) c) d) (map f (from (i + 4) (n - (i + 4))))
total-four f n i acc a b c d h e g k l inv =
    let two : i + 1 + 1 ≡ i + 2 = omega arith in
    let three : i + 2 + 1 ≡ i + 3 = omega arith in
    let four : i + 3 + 1 ≡ i + 4 = omega arith in
    let first = total-more f n i acc a (omega arith) e inv in
    let second = rw two at (total-more f n (i + 1) _ b (omega arith) g first) in
    let third = rw three at (total-more f n (i + 2) _ c (omega arith) k second) in
    rw four at (total-more f n (i + 3) _ d (omega arith) l third)

-- ---- what fits

pub record Fitted (profile : RadiusCodecProfileV1) (radii indices : List ℕ) (bits pairs : ℕ) : Type 0 where
  pub few : pairs ≤ 2048
  pub wide : 1 ≤ bits
  pub narrow : bits ≤ 16
  pub known : bad_profile profile ≡ false
  pub sized : length radii ≡ width_of profile * pairs
  pub enough : pairs * bits ≤ 8 * length indices

pub fits_told : (profile : RadiusCodecProfileV1) (radii indices : List ℕ) (bits pairs : ℕ) → fits_payload profile radii indices bits pairs ≡ true → Fitted profile radii indices bits pairs
unfolding fits_payload
fits_told profile radii indices bits pairs e =
    let f = and-true _ _ e in
    let d = and-true _ _ f.0 in
    let c = and-true _ _ d.0 in
    let b = and-true _ _ c.0 in
    let a = and-true _ _ b.0 in
    record {
      few = leb-true pairs 2048 a.0;
      wide = leb-true 1 bits a.1;
      narrow = leb-true bits 16 b.1;
      known = not-true _ c.1;
      sized = eqb-true _ _ d.1;
      enough = let held : bytes_for (pairs * bits) ≤ length indices = leb-true _ _ f.1 in omega (arith, held);
    }

-- ---- a block that is read and judged

module _ (directions rotated : List Float) (profile : RadiusCodecProfileV1) (range : Range) (radii indices : List ℕ) (bits at count : ℕ) {block : List Float} (read : block ≡ part_radii profile range radii at count) where
  abbrev given : Bool → Float → Option Float
  given b sum = cond b (Some (block_sum_from directions rotated (part_radii profile range radii at count) indices bits at 0 sum)) None

  pub added-sum : (sum x : Float) → clear bad_radius block ≡ true → x ≡ block_sum_from directions rotated block indices bits at 0 sum → Some x ≡ added_block directions rotated profile range radii indices bits at count sum
  added-sum sum x good e =
      ap Some (e ∙ ap (λ (l : List Float). block_sum_from directions rotated l indices bits at 0 sum) read)
      ∙ sym (ap (λ (b : Bool). given b sum) (ap (clear bad_radius) (sym read) ∙ good))

  pub added_none : (sum : Float) → clear bad_radius block ≡ false → None ≡ added_block directions rotated profile range radii indices bits at count sum
  added_none sum bad = sym (ap (λ (b : Bool). given b sum) (ap (clear bad_radius) (sym read) ∙ bad))

pub block-lent : {directions rotated : List Float} {profile : RadiusCodecProfileV1} {radii indices : List ℕ} {bits at count : ℕ} (block : List Float) → Addable directions rotated profile radii indices bits at count → length block ≡ count
    → Blocked directions rotated block indices bits at
block-lent block a e = record { aligned = a.aligned; narrow = a.narrow; few = rw e a.few; enough = rw e a.enough; query = rw e a.query; table = a.table }

-- ---- what is left from a pair on

-- the radii from pair `at` on are still to be judged, and their terms to be added
abbrev pub onward_from : List Float → List Float → RadiusCodecProfileV1 → Range → List ℕ → List ℕ → ℕ → ℕ → ℕ → Float → Option Float
onward_from directions rotated profile range radii indices bits pairs at sum =
    let stored = radii_for profile pairs range radii in
    cond (clear bad_radius (drop at stored)) (Some (running sum (map (λ i. term rotated directions (indices_in bits pairs indices) stored i) (from at (pairs - at))))) None

module _ (directions rotated : List Float) (profile : RadiusCodecProfileV1) (range : Range) (radii indices : List ℕ) (bits pairs : ℕ) (s : Summable directions rotated profile radii indices bits pairs) where
  abbrev stored : List Float
  stored = radii_for profile pairs range radii

  abbrev terms : ℕ → ℕ → List Float
  terms at count = map (λ i. term rotated directions (indices_in bits pairs indices) stored i) (from at count)

  abbrev onward : ℕ → Float → Option Float
  onward at sum = onward_from directions rotated profile range radii indices bits pairs at sum

  fitted : Fitted profile radii indices bits pairs
  fitted = fits_told profile radii indices bits pairs s.fits

  long : length stored ≡ pairs
  long = radii_long profile range radii pairs fitted.known

  pub onward-start : payload_sum_of directions rotated profile range radii indices bits pairs ≡ onward 0 pos_zero
  unfolding payload_sum_of polar_sum_of
  onward-start = rw (s.fits, le-leb pairs (length rotated / 2) s.query, le-leb (2 ^ bits) (length directions / 2) s.table, long, sub-zero pairs)

  pub onward-end : (at : ℕ) (sum : Float) → pairs ≤ at → onward at sum ≡ Some sum
  unfolding running place
  onward-end at sum h = let past : length stored ≤ at = rw (long) h in rw (drop_of_length-le stored past, from-none at pairs h)

  module _ (at count : ℕ) (within : at + count ≤ pairs) where
    abbrev block : List Float
    block = part_radii profile range radii at count

    block-is : block ≡ take count (drop at stored)
    block-is = radii_part profile range radii pairs at count within

    block-long : length block ≡ count
    block-long = ap length block-is ∙ length-take-le count (drop at stored) (rw (length-drop, long) (omega (arith, within)))

    same-term : (j : ℕ) → j < count → term rotated directions (indices_in bits pairs indices) stored (at + j) ≡ block_term directions rotated block indices bits at (zero + j)
    unfolding term pair_term
    same-term j h =
        let value : value_at stored (at + j) ≡ value_at block j = sym (ap (λ (l : List Float). value_at l j) block-is ∙ get_or-take count _ j pos_zero h ∙ get_or-drop at stored j pos_zero) in
        let index = index-digit bits pairs indices (at + j) (omega (arith, h, within)) in
        rw (zero-add j, value, ← index)

    block-terms : (sum : Float) → running sum (terms at count) ≡ block_sum_from directions rotated block indices bits at 0 sum
    block-terms sum =
        let count-is : count ≡ length block - 0 = sym (sub-zero (length block) ∙ block-long) in
        ap (running sum) (map-shift _ (λ j. block_term directions rotated block indices bits at j) at zero count same-term)
        ∙ ap (λ (n : ℕ). running sum (map (λ j. block_term directions rotated block indices bits at j) (from 0 n))) count-is

    judged : clear bad_radius (drop at stored) ≡ clear bad_radius block && clear bad_radius (drop (at + count) stored)
    judged =
        ap (clear bad_radius) (sym (take-append-drop count (drop at stored)))
        ∙ clear-append bad_radius (take count (drop at stored)) (drop count (drop at stored))
        ∙ ap (λ (l : List Float). clear bad_radius l && clear bad_radius (drop count (drop at stored))) (sym block-is)
        ∙ ap (λ (l : List Float). clear bad_radius block && clear bad_radius l) (drop-drop count at stored)

    onward-block : (sum : Float) → onward at sum ≡ cond (clear bad_radius block) (onward (at + count) (block_sum_from directions rotated block indices bits at 0 sum)) None
    onward-block sum =
        ap (λ (b : Bool). cond b (Some (running sum (terms at (pairs - at)))) None) judged
        ∙ ap (λ (x : Float). cond (clear bad_radius block && clear bad_radius (drop (at + count) stored)) (Some x) None)
        (ap (λ (l : List ℕ). running sum (map (λ i. term rotated directions (indices_in bits pairs indices) stored i) l)) (from-split at pairs count within) ∙ running-append sum _ (from at count) (from (at + count) (pairs - (at + count))) ∙ ap (λ (x : Float). running x (terms (at + count) (pairs - (at + count)))) (block-terms sum))
        ∙ split (clear bad_radius block) (clear bad_radius (drop (at + count) stored)) _
      where
        split : (a b : Bool) (x : Option Float) → cond (a && b) x None ≡ cond a (cond b x None) None
        split true b x = refl
        split false b x = refl

    -- a block that is added, and one with a radius that is refused
    pub onward-more : (sum more : Float) {whole : Option Float} → Some more ≡ added_block directions rotated profile range radii indices bits at count sum → whole ≡ onward at sum → whole ≡ onward (at + count) more
    onward-more sum more e inv = inv ∙ onward-block sum ∙ split (clear bad_radius block) _ e
      where
        split : (b : Bool) (x : Float) → Some more ≡ cond b (Some x) None → cond b (onward (at + count) x) None ≡ onward (at + count) more
        split true x f = let same : x ≡ more = cc in ap (onward (at + count)) same
        split false x f = let z : ◌≡◌ {A = ℕ} 0 1 = cc in absurd (omega arith)

    pub onward-none : (sum : Float) {whole : Option Float} → None ≡ added_block directions rotated profile range radii indices bits at count sum → whole ≡ onward at sum → None ≡ whole
    onward-none sum e inv = sym (inv ∙ onward-block sum ∙ split (clear bad_radius block) _ _ e)
      where
        split : (b : Bool) (x : Float) (y : Option Float) → None ≡ cond b (Some x) None → cond b y None ≡ None
        split true x y f = let z : ◌≡◌ {A = ℕ} 0 1 = cc in absurd (omega arith)
        split false x y f = refl

    -- what is asked for a block is there
    pub block-there : at % 4 ≡ 0 → count ≤ 64 → Addable directions rotated profile radii indices bits at count
    block-there aligned small =
        let f = fitted in
        record {
          known = f.known;
          aligned = aligned;
          small = small;
          sized = omega (arith, mul-le-mul_left (width_of profile) within, f.sized);
          narrow = f.narrow;
          few = omega (arith, within, f.few);
          enough = omega (arith, mul-le-mul_right bits within, f.enough);
          query = omega (arith, within, s.query);
          table = omega (arith, s.table);
        }

  -- a turn of the loop: a block has 64 pairs, or all that are left
  pub onward-turn : (at count : ℕ) (within : at + count ≤ pairs) → count ≤ 64 → (count < pairs - at → count ≡ 64) → (sum more : Float) {whole : Option Float}
      → Some more ≡ added_block directions rotated profile range radii indices bits at count sum → whole ≡ onward at sum → whole ≡ onward (at + 64) more
  onward-turn at count within small full sum more e inv = onward-more at count within sum more e inv ∙ next (cases_lt count (pairs - at))
    where
      next : (count < pairs - at) ⊎ (pairs - at ≤ count) → onward (at + count) more ≡ onward (at + 64) more
      next (inl h) = ap (λ (n : ℕ). onward (at + n) more) (full h)
      next (inr h) = onward-end (at + count) more (omega arith) ∙ sym (onward-end (at + 64) more (omega arith))
