-- A stage of butterflies, and two of them, block by block: what an entry of a block becomes, and one turn of the loop over the blocks. Two stages are the fused
-- step, entry by entry. Assumes nothing.
use Prim.Native.Nat.{ℕ, ◌+◌, ◌-◌, ◌*◌, ◌/◌, ◌%◌, ◌≤◌, ◌<◌}
use mathlib.Core.Path.{◌≡◌, sym, ap, ap₂, ◌∙◌, subst}
use mathlib.Core.List.{List}
use native.Mathlib.Nat.{add-sub_cancel, mul-mod_left}
use native.Mathlib.Decide.{dec_lt}
use native.Mathlib.Omega.{arith}
use lib.Arith.{digits_div}
use lib.ListN.{length, get_or}
use lib.Ieee.{Float, binary32, add, sub}
use Rattle.float.specs.Constants.{pos_zero}
use Rattle.rounding.specs.Butterfly.{entry, stage}
use Rattle.rounding.proofs.Butterflies.{length-stage, stage_at}
use Rattle.rotation_stages.specs.Inner.{entry_at, Partly, FoursDone}
use Rattle.rotation_stages.proofs.Passes.{Through, through-more, through-left, through-all}

-- ---- the two halves of a block

first-half : (b h o : ℕ) → o < h → (b * (2 * h) + o) / h % 2 ≡ 0
first-half b h o l =
    let regroup : b * (2 * h) + o ≡ b * 2 * h + o = omega arith in
    rw (regroup, digits_div (b * 2) l) (mul-mod_left b 2)

second-half : (b h o : ℕ) → o < h → (b * (2 * h) + o + h) / h % 2 ≡ 1
second-half b h o l =
    let regroup : b * (2 * h) + o + h ≡ (b * 2 + 1) * h + o = omega arith in
    rw (regroup, digits_div (b * 2 + 1) l) (omega arith)

-- the entry i stands at offset o of block b, and i + h is its partner
module _ {A : Type 0} (plus minus : A → A → A) (none : A) (b h o i : ℕ) (xs : List A) (inside : o < h) (here : i ≡ b * (2 * h) + o) where
  entry-low : entry plus minus none h xs i ≡ plus (get_or xs i none) (get_or xs (i + h) none)
  unfolding entry
  entry-low = rw (here, first-half b h o inside)

  entry-high : entry plus minus none h xs (i + h) ≡ minus (get_or xs i none) (get_or xs (i + h) none)
  unfolding entry
  entry-high = rw (here, second-half b h o inside, add-sub_cancel)

  stage-low : i + h < length xs → get_or (stage plus minus none h xs) i none ≡ plus (get_or xs i none) (get_or xs (i + h) none)
  stage-low room = stage_at plus minus none h xs i (omega arith) ∙ entry-low

  stage-high : i + h < length xs → get_or (stage plus minus none h xs) (i + h) none ≡ minus (get_or xs i none) (get_or xs (i + h) none)
  stage-high room = stage_at plus minus none h xs (i + h) room ∙ entry-high

-- ---- two stages are the fused step

module _ {A : Type 0} (plus minus : A → A → A) (none : A) (b h o i : ℕ) (xs : List A) (inside : o < h) (here : i ≡ b * (4 * h) + o) (room : i + h + h + h < length xs) where
  -- after the first stage, and after the second
  half : ℕ → A
  half j = get_or (stage plus minus none h xs) j none

  twice : ℕ → A
  twice j = entry plus minus none (2 * h) (stage plus minus none h xs) j

  at : ℕ → A
  at j = get_or xs j none

  half-first : half i ≡ plus (at i) (at (i + h))
  unfolding half at
  half-first = stage-low plus minus none (2 * b) h o i xs inside (omega arith) (omega arith)

  half-second : half (i + h) ≡ minus (at i) (at (i + h))
  unfolding half at
  half-second = stage-high plus minus none (2 * b) h o i xs inside (omega arith) (omega arith)

  half-third : half (i + h + h) ≡ plus (at (i + h + h)) (at (i + h + h + h))
  unfolding half at
  half-third = stage-low plus minus none (2 * b + 1) h o (i + h + h) xs inside (omega arith) room

  half-fourth : half (i + h + h + h) ≡ minus (at (i + h + h)) (at (i + h + h + h))
  unfolding half at
  half-fourth = stage-high plus minus none (2 * b + 1) h o (i + h + h) xs inside (omega arith) room

  further : i + 2 * h ≡ i + h + h
  further = omega arith

  further-second : i + h + 2 * h ≡ i + h + h + h
  further-second = omega arith

  twice-first : twice i ≡ plus (plus (at i) (at (i + h))) (plus (at (i + h + h)) (at (i + h + h + h)))
  unfolding half twice
  twice-first = entry-low plus minus none b (2 * h) o i _ (omega arith) (omega arith) ∙ ap₂ plus half-first (ap half further ∙ half-third)

  twice-second : twice (i + h) ≡ plus (minus (at i) (at (i + h))) (minus (at (i + h + h)) (at (i + h + h + h)))
  unfolding half twice
  twice-second = entry-low plus minus none b (2 * h) (o + h) (i + h) _ (omega arith) (omega arith) ∙ ap₂ plus half-second (ap half further-second ∙ half-fourth)

  twice-third : twice (i + h + h) ≡ minus (plus (at i) (at (i + h))) (plus (at (i + h + h)) (at (i + h + h + h)))
  unfolding half twice
  twice-third = ap twice (sym further) ∙ entry-high plus minus none b (2 * h) o i _ (omega arith) (omega arith) ∙ ap₂ minus half-first (ap half further ∙ half-third)

  twice-fourth : twice (i + h + h + h) ≡ minus (minus (at i) (at (i + h))) (minus (at (i + h + h)) (at (i + h + h + h)))
  unfolding half twice
  twice-fourth = ap twice (sym further-second) ∙ entry-high plus minus none b (2 * h) (o + h) (i + h) _ (omega arith) (omega arith) ∙ ap₂ minus half-second (ap half further-second ∙ half-fourth)

-- ---- one stage, block by block

abbrev rounded : ℕ → List Float → ℕ → Float
rounded h xs i = entry (add binary32) (sub binary32) pos_zero h xs i

abbrev pub OneThrough : ℕ → ℕ → List Float → List Float → Type 0
OneThrough h start xs ys = Through (2 * h) (rounded h xs) start xs ys

module _ (h start : ℕ) (xs ys zs : List Float) (inv : OneThrough h start xs ys) (done : Partly h start h ys zs) (room : start + 2 * h ≤ length xs) where
  pair-was : (i : ℕ) → start ≤ i → i < start + 2 * h → entry_at ys i ≡ get_or xs i pos_zero
  pair-was i l m = through-left (2 * h) (rounded h xs) start xs ys inv i l (omega arith)

  sum-at : (o : ℕ) → o < h → entry_at zs (start + o) ≡ rounded h xs (start + o)
  sum-at o l =
      done.sums o l
      ∙ ap₂ (add binary32) (pair-was (start + o) (omega arith) (omega arith)) (pair-was (start + o + h) (omega arith) (omega arith))
      ∙ sym (entry-low (add binary32) (sub binary32) pos_zero inv.turn h o (start + o) xs l (omega (arith, inv.reached)))

  difference-at : (o : ℕ) → o < h → entry_at zs (start + o + h) ≡ rounded h xs (start + o + h)
  difference-at o l =
      done.differences o l
      ∙ ap₂ (sub binary32) (pair-was (start + o) (omega arith) (omega arith)) (pair-was (start + o + h) (omega arith) (omega arith))
      ∙ sym (entry-high (add binary32) (sub binary32) pos_zero inv.turn h o (start + o) xs l (omega (arith, inv.reached)))

  in_halves : (i : ℕ) → start ≤ i → i < start + 2 * h → entry_at zs i ≡ rounded h xs i
  in_halves i l m = elim (dec_lt i (start + h)) [ yes b ↦ low b | no n ↦ high n ]
    where
      low : i < start + h → entry_at zs i ≡ rounded h xs i
      low b =
          let here : start + (i - start) ≡ i = omega arith in
          subst (λ (j : ℕ). entry_at zs j ≡ rounded h xs j) here (sum-at (i - start) (omega arith))

      high : ¬ (i < start + h) → entry_at zs i ≡ rounded h xs i
      high n =
          let here : start + (i - start - h) + h ≡ i = omega arith in
          subst (λ (j : ℕ). entry_at zs j ≡ rounded h xs j) here (difference-at (i - start - h) (omega arith))

  behind-pairs : (i : ℕ) → start + 2 * h ≤ i → entry_at zs i ≡ entry_at ys i
  behind-pairs i l =
      let here : start + (i - start - h) + h ≡ i = omega arith in
      subst (λ (j : ℕ). entry_at zs j ≡ entry_at ys j) here (done.highs (i - start - h) (omega arith))

  pub one_more : OneThrough h (start + 2 * h) xs zs
  one_more = through-more (2 * h) (rounded h xs) start xs ys inv zs done.long done.before in_halves behind-pairs

pub one-all : (h start : ℕ) (xs ys : List Float) → OneThrough h start xs ys → length xs ≤ start → ys ≡ stage (add binary32) (sub binary32) pos_zero h xs
one-all h start xs ys inv all =
    through-all (2 * h) (rounded h xs) start xs ys inv (stage (add binary32) (sub binary32) pos_zero h xs) (length-stage (add binary32) (sub binary32) pos_zero h xs)
    (λ i l. stage_at (add binary32) (sub binary32) pos_zero h xs i l) all

-- ---- two stages, block by block

abbrev rounded_twice : ℕ → List Float → ℕ → Float
rounded_twice h xs i = rounded (2 * h) (stage (add binary32) (sub binary32) pos_zero h xs) i

abbrev pub TwoThrough : ℕ → ℕ → List Float → List Float → Type 0
TwoThrough h start xs ys = Through (4 * h) (rounded_twice h xs) start xs ys

module _ (h start : ℕ) (xs ys zs : List Float) (inv : TwoThrough h start xs ys) (done : FoursDone h start h ys zs) (room : start + 4 * h ≤ length xs) where
  four-was : (i : ℕ) → start ≤ i → i < start + 4 * h → entry_at ys i ≡ get_or xs i pos_zero
  four-was i l m = through-left (4 * h) (rounded_twice h xs) start xs ys inv i l (omega arith)

  -- the four entries at an offset, before
  module _ (o : ℕ) (l : o < h) where
    left-pair : (op : Float → Float → Float) → op (entry_at ys (start + o)) (entry_at ys (start + o + h)) ≡ op (get_or xs (start + o) pos_zero) (get_or xs (start + o + h) pos_zero)
    left-pair op = ap₂ op (four-was (start + o) (omega arith) (omega arith)) (four-was (start + o + h) (omega arith) (omega arith))

    right-pair : (op : Float → Float → Float) → op (entry_at ys (start + o + h + h)) (entry_at ys (start + o + h + h + h)) ≡ op (get_or xs (start + o + h + h) pos_zero) (get_or xs (start + o + h + h + h) pos_zero)
    right-pair op = ap₂ op (four-was (start + o + h + h) (omega arith) (omega arith)) (four-was (start + o + h + h + h) (omega arith) (omega arith))

    first-at : entry_at zs (start + o) ≡ rounded_twice h xs (start + o)
    unfolding twice at
    first-at =
        (done.fused o l).first
        ∙ ap₂ (add binary32) (left-pair (add binary32)) (right-pair (add binary32))
        ∙ sym (twice-first (add binary32) (sub binary32) pos_zero inv.turn h o (start + o) xs l (omega (arith, inv.reached)) (omega arith))

    second_at : entry_at zs (start + o + h) ≡ rounded_twice h xs (start + o + h)
    unfolding twice at
    second_at =
        (done.fused o l).second
        ∙ ap₂ (add binary32) (left-pair (sub binary32)) (right-pair (sub binary32))
        ∙ sym (twice-second (add binary32) (sub binary32) pos_zero inv.turn h o (start + o) xs l (omega (arith, inv.reached)) (omega arith))

    third_at : entry_at zs (start + o + h + h) ≡ rounded_twice h xs (start + o + h + h)
    unfolding twice at
    third_at =
        (done.fused o l).third
        ∙ ap₂ (sub binary32) (left-pair (add binary32)) (right-pair (add binary32))
        ∙ sym (twice-third (add binary32) (sub binary32) pos_zero inv.turn h o (start + o) xs l (omega (arith, inv.reached)) (omega arith))

    fourth-at : entry_at zs (start + o + h + h + h) ≡ rounded_twice h xs (start + o + h + h + h)
    unfolding twice at
    fourth-at =
        (done.fused o l).fourth
        ∙ ap₂ (sub binary32) (left-pair (sub binary32)) (right-pair (sub binary32))
        ∙ sym (twice-fourth (add binary32) (sub binary32) pos_zero inv.turn h o (start + o) xs l (omega (arith, inv.reached)) (omega arith))

  -- the index is an offset and a quarter
  in-quarters : (i : ℕ) → start ≤ i → i < start + 4 * h → entry_at zs i ≡ rounded_twice h xs i
  in-quarters i l m = elim (dec_lt i (start + h)) [ yes b ↦ moved (start + (i - start)) (omega arith) (first-at (i - start) (omega arith)) | no n ↦ from_second n ]
    where
      moved : (j : ℕ) → j ≡ i → entry_at zs j ≡ rounded_twice h xs j → entry_at zs i ≡ rounded_twice h xs i
      moved j e q = subst (λ (k : ℕ). entry_at zs k ≡ rounded_twice h xs k) e q

      from-third : ¬ (i < start + h + h) → entry_at zs i ≡ rounded_twice h xs i
      from-third n =
          elim (dec_lt i (start + h + h + h)) [
            | yes b ↦ moved (start + (i - start - h - h) + h + h) (omega arith) (third_at (i - start - h - h) (omega arith))
            | no k ↦ moved (start + (i - start - h - h - h) + h + h + h) (omega arith) (fourth-at (i - start - h - h - h) (omega arith))
          ]

      from_second : ¬ (i < start + h) → entry_at zs i ≡ rounded_twice h xs i
      from_second n = elim (dec_lt i (start + h + h)) [ yes b ↦ moved (start + (i - start - h) + h) (omega arith) (second_at (i - start - h) (omega arith)) | no k ↦ from-third k ]

  before-fours : (i : ℕ) → i < start → entry_at zs i ≡ entry_at ys i
  before-fours i l = done.rest i (λ o m. record { first = omega arith; second = omega arith; third = omega arith; fourth = omega arith })

  behind-fours : (i : ℕ) → start + 4 * h ≤ i → entry_at zs i ≡ entry_at ys i
  behind-fours i l = done.rest i (λ o m. record { first = omega arith; second = omega arith; third = omega arith; fourth = omega arith })

  pub two-more : TwoThrough h (start + 4 * h) xs zs
  two-more = through-more (4 * h) (rounded_twice h xs) start xs ys inv zs done.long before-fours in-quarters behind-fours

pub two-all : (h start : ℕ) (xs ys : List Float) → TwoThrough h start xs ys → length xs ≤ start → ys ≡ stage (add binary32) (sub binary32) pos_zero (2 * h) (stage (add binary32) (sub binary32) pos_zero h xs)
two-all h start xs ys inv all =
    let once = stage (add binary32) (sub binary32) pos_zero h xs in
    let long = length-stage (add binary32) (sub binary32) pos_zero h xs in
    through-all (4 * h) (rounded_twice h xs) start xs ys inv (stage (add binary32) (sub binary32) pos_zero (2 * h) once) (length-stage (add binary32) (sub binary32) pos_zero (2 * h) once ∙ long)
    (λ i l. stage_at (add binary32) (sub binary32) pos_zero (2 * h) once i (omega (arith, long))) all
