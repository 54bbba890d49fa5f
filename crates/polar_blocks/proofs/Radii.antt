-- Whether no item of a list offends, in two parts or by two tests, and the radii of a part of a payload. Assumes nothing.
use Prim.Native.Nat.{ℕ, zero, suc, ◌+◌, ◌-◌, ◌*◌, ◌≤◌, ◌<◌, suc-le-suc}
use mathlib.Core.Path.{◌≡◌, refl, sym, ap, ◌∙◌}
use mathlib.Core.Bool.{Bool, true, false, not, ◌&&◌, ◌||◌, true≢false}
use mathlib.Core.List.{List, [], ◌∷◌, ◌++◌, map}
use native.Mathlib.Nat.{zero-add, suc-add, mul-add}
use native.Mathlib.Omega.{arith}
use borrow.Author.Tests.{lt-ltb, le-ltb, ltb-true, ltb-false}
use lib.Dec.{ltb}
use lib.ListN.{length, take, drop, length-drop}
use lib.Seq.{get_or-take, get_or-drop, length-take-le, ext_get_or, take-nil, drop-nil, take-take, drop-drop}
use lib.Ieee.{Float, nan}
use Rattle.error.specs.Answer.{place, clear, after}
use Rattle.error.proofs.Differs.{differs-not}
use Rattle.error.proofs.Places.{place-bad, place-good}
use Rattle.lists.specs.Chunks.{chunks}
use Rattle.lists.proofs.Chunks.{chunks-get_or, length-chunks}
use Rattle.lists.proofs.Loops.{place-within}
use Rattle.radius.specs.Codec.{bad_profile, width_of, radii_for, restore_of}
use Rattle.radius.specs.declared.Range.{Range}
use Rattle.radius.specs.declared.RadiusCodecProfileV1.{RadiusCodecProfileV1}
use Rattle.radius.specs.declared.RadiusCodecProfileV1.TheVariants.{F32, BlockLinearU16, BlockLogU8}
use Rattle.polar_blocks.specs.Inner.{part_radii}

-- ---- a list of items of which none offends

module _ {A : Type 0} where
  clear-cons : (bad : A → Bool) (x : A) (xs : List A) → clear bad (x ∷ xs) ≡ not (bad x) && clear bad xs
  clear-cons bad x xs = split (bad x) refl
    where
      rest : (b : Bool) → ltb (place bad xs) (length xs) ≡ b → ltb (suc (place bad xs)) (suc (length xs)) ≡ b
      rest true e = lt-ltb (suc (place bad xs)) (suc (length xs)) (suc-le-suc (ltb-true _ _ e))
      rest false e = le-ltb (suc (place bad xs)) (suc (length xs)) (suc-le-suc (ltb-false _ _ e))

      split : (b : Bool) → bad x ≡ b → clear bad (x ∷ xs) ≡ not b && clear bad xs
      split true e = rw (place-bad bad x xs e, lt-ltb 0 (suc (length xs)) (omega arith))
      split false e = rw (place-good bad x xs e, rest _ refl)

  pub clear-append : (bad : A → Bool) (xs ys : List A) → clear bad (xs ++ ys) ≡ clear bad xs && clear bad ys
  unfolding place
  clear-append bad [] ys = refl
  clear-append bad (x ∷ xs) ys = rw (clear-cons bad x (xs ++ ys), clear-cons bad x xs, clear-append bad xs ys) (join (not (bad x)))
    where
      join : (b : Bool) → b && (clear bad xs && clear bad ys) ≡ (b && clear bad xs) && clear bad ys
      join true = refl
      join false = refl

  -- an item offends where one of two tests says so
  pub clear_both : (bad p q : A → Bool) → ((x : A) → bad x ≡ p x || q x) → (xs : List A) → clear bad xs ≡ clear p xs && clear q xs
  unfolding place
  clear_both bad p q e [] = refl
  clear_both bad p q e (x ∷ xs) = rw (clear-cons bad x xs, clear-cons p x xs, clear-cons q x xs, e x, clear_both bad p q e xs) (join (p x) (q x) (clear p xs) (clear q xs))
    where
      join : (a b c d : Bool) → not (a || b) && (c && d) ≡ (not a && c) && (not b && d)
      join true b c d = refl
      join false true true d = refl
      join false true false d = refl
      join false false c d = refl

-- ---- a part of a payload

drop-take : {A : Type 0} (n m : ℕ) (xs : List A) → drop n (take (n + m) xs) ≡ take m (drop n xs)
drop-take zero m xs = rw zero-add
drop-take (suc n) m [] = ap (drop (suc n)) (take-nil (suc n + m)) ∙ sym (take-nil m)
drop-take (suc n) m (x ∷ xs) = rw suc-add (drop-take n m xs)

module _ {A B : Type 0} (f : List A → B) (d : B) (w n at count : ℕ) (items : List A) (within : at + count ≤ n) where
  chunk_part : (j : ℕ) → j < count → take w (drop (w * j) (take (w * count) (drop (w * at) items))) ≡ take w (drop (w * (at + j)) items)
  chunk_part j h =
      let fits : w * j + w ≤ w * count = place-within w j count (w * j) refl h in
      let split : w * count ≡ w * j + (w * count - w * j) = omega (arith, fits) in
      let place : w * at + w * j ≡ w * (at + j) = sym (mul-add w at j) in
      ap (λ (m : ℕ). take w (drop (w * j) (take m (drop (w * at) items)))) split
      ∙ ap (take w) (drop-take (w * j) (w * count - w * j) (drop (w * at) items))
      ∙ take-take w (w * count - w * j) _ (omega (arith, fits))
      ∙ ap (take w) (drop-drop (w * j) (w * at) items ∙ ap (λ (m : ℕ). drop m items) place)

  chunks-part : map f (chunks w count (take (w * count) (drop (w * at) items))) ≡ take count (drop at (map f (chunks w n items)))
  chunks-part =
      ext_get_or d _ _
      (length-chunks f w count _ ∙ sym (length-take-le count _ (rw (length-drop, length-chunks f w n items) (omega arith))))
      (λ j h.
      let l : j < count = rw (length-chunks f w count (take (w * count) (drop (w * at) items))) at h in
      chunks-get_or f w count j _ d l
      ∙ ap f (chunk_part j l)
      ∙ sym (get_or-take count _ j d l ∙ get_or-drop at _ j d ∙ chunks-get_or f w n (at + j) items d (omega (arith, l, within))))

pub radii_part : (profile : RadiusCodecProfileV1) (range : Range) (radii : List ℕ) (n at count : ℕ) → at + count ≤ n → part_radii profile range radii at count ≡ take count (drop at (radii_for profile n range radii))
radii_part F32 range radii n at count h = chunks-part _ nan 4 n at count radii h
radii_part BlockLinearU16 range radii n at count h = chunks-part _ nan 2 n at count radii h
radii_part BlockLogU8 range radii n at count h = sym (ap (take count) (drop-nil at) ∙ take-nil count)

pub radii_long : (profile : RadiusCodecProfileV1) (range : Range) (radii : List ℕ) (n : ℕ) → bad_profile profile ≡ false → length (radii_for profile n range radii) ≡ n
radii_long F32 range radii n known = length-chunks _ 4 n radii
radii_long BlockLinearU16 range radii n known = length-chunks _ 2 n radii
radii_long BlockLogU8 range radii n known = absurd (true≢false known)

-- what is restored from bytes of just the right length
pub all-restored : (profile : RadiusCodecProfileV1) (range : Range) (payload : List ℕ) (count room : ℕ) (old : List Float) → bad_profile profile ≡ false → length payload ≡ width_of profile * count → room ≡ count
    → after (restore_of profile count range payload room) old ≡ radii_for profile count range payload
unfolding restore_of
all-restored profile range payload count room old known sized rooms = rw (known, differs-not (length payload) (width_of profile * count) sized, differs-not room count rooms)

-- and from those of a part
pub part-restored : (profile : RadiusCodecProfileV1) (range : Range) (radii : List ℕ) (at count width room : ℕ) (old : List Float) → bad_profile profile ≡ false → width ≡ width_of profile → width_of profile * (at + count) ≤ length radii → room ≡ count
    → after (restore_of profile count range (take (width * at + width * count - width * at) (drop (width * at) radii)) room) old ≡ part_radii profile range radii at count
part-restored profile range radii at count width room old known e sized rooms =
    let w = width_of profile in
    let long : length (take (w * count) (drop (w * at) radii)) ≡ w * count = length-take-le (w * count) (drop (w * at) radii) (rw length-drop (omega (arith, sized, mul-add w at count))) in
    let cut : w * at + w * count - w * at ≡ w * count = omega arith in
    rw (e, cut) (all-restored profile range (take (w * count) (drop (w * at) radii)) count room old known long rooms)
