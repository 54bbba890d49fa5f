-- A pass over a list, block by block, that makes each entry what a function of its index says: the loop's start, one turn and its end. Assumes nothing.
use Prim.Native.Nat.{ℕ, ◌+◌, ◌*◌, ◌≤◌, ◌<◌}
use mathlib.Core.Path.{◌≡◌, refl, sym, ◌∙◌}
use mathlib.Core.List.{List}
use native.Mathlib.Nat.{mul-le-mul_right}
use native.Mathlib.Decide.{dec_lt}
use native.Mathlib.Omega.{arith}
use lib.ListN.{length, get_or}
use lib.Seq.{ext_get_or}
use lib.Ieee.{Float, nan}
use Rattle.float.specs.Constants.{pos_zero}
use Rattle.rounding.proofs.Lists.{get_d_any}
use Rattle.rotation_stages.specs.Inner.{entry_at, Stepped}

-- of the list xs, ys is what is left when the entries below start are through
pub record Through (width : ℕ) (f : ℕ → Float) (start : ℕ) (xs ys : List Float) : Type 0 where
  pub long : length ys ≡ length xs
  pub turn : ℕ
  pub reached : start ≡ turn * width
  pub passed : (i : ℕ) → i < start → entry_at ys i ≡ f i
  pub left : (i : ℕ) → start ≤ i → entry_at ys i ≡ entry_at xs i

pub through-start : (width : ℕ) (f : ℕ → Float) (xs : List Float) → Through width f 0 xs xs
through-start width f xs =
    record {
      long = refl;
      turn = 0;
      reached = omega arith;
      passed = λ i l. absurd (omega arith);
      left = λ i l. refl;
    }

module _ (width : ℕ) (f : ℕ → Float) (start : ℕ) (xs ys : List Float) (inv : Through width f start xs ys) where
  -- one block more is through
  pub through-more : (zs : List Float) → length zs ≡ length ys → ((i : ℕ) → i < start → entry_at zs i ≡ entry_at ys i) → ((i : ℕ) → start ≤ i → i < start + width → entry_at zs i ≡ f i)
      → ((i : ℕ) → start + width ≤ i → entry_at zs i ≡ entry_at ys i) → Through width f (start + width) xs zs
  through-more zs long before inside behind =
      record {
        long = long ∙ inv.long;
        turn = inv.turn + 1;
        reached = omega (arith, inv.reached);
        passed = λ i l. elim (dec_lt i start) [ yes b ↦ before i b ∙ inv.passed i b | no n ↦ inside i (omega arith) l ];
        left = λ i l. behind i l ∙ inv.left i (omega arith);
      }

  -- an entry that is still as it was, whatever the default
  pub through-left : (i : ℕ) → start ≤ i → i < length xs → entry_at ys i ≡ get_or xs i pos_zero
  through-left i l m = inv.left i l ∙ get_d_any xs nan pos_zero i m

  pub through-all : (zs : List Float) → length zs ≡ length xs → ((i : ℕ) → i < length xs → get_or zs i pos_zero ≡ f i) → length xs ≤ start → ys ≡ zs
  through-all zs same items all =
      ext_get_or nan ys zs (inv.long ∙ sym same) (λ i l.
      inv.passed i (omega (arith, inv.long))
      ∙ sym (items i (omega (arith, inv.long)))
      ∙ get_d_any zs pos_zero nan i (omega (arith, inv.long, same)))

  -- a block fits where an entry is left
  pub block-fits : Stepped width (length xs) → start < length xs → start + width ≤ length ys
  block-fits step l = elim (dec_lt inv.turn step.blocks) [ yes b ↦ room b | no n ↦ absurd (over n) ]
    where
      room : inv.turn < step.blocks → start + width ≤ length ys
      room b =
          let more = mul-le-mul_right width b in
          omega (arith, more, inv.reached, inv.long, step.whole)

      over : ¬ (inv.turn < step.blocks) → ⊥
      over n =
          let less = mul-le-mul_right width (let under : step.blocks ≤ inv.turn = omega arith in under) in
          omega (arith, less, inv.reached, step.whole)
