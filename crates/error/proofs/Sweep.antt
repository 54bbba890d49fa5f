-- A pass over a list that goes to its end and keeps one flag, whether no item so far offends: how it starts, what an item does to the flag, what the flag says
-- at the end, and what the place is then. Assumes nothing.
use Prim.Native.Nat.{ℕ, ◌+◌, ◌≤◌, ◌<◌}
use mathlib.Core.Path.{◌≡◌, refl, sym, ap, ◌∙◌}
use mathlib.Core.Bool.{Bool, true, false, not, true≢false, false≢true}
use mathlib.Core.List.{List}
use native.Mathlib.Omega.{arith}
use borrow.Author.Tests.{ltb-false, not-true, not-false, lt-ltb, le-ltb}
use lib.Dec.{ltb}
use lib.ListN.{length, get_or, drop}
use Rattle.std.proofs.Common.{None}
use Rattle.error.specs.Answer.{place, clear, found}
use Rattle.error.proofs.Places.{place-le, place-start, place-skip, place_here, place_end}

-- the first i items are through, and the flag says whether none of them offends
pub record Swept {A : Type 0} (bad : A → Bool) (xs : List A) (i : ℕ) (ok : Bool) : Type 0 where
  pub within : i ≤ length xs
  pub clean : ok ≡ true → place bad xs ≡ i + place bad (drop i xs)
  pub spotted : ok ≡ false → place bad xs < i

module _ {A : Type 0} (bad : A → Bool) (xs : List A) where
  pub swept-start : Swept bad xs 0 true
  swept-start = record { within = omega arith; clean = λ e. place-start bad xs; spotted = λ e. absurd (true≢false e) }

  -- an item that passes leaves the flag as it is
  pub swept-pass : (i : ℕ) (ok : Bool) (d : A) → i < length xs → bad (get_or xs i d) ≡ false → Swept bad xs i ok → Swept bad xs (i + 1) ok
  swept-pass i ok d h good s =
      record {
        within = omega arith;
        clean = λ e. place-skip bad xs i d h good (s.clean e);
        spotted = λ e. let l = s.spotted e in omega (arith, l);
      }

  -- an item that offends clears it
  pub swept-spot : (i : ℕ) (ok : Bool) (d : A) → i < length xs → bad (get_or xs i d) ≡ true → Swept bad xs i ok → Swept bad xs (i + 1) false
  swept-spot i ok d h offends s =
      record { within = omega arith; clean = λ e. absurd (false≢true e); spotted = λ e. split ok s }
    where
      split : (b : Bool) → Swept bad xs i b → place bad xs < i + 1
      split true t = let here = place_here bad xs i d h offends (t.clean refl) in omega (arith, here)
      split false t = let l = t.spotted refl in omega (arith, l)

  pub swept-end : (i : ℕ) (ok : Bool) → length xs ≤ i → Swept bad xs i ok → ok ≡ clear bad xs
  swept-end i true h s =
      let there = place_end bad xs i h (s.clean refl) in
      sym (ap not (le-ltb (place bad xs) (length xs) (omega (arith, there))))
  swept-end i false h s =
      let l = s.spotted refl in
      let most = s.within in
      sym (ap not (lt-ltb (place bad xs) (length xs) (omega (arith, l, most))))

  -- ---- the place, and the check `each`, by the flag

  pub clear-place : clear bad xs ≡ true → length xs ≡ place bad xs
  clear-place e =
      let least = ltb-false (place bad xs) (length xs) (not-true _ e) in
      let most = place-le bad xs in
      omega (arith, least, most)

  -- where no item offends, none is found
  pub clear-found : clear bad xs ≡ true → None ≡ found (place bad xs) (length xs)
  clear-found e = rw (not-true _ e) refl

  pub clear-passes : {ok : Bool} → ok ≡ clear bad xs → ok ≡ true → ltb (place bad xs) (length xs) ≡ false
  clear-passes e t = not-true _ (sym e ∙ t)

  pub clear-offends : {ok : Bool} → ok ≡ clear bad xs → ok ≡ false → ltb (place bad xs) (length xs) ≡ true
  clear-offends e t = not-false _ (sym e ∙ t)
