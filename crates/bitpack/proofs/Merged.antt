-- Indices that are merged bit by bit: one of them has a bit at or above bit b exactly where what they merge to has one, so that one comparison
-- judges all of them. Assumes nothing.
use Prim.Native.Nat.{ℕ, ◌+◌, ◌^◌, ◌≤◌, ◌<◌}
use mathlib.Core.Path.{◌≡◌, refl, sym, ◌∙◌}
use mathlib.Core.Bool.{Bool, true, false}
use mathlib.Core.List.{List}
use native.Mathlib.Omega.{arith}
use lib.Bits.{bit_or, or_lt, or_add_and, and_le_l, and_le_r}
use lib.Dec.{ltb, leb}
use lib.ListN.{length, get_or}
use borrow.Author.Tests.{lt-ltb, le-ltb, ltb-true, ltb-false, leb-true, leb-false}
use Rattle.error.specs.Checks.{bad_index}
use Rattle.error.proofs.Sweep.{Swept, swept-pass, swept-spot}

or_most : (a b : ℕ) → (a ≤ bit_or a b) × (b ≤ bit_or a b)
or_most a b = (omega (arith, or_add_and a b, and_le_r a b), omega (arith, or_add_and a b, and_le_l a b))

module _ (bits all x : ℕ) where
  -- a small one changes nothing, a large one tells
  merged-small : x < 2 ^ bits → ltb (bit_or all x) (2 ^ bits) ≡ ltb all (2 ^ bits)
  merged-small h = by (ltb all (2 ^ bits)) refl
    where
      by : (t : Bool) → ltb all (2 ^ bits) ≡ t → ltb (bit_or all x) (2 ^ bits) ≡ ltb all (2 ^ bits)
      by true e = lt-ltb (bit_or all x) (2 ^ bits) (or_lt bits all x (ltb-true all (2 ^ bits) e) h) ∙ sym e
      by false e = let large = ltb-false all (2 ^ bits) e in le-ltb (bit_or all x) (2 ^ bits) (omega (arith, large, (or_most all x).0)) ∙ sym e

  merged-large : 2 ^ bits ≤ x → ltb (bit_or all x) (2 ^ bits) ≡ false
  merged-large h = le-ltb (bit_or all x) (2 ^ bits) (omega (arith, h, (or_most all x).1))

-- one more index is merged
pub merged-turn : (bits : ℕ) (indices : List ℕ) (i all : ℕ) → i < length indices → Swept (bad_index bits) indices i (ltb all (2 ^ bits)) → Swept (bad_index bits) indices (i + 1) (ltb (bit_or all (get_or indices i 0)) (2 ^ bits))
merged-turn bits indices i all h s = by (leb (2 ^ bits) (get_or indices i 0)) refl
  where
    by : (t : Bool) → leb (2 ^ bits) (get_or indices i 0) ≡ t → Swept (bad_index bits) indices (i + 1) (ltb (bit_or all (get_or indices i 0)) (2 ^ bits))
    by true e = rw (merged-large bits all (get_or indices i 0) (leb-true (2 ^ bits) (get_or indices i 0) e)) (swept-spot (bad_index bits) indices i (ltb all (2 ^ bits)) 0 h e s)
    by false e = rw (merged-small bits all (get_or indices i 0) (leb-false (2 ^ bits) (get_or indices i 0) e)) (swept-pass (bad_index bits) indices i (ltb all (2 ^ bits)) 0 h e s)
