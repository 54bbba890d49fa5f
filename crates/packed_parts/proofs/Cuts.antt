-- The bytes between two places: what they are, how many, and where they start, for places that lie in order within the bytes and for others.
-- Assumes nothing.
use Prim.Native.Nat.{ℕ, ◌-◌, ◌≤◌}
use mathlib.Core.Path.{◌≡◌, ap, ◌∙◌}
use mathlib.Core.Bool.{true, false}
use mathlib.Core.List.{List, []}
use native.Mathlib.Omega.{arith}
use borrow.Author.Tests.{le-ltb, ltb-false}
use lib.ListN.{length, drop, length-drop}
use lib.Seq.{length-take-le}
use Rattle.error.proofs.Chains.{or-false}
use Rattle.packed.specs.Layout.{part_at}
use Rattle.packed_parts.specs.Parts.{bad_places, cut_of, cut_start}

pub places-good : (size from to : ℕ) → from ≤ to → to ≤ size → bad_places size from to ≡ false
places-good size from to a b = rw (le-ltb to from a, le-ltb size to b)

pub places-order : (size from to : ℕ) → bad_places size from to ≡ false → (from ≤ to) × (to ≤ size)
places-order size from to e = let both = or-false _ _ e in (ltb-false to from both.0, ltb-false size to both.1)

module _ (bytes : List ℕ) (from to : ℕ) where
  pub cut-outside : bad_places (length bytes) from to ≡ true → cut_of bytes from to ≡ []
  unfolding cut_of
  cut-outside e = rw e

  pub start_outside : bad_places (length bytes) from to ≡ true → cut_start bytes from to ≡ 0
  unfolding cut_start
  start_outside e = rw e

  pub cut_inside : bad_places (length bytes) from to ≡ false → cut_of bytes from to ≡ part_at bytes from (to - from)
  unfolding cut_of
  cut_inside e = rw e

  pub start-inside : bad_places (length bytes) from to ≡ false → cut_start bytes from to ≡ from
  unfolding cut_start
  start-inside e = rw e

  pub length_cut : bad_places (length bytes) from to ≡ false → length (cut_of bytes from to) ≡ to - from
  length_cut e = let o = places-order (length bytes) from to e in ap length (cut_inside e) ∙ length-take-le (to - from) (drop from bytes) (rw length-drop (omega (arith, o.0, o.1)))

pub cut-none : (bytes : List ℕ) → cut_of bytes 0 0 ≡ []
cut-none bytes = cut_inside bytes 0 0 (places-good (length bytes) 0 0 (omega arith) (omega arith))
