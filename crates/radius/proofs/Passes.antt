-- A pass over items that stand for radii, with two flags, one for each bound: how it starts, one turn, and what it says where both flags stand at the end.
-- Assumes nothing.
use Prim.Native.Nat.{ℕ, ◌+◌, ◌≤◌, ◌<◌}
use mathlib.Core.Path.{◌≡◌, ap}
use mathlib.Core.Bool.{Bool, true, false, not, false≢true, true≢false}
use mathlib.Core.List.{List}
use native.Mathlib.Omega.{arith}
use borrow.Author.Tests.{le-ltb}
use lib.ListN.{length, get_or, drop}
use lib.Ieee.{Float, nan, inf, fin, lt}
use Rattle.error.specs.Answer.{place, clear}
use Rattle.error.proofs.Places.{place-start, place-skip, place_end}
use Rattle.float.specs.Constants.{pos_zero}
use Rattle.radius.specs.Radii.{bad_radius}

-- a radius between the bounds passes: a NaN is below nothing
pub between-good : (r : Float) → lt r pos_zero ≡ false → lt r (inf false) ≡ true → bad_radius r ≡ false
unfolding lt
between-good nan low high = absurd (false≢true high)
between-good (inf true) low high = absurd (true≢false low)
between-good (inf false) low high = absurd (false≢true high)
between-good (fin s m e) low high = low

-- where both flags stand, each of the first i stands for a radius that passes; `of` is what an item stands for
pub record Flagged (of : Float → Float) (rs : List Float) (i : ℕ) (above below : Bool) : Type 0 where
  pub within : i ≤ length rs
  pub clean : above ≡ true → below ≡ true → place (λ r. bad_radius (of r)) rs ≡ i + place (λ r. bad_radius (of r)) (drop i rs)

module _ (of : Float → Float) (rs : List Float) where
  pub flagged-start : Flagged of rs 0 true true
  flagged-start = record { within = omega arith; clean = λ p q. place-start (λ r. bad_radius (of r)) rs }

  pub flagged-next : (i : ℕ) (above below above' below' : Bool) → i < length rs → (above' ≡ true → (above ≡ true) × (lt (of (get_or rs i nan)) pos_zero ≡ false)) → (below' ≡ true → (below ≡ true) × (lt (of (get_or rs i nan)) (inf false) ≡ true)) → Flagged of rs i above below → Flagged of rs (i + 1) above' below'
  flagged-next i above below above' below' h low high inv =
      record {
        within = omega arith;
        clean = λ p q. place-skip (λ r. bad_radius (of r)) rs i nan h (between-good (of (get_or rs i nan)) (low p).1 (high q).1) (inv.clean (low p).0 (high q).0);
      }

  pub flagged-end : (i : ℕ) (above below : Bool) → length rs ≤ i → Flagged of rs i above below → above ≡ true → below ≡ true → clear (λ r. bad_radius (of r)) rs ≡ true
  flagged-end i above below h inv p q =
      let there = place_end (λ r. bad_radius (of r)) rs i h (inv.clean p q) in
      ap not (le-ltb (place (λ r. bad_radius (of r)) rs) (length rs) (omega (arith, there)))
