-- `radius_range::lanes_of` meets its contract, lane by lane. Assumes nothing.
use Prim.Native.Nat.{ℕ, zero, suc, ◌<◌}
use mathlib.Core.Path.{◌≡◌, refl}
use mathlib.Core.List.{List, [], ◌∷◌}
use native.Mathlib.Nat.{le_of_suc-le-suc, not-suc-le-zero}
use lib.ListN.{length, get_or}
use lib.Ieee.{Float, nan}
use Rattle.radius_range.proofs.lanes_of.Goals as goal

-- each item of the list is this float
abbrev Each : Float → List Float → Type 0
Each r [] = Unit {0}
Each r (x ∷ xs) = (x ≡ r) × Each r xs

each_at : (r : Float) (xs : List Float) → Each r xs → (i : ℕ) → i < length xs → get_or xs i nan ≡ r
each_at r [] e i h = absurd (not-suc-le-zero h)
each_at r (x ∷ xs) e zero h = e.0
each_at r (x ∷ xs) e (suc i) h = each_at r xs e.1 i (le_of_suc-le-suc h)

pub returns : goal.returns
returns c = let r = c.args.radius in
    let lanes : List Float = r ∷ r ∷ r ∷ r ∷ r ∷ r ∷ r ∷ r ∷ r ∷ r ∷ r ∷ r ∷ r ∷ r ∷ r ∷ r ∷ [] in
    let each : Each r lanes = (refl, (refl, (refl, (refl, (refl, (refl, (refl, (refl, (refl, (refl, (refl, (refl, (refl, (refl, (refl, (refl, tt)))))))))))))))) in
    record { long = refl; same = each_at r lanes each }
