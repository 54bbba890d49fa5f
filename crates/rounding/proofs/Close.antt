-- The error calculus: how a float v that came about by k roundings lies to the number x that exact arithmetic gives in its place, and the same of every entry
-- of a list. x is counted in a unit of which s make 2 ^ -149; a bounds the size of x, as the sum of the absolute values that went into it; r is the absolute
-- error, and as it stands inside the relative term too, a rounded sum just adds the r's and the a's, with no power of 1 + 2 ^ -24. Assumes nothing.
use Prim.Native.Nat.{ℕ, ◌+◌, ◌*◌, ◌^◌}
use mathlib.Core.List.{List, [], ◌∷◌}
use lib.Dec.{T}
use lib.Ieee.{Float, binary32, fits}
use lib.Ieee.Scale.{finite}
use Rattle.rounding.specs.Signed.{Diff, Near, ◌⊙◌}
use Rattle.rounding.proofs.Signed.{Abs}
use Rattle.rounding.specs.Value.{val}

-- |x| ≤ a, and 2 ^ 23 * |s * v - x| ≤ k * (a + r) + 2 ^ 23 * r
pub record Bound (s k r a : ℕ) (v x : Diff) : Type 0 where
  pub sized : Abs x a
  pub near : Near (2 ^ 23 ⊙ (s ⊙ v)) (2 ^ 23 ⊙ x) (k * (a + r) + 2 ^ 23 * r)

-- v is an f32, and it keeps the bound where it is finite: of a NaN or an infinity nothing is said
pub record Close (s k r a : ℕ) (v : Float) (x : Diff) : Type 0 where
  pub fit : T (fits binary32 v)
  pub bound : T (finite v) → Bound s k r a (val v) x

-- ---- what is said of each entry of a list
-- it is an f32
abbrev pub AllFit : List Float → Type 0
AllFit [] = Unit {0}
AllFit (v ∷ vs) = T (fits binary32 v) × AllFit vs

-- it is close to its exact number, with its own r and its own a
pub data AllClose (s k : ℕ) : List ℕ → List ℕ → List Float → List Diff → Type 0 where
  none : AllClose s k [] [] [] []
  next : {r a : ℕ} {v : Float} {x : Diff} {rs bs : List ℕ} {vs : List Float} {xs : List Diff} → Close s k r a v x → AllClose s k rs bs vs xs
      → AllClose s k (r ∷ rs) (a ∷ bs) (v ∷ vs) (x ∷ xs)
