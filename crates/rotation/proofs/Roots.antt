-- One over the root of each power of two up to 4,096 is computed, and the table of the code holds these. Assumes nothing.
use Prim.Native.Nat.{ℕ, ◌^◌, ◌<◌}
use mathlib.Core.Path.{◌≡◌, refl, ap, ◌∙◌}
use mathlib.Core.List.{List, [], ◌∷◌, map}
use native.Mathlib.Nat.{zero-add}
use lib.ListN.{get_or}
use lib.Ieee.{Float, nan, binary32, div, of_int, of_bits}
use Rattle.float.specs.SquareRoot.{square_root}
use Rattle.rounding.specs.Butterfly.{from}
use Rattle.rounding.proofs.Butterflies.{tabled-at}
use Rattle.rotation.specs.Rotation.{inverse_root}

-- the table
abbrev roots : List Float
roots =
    of_bits binary32 0x3F800000
    ∷ of_bits binary32 0x3F3504F3
    ∷ of_bits binary32 0x3F000000
    ∷ of_bits binary32 0x3EB504F3
    ∷ of_bits binary32 0x3E800000
    ∷ of_bits binary32 0x3E3504F3
    ∷ of_bits binary32 0x3E000000
    ∷ of_bits binary32 0x3DB504F3
    ∷ of_bits binary32 0x3D800000
    ∷ of_bits binary32 0x3D3504F3
    ∷ of_bits binary32 0x3D000000
    ∷ of_bits binary32 0x3CB504F3
    ∷ of_bits binary32 0x3C800000
    ∷ []

roots-are : roots ≡ map (λ k. inverse_root (2 ^ k)) (from 0 13)
unfolding inverse_root square_root div of_int of_bits from
roots-are = refl

pub roots-at : (k : ℕ) → k < 13 → get_or roots k nan ≡ inverse_root (2 ^ k)
roots-at k h = ap (λ (l : List Float). get_or l k nan) roots-are ∙ tabled-at (λ (j : ℕ). inverse_root (2 ^ j)) 0 13 nan k h ∙ ap (λ (j : ℕ). inverse_root (2 ^ j)) (zero-add k)
