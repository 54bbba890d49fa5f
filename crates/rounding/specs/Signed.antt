-- A whole number with a sign is written as a difference of two naturals, and `Near` and `Under` say how far two of them lie apart. One number has many such pairs:
-- `Same` says that two pairs are the same number. Assumes nothing.
use Rattle.std.specs.Prelude.{◌≡◌, ℕ, ◌+◌, ◌*◌, ◌≤◌, ◌<◌, Bool, true, false}

infixl 65 ◌⊞◌ ◌⊟◌
infixl 70 ◌⊠◌ ◌⊙◌
-- The number is `plus` less `minus`.
pub record Diff : Type 0 where
  pub plus : ℕ
  pub minus : ℕ

abbrev pub nought : Diff
nought = record { plus = 0; minus = 0 }

-- The number has this size, and is negative where the sign is true.
abbrev pub signed : Bool → ℕ → Diff
signed false n = record { plus = n; minus = 0 }
signed true n = record { plus = 0; minus = n }

abbrev pub opposite : Diff → Diff
opposite x = record { plus = x.minus; minus = x.plus }

abbrev pub ◌⊞◌ : Diff → Diff → Diff
x ⊞ y = record { plus = x.plus + y.plus; minus = x.minus + y.minus }

abbrev pub ◌⊟◌ : Diff → Diff → Diff
x ⊟ y = x ⊞ opposite y

abbrev pub ◌⊠◌ : Diff → Diff → Diff
x ⊠ y = record { plus = x.plus * y.plus + x.minus * y.minus; minus = x.plus * y.minus + x.minus * y.plus }

-- This is n times x.
abbrev pub ◌⊙◌ : ℕ → Diff → Diff
n ⊙ x = record { plus = n * x.plus; minus = n * x.minus }

-- This is x, or its opposite where the sign is true: the product with 1 or -1.
abbrev pub turned : Bool → Diff → Diff
turned false x = x
turned true x = opposite x

-- The two numbers lie at most w apart: |x - y| ≤ w.
pub record Near (x y : Diff) (w : ℕ) : Type 0 where
  pub above : x.plus + y.minus ≤ x.minus + y.plus + w
  pub below : x.minus + y.plus ≤ x.plus + y.minus + w

-- The two pairs are one number: x = y.
pub record Same (x y : Diff) : Type 0 where
  pub even : x.plus + y.minus ≡ x.minus + y.plus

-- The number x lies below y by more than w: x + w < y.
pub record Under (w : ℕ) (x y : Diff) : Type 0 where
  pub strict : x.plus + y.minus + w < x.minus + y.plus
