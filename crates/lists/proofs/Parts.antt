-- The first m entries of an array, lent for writing and then for reading: how many there are, that the array has room for them, and what is read
-- from them afterwards. Assumes nothing.
use Prim.Native.Nat.{ℕ, ◌-◌, ◌≤◌}
use mathlib.Core.Path.{◌≡◌, ap, ◌∙◌}
use mathlib.Core.List.{List, ◌++◌}
use native.Mathlib.Nat.{sub-zero}
use native.Mathlib.Omega.{arith}
use lib.ListN.{length, take, length-append}
use lib.Seq.{take_at, length-take-le}

module _ {A : Type 0} (m : ℕ) (xs : List A) (h : m ≤ length xs) where
  -- how long the part is
  pub part-long : length (take (m - 0) xs) ≡ m
  part-long = ap (λ (k : ℕ). length (take k xs)) (sub-zero m) ∙ length-take-le m xs h

  -- `ys` is what the part holds after the call that it was lent to, and `zs` is the rest of the array
  module _ (ys zs : List A) (l : length ys ≡ length (take (m - 0) xs)) where
    -- what was written to the part is read from it
    pub part-read : take (m - 0) (ys ++ zs) ≡ ys
    part-read = ap (λ (k : ℕ). take k (ys ++ zs)) (sub-zero m) ∙ take_at ys zs m (l ∙ part-long)

    -- the part that is read is as long as the one that was written
    pub part-again : length (take (m - 0) (ys ++ zs)) ≡ m
    part-again = ap length part-read ∙ l ∙ part-long

    -- the array is still long enough
    pub part-enough : m ≤ length (ys ++ zs)
    part-enough = omega (arith, length-append ys zs, l, part-long)
