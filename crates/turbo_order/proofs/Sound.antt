-- When an account of a rotation is sound for a dimension: its rounded entries lie as near to its exact ones as the bound counts on. Assumes nothing.
use Prim.Native.Nat.{ℕ, ◌+◌, ◌*◌, ◌^◌, ◌≤◌, ◌<◌}
use lib.ListN.{replicate}
use Rattle.float.specs.Units.{unit}
use Rattle.rounding.proofs.Close.{AllClose}
use Rattle.turbo_order.specs.Account.{Account}

-- Of n entries each came about by so many roundings, with an absolute error of at most the factor times 2 ^ -149. Three roundings more for a pair's term,
-- n / 2 for the sum over the pairs and one for the sum with the residual stay within the count and 16. The count is at least n, and small enough for the
-- calculus of roundings; the factor is at least 1.
pub record Sound (n : ℕ) (a : Account) : Type 0 where
  pub roundings : ℕ
  pub close : AllClose unit roundings (replicate n (a.factor * unit)) a.sizes a.entries a.exact
  pub counted : 2 * (roundings + 4) + n ≤ 2 * (a.count + 16)
  pub least : n ≤ a.count
  pub most : a.count ≤ 2 ^ 22
  pub some : 0 < a.factor
