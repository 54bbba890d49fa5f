-- A prepared query stands for the query that it was prepared from: wherever `prepare_query` answers the two lists that are lent, every record has the answer
-- that it has by that query, a value, a refusal or withdrawn, and demand 3 holds of those answers. Assumes nothing.
use Rattle.std.specs.Prelude.{ℕ, ◌≡◌, List, Float}
use Rattle.error.specs.Answer.{value}
use Rattle.float.specs.Bytes.{AreFloats}
use Rattle.setup.specs.Lent.{Lent, lent}
use Rattle.setup.specs.declared.Setup.{Setup}
use Rattle.turbo_query.specs.Query.{prepare_rotated_of, prepare_projected_of}
use Rattle.turbo_phased.specs.Estimates.{inner_product_estimate_of, inner_product_estimate_prepared_of}
use Rattle.turbo.specs.Order.{Demand}

-- The two lists are what `prepare_query` answers for the query, into outputs of some two lengths.
pub record IsPrepared (s : Setup) (l : Lent) (query rotated projected : List Float) : Type 0 where
  pub room : ℕ
  pub space : ℕ
  pub rotated_is : prepare_rotated_of s l query room space ≡ value rotated
  pub projected_is : prepare_projected_of s l query room space ≡ value projected

-- What the rotation is lent, the matrix and the query of the preparation are not lent to a call that scores by a prepared query. So it speaks of all of them, with the
-- directions that are lent to it; that they are f32 is asked where demand 3 needs it. Demand 3 is stated of the answers by the query, which `same` says are
-- the answers by the prepared one.
pub record Prepared (s : Setup) (directions rotated projected : List Float) : Type 0 where
  pub same : (rotation matrix query : List Float) → IsPrepared s (lent rotation directions matrix) query rotated projected
      → (bytes : List ℕ) → inner_product_estimate_prepared_of s directions rotated projected bytes ≡ inner_product_estimate_of s (lent rotation directions matrix) query bytes
  pub demanded : (rotation matrix query : List Float) → IsPrepared s (lent rotation directions matrix) query rotated projected
      → AreFloats rotation → AreFloats matrix → AreFloats query → Demand s (lent rotation directions matrix) query
