-- The answer of a projection, case by case, from what its checks find. Assumes nothing.
use Prim.Native.Nat.{ℕ, ◌*◌}
use mathlib.Core.Path.{◌≡◌, sym, ap, ◌∙◌}
use mathlib.Core.Bool.{true, false}
use mathlib.Core.List.{List}
use borrow.Author.Tests.{eq-eqb, ne_eqb}
use lib.Dec.{eqb}
use lib.ListN.{length}
use lib.Ieee.{Float}
use Rattle.error.specs.Answer.{value, refused, after}
use Rattle.error.proofs.Answers.{after-value}
use Rattle.rounding.specs.Rows.{projected}
use Rattle.qjl_rows.specs.Projection.{project_of}
use Rattle.qjl_rows.specs.Inner.{Rowed}

module _ (n : ℕ) (matrix query : List Float) (room : ℕ) where
  pub project-query : (length query ≡ n → ⊥) → project_of n matrix query room ≡ refused 5 (length query)
  unfolding project_of
  project-query h = simp (ne_eqb (length query) n h)

  pub project-matrix : length query ≡ n → eqb (length matrix) (room * n) ≡ false → project_of n matrix query room ≡ refused 5 (length matrix)
  unfolding project_of
  project-matrix h e = simp (eq-eqb (length query) n h, e)

  pub project-value : length query ≡ n → eqb (length matrix) (room * n) ≡ true → project_of n matrix query room ≡ value (projected n room matrix query)
  unfolding project_of
  project-value h e = simp (eq-eqb (length query) n h, e)

  -- where the query has a row's length, and the matrix as many rows as the output has entries, it is the projections
  pub project-ready : {m : ℕ} → room ≡ m → Rowed n matrix query m → project_of n matrix query room ≡ value (projected n room matrix query)
  project-ready e r = project-value r.query_long (eq-eqb (length matrix) (room * n) (r.matrix_long ∙ ap (λ (k : ℕ). k * n) (sym e)))

-- ---- projecting into room for m values: `old` is what it held before, and `new` what it holds afterwards

module _ (n m : ℕ) (matrix query old new : List Float) (long : length old ≡ m) (r : Rowed n matrix query m) where
  pub project-part : new ≡ after (project_of n matrix query (length old)) old → new ≡ projected n m matrix query
  project-part e = e ∙ after-value _ old (project-ready n matrix query _ long r) ∙ ap (λ (k : ℕ). projected n k matrix query) long
