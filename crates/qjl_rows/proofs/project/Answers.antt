-- `qjl_rows::project` meets its contract: each return is one case of the answer's laws, and the values are those of `row_sums`. Assumes nothing.
use Prim.Native.Nat.{ℕ}
use mathlib.Core.Path.{sym, ap, ◌∙◌}
use lib.ListN.{length}
use Rattle.error.proofs.Answers.{both-refused, both-value}
use Rattle.rounding.specs.Rows.{projected}
use Rattle.qjl_rows.proofs.Answers.{project-query, project-matrix, project-value}
use Rattle.error.proofs.Clauses.{said_left}
use Rattle.qjl_rows.proofs.project.Goals as goal

pub returns-then-query-dim : goal.returns-then-query-dim
returns-then-query-dim c = said_left (both-refused _ _ (project-query _ _ _ _ c.if-query-dim.true))

pub returns-then-not-is_product : goal.returns-then-not-is_product
returns-then-not-is_product c = said_left (both-refused _ _ (project-matrix _ _ _ _ c.if-query-dim.false (sym c.is_product.ensures ∙ c.if-not-is_product.true)))

pub returns : goal.returns
returns c = said_left (let long = c.if-query-dim.false in
    let whole = sym c.is_product.ensures ∙ c.if-not-is_product.false in
    let a = c.args in
    let sums = c.row_sums.ensures ∙ ap (λ (n : ℕ). projected n (length a.out.now) a.matrix.now a.query.now) long in
    both-value _ _ _ (project-value _ _ _ _ long whole) sums)
