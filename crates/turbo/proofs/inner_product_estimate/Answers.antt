-- `turbo::inner_product_estimate` meets its contract: the phase is left out, and demand 3 asks only that the lent floats are f32. Assumes nothing.
use mathlib.Core.Path.{◌∙◌, ap}
use lib.Ieee.{nan}
use Rattle.rounding.proofs.Folds.{all-fit-from}
use Rattle.setup.specs.Lent.{lent}
use Rattle.turbo_phased.specs.Estimates.{joined}
use Rattle.turbo.proofs.Answers.{phased-joined}
use Rattle.turbo.proofs.Demand.{demand}
use Rattle.turbo.proofs.inner_product_estimate.Goals as goal

pub returns : goal.returns
returns c = let a = c.args in
    let l = lent a.rotation.now a.directions.now a.matrix.now in
    record {
      said = c.without_phase.ensures ∙ ap joined c.inner_product_estimate_phased.ensures ∙ phased-joined a.setup l a.query.now a.bytes.now;
      ordered =
          demand a.setup l a.query.now
          (all-fit-from a.rotation.now nan (λ j h. c.type_inv.rotation j))
          (all-fit-from a.directions.now nan (λ j h. c.type_inv.directions j))
          (all-fit-from a.matrix.now nan (λ j h. c.type_inv.matrix j))
          (all-fit-from a.query.now nan (λ j h. c.type_inv.query j));
    }
