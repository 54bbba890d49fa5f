-- `turbo::l2_distance_estimate` meets its contract: a refused score is refused, a withdrawn one is withdrawn, and a score gives the distance by the record's radii.
-- Assumes nothing.
use mathlib.Core.Path.{◌≡◌, sym, ap, ◌∙◌}
use native.Mathlib.Omega.{arith}
use Rattle.error.specs.Answer.{value}
use Rattle.error.specs.Outcomes.{says_score}
use Rattle.setup.specs.Lent.{lent}
use Rattle.packed.proofs.Payloads.{length-radii_of}
use Rattle.turbo_opening.proofs.Answers.{opened-read}
use Rattle.turbo_phased.specs.Estimates.{inner_product_estimate_of}
use Rattle.turbo.proofs.Answers.{distance-refused, distance-withdrawn, distance-scored}
use Rattle.turbo.proofs.Demand.{scored-open, scored-pairs}
use Rattle.turbo.proofs.l2_distance_estimate.Goals.{In-Score}
use Rattle.turbo.proofs.l2_distance_estimate.Goals as goal

-- a score
scored : (c : goal.In-Score) → let a = c.args in inner_product_estimate_of a.setup (lent a.rotation.now a.directions.now a.matrix.now) a.query.now a.bytes.now ≡ value c.in-Score.score
scored c = sym c.inner_product_estimate.ensures.said ∙ ap says_score c.in-Score.is

pub distance_by-requires : goal.distance_by-requires
distance_by-requires c = let a = c.args in
    let l = (lent a.rotation.now a.directions.now a.matrix.now) in (
      opened-read a.setup a.bytes.now (scored-open a.setup l a.query.now a.bytes.now (scored (goal.at.distance_by-requires c).In-Score)),
      omega (arith, scored-pairs a.setup l a.query.now a.bytes.now (scored (goal.at.distance_by-requires c).In-Score), length-radii_of a.bytes.now),
    )

pub returns-in-Score : goal.returns-in-Score
returns-in-Score c = let a = c.args in
    c.distance_by.ensures ∙ sym (distance-scored a.setup (lent a.rotation.now a.directions.now a.matrix.now) a.query.now a.bytes.now (scored (goal.at.returns-in-Score c).In-Score))

pub returns-in-Refused : goal.returns-in-Refused
returns-in-Refused c = let a = c.args in
    sym (distance-refused a.setup (lent a.rotation.now a.directions.now a.matrix.now) a.query.now a.bytes.now (sym c.inner_product_estimate.ensures.said ∙ ap says_score c.in-Refused.is))

pub returns-in-Withdrawn : goal.returns-in-Withdrawn
returns-in-Withdrawn c = let a = c.args in
    sym (distance-withdrawn a.setup (lent a.rotation.now a.directions.now a.matrix.now) a.query.now a.bytes.now (sym c.inner_product_estimate.ensures.said ∙ ap says_score c.in-Withdrawn.is))
