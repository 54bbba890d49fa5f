-- `turbo::distance_by` meets its contract: the radii are read into room of their number. Assumes nothing.
use mathlib.Core.Path.{ap, ◌∙◌}
use mathlib.Core.List.{List}
use native.Mathlib.Omega.{arith}
use lib.Ieee.{Float}
use Rattle.lists.proofs.Parts.{part-long}
use Rattle.error.proofs.Answers.{after-value}
use Rattle.turbo_distance.specs.Distance.{distance_from_score_of}
use Rattle.turbo.proofs.Answers.{pairs-most, radii_read}
use Rattle.turbo.proofs.distance_by.Goals as goal

pub slice_bounds-radii-end : goal.slice_bounds-radii-end
slice_bounds-radii-end c = omega (arith, pairs-most c.args.bytes.now c.requires.0, c.requires.1)

pub returns : goal.returns
returns c = let a = c.args in
    let most = pairs-most a.bytes.now c.requires.0 in
    c.distance_from_score.ensures
    ∙ ap (λ (vs : List Float). distance_from_score_of a.query.now vs a.score)
    (c.read_radii.ensures.left ∙ after-value _ _ (radii_read a.bytes.now c.requires.0 (part-long _ _ (omega (arith, most, c.requires.1)) ∙ c.requires.1)))
