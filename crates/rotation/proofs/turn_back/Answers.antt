-- `rotation::turn_back` is the normalized transform and then the signs, in place. Assumes nothing.
use mathlib.Core.Path.{ap, ◌∙◌}
use Rattle.rounding.specs.Sums.{products}
use Rattle.rotation.specs.Rotation.{unrotated}
use Rattle.rotation.proofs.turn_back.Goals as goal

pub returns : goal.returns
unfolding unrotated
returns c = let a = c.args in
    c.flip.ensures ∙ ap (λ ys. products ys a.signs.now) c.hadamard.ensures
