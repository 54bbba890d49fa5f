-- `rotation::hadamard` is the transform and then the scale, in place. Assumes nothing.
use mathlib.Core.Path.{ap₂, ◌∙◌}
use Rattle.rotation_stages.proofs.Transformed.{transformed-all}
use Rattle.rotation.specs.Rotation.{scaled, hadamard_of}
use Rattle.rotation.proofs.Accepted.{power-steps}
use Rattle.rotation.proofs.hadamard.Goals as goal

pub returns : goal.returns
unfolding hadamard_of
returns c = let a = c.args in
    let pre = c.requires in
    let long = pre.whole ∙ power-steps a.dim (record { bit = pre.bit; small = pre.small }) in
    c.scale_by.ensures ∙ ap₂ scaled c.inverse_root.ensures (c.transform.ensures ∙ transformed-all _ _ long)
