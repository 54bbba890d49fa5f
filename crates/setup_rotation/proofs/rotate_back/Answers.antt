-- `setup_rotation::rotate_back` meets its contract, rotation by rotation. Assumes nothing.
use mathlib.Core.Path.{ap, ◌∙◌}
use mathlib.Core.List.{List}
use lib.ListN.{length}
use lib.Ieee.{Float}
use Rattle.error.specs.Answer.{Answer, done, after}
use Rattle.setup_rotation.proofs.Rotations.{rotate_back-at}
use Rattle.setup_rotation.proofs.rotate_back.Goals as goal

pub returns-in-FastHadamard : goal.returns-in-FastHadamard
returns-in-FastHadamard c = let a = c.args in
    let e = rotate_back-at a.setup a.entries.now a.input.now (length a.output.now) c.in-FastHadamard.is in
    record { said = c.apply_inverse.ensures.said ∙ ap done e; left = c.apply_inverse.ensures.left ∙ ap (λ (x : Answer (List Float)). after x a.output.now) e }

pub returns-in-Stored : goal.returns-in-Stored
returns-in-Stored c = let a = c.args in
    let e = rotate_back-at a.setup a.entries.now a.input.now (length a.output.now) c.in-Stored.is in
    record { said = c.apply_inverse-in-Stored.ensures.said ∙ ap done e; left = c.apply_inverse-in-Stored.ensures.left ∙ ap (λ (x : Answer (List Float)). after x a.output.now) e }
