-- `setup_rotation::rotate` meets its contract, rotation by rotation. Assumes nothing.
use mathlib.Core.Path.{ap, ◌∙◌}
use mathlib.Core.List.{List}
use lib.ListN.{length}
use lib.Ieee.{Float}
use Rattle.error.specs.Answer.{Answer, done, after}
use Rattle.setup_rotation.proofs.Rotations.{rotate-at}
use Rattle.setup_rotation.proofs.rotate.Goals as goal

pub returns-in-FastHadamard : goal.returns-in-FastHadamard
returns-in-FastHadamard c = let a = c.args in
    let e = rotate-at a.setup a.entries.now a.input.now (length a.output.now) c.in-FastHadamard.is in
    record { said = c.apply.ensures.said ∙ ap done e; left = c.apply.ensures.left ∙ ap (λ (x : Answer (List Float)). after x a.output.now) e }

pub returns-in-Stored : goal.returns-in-Stored
returns-in-Stored c = let a = c.args in
    let e = rotate-at a.setup a.entries.now a.input.now (length a.output.now) c.in-Stored.is in
    record { said = c.apply-in-Stored.ensures.said ∙ ap done e; left = c.apply-in-Stored.ensures.left ∙ ap (λ (x : Answer (List Float)). after x a.output.now) e }
