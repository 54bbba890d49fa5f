-- `capi::turns::foldrima_check_setup` meets its contract. Assumes nothing.
use Rattle.error.specs.Answer.{first, accepted}
use Rattle.setup.specs.Lent.{lent}
use Rattle.setup.specs.declared.Setup.{Setup}
use Rattle.setup_tables.specs.Checks.{setup_checks}
use mathlib.Core.Path.{ap, ◌∙◌}
use Rattle.capi_answers.proofs.Tell.{told-as}
use Rattle.capi.proofs.turns.foldrima_check_setup.Goals as goal

pub returns : goal.returns
returns c = let a = c.args in
    let e = c.check_setup.ensures ∙ ap (λ (s : Setup). first (setup_checks s (lent a.rotation.now a.directions.now a.matrix.now)) accepted) c.setup-scalars.ensures in
    told-as c.tell.ensures e
