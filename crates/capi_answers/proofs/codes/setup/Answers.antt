-- `capi_answers::codes::setup` meets its contract. Assumes nothing.
use Rattle.capi_answers.proofs.codes.setup.Goals as goal

pub returns : goal.returns
returns c = rw (c.mode-chosen.ensures, c.rotation_kind-turned.ensures)
