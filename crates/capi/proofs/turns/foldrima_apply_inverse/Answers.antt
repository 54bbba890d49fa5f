-- `capi::turns::foldrima_apply_inverse` meets its contract. Assumes nothing.
use Rattle.capi_answers.proofs.Tell.{told-as}
use Rattle.capi.proofs.turns.foldrima_apply_inverse.Goals as goal

pub returns : goal.returns
returns c = record { answer = told-as c.tell.ensures c.apply_inverse.ensures.said; left = c.apply_inverse.ensures.left }
