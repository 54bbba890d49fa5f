-- `capi::bits::foldrima_pack_signs` meets its contract. Assumes nothing.
use Rattle.capi_answers.proofs.Tell.{told-as}
use Rattle.capi.proofs.bits.foldrima_pack_signs.Goals as goal

pub returns : goal.returns
returns c = record { answer = told-as c.tell.ensures c.pack_signs.ensures.said; left = c.pack_signs.ensures.left }
