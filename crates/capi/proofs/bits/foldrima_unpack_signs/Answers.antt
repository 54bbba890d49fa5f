-- `capi::bits::foldrima_unpack_signs` meets its contract. Assumes nothing.
use Rattle.capi_answers.proofs.Tell.{told-as}
use Rattle.capi.proofs.bits.foldrima_unpack_signs.Goals as goal

pub returns : goal.returns
returns c = record { answer = told-as c.tell.ensures c.unpack_signs.ensures.said; left = c.unpack_signs.ensures.left }
