-- `capi::bits::foldrima_pack_indices` meets its contract. Assumes nothing.
use Rattle.capi_answers.proofs.Tell.{told-as}
use Rattle.capi.proofs.bits.foldrima_pack_indices.Goals as goal

pub returns : goal.returns
returns c = record { answer = told-as c.tell.ensures c.pack_indices.ensures.said; left = c.pack_indices.ensures.left }
