-- `capi::bits::foldrima_packed_len` meets its contract. Assumes nothing.
use Rattle.capi_answers.proofs.Tell.{told-as, left_as}
use Rattle.capi.proofs.bits.foldrima_packed_len.Goals as goal

pub returns : goal.returns
returns c = record { answer = told-as c.tell_value.ensures.answer c.packed_len.ensures; left = left_as c.args.value.now c.tell_value.ensures.left c.packed_len.ensures }
