-- `capi::bits::foldrima_validate_padding_zero` meets its contract. Assumes nothing.
use Rattle.capi_answers.proofs.Tell.{told-as}
use Rattle.capi.proofs.bits.foldrima_validate_padding_zero.Goals as goal

pub returns : goal.returns
returns c = told-as c.tell.ensures c.validate_padding_zero.ensures
