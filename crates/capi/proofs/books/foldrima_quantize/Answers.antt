-- `capi::books::foldrima_quantize` meets its contract. Assumes nothing.
use Rattle.capi_answers.proofs.Tell.{told-as, left_as}
use Rattle.capi.proofs.books.foldrima_quantize.Goals as goal

pub returns : goal.returns
returns c = record { answer = told-as c.tell_value.ensures.answer c.quantize.ensures; left = left_as c.args.value.now c.tell_value.ensures.left c.quantize.ensures }
