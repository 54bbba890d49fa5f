-- `capi::books::foldrima_dequantize_midpoint` meets its contract. Assumes nothing.
use Rattle.capi_answers.proofs.Tell.{told-as, left_as}
use Rattle.capi.proofs.books.foldrima_dequantize_midpoint.Goals as goal

pub returns : goal.returns
returns c = record { answer = told-as c.tell_value.ensures.answer c.dequantize_midpoint.ensures; left = left_as c.args.value.now c.tell_value.ensures.left c.dequantize_midpoint.ensures }
