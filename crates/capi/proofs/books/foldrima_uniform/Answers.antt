-- `capi::books::foldrima_uniform` meets its contract. Assumes nothing.
use Rattle.capi_answers.proofs.Tell.{told-as}
use Rattle.capi.proofs.books.foldrima_uniform.Goals as goal

pub returns : goal.returns
returns c = told-as c.tell.ensures c.uniform.ensures
