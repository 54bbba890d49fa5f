-- `capi::records::foldrima_read_indices` meets its contract. Assumes nothing.
use Rattle.capi_answers.proofs.Tell.{told-as}
use Rattle.capi.proofs.records.foldrima_read_indices.Goals as goal

pub returns : goal.returns
returns c = record { answer = told-as c.tell_unless_withdrawn.ensures c.read_indices.ensures.said; left = c.read_indices.ensures.left }
