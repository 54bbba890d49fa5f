-- `capi::records::foldrima_record_size` meets its contract. Assumes nothing.
use mathlib.Core.Path.{ap, ◌∙◌}
use lib.Ieee.{of_bits}
use Rattle.packed_size.specs.Size.{record_size_of}
use Rattle.capi_answers.proofs.Tell.{told-as, left_as}
use Rattle.capi.proofs.records.foldrima_record_size.Goals as goal

pub returns : goal.returns
unfolding of_bits
returns c = let a = c.args in
    let e = c.record_size.ensures ∙ ap record_size_of c.code-code.ensures in
    record { answer = told-as c.tell_value.ensures.answer e; left = left_as a.value.now c.tell_value.ensures.left e }
