-- `capi::records::foldrima_write_record` meets its contract. Assumes nothing.
use mathlib.Core.Path.{ap, ◌∙◌}
use mathlib.Core.List.{List}
use Prim.Native.Nat.{ℕ}
use lib.ListN.{length}
use Rattle.error.specs.Answer.{Answer, done, after}
use Rattle.packed.specs.declared.Code.{Code}
use Rattle.packed_writing.specs.Writing.{write_record_of}
use Rattle.capi_answers.proofs.Tell.{told-as}
use Rattle.capi.proofs.records.foldrima_write_record.Goals as goal

pub returns : goal.returns
returns c = let a = c.args in
    let w = c.write_record in
    let written : Code → Answer (List ℕ) = λ x. write_record_of x a.radii.now a.indices.now a.signs.now (length a.out.now) in
    let e = ap written c.code-code.ensures in
    record { answer = told-as c.tell.ensures (w.ensures.said ∙ ap done e); left = w.ensures.left ∙ ap (λ (x : Answer (List ℕ)). after x a.out.now) e }
