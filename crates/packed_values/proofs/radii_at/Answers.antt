-- `packed_values::radii_at` meets its contract: 13 for places out of order, or the codec's answer for what lies between them. Assumes nothing.
use Prim.Native.Nat.{ℕ, ◌/◌}
use mathlib.Core.Path.{sym, ap, ◌∙◌}
use mathlib.Core.List.{List}
use lib.ListN.{length}
use Rattle.error.proofs.Answers.{both-refused}
use Rattle.radius.specs.Codec.{restore_of}
use Rattle.packed_values.specs.AtHeader.{radii_at_of}
use Rattle.packed_values.proofs.Values.{places-refused, places-passed, both-as}
use Rattle.error.proofs.Clauses.{said_left}
use Rattle.packed_values.proofs.radii_at.Goals as goal

pub returns-then-outside_places : goal.returns-then-outside_places
unfolding radii_at_of
returns-then-outside_places c = said_left (let a = c.args in both-refused _ _ (places-refused a.bytes.now a.header.radii_start a.header.indices_start _ (sym c.outside_places.ensures ∙ c.if-outside_places.true)))

pub returns : goal.returns
unfolding radii_at_of
returns c = said_left (let a = c.args in
    let cut = ap (λ (l : List ℕ). restore_of a.header.profile (a.header.dim / 2) a.header.range l (length a.out.now)) c.cut-payload.ensures.held in
    both-as a.out.now (cut ∙ sym (places-passed a.bytes.now a.header.radii_start a.header.indices_start _ (sym c.outside_places.ensures ∙ c.if-outside_places.false))) (c.restore.ensures.said, c.restore.ensures.left))
