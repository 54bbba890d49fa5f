-- `rotation_stored::hand_over` meets its contract: the values are copied where none offends. Assumes nothing.
use mathlib.Core.Path.{sym, ◌∙◌}
use borrow.Author.Tests.{not-true}
use Rattle.float.proofs.Copying.{copy_into-same}
use Rattle.rotation_stored.proofs.AtOnce.{judged-left, judged-made}
use Rattle.rotation_stored.proofs.hand_over.Goals as goal

pub returns-then-not-all_finite : goal.returns-then-not-all_finite
returns-then-not-all_finite c = judged-left _ _

pub returns : goal.returns
returns c = judged-made _ _ _ (not-true _ (sym c.all_finite.ensures ∙ c.if-not-all_finite.false)) (c.copy_into.ensures ∙ copy_into-same c.args.values.now c.args.output.now (sym c.requires))
