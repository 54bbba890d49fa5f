-- `qjl_sketch::judged_signs_into` meets its contract: where the values are not judged, or none offends, the signs are those of `signs_into`. Assumes nothing.
use mathlib.Core.Path.{sym, ◌∙◌}
use mathlib.Core.Bool.{true≢false}
use borrow.Author.Tests.{not-true}
use Rattle.qjl_sketch.proofs.AtOnce.{judged-left, signs-made}
use Rattle.qjl_sketch.proofs.judged_signs_into.Goals.{else-judged, then-judged+else-not-all_finite}
use Rattle.qjl_sketch.proofs.judged_signs_into.Goals as goal

pub returns-then-not-all_finite : goal.returns-then-not-all_finite
returns-then-not-all_finite c = judged-left _ _ _ c.if-judged.true

pub returns : goal.returns
returns c = signs-made _ _ _ _
    (elim c.if-judged.branch [ then-judged+else-not-all_finite w ↦ λ is. not-true _ (sym w.all_finite.ensures ∙ w.if-not-all_finite.false) | else-judged w ↦ λ is. absurd (true≢false (sym is ∙ w.if-judged.false)) ])
    c.signs_into.ensures
