-- `qjl_score::signed_score` meets its contract: each return is one case of the answer's laws. Assumes nothing.
use mathlib.Core.Path.{refl, sym, ap, ◌∙◌}
use Rattle.error.specs.Checks.{finite_score_of}
use Rattle.qjl.proofs.Answers.{signed-entry, signed-length, signed-sign, signed-norm, signed-judged}
use Rattle.error.proofs.Places.{is_found, is_none}
use Rattle.qjl_score.proofs.signed_score.Goals as goal

pub returns-in-Some : goal.returns-in-Some
returns-in-Some c = sym (signed-entry _ _ _ _ (is_found c.first_non_finite.ensures c.in-Some.is).0 (is_found c.first_non_finite.ensures c.in-Some.is).1)

pub returns-then-sketch-projections : goal.returns-then-sketch-projections
returns-then-sketch-projections c = sym (signed-length _ _ _ _ refl (is_none c.first_non_finite.ensures c.in_default.is) c.if-sketch-projections.true)

pub returns-in-Some-first_bad_sketch_sign : goal.returns-in-Some-first_bad_sketch_sign
returns-in-Some-first_bad_sketch_sign c = sym (signed-sign _ _ _ _ refl (is_none c.first_non_finite.ensures c.in_default.is) c.if-sketch-projections.false (is_found c.first_bad_sketch_sign.ensures c.in-Some-first_bad_sketch_sign.is).0 (is_found c.first_bad_sketch_sign.ensures c.in-Some-first_bad_sketch_sign.is).1)

pub returns-then-is_bad_radius : goal.returns-then-is_bad_radius
returns-then-is_bad_radius c = sym
    (signed-norm _ _ _ _ refl (is_none c.first_non_finite.ensures c.in_default.is) c.if-sketch-projections.false refl (is_none c.first_bad_sketch_sign.ensures c.in_default-first_bad_sketch_sign.is)
    (sym c.is_bad_radius.ensures ∙ c.if-is_bad_radius.true))

pub returns : goal.returns
returns c = c.finite_score.ensures
    ∙ ap finite_score_of c.residual.ensures
    ∙ sym
    (signed-judged _ _ _ _ refl (is_none c.first_non_finite.ensures c.in_default.is) c.if-sketch-projections.false refl (is_none c.first_bad_sketch_sign.ensures c.in_default-first_bad_sketch_sign.is)
    (sym c.is_bad_radius.ensures ∙ c.if-is_bad_radius.false))
