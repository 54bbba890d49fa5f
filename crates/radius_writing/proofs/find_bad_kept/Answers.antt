-- `radius_writing::find_bad_kept` meets its contract: a search, which asks each radius in turn. Assumes nothing.
use mathlib.Core.Path.{◌≡◌, sym, ◌∙◌}
use mathlib.Core.Bool.{true, false}
use lib.Ieee.{Float}
use native.Mathlib.Numerals.{add-one}
use Rattle.std.proofs.Common.{rules}
use Rattle.std.proofs.lemmas.Iterator.{YieldsList-from_slice, IsFirst-from_position, index_from_first}
use Rattle.error.specs.Answer.{place}
use Rattle.error.proofs.Places.{place-nil, place-bad, place-good}
use Rattle.radius_writing.specs.Inner.{bad_kept}
use Rattle.radius_writing.proofs.find_bad_kept.Goals as goal

pub returns : goal.returns
returns c =
    let bad = bad_kept c.args.range in
    let Yes = λ (x : Float). bad x ≡ true in
    let No = λ (x : Float). bad x ≡ false in
    c.unwrap_or.ensures
    ∙ sym (index_from_first (place bad) Yes No (place-nil bad) (place-bad bad) (λ x xs e. place-good bad x xs e ∙ sym (add-one (place bad xs))) c.args.radii.now _
    (IsFirst-from_position _ _ _ Yes No c.position-found.ensures.ran (YieldsList-from_slice _ cc) (λ x q k. search rules) (λ x q k. search rules)))
