-- `qjl_residual::sign_sum` meets its contract: the loop keeps the sum as the running sum and what is left of both lists. Assumes nothing.
use Rattle.std.proofs.Common.{◌≡◌, rules, ap, ◌∙◌}
use Rattle.std.proofs.lemmas.Slice.Zip.{Zip-more, either_empty_from_Zip}
use lib.IntN.{ℤ}
use lib.Ieee.{binary32, mul, of_int, of_bits}
use mir.Syntax.{w8}
use mir.Val.{of_z, to_z}
use Rattle.qjl_residual.specs.Residual.{sign_sum_of}
use Rattle.qjl_residual.proofs.SignSums.{sign-more, sign-end}
use Rattle.qjl_residual.proofs.sign_sum.Goals as goal

pub loop-sign-init : goal.loop-sign-init
unfolding sign_sum_of of_bits
loop-sign-init c = let zipped = c.zip-sign-items.ensures in simp (c.into_iter-sign-iterator.ensures.into_iter_gives, zipped.first, zipped.second.0, c.iter.ensures.rest)

pub loop-sign-preserved : goal.loop-sign-preserved
loop-sign-preserved c = let sign = c.in-Some.field-0-0.now in
    let value = c.in-Some.field-0-1.now in
    let pair = Zip-more c.loop-sign.sign-iterator c.next.new.self _ _ c.in-Some.is c.next.ensures.steps in
    let back : to_z w8 (of_z w8 sign) ≡ sign = search rules in
    sign-more _ _ _ _ pair.0 pair.1 (c.times-sum.ensures ∙ ap (λ (z : ℤ). mul binary32 (of_int binary32 z) value) back) c.loop-sign.invariant

pub returns : goal.returns
returns c = sign-end _ (either_empty_from_Zip c.loop-sign.sign-iterator c.next.new.self _ c.in-None.is c.next.ensures.steps) c.loop-sign.invariant
