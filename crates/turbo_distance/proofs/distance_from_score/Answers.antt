-- `turbo_distance::distance_from_score` meets its contract: the sum is put together step by step, and judged by the two cases of the test for a NaN.
-- Assumes nothing.
use mathlib.Core.Path.{◌≡◌, sym, ap, ◌∙◌}
use lib.Ieee.{binary32, add, sub, mul, of_bits, is_nan}
use Rattle.error.specs.Checks.{finite_score_of}
use Rattle.turbo_distance.specs.Distance.{distance_sum, cut_at_zero}
use Rattle.turbo_distance.proofs.Norms.{sum-of-norms}
use Rattle.turbo_distance.proofs.Answers.{by-sum-nan, by-sum-number}
use Rattle.turbo_distance.proofs.distance_from_score.Goals.{After-is_nan}
use Rattle.turbo_distance.proofs.distance_from_score.Goals as goal

-- the sum, and what the test says of it
module _ (c : goal.After-is_nan) where
  summed : let a = c.args in
      sub binary32 (add binary32 c.squared_norm.result c.squared_norm-2.result) (mul binary32 (of_bits binary32 0x4000_0000) a.score) ≡ distance_sum a.query.now a.radii.now a.score
  summed = sum-of-norms _ _ _ c.squared_norm.ensures c.squared_norm-2.ensures

  tested : let a = c.args in is_nan (distance_sum a.query.now a.radii.now a.score) ≡ c.is_nan.result
  tested = ap is_nan (sym summed) ∙ sym c.is_nan.ensures

pub returns-then-is_nan : goal.returns-then-is_nan
returns-then-is_nan c = sym (by-sum-nan _ (tested (goal.at.returns-then-is_nan c).After-is_nan ∙ c.if-is_nan.true))

pub returns : goal.returns
returns c = c.finite_score.ensures
    ∙ ap finite_score_of (c.cut_at_zero.ensures ∙ ap cut_at_zero (summed (goal.at.returns c).After-is_nan))
    ∙ sym (by-sum-number _ (tested (goal.at.returns c).After-is_nan ∙ c.if-is_nan.false))
