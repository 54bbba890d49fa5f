-- This is the squared distance of a query from the vector that a record stands for, by the record's radii and the score of the two. Document 01: 'both squared
-- norms, less 2 × score, and 0 where that is not greater than zero, minus infinity included, or is NaN; plus infinity is 12.' Document 02 amends it in request e):
-- 'From now on a distance whose sum is NaN before the cut to zero is 12.' Assumes nothing.
use Rattle.std.specs.Prelude.{cond, List, [], ◌∷◌, Float}
use Rattle.std.specs.Float.{binary32}
use Rattle.std.specs.Float.Ieee.{add, sub, mul, lt, is_nan}
use Rattle.error.specs.Answer.{Answer, value, Check, check, first}
use Rattle.error.specs.Checks.{wrong_score}
use Rattle.float.specs.Constants.{pos_zero, two}
use Rattle.rounding.specs.Sums.{dot}

-- This is a squared norm: 'Sums run in index order from +0.0.'
abbrev pub squared_norm : List Float → Float
squared_norm xs = dot xs xs

-- 'both squared norms, less 2 × score', each step rounded: the norms are the query's and the radii's.
unfoldable pub distance_sum : List Float → List Float → Float → Float
distance_sum query radii score = sub binary32 (add binary32 (squared_norm query) (squared_norm radii)) (mul binary32 two score)

-- '0 where that is not greater than zero, minus infinity included, or is NaN'.
unfoldable pub cut_at_zero : Float → Float
cut_at_zero x = cond (lt pos_zero x) x pos_zero

-- 'a distance whose sum is NaN before the cut to zero is 12.' (document 02; it names no place, which is then 0)
abbrev pub wrong_sum : Float → Check
wrong_sum x = check (is_nan x) 12 0

-- This is a distance by its sum: the sum is judged first, then it is cut, and then the distance is judged, of which only plus infinity is left to offend.
unfoldable pub distance_by_sum : Float → Answer Float
distance_by_sum x = first (wrong_sum x ∷ wrong_score (cut_at_zero x) ∷ []) (value (cut_at_zero x))

abbrev pub distance_from_score_of : List Float → List Float → Float → Answer Float
distance_from_score_of query radii score = distance_by_sum (distance_sum query radii score)
