-- `qjl_score::sketch_score` meets its contract: a score at once is the answer, and else it is found check by check. Assumes nothing.
use mathlib.Core.Path.{sym, ap}
use Rattle.error.specs.Outcomes.{says_score}
use Rattle.qjl_score.proofs.sketch_score.Goals as goal

pub returns-in-Score : goal.returns-in-Score
returns-in-Score c = sym (c.score_at_once-scored.ensures.made (ap says_score c.in-Score.is))
