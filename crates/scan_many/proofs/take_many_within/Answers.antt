-- `scan_many::take_many_within` meets its contract: nothing is entered where a check offends, and else every record is, one after the other.
-- Assumes nothing.
use mathlib.Core.Path.{sym, ap, ◌∙◌, subst}
use mathlib.Core.List.{◌++◌, map, reverse}
use Rattle.error.specs.Answer.{Answer, done, after}
use Rattle.error.specs.Outcomes.{says}
use Rattle.error.proofs.Chains.{value-not-refused}
use lib.ListN.{length}
use Rattle.scan.specs.declared.Scan.{Scan}
use Rattle.scan.specs.Scans.{scan_of}
use Rattle.scan.specs.Shortening.{came}
use Rattle.scan_taking.specs.Taking.{LedBy}
use Rattle.scan_taking.proofs.Taking.{as-by_query}
use Rattle.scan_many.specs.Many.{takings_of}
use Rattle.scan_many.proofs.Led.{many-led}
use Rattle.scan_many.proofs.Answers.{passed-scalars, passed-ends, many-refused, many-passed}
use Rattle.scan_many.proofs.take_many_within.Goals as goal

pub returns-in-Err : goal.returns-in-Err
returns-in-Err c = let a = c.args in
    let scan = scan_of a.tally a.numbers.now a.scores.now in
    let e = many-refused scan a.setup a.directions.now a.rotated.now a.projected.now a.bytes.now a.ends.now (sym c.check_many-checked.ensures ∙ ap says c.in-Err.is) in
    record { said = sym (ap done e); left = sym (ap (λ (x : Answer Scan). after x scan) e); led = (λ k earlier f led. value-not-refused (sym f)); plain = as-by_query a.setup a.directions.now a.rotated.now a.projected.now }

pub enter_many-next-requires : goal.enter_many-next-requires
enter_many-next-requires c = let a = c.args in
    let passed = sym c.check_many-checked.ensures ∙ ap says c.in_default.is in
    (passed-scalars a.tally.taken a.setup a.directions.now a.rotated.now a.projected.now (length a.bytes.now) a.ends.now passed, passed-ends a.tally.taken a.setup a.directions.now a.rotated.now a.projected.now (length a.bytes.now) a.ends.now passed)

pub returns : goal.returns
returns c = let a = c.args in
    let scan = scan_of a.tally a.numbers.now a.scores.now in
    let e = many-passed scan a.setup a.directions.now a.rotated.now a.projected.now a.bytes.now a.ends.now (sym c.check_many-checked.ensures ∙ ap says c.in_default.is) in
    let left = c.enter_many-next.ensures ∙ sym (ap (λ (x : Answer Scan). after x scan) e) in
    record { said = sym (ap done e); left = left; led = (λ k earlier f led. subst (λ (x : Scan). LedBy k (reverse (map came (takings_of a.setup a.directions.now a.rotated.now a.projected.now a.bytes.now a.ends.now)) ++ earlier) x) (sym left) (many-led scan a.setup a.directions.now a.rotated.now a.projected.now a.bytes.now a.ends.now k earlier (ap done e) led)); plain = as-by_query a.setup a.directions.now a.rotated.now a.projected.now }
