-- Many records taken in one call are taken one after the other: the history with them, in their order, leads to the scan. Assumes nothing.
use Prim.Native.Nat.{ℕ}
use mathlib.Core.Path.{◌≡◌, sym, ap, ◌∙◌, subst}
use mathlib.Core.List.{List, [], ◌∷◌, ◌++◌, map, append_assoc, reverse, reverse-cons}
use lib.ListN.{length}
use lib.Ieee.{Float}
use Rattle.error.specs.Answer.{Answer, first, accepted, done, after}
use Rattle.error.proofs.Chains.{first_done}
use Rattle.setup.specs.declared.Setup.{Setup}
use Rattle.turbo_record.specs.Scoring.{record_score_of}
use Rattle.turbo_phased.specs.Estimates.{prepared_checks}
use Rattle.turbo_prepared.proofs.Answers.{prepared-phased-passed}
use Rattle.scan.specs.declared.Scan.{Scan}
use Rattle.scan.specs.Entering.{enter_of}
use Rattle.scan.specs.Events.{after_taking}
use Rattle.scan.specs.Shortening.{Step, came}
use Rattle.scan_taking.specs.Taking.{Taking, by_prepared, LedBy}
use Rattle.scan_taking.proofs.Taking.{taken-led}
use Rattle.scan_many.specs.Many.{records_in, many_checks, entered_each, take_many_of, takings_of}
use Rattle.scan_many.proofs.Answers.{passed-prepared, many-passed}

module _ (s : Setup) (directions rotated projected : List Float) (passed : first (prepared_checks s directions rotated projected) accepted ≡ accepted) where
  record-led : (k : ℕ) (earlier : List (Step Taking)) (scan : Scan) (bytes : List ℕ) → LedBy k earlier scan
      → LedBy k (came (by_prepared s directions rotated projected bytes) ∷ earlier) (enter_of scan (record_score_of s directions rotated projected bytes))
  record-led k earlier scan bytes led =
      subst
      (λ (next : Scan). LedBy k (came (by_prepared s directions rotated projected bytes) ∷ earlier) next)
      (ap (after_taking scan) (prepared-phased-passed s directions rotated projected bytes passed))
      (taken-led k earlier scan (by_prepared s directions rotated projected bytes) led)

  -- of the records, each is the newest in its turn
  pub each-led : (k : ℕ) (earlier : List (Step Taking)) (scan : Scan) (records : List (List ℕ)) → LedBy k earlier scan
      → LedBy k (reverse (map came (map (by_prepared s directions rotated projected) records)) ++ earlier) (entered_each (record_score_of s directions rotated projected) records scan)
  unfolding entered_each
  each-led k earlier scan [] led = led
  each-led k earlier scan (bytes ∷ more) led =
      let t = came (by_prepared s directions rotated projected bytes) in
      let ts = map came (map (by_prepared s directions rotated projected) more) in
      subst
      (λ (steps : List (Step Taking)). LedBy k steps (entered_each (record_score_of s directions rotated projected) more (enter_of scan (record_score_of s directions rotated projected bytes))))
      (sym (ap (λ (l : List (Step Taking)). l ++ earlier) (reverse-cons t ts) ∙ append_assoc (reverse ts) (t ∷ []) earlier))
      (each-led k (t ∷ earlier) (enter_of scan (record_score_of s directions rotated projected bytes)) more (record-led k earlier scan bytes led))

module _ (scan : Scan) (s : Setup) (directions rotated projected : List Float) (bytes ends : List ℕ) where
  many-clear : done (take_many_of scan s directions rotated projected bytes ends) ≡ accepted → first (many_checks scan.tally.taken s directions rotated projected (length bytes) ends) accepted ≡ accepted
  unfolding take_many_of
  many-clear e = sym (first_done (many_checks scan.tally.taken s directions rotated projected (length bytes) ends) (entered_each (record_score_of s directions rotated projected) (records_in bytes 0 ends) scan)) ∙ e

  pub many-led : (k : ℕ) (earlier : List (Step Taking)) → done (take_many_of scan s directions rotated projected bytes ends) ≡ accepted → LedBy k earlier scan
      → LedBy k (reverse (map came (takings_of s directions rotated projected bytes ends)) ++ earlier) (after (take_many_of scan s directions rotated projected bytes ends) scan)
  many-led k earlier e led =
      let passed = many-clear e in
      subst
      (λ (next : Scan). LedBy k (reverse (map came (takings_of s directions rotated projected bytes ends)) ++ earlier) next)
      (sym (ap (λ (a : Answer Scan). after a scan) (many-passed scan s directions rotated projected bytes ends passed)))
      (each-led s directions rotated projected (passed-prepared scan.tally.taken s directions rotated projected (length bytes) ends passed) k earlier scan (records_in bytes 0 ends) led)
