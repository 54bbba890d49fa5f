-- The checks of many records, and the answer, case by case. Assumes nothing.
use Prim.Native.Nat.{ℕ, ◌-◌, ◌≤◌, ◌<◌}
use mathlib.Core.Path.{◌≡◌, ap, ◌∙◌}
use mathlib.Core.Bool.{Bool}
use mathlib.Core.List.{List, [], ◌∷◌, ◌++◌}
use borrow.Author.Tests.{lt-ltb, le-ltb}
use lib.Dec.{ltb}
use lib.ListN.{length}
use lib.Ieee.{Float}
use Rattle.error.specs.Answer.{value, refused, Check, check, first, accepted}
use Rattle.error.proofs.Chains.{first-passed, first-refused, append_left, append_right, append-passed, append-refused}
use Rattle.setup.specs.declared.Setup.{Setup}
use Rattle.setup.specs.Checks.{scalar_checks}
use Rattle.turbo_record.specs.Scoring.{record_score_of}
use Rattle.turbo_phased.specs.Estimates.{prepared_checks}
use Rattle.turbo_prepared.proofs.Answers.{ready-usable}
use Rattle.scan.specs.declared.Scan.{Scan}
use Rattle.scan.specs.Entering.{most}
use Rattle.scan_many.specs.Many.{records_in, wrong_ends, many_checks, entered_each, take_many_of}

module _ (taken : ℕ) (s : Setup) (directions rotated projected : List Float) (long : ℕ) (ends : List ℕ) where
  -- the checks behind 22
  abbrev behind : List Check
  behind = prepared_checks s directions rotated projected ++ (wrong_ends long 0 ends ∷ [])

  pub many-full : most - taken < length ends → first (many_checks taken s directions rotated projected long ends) accepted ≡ refused 22 0
  many-full h = ap (λ (b : Bool). first (check b 22 0 ∷ behind) accepted) (lt-ltb (most - taken) (length ends) h)

  module _ (enough : length ends ≤ most - taken) where
    many-some : first (many_checks taken s directions rotated projected long ends) accepted ≡ first behind accepted
    many-some = ap (λ (b : Bool). first (check b 22 0 ∷ behind) accepted) (le-ltb (most - taken) (length ends) enough)

    pub many-query : {n p : ℕ} → first (prepared_checks s directions rotated projected) accepted ≡ refused n p → first (many_checks taken s directions rotated projected long ends) accepted ≡ refused n p
    many-query e = many-some ∙ append-refused (prepared_checks s directions rotated projected) (wrong_ends long 0 ends ∷ []) tt accepted e

    pub many-ends : first (prepared_checks s directions rotated projected) accepted ≡ accepted → first (many_checks taken s directions rotated projected long ends) accepted ≡ first (wrong_ends long 0 ends ∷ []) accepted
    many-ends e = many-some ∙ append-passed (prepared_checks s directions rotated projected) (wrong_ends long 0 ends ∷ []) tt accepted e

  -- what is known where all pass
  module _ (passed : first (many_checks taken s directions rotated projected long ends) accepted ≡ accepted) where
    passed-behind : first behind accepted ≡ accepted
    passed-behind = append_right (check (ltb (most - taken) (length ends)) 22 0 ∷ []) behind accepted passed

    pub passed-prepared : first (prepared_checks s directions rotated projected) accepted ≡ accepted
    passed-prepared = append_left (prepared_checks s directions rotated projected) (wrong_ends long 0 ends ∷ []) accepted passed-behind

    pub passed-scalars : first (scalar_checks s) accepted ≡ accepted
    passed-scalars = ready-usable s directions rotated projected passed-prepared

    pub passed-ends : first (wrong_ends long 0 ends ∷ []) accepted ≡ accepted
    passed-ends = append_right (prepared_checks s directions rotated projected) (wrong_ends long 0 ends ∷ []) accepted passed-behind

module _ (scan : Scan) (s : Setup) (directions rotated projected : List Float) (bytes ends : List ℕ) where
  pub many-refused : {n p : ℕ} → first (many_checks scan.tally.taken s directions rotated projected (length bytes) ends) accepted ≡ refused n p → take_many_of scan s directions rotated projected bytes ends ≡ refused n p
  unfolding take_many_of
  many-refused e = first-refused (many_checks scan.tally.taken s directions rotated projected (length bytes) ends) (value (entered_each (record_score_of s directions rotated projected) (records_in bytes 0 ends) scan)) e

  pub many-passed : first (many_checks scan.tally.taken s directions rotated projected (length bytes) ends) accepted ≡ accepted → take_many_of scan s directions rotated projected bytes ends ≡ value (entered_each (record_score_of s directions rotated projected) (records_in bytes 0 ends) scan)
  unfolding take_many_of
  many-passed e = first-passed (many_checks scan.tally.taken s directions rotated projected (length bytes) ends) (value (entered_each (record_score_of s directions rotated projected) (records_in bytes 0 ends) scan)) e
