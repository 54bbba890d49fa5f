-- What document 02's request b) says of scores, distances and decoding holds: a record of no bytes is withdrawn behind the checks that come before it, and one that has
-- bytes is answered as it was. Assumes nothing.
use Prim.Native.Nat.{ℕ, ◌≤◌}
use mathlib.Core.Path.{◌≡◌, refl, sym, ap, ◌∙◌}
use mathlib.Core.List.{List, [], ◌++◌}
use lib.ListN.{length}
use lib.Ieee.{Float}
use Rattle.error.specs.Answer.{Answer, value, withdrawn, Check, first}
use Rattle.error.proofs.Chains.{value-not-withdrawn, first_ends, first-append}
use Rattle.setup.specs.Lent.{Lent}
use Rattle.setup.specs.declared.Setup.{Setup}
use Rattle.setup.specs.Checks.{scalar_checks}
use Rattle.setup_tables.specs.Checks.{setup_checks}
use Rattle.packed.specs.Reading.{unless_withdrawn}
use Rattle.packed.proofs.Withdrawn.{some_bytes, unless-some}
use Rattle.turbo_query.specs.Query.{query_checks}
use Rattle.turbo_opening.specs.Opening.{open_checks, open_record_of}
use Rattle.turbo_decode.specs.Decode.{decode_checks, decode_approximate_of}
use Rattle.turbo_record.specs.Scoring.{record_score, reading_checks}
use Rattle.turbo_phased.specs.Estimates.{estimate, inner_product_estimate_of, inner_product_estimate_phased_of, prepared_checks, inner_product_estimate_prepared_of}
use Rattle.turbo.specs.Distance.{l2_distance_estimate_of}
use Rattle.turbo.specs.Order.{IsScored}
use Rattle.turbo_laws.specs.Withdrawn.{WithdrawnScores}

-- where there are bytes, what stands before and behind the check for a withdrawn position is one chain
one-chain : {A : Type 0} (cs ds : List Check) (bytes : List ℕ) (a : Answer A) → 1 ≤ length bytes → first cs (unless_withdrawn bytes (first ds a)) ≡ first (cs ++ ds) a
one-chain cs ds bytes a h = ap (first cs) (unless-some bytes (first ds a) (some_bytes bytes h)) ∙ sym (first-append cs ds a)

not_scored : (s : Setup) (l : Lent) (query : List Float) (x : Float) → IsScored s l query [] x → ⊥
unfolding inner_product_estimate_of
not_scored s l query x scored = value-not-withdrawn (sym (first_ends (query_checks s l query) withdrawn scored))

pub withdrawn-scores : WithdrawnScores
unfolding inner_product_estimate_of inner_product_estimate_phased_of inner_product_estimate_prepared_of l2_distance_estimate_of decode_approximate_of open_record_of
withdrawn-scores = record {
  score_none = λ s l query. refl;
  distance_none = λ s l query. refl;
  prepared_none = λ s directions rotated projected. refl;
  decode_none = λ s l room. refl;
  phased_none = λ s l query. refl;
  open_none = λ s. refl;
  not_scored = not_scored;
  score_kept = λ s l query bytes h. one-chain (query_checks s l query) (reading_checks s bytes (estimate s l query bytes)) bytes _ h;
  phased_kept = λ s l query bytes h.
      ap (λ (a : Answer Float). first (query_checks s l query) (value a)) (unless-some bytes (first (reading_checks s bytes (estimate s l query bytes)) (value (estimate s l query bytes))) (some_bytes bytes h));
  distance_kept = λ s l query bytes h. one-chain (query_checks s l query) (reading_checks s bytes (estimate s l query bytes)) bytes _ h;
  prepared_kept = λ s directions rotated projected bytes h.
      one-chain (prepared_checks s directions rotated projected) (reading_checks s bytes (record_score s directions rotated projected bytes)) bytes _ h;
  decode_kept = λ s l bytes room h. one-chain (setup_checks s l) (decode_checks s bytes room) bytes _ h;
  open_kept = λ s bytes h. one-chain (scalar_checks s) (open_checks s bytes) bytes _ h;
}
