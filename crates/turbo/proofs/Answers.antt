-- The answers of the three calls, case by case, from what their checks find. Assumes nothing.
use Prim.Native.Nat.{ℕ, ◌≤◌}
use mathlib.Core.Path.{◌≡◌, refl, sym, ap, ◌∙◌}
use mathlib.Core.Bool.{true, false}
use mathlib.Core.List.{List, [], ◌∷◌}
use native.Mathlib.Omega.{arith}
use borrow.Author.Tests.{eq-eqb}
use lib.Ieee.{Float}
use Rattle.error.specs.Answer.{Answer, value, refused, withdrawn, Check, check, first, accepted, done}
use Rattle.error.specs.Checks.{wrong_room}
use Rattle.error.proofs.Chains.{refused-not-withdrawn, first-passed, first-refused, first_done, first-clear, first_ends, append-passed}
use Rattle.setup.specs.Lent.{Lent}
use Rattle.setup.specs.declared.Setup.{Setup}
use Rattle.packed.specs.declared.Header.{Header}
use Rattle.packed.specs.Layout.{pairs_of, header_of}
use Rattle.packed.specs.Reading.{unless_withdrawn, record_checks, read_record_of, read_radii_of, radii_of}
use Rattle.packed.proofs.Accepted.{read-header}
use Rattle.packed.proofs.Parts.{header-pairs}
use Rattle.packed_values.proofs.Scratch.{read_pairs-most}
use Rattle.packed.proofs.Withdrawn.{unless-none, unless-some, unless-value, unless-refused, unless_withdrawn_lem, read-passed}
use Rattle.turbo_query.specs.Query.{rotated_query, projected_query, query_checks}
use Rattle.turbo_record.specs.Scoring.{reading_checks, since_reading, record_score_of}
use Rattle.turbo_phased.specs.Estimates.{inner_product_estimate_phased_of, estimate, where_scored, inner_product_estimate_of, prepared_checks, inner_product_estimate_prepared_of, joined}
use Rattle.turbo_prepared.specs.Phases.{inner_product_estimate_prepared_phased_of}
use Rattle.turbo_distance.specs.Distance.{distance_from_score_of}
use Rattle.turbo.specs.Distance.{l2_distance_estimate_of}
use Rattle.turbo_phased.proofs.Answers.{phased-passed}
use Rattle.turbo.proofs.Demand.{scored-estimate}

-- an answer at the end of a chain, without the phase
joined-first : {A : Type 0} (cs : List Check) (a : Answer A) → joined (first cs (value a)) ≡ first cs a
joined-first [] a = refl
joined-first (check true n p ∷ cs) a = refl
joined-first (check false n p ∷ cs) a = joined-first cs a

-- ---- by a query

module _ (s : Setup) (l : Lent) (query : List Float) (bytes : List ℕ) where
  -- without the phase it is the estimate
  pub phased-joined : joined (inner_product_estimate_phased_of s l query bytes) ≡ inner_product_estimate_of s l query bytes
  unfolding inner_product_estimate_phased_of inner_product_estimate_of
  phased-joined = joined-first (query_checks s l query) (since_reading s bytes (estimate s l query bytes) (value (estimate s l query bytes)))

  pub estimate-passed : first (query_checks s l query) accepted ≡ accepted
      → inner_product_estimate_of s l query bytes ≡ record_score_of s l.directions (rotated_query s l query) (projected_query s l query) bytes
  estimate-passed e = sym phased-joined ∙ ap joined (phased-passed s l query bytes e)

-- ---- by a prepared query

module _ (s : Setup) (directions rotated projected : List Float) (bytes : List ℕ) where
  -- without the phase it is the estimate by the prepared query
  pub prepared-phased-joined : joined (inner_product_estimate_prepared_phased_of s directions rotated projected bytes) ≡ inner_product_estimate_prepared_of s directions rotated projected bytes
  unfolding inner_product_estimate_prepared_phased_of inner_product_estimate_prepared_of record_score_of
  prepared-phased-joined = joined-first (prepared_checks s directions rotated projected) (record_score_of s directions rotated projected bytes)

-- ---- the distance

-- two chains with the check for a withdrawn position between them, and another answer in the value's place: a refusal and a withdrawn position are answered alike
module _ {A B : Type 0} (ds : List Check) (bytes : List ℕ) (x : A) (b : Answer B) where
  other-refused : (cs : List Check) {n p : ℕ} → first cs (unless_withdrawn bytes (first ds (value x))) ≡ refused n p → first cs (unless_withdrawn bytes (first ds b)) ≡ refused n p
  other-refused [] e =
      let refusal = unless-refused bytes (first ds (value x)) e in
      unless-some bytes _ refusal.0 ∙ first-refused ds b (sym (first_done ds x) ∙ ap done refusal.1)
  other-refused (check true n p ∷ cs) e = cc
  other-refused (check false n p ∷ cs) e = other-refused cs e

  other-withdrawn : (cs : List Check) → first cs (unless_withdrawn bytes (first ds (value x))) ≡ withdrawn → first cs (unless_withdrawn bytes (first ds b)) ≡ withdrawn
  other-withdrawn [] e = unless-none bytes _ (unless_withdrawn_lem bytes ds x e)
  other-withdrawn (check true n p ∷ cs) e = refused-not-withdrawn e
  other-withdrawn (check false n p ∷ cs) e = other-withdrawn cs e

  other-reached : (cs : List Check) {y : A} → first cs (unless_withdrawn bytes (first ds (value x))) ≡ value y → first cs (unless_withdrawn bytes (first ds b)) ≡ b
  other-reached cs e =
      let reached = unless-value bytes (first ds (value x)) (first_ends cs _ e) in
      first-passed cs _ (first-clear cs _ e) ∙ unless-some bytes _ reached.0 ∙ first-passed ds b (first-clear ds (value x) reached.1)

module _ (s : Setup) (l : Lent) (query : List Float) (bytes : List ℕ) where
  -- what stands behind all that scoring asks: where scoring is refused or withdrawn, so is the whole, and where it is not, that is the answer
  pub behind-refused : {A : Type 0} (a : Answer A) {n p : ℕ} → inner_product_estimate_of s l query bytes ≡ refused n p → where_scored s l query bytes a ≡ refused n p
  unfolding inner_product_estimate_of
  behind-refused a e = other-refused (reading_checks s bytes (estimate s l query bytes)) bytes (estimate s l query bytes) a (query_checks s l query) e

  pub behind-withdrawn : {A : Type 0} (a : Answer A) → inner_product_estimate_of s l query bytes ≡ withdrawn → where_scored s l query bytes a ≡ withdrawn
  unfolding inner_product_estimate_of
  behind-withdrawn a e = other-withdrawn (reading_checks s bytes (estimate s l query bytes)) bytes (estimate s l query bytes) a (query_checks s l query) e

  pub behind-scored : {A : Type 0} (a : Answer A) {x : Float} → inner_product_estimate_of s l query bytes ≡ value x → where_scored s l query bytes a ≡ a
  unfolding inner_product_estimate_of
  behind-scored a e = other-reached (reading_checks s bytes (estimate s l query bytes)) bytes (estimate s l query bytes) a (query_checks s l query) e

  pub distance-refused : {n p : ℕ} → inner_product_estimate_of s l query bytes ≡ refused n p → l2_distance_estimate_of s l query bytes ≡ refused n p
  unfolding l2_distance_estimate_of
  distance-refused = behind-refused (distance_from_score_of query (radii_of bytes) (estimate s l query bytes))

  pub distance-withdrawn : inner_product_estimate_of s l query bytes ≡ withdrawn → l2_distance_estimate_of s l query bytes ≡ withdrawn
  unfolding l2_distance_estimate_of
  distance-withdrawn = behind-withdrawn (distance_from_score_of query (radii_of bytes) (estimate s l query bytes))

  -- the score is known: the distance by it
  pub distance-scored : {x : Float} → inner_product_estimate_of s l query bytes ≡ value x → l2_distance_estimate_of s l query bytes ≡ distance_from_score_of query (radii_of bytes) x
  unfolding l2_distance_estimate_of
  distance-scored e =
      behind-scored (distance_from_score_of query (radii_of bytes) (estimate s l query bytes)) e
      ∙ ap (distance_from_score_of query (radii_of bytes)) (scored-estimate s l query bytes e)

-- ---- the radii of a record that is read, in room of their number

module _ (bytes : List ℕ) {header : Header} (read : read_record_of bytes ≡ value header) where
  pub pairs-most : pairs_of bytes ≤ 2048
  pairs-most = omega (arith, header-pairs bytes (read-header bytes read), read_pairs-most bytes read)

  pub radii_read : {room : ℕ} → room ≡ pairs_of bytes → read_radii_of bytes room ≡ value (radii_of bytes)
  unfolding read_radii_of
  radii_read {room} e =
      let passed = read-passed bytes read in
      unless-some bytes _ passed.0 ∙ append-passed (record_checks bytes) (wrong_room room (pairs_of bytes) ∷ []) (header_of bytes) (value (radii_of bytes)) passed.1 ∙ simp (eq-eqb room (pairs_of bytes) e)
