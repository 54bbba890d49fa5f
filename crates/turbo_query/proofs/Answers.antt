-- The answers of preparing a query and of handing it over, case by case, from what their checks find. Assumes nothing.
use Prim.Native.Nat.{ℕ}
use mathlib.Core.Path.{◌≡◌, sym, ap, ◌∙◌, subst}
use mathlib.Core.List.{List, [], ◌∷◌}
use borrow.Author.Tests.{eqb-true, not-false, eq-eqb, ne_eqb}
use lib.ListN.{length}
use lib.Ieee.{Float}
use Rattle.error.specs.Answer.{Answer, value, refused, first, each, accepted, done, after}
use Rattle.error.specs.Checks.{wrong_input, bad_value}
use Rattle.error.proofs.Chains.{first-passed, first_passes, first-refused, first_done, append-passed, append-refused}
use Rattle.error.proofs.Answers.{done_refused, after-refused, after-value}
use Rattle.float.specs.Copying.{copy_into_of}
use Rattle.float.proofs.Copying.{copy_into-same}
use Rattle.setup.specs.Lent.{Lent}
use Rattle.setup.specs.declared.Setup.{Setup}
use Rattle.setup.specs.Setups.{counted_projections_of}
use Rattle.setup.specs.Checks.{scalar_checks}
use Rattle.setup_tables.specs.Checks.{table_checks, setup_checks}
use Rattle.qjl.specs.Sketch.{vector_checks}
use Rattle.turbo_query.specs.Query.{rotated_query, projected_query, finite_checks, query_checks, prepare_rotated_of, prepare_projected_of}
use Rattle.turbo_query.specs.Inner.{handed_checks, Handed}
use Rattle.turbo_query.proofs.Turned.{Turned}

-- the scalars are judged first
pub query-scalars : (s : Setup) (l : Lent) (query : List Float) {n p : ℕ} → first (scalar_checks s) accepted ≡ refused n p → first (query_checks s l query) accepted ≡ refused n p
query-scalars s l query e =
    append-refused (vector_checks s l query) (finite_checks s l query) tt accepted
    (append-refused (setup_checks s l) (wrong_input (length query) s.dim ∷ each bad_value 11 query ∷ []) tt accepted
    (append-refused (scalar_checks s) (table_checks s l) tt accepted e))

-- ---- what is handed over

-- the lengths of the outputs
module _ (n m room space : ℕ) where
  pub rooms-room : (room ≡ n → ⊥) → first (handed_checks n m room space) accepted ≡ refused 6 n
  rooms-room h = simp (ne_eqb room n h)

  pub rooms-space : room ≡ n → (space ≡ m → ⊥) → first (handed_checks n m room space) accepted ≡ refused 6 m
  rooms-space h g = simp (eq-eqb room n h, ne_eqb space m g)

  pub rooms-passed : room ≡ n → space ≡ m → first (handed_checks n m room space) accepted ≡ accepted
  rooms-passed h g = simp (eq-eqb room n h, eq-eqb space m g)

-- a refusal leaves both as they were
module _ (n m : ℕ) (rotated projected out other : List Float) where
  pub handed-refused : {number place : ℕ} → first (handed_checks n m (length out) (length other)) accepted ≡ refused number place
      → Handed n m rotated projected out other (refused number place) out other
  handed-refused e =
      let cs = handed_checks n m (length out) (length other) in
      record {
        answer = sym e;
        rotated_after = sym (after-refused _ out (first-refused cs (value rotated) e));
        projected_after = sym (after-refused _ other (first-refused cs (value projected) e));
      }

-- where nothing offends, both outputs are as long as what is copied to them
module _ (rotated projected out other : List Float) where
  pub handed-copied : {new also : List Float} → first (handed_checks (length rotated) (length projected) (length out) (length other)) accepted ≡ accepted
      → new ≡ copy_into_of rotated out → also ≡ copy_into_of projected other
      → Handed (length rotated) (length projected) rotated projected out other accepted new also
  handed-copied e f g =
      let cs = handed_checks (length rotated) (length projected) (length out) (length other) in
      let k = first_passes cs tt e in
      let room = eqb-true (length out) (length rotated) (not-false _ k.0) in
      let space = eqb-true (length other) (length projected) (not-false _ k.1.0) in
      record {
        answer = sym e;
        rotated_after = f ∙ copy_into-same rotated out (sym room) ∙ sym (after-value _ out (first-passed cs (value rotated) e));
        projected_after = g ∙ copy_into-same projected other (sym space) ∙ sym (after-value _ other (first-passed cs (value projected) e));
      }

-- the values and their numbers by other names
pub handed-same : {n k m o : ℕ} {rotated us projected vs out other new also : List Float} {said : Answer (Unit {0})}
    → n ≡ k → m ≡ o → rotated ≡ us → projected ≡ vs → Handed n m rotated projected out other said new also → Handed k o us vs out other said new also
handed-same {k = k} {m = m} {o = o} {rotated = rotated} {us = us} {projected = projected} {out = out} {other = other} {new = new} {also = also} {said = said} a b c d h =
    subst (λ (xs : List Float). Handed k o us xs out other said new also) d
    (subst (λ (xs : List Float). Handed k o xs projected out other said new also) c
    (subst (λ (i : ℕ). Handed k i rotated projected out other said new also) b
    (subst (λ (i : ℕ). Handed i m rotated projected out other said new also) a h)))

-- ---- preparing

module _ (s : Setup) (l : Lent) (query : List Float) where
  -- what is answered and left in both outputs, by the definitions
  abbrev Outputs : List Float → List Float → Answer (Unit {0}) → List Float → List Float → Type 0
  Outputs rotated projected said new also =
      (said ≡ done (prepare_rotated_of s l query (length rotated) (length projected)))
      × ((new ≡ after (prepare_rotated_of s l query (length rotated) (length projected)) rotated)
      × (also ≡ after (prepare_projected_of s l query (length rotated) (length projected)) projected))

  module _ (rotated projected : List Float) where
    -- a query that is refused
    pub prepare-refused : {number place : ℕ} → first (query_checks s l query) accepted ≡ refused number place → Outputs rotated projected (refused number place) rotated projected
    unfolding prepare_rotated_of prepare_projected_of
    prepare-refused e =
        let cs = handed_checks s.dim (counted_projections_of s) (length rotated) (length projected) in
        let one = append-refused (query_checks s l query) cs tt (value (rotated_query s l query)) e in
        let two = append-refused (query_checks s l query) cs tt (value (projected_query s l query)) e in
        (sym (done_refused _ one), (sym (after-refused _ rotated one), sym (after-refused _ projected two)))

    -- a query that passes its checks: what is handed over decides
    pub prepare-handed : {said told : Answer (Unit {0})} {turned sums new also : List Float} → Turned s l query said turned sums → said ≡ accepted
        → length turned ≡ s.dim → length sums ≡ counted_projections_of s
        → Handed (length turned) (length sums) turned sums rotated projected told new also → Outputs rotated projected told new also
    unfolding prepare_rotated_of prepare_projected_of
    prepare-handed t e long wide h =
        let cs = handed_checks s.dim (counted_projections_of s) (length rotated) (length projected) in
        let passed = sym t.answer ∙ e in
        let held = t.held e in
        let handed = handed-same long wide held.0 held.1 h in
        let one = append-passed (query_checks s l query) cs tt (value (rotated_query s l query)) passed in
        let two = append-passed (query_checks s l query) cs tt (value (projected_query s l query)) passed in (
          handed.answer ∙ sym (ap done one ∙ first_done cs (rotated_query s l query)),
          (handed.rotated_after ∙ sym (ap (λ (a : Answer (List Float)). after a rotated) one), handed.projected_after ∙ sym (ap (λ (a : Answer (List Float)). after a projected) two)),
        )
