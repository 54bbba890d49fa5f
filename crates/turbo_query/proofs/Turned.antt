-- A query that is turned and judged: what is answered, case by case; and in room of just the lengths what its checks find, and what the room holds then. Assumes nothing.
use Prim.Native.Nat.{ℕ, ◌≤◌, ◌<◌}
use mathlib.Core.Path.{◌≡◌, refl, sym, ap, ◌∙◌, subst}
use mathlib.Core.Bool.{Bool, true, false, true≢false, cond, ◌&&◌}
use mathlib.Core.List.{List, [], ◌∷◌}
use borrow.Author.Tests.{not-true, ltb-false}
use lib.Dec.{ltb}
use lib.ListN.{length}
use lib.Ieee.{Float}
use Rattle.error.specs.Answer.{Answer, value, refused, withdrawn, Check, check, first, each, place, accepted, done, after, clear}
use Rattle.error.specs.Checks.{wrong_input, bad_value}
use Rattle.error.proofs.Answers.{after-value}
use Rattle.error.proofs.Chains.{and-true, first-passed, first-refused, first-clear, first-append, first_done, append-passed, append_left}
use Rattle.error.proofs.Places.{each-offends, each-passes}
use Rattle.setup.specs.Lent.{Lent}
use Rattle.setup.specs.declared.Setup.{Setup}
use Rattle.setup.specs.Setups.{counted_projections_of}
use Rattle.setup_tables.specs.Checks.{setup_checks, setup_checks_but_entries, entry_checks}
use Rattle.setup_tables.proofs.Accepted.{setup-scalars, setup-directions, but-entries_long}
use Rattle.setup_rotation.specs.Rotations.{turn_checks}
use Rattle.setup_rotation.proofs.Turnable.{setup-turnable}
use Rattle.qjl.specs.Sketch.{vector_checks}
use Rattle.qjl.proofs.Answers.{vector-rowed, vector-passed}
use Rattle.turbo_turn.specs.Turning.{space_checks, turned_checks, turn_rotated_of, turn_projected_of}
use Rattle.turbo_turn.proofs.Turned.{space-passed, turned-done, turned-rotated, turned-projected, turned-long, turned-matrix, turned-query}
use Rattle.turbo_query.specs.Query.{rotated_query, projected_query, finite_checks, query_checks}
use Rattle.turbo_query.specs.Judging.{query_value_checks, is_clean, and_then, judged_of}
use Rattle.turbo_query.specs.Inner.{Fitting}

-- ---- a query that is rotated and projected, all finite

module _ (s : Setup) (l : Lent) (query : List Float) (room space : ℕ) (passed : first (turned_checks s l query room space) accepted ≡ accepted)
    (turned : clear bad_value (rotated_query s l query) ≡ true) (cast : clear bad_value (projected_query s l query) ≡ true) where
  -- no check of the query offends
  pub turned-queried : {A : Type 0} (a : Answer A) → first (query_checks s l query) a ≡ a
  turned-queried a =
      let whole = ltb-false _ _ (not-true _ (turned-query s l query room space passed turned)) in
      let vector = vector-passed s l query {i = place bad_value query} (turned-matrix s l query room space passed cast) (turned-long s l query room space passed) refl whole in
      let one : ltb (place bad_value (rotated_query s l query)) (length (rotated_query s l query)) ≡ false = not-true _ turned in
      let two : ltb (place bad_value (projected_query s l query)) (length (projected_query s l query)) ≡ false = not-true _ cast in
      first-append (vector_checks s l query) (finite_checks s l query) a ∙ first-passed (vector_checks s l query) (first (finite_checks s l query) a) vector ∙ simp (one, two)

-- ---- a call that was done, and finite values

clean_all : (said : Answer (Unit {0})) (rotated projected : List Float) → is_clean said rotated projected ≡ true
    → (said ≡ accepted) × ((clear bad_value rotated ≡ true) × (clear bad_value projected ≡ true))
clean_all (value x) rotated projected h = (refl, and-true _ _ h)
clean_all (refused n p) rotated projected h = absurd (true≢false (sym h))
clean_all withdrawn rotated projected h = absurd (true≢false (sym h))

module _ {said : Answer (Unit {0})} (rotated projected : List Float) where
  pub clean-refused : {n p : ℕ} → said ≡ refused n p → false ≡ is_clean said rotated projected
  clean-refused e = sym (ap (λ (a : Answer (Unit {0})). is_clean a rotated projected) e)

  module _ (e : said ≡ accepted) where
    pub clean-not : clear bad_value rotated ≡ false → false ≡ is_clean said rotated projected
    clean-not h = sym (ap (λ (a : Answer (Unit {0})). is_clean a rotated projected) e ∙ ap (λ (b : Bool). b && clear bad_value projected) h)

    pub clean-rest : {b : Bool} → clear bad_value rotated ≡ true → b ≡ clear bad_value projected → b ≡ is_clean said rotated projected
    clean-rest h f = f ∙ sym (ap (λ (a : Answer (Unit {0})). is_clean a rotated projected) e ∙ ap (λ (b : Bool). b && clear bad_value projected) h)

-- ---- in room of its own

-- The call says what the checks of the query find, and where they pass, the room holds the query rotated and projected.
pub record Turned (s : Setup) (l : Lent) (query : List Float) (said : Answer (Unit {0})) (rotated projected : List Float) : Type 0 where
  pub answer : said ≡ first (query_checks s l query) accepted
  pub held : said ≡ accepted → (rotated ≡ rotated_query s l query) × (projected ≡ projected_query s l query)

-- two answers behind checks, which are one where these pass
behind-same : {A : Type 0} (cs : List Check) (a b : Answer A) → (first cs accepted ≡ accepted → a ≡ b) → first cs a ≡ first cs b
behind-same [] a b h = h refl
behind-same (check true n p ∷ cs) a b h = refl
behind-same (check false n p ∷ cs) a b h = behind-same cs a b h

module _ (s : Setup) (l : Lent) (query : List Float) where
  -- a query that passes its own checks can be turned
  module _ {room space : ℕ} (passed : first (vector_checks s l query) accepted ≡ accepted) (fits : room ≡ s.dim) (also-fits : space ≡ counted_projections_of s) where
    good-setup : first (setup_checks s l) accepted ≡ accepted
    good-setup = append_left (setup_checks s l) (wrong_input (length query) s.dim ∷ each bad_value 11 query ∷ []) accepted passed

    good-tables : first (setup_checks_but_entries s l) accepted ≡ accepted
    good-tables = append_left (setup_checks_but_entries s l) (entry_checks l.matrix) accepted good-setup

    good-turned : first (turned_checks s l query room space) accepted ≡ accepted
    good-turned =
        let long = (vector-rowed s l query passed).query_long in
        append-passed (space_checks s l.directions (length l.matrix) space) (turn_checks s l.rotation (length query) room) tt accepted
        (space-passed s l.directions (length l.matrix) space (setup-scalars s l good-setup) (setup-directions s l good-setup) (but-entries_long s l good-tables) also-fits)
        ∙ ap (λ (k : ℕ). first (turn_checks s l.rotation k room) accepted) long
        ∙ ap (λ (k : ℕ). first (turn_checks s l.rotation s.dim k) accepted) fits
        ∙ setup-turnable s l good-tables

  module _ (old other : List Float) {rotated projected : List Float} (one : rotated ≡ after (turn_rotated_of s l query (length old) (length other)) old)
      (two : projected ≡ after (turn_projected_of s l query (length old) (length other)) other)
    where
      -- what is held where the call was done
      turned-held : first (turned_checks s l query (length old) (length other)) accepted ≡ accepted → (rotated ≡ rotated_query s l query) × (projected ≡ projected_query s l query)
      turned-held passed = (one ∙ after-value _ old (turned-rotated s l query (length old) (length other) passed), two ∙ after-value _ other (turned-projected s l query (length old) (length other) passed))

      module _ {said : Answer (Unit {0})} (e : said ≡ done (turn_rotated_of s l query (length old) (length other))) where
        -- turned, and all finite: no check of the query offends
        judged-clean : said ≡ accepted → clear bad_value rotated ≡ true → clear bad_value projected ≡ true → Turned s l query accepted rotated projected
        judged-clean is turned cast =
            let passed = turned-done s l query (length old) (length other) e is in
            let held = turned-held passed in
            record {
              answer =
                  sym
                  (turned-queried s l query (length old) (length other) passed
                  (subst (λ (xs : List Float). clear bad_value xs ≡ true) held.0 turned)
                  (subst (λ (xs : List Float). clear bad_value xs ≡ true) held.1 cast)
                  accepted);
              held = λ _. held;
            }

        module _ (fits : Fitting s (length old) (length other)) where
          -- a query that passes its own checks is turned
          turned-done-where : first (vector_checks s l query) accepted ≡ accepted → said ≡ accepted
          unfolding turn_rotated_of
          turned-done-where v =
              e
              ∙ first_done (turned_checks s l query (length old) (length other)) (rotated_query s l query)
              ∙ good-turned v fits.rotated_room fits.projected_room

          held-where : first (vector_checks s l query) accepted ≡ accepted → (rotated ≡ rotated_query s l query) × (projected ≡ projected_query s l query)
          held-where v = turned-held (good-turned v fits.rotated_room fits.projected_room)

          -- check by check
          judged-each : Turned s l query (first (vector_checks s l query) (and_then said (first (query_value_checks rotated projected) accepted))) rotated projected
          judged-each =
              let same =
              behind-same (vector_checks s l query) (and_then said (first (query_value_checks rotated projected) accepted)) (first (finite_checks s l query) accepted)
              (λ v.
              ap (λ (a : Answer (Unit {0})). and_then a (first (query_value_checks rotated projected) accepted)) (turned-done-where v)
              ∙ ap (λ (xs : List Float). first (query_value_checks xs projected) accepted) (held-where v).0
              ∙ ap (λ (xs : List Float). first (query_value_checks (rotated_query s l query) xs) accepted) (held-where v).1)
              in
              record {
                answer = same ∙ sym (first-append (vector_checks s l query) (finite_checks s l query) accepted);
                held = λ f. held-where (first-clear (vector_checks s l query) (first (finite_checks s l query) accepted) (sym same ∙ f));
              }

          judged-either : (b : Bool) → is_clean said rotated projected ≡ b
              → Turned s l query (cond b accepted (first (vector_checks s l query) (and_then said (first (query_value_checks rotated projected) accepted)))) rotated projected
          judged-either true h = let k = clean_all said rotated projected h in judged-clean k.0 k.1.0 k.1.1
          judged-either false h = judged-each

          -- what `judge` answers is what the query's checks find, and where they pass, the room holds the query rotated and projected
          pub judged-turned : {told : Answer (Unit {0})} → told ≡ judged_of s l query said rotated projected → Turned s l query told rotated projected
          unfolding judged_of
          judged-turned f =
              subst (λ (a : Answer (Unit {0})). Turned s l query a rotated projected) (sym f) (judged-either (is_clean said rotated projected) refl)

-- ---- what `judge` answers, case by case

module _ (s : Setup) (l : Lent) (query : List Float) (said : Answer (Unit {0})) (rotated projected : List Float) where
  pub judge-clean : {b : Bool} → b ≡ is_clean said rotated projected → b ≡ true → accepted ≡ judged_of s l query said rotated projected
  unfolding judged_of
  judge-clean e is = simp (sym e ∙ is)

  module _ {b : Bool} (e : b ≡ is_clean said rotated projected) (not-clean : b ≡ false) where
    judge-else : judged_of s l query said rotated projected ≡ first (vector_checks s l query) (and_then said (first (query_value_checks rotated projected) accepted))
    unfolding judged_of
    judge-else = simp (sym e ∙ not-clean)

    pub judge-refused : {n p : ℕ} → first (vector_checks s l query) accepted ≡ refused n p → refused n p ≡ judged_of s l query said rotated projected
    judge-refused v = sym (judge-else ∙ first-refused (vector_checks s l query) _ v)

    module _ (v : first (vector_checks s l query) accepted ≡ accepted) where
      pub judge-unturned : {n p : ℕ} → said ≡ refused n p → refused n p ≡ judged_of s l query said rotated projected
      judge-unturned is =
          sym
          (judge-else
          ∙ first-passed (vector_checks s l query) _ v
          ∙ ap (λ (a : Answer (Unit {0})). and_then a (first (query_value_checks rotated projected) accepted)) is)

      pub judge-values : {told : Answer (Unit {0})} → said ≡ accepted → told ≡ first (query_value_checks rotated projected) accepted → told ≡ judged_of s l query said rotated projected
      judge-values is h =
          h
          ∙ sym
          (judge-else
          ∙ first-passed (vector_checks s l query) _ v
          ∙ ap (λ (a : Answer (Unit {0})). and_then a (first (query_value_checks rotated projected) accepted)) is)

-- ---- the values

module _ (rotated projected : List Float) where
  pub values-rotated : {i : ℕ} → i ≡ place bad_value rotated → i < length rotated → first (query_value_checks rotated projected) accepted ≡ refused 11 i
  values-rotated p h = simp (each-offends bad_value rotated p h, p)

  module _ {i : ℕ} (p : i ≡ place bad_value rotated) (h : length rotated ≤ i) where
    pub values-projected : {j : ℕ} → j ≡ place bad_value projected → j < length projected → first (query_value_checks rotated projected) accepted ≡ refused 11 j
    values-projected q k = simp (each-passes bad_value rotated p h, each-offends bad_value projected q k, q)

    pub values-passed : {j : ℕ} → j ≡ place bad_value projected → length projected ≤ j → first (query_value_checks rotated projected) accepted ≡ accepted
    values-passed q k = simp (each-passes bad_value rotated p h, each-passes bad_value projected q k)
