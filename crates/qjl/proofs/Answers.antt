-- The checks of a vector and the score from a projected query, case by case, and what a vector has whose checks pass. Assumes nothing.
use Prim.Native.Nat.{ℕ, ◌≤◌, ◌<◌}
use mathlib.Core.Path.{◌≡◌, refl, sym, ◌∙◌, subst}
use mathlib.Core.Bool.{true, false}
use mathlib.Core.List.{List, [], ◌∷◌}
use borrow.Author.Tests.{eqb-true, not-false, eq-eqb, ne_eqb, ltb-false}
use lib.Dec.{ltb}
use lib.IntN.{ℤ}
use lib.ListN.{length}
use lib.Ieee.{Float}
use Rattle.error.specs.Answer.{refused, first, each, place, accepted}
use Rattle.error.proofs.Chains.{first_passes, append-passed, append-refused, append_left, append_right}
use Rattle.error.proofs.Places.{each-offends, each-passes}
use Rattle.error.specs.Checks.{wrong_input, bad_value, finite_score_of}
use Rattle.setup.specs.Lent.{Lent}
use Rattle.setup.specs.declared.Setup.{Setup}
use Rattle.setup.specs.Setups.{counted_projections_of}
use Rattle.setup_tables.specs.Checks.{setup_checks, setup_checks_but_entries}
use Rattle.setup_tables.proofs.Accepted.{AcceptedSetup, setup-accepted, but-entries-usable, but-entries_long, but-entries-rest}
use Rattle.rounding.specs.Rows.{projected}
use Rattle.qjl_rows.specs.Inner.{Rowed}
use Rattle.qjl.specs.Sketch.{vector_checks}
use Rattle.bitpack.specs.Signs.{bad_sketch_sign}
use Rattle.radius.specs.Radii.{bad_radius}
use Rattle.qjl_rows.proofs.FiniteSums.{matrix_finite, query-finite}
use Rattle.qjl_residual.specs.Residual.{residual_of}
use Rattle.qjl.specs.Score.{signed_score}

-- ---- the checks of a vector

module _ (s : Setup) (l : Lent) (vector : List Float) where
  pub vector-refused : {number place : ℕ} → first (setup_checks s l) accepted ≡ refused number place
      → first (vector_checks s l vector) accepted ≡ refused number place
  vector-refused e = append-refused (setup_checks s l) (wrong_input (length vector) s.dim ∷ each bad_value 11 vector ∷ []) tt accepted e

  vector-rest : first (setup_checks s l) accepted ≡ accepted
      → first (vector_checks s l vector) accepted ≡ first (wrong_input (length vector) s.dim ∷ each bad_value 11 vector ∷ []) accepted
  vector-rest e = append-passed (setup_checks s l) (wrong_input (length vector) s.dim ∷ each bad_value 11 vector ∷ []) tt accepted e

  pub vector-length : first (setup_checks s l) accepted ≡ accepted → (length vector ≡ s.dim → ⊥)
      → first (vector_checks s l vector) accepted ≡ refused 5 (length vector)
  vector-length e h = vector-rest e ∙ simp (ne_eqb (length vector) s.dim h)

  pub vector-entry : {i : ℕ} → first (setup_checks s l) accepted ≡ accepted → length vector ≡ s.dim → i ≡ place bad_value vector → i < length vector
      → first (vector_checks s l vector) accepted ≡ refused 11 i
  vector-entry e h p l = vector-rest e ∙ simp (eq-eqb (length vector) s.dim h, each-offends bad_value vector p l, p)

  pub vector-passed : {i : ℕ} → first (setup_checks s l) accepted ≡ accepted → length vector ≡ s.dim → i ≡ place bad_value vector → length vector ≤ i
      → first (vector_checks s l vector) accepted ≡ accepted
  vector-passed e h p l = vector-rest e ∙ simp (eq-eqb (length vector) s.dim h, each-passes bad_value vector p l)

-- ---- a score from a projected query

module _ (m : ℕ) (values : List Float) (signs : List ℤ) (norm : Float) where
  pub signed-entry : {i : ℕ} → i ≡ place bad_value values → i < length values → signed_score m values signs norm ≡ refused 11 i
  unfolding signed_score
  signed-entry p l = simp (each-offends bad_value values p l, p)

  module _ {i : ℕ} (p : i ≡ place bad_value values) (l : length values ≤ i) where
    pub signed-length : (length signs ≡ m → ⊥) → signed_score m values signs norm ≡ refused 5 (length signs)
    unfolding signed_score
    signed-length h = simp (each-passes bad_value values p l, ne_eqb (length signs) m h)

    module _ (h : length signs ≡ m) where
      pub signed-sign : {j : ℕ} → j ≡ place bad_sketch_sign signs → j < length signs → signed_score m values signs norm ≡ refused 10 j
      unfolding signed_score
      signed-sign q k = simp (each-passes bad_value values p l, eq-eqb (length signs) m h, each-offends bad_sketch_sign signs q k, q)

      module _ {j : ℕ} (q : j ≡ place bad_sketch_sign signs) (k : length signs ≤ j) where
        pub signed-norm : bad_radius norm ≡ true → signed_score m values signs norm ≡ refused 23 0
        unfolding signed_score
        signed-norm bad = simp (each-passes bad_value values p l, eq-eqb (length signs) m h, each-passes bad_sketch_sign signs q k, bad)

        pub signed-judged : bad_radius norm ≡ false → signed_score m values signs norm ≡ finite_score_of (residual_of m norm values signs)
        unfolding signed_score
        signed-judged good = simp (each-passes bad_value values p l, eq-eqb (length signs) m h, each-passes bad_sketch_sign signs q k, good)

-- ---- what a vector has whose checks all pass

module _ (s : Setup) (l : Lent) (vector : List Float) (passed : first (vector_checks s l vector) accepted ≡ accepted) where
  pub vector-setup : AcceptedSetup s l
  vector-setup = setup-accepted s l (append_left (setup_checks s l) (wrong_input (length vector) s.dim ∷ each bad_value 11 vector ∷ []) accepted passed)

  pub vector-rowed : Rowed s.dim l.matrix vector (counted_projections_of s)
  vector-rowed =
      let k = first_passes (wrong_input (length vector) s.dim ∷ each bad_value 11 vector ∷ []) tt (append_right (setup_checks s l) (wrong_input (length vector) s.dim ∷ each bad_value 11 vector ∷ []) accepted passed) in
      record { query_long = eqb-true (length vector) s.dim (not-false _ k.0); matrix_long = vector-setup.matrix_long }

  -- an output of as many entries as projections count
  pub vector-ready : {counted room : ℕ} → counted ≡ counted_projections_of s → room ≡ counted → Rowed s.dim l.matrix vector room × (room ≤ 4096)
  vector-ready {counted} {room} e f =
      subst (λ (m : ℕ). Rowed s.dim l.matrix vector m × (m ≤ 4096)) (sym (f ∙ e)) (vector-rowed, vector-setup.usable.most_projections)

-- ---- what finite projections say of a vector

module _ (s : Setup) (l : Lent) (vector : List Float) (room : ℕ) (passed : first (setup_checks_but_entries s l) accepted ≡ accepted) where
  pub shaped-ready : {counted : ℕ} → length vector ≡ s.dim → counted ≡ counted_projections_of s → room ≡ counted → Rowed s.dim l.matrix vector room × (room ≤ 4096)
  shaped-ready {counted} e c f =
      subst (λ (m : ℕ). Rowed s.dim l.matrix vector m × (m ≤ 4096)) (sym (f ∙ c))
      (record { query_long = e; matrix_long = but-entries_long s l passed }, (but-entries-usable s l passed).most_projections)

  -- the matrix and the vector are finite
  pub shaped-passed : Rowed s.dim l.matrix vector room → 0 < room
      → ltb (place bad_value (projected s.dim room l.matrix vector)) (length (projected s.dim room l.matrix vector)) ≡ false
      → first (vector_checks s l vector) accepted ≡ accepted
  shaped-passed rowed above clean =
      let entries : first (setup_checks s l) accepted ≡ accepted = but-entries-rest s l passed ∙ simp (matrix_finite s.dim room l.matrix vector rowed clean) in
      let whole = query-finite s.dim room l.matrix vector rowed clean above in
      vector-passed s l vector {i = place bad_value vector} entries rowed.query_long refl (ltb-false _ _ whole)
