-- The sketch, case by case, from what its checks find. Assumes nothing.
use Prim.Native.Nat.{ℕ, ◌<◌}
use mathlib.Core.Path.{◌≡◌, sym, ap, ◌∙◌, subst}
use mathlib.Core.Bool.{false}
use mathlib.Core.List.{List, [], ◌∷◌, map}
use borrow.Author.Tests.{eq-eqb, ne_eqb}
use lib.Dec.{ltb}
use lib.IntN.{ℤ}
use lib.ListN.{length}
use lib.Ieee.{Float}
use Rattle.error.specs.Answer.{Answer, value, refused, first, place, accepted, done, after}
use Rattle.error.proofs.Chains.{append-passed, append-refused}
use Rattle.error.specs.Checks.{wrong_room, bad_value}
use Rattle.setup.specs.Lent.{Lent}
use Rattle.setup.specs.declared.Setup.{Setup}
use Rattle.setup.specs.Setups.{counted_projections_of}
use Rattle.setup_tables.specs.Checks.{setup_checks_but_entries}
use Rattle.rounding.specs.Rows.{projected}
use Rattle.qjl.specs.Sketch.{sign_of_sum, vector_checks, sketch_of}
use Rattle.qjl_rows.proofs.Rows.{above_zero}
use Rattle.qjl.proofs.Answers.{shaped-ready, shaped-passed}

-- ---- a sketch

module _ (s : Setup) (l : Lent) (vector : List Float) (room : ℕ) where
  pub sketch-refused : {number place : ℕ} → first (vector_checks s l vector) accepted ≡ refused number place
      → sketch_of s l vector room ≡ refused number place
  unfolding sketch_of
  sketch-refused e = append-refused (vector_checks s l vector) (wrong_room room (counted_projections_of s) ∷ []) tt _ e

  sketch-rest : first (vector_checks s l vector) accepted ≡ accepted
      → sketch_of s l vector room
      ≡ first (wrong_room room (counted_projections_of s) ∷ []) (value (map sign_of_sum (projected s.dim (counted_projections_of s) l.matrix vector)))
  unfolding sketch_of
  sketch-rest e = append-passed (vector_checks s l vector) (wrong_room room (counted_projections_of s) ∷ []) tt _ e

  pub sketch-room : {counted : ℕ} → first (vector_checks s l vector) accepted ≡ accepted → counted ≡ counted_projections_of s → (room ≡ counted → ⊥)
      → sketch_of s l vector room ≡ refused 6 counted
  sketch-room e c h = sketch-rest e ∙ simp (ne_eqb room (counted_projections_of s) (λ f. h (f ∙ sym c))) (ap (refused 6) (sym c))

  pub sketch-value : {counted : ℕ} → first (vector_checks s l vector) accepted ≡ accepted → counted ≡ counted_projections_of s → room ≡ counted
      → sketch_of s l vector room ≡ value (map sign_of_sum (projected s.dim room l.matrix vector))
  sketch-value e c f =
      let h = f ∙ c in
      sketch-rest e ∙ simp (eq-eqb room (counted_projections_of s) h) (ap (λ (k : ℕ). value (map sign_of_sum (projected s.dim k l.matrix vector))) (sym h))

module _ (s : Setup) (l : Lent) (vector : List Float) where
  -- after a try that left the output as it was
  pub sketch-again : (mid old new : List ℤ) (said : Answer (Unit {0})) → mid ≡ old
      → (said ≡ done (sketch_of s l vector (length mid))) × (new ≡ after (sketch_of s l vector (length mid)) mid)
      → (said ≡ done (sketch_of s l vector (length old))) × (new ≡ after (sketch_of s l vector (length old)) old)
  sketch-again mid old new said e h =
      subst (λ (xs : List ℤ). (said ≡ done (sketch_of s l vector (length xs))) × (new ≡ after (sketch_of s l vector (length xs)) xs)) e h

-- ---- a sketch from finite projections

module _ (s : Setup) (l : Lent) (vector : List Float) (room : ℕ) (passed : first (setup_checks_but_entries s l) accepted ≡ accepted) where
  pub shaped-value : {counted : ℕ} → length vector ≡ s.dim → counted ≡ counted_projections_of s → room ≡ counted → (counted ≡ 0 → ⊥)
      → ltb (place bad_value (projected s.dim room l.matrix vector)) (length (projected s.dim room l.matrix vector)) ≡ false
      → sketch_of s l vector room ≡ value (map sign_of_sum (projected s.dim room l.matrix vector))
  shaped-value {counted} e c f some clean =
      let above : 0 < room = rw f (above_zero counted some) in
      sketch-value s l vector room (shaped-passed s l vector room passed (shaped-ready s l vector room passed e c f).0 above clean) c f
