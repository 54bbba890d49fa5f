-- A query that is rotated and projected and not judged: what its checks leave, the answer and both outputs, and that where all values are finite, no check of the query
-- offends. Assumes nothing.
use Prim.Native.Nat.{ℕ, ◌*◌}
use mathlib.Core.Path.{◌≡◌, refl, sym, ap, ◌∙◌}
use mathlib.Core.Bool.{true, false, not}
use mathlib.Core.List.{List, [], ◌∷◌, ◌++◌}
use borrow.Author.Tests.{eqb-true, not-true, not-false, eq-eqb, ne_eqb}
use lib.Dec.{ltb}
use lib.ListN.{length}
use lib.Ieee.{Float}
use Rattle.error.specs.Answer.{Answer, value, refused, withdrawn, first, place, accepted, done, after, clear}
use Rattle.error.specs.Checks.{bad_value, wrong_input, wrong_room}
use Rattle.error.proofs.Answers.{done_refused, done-value, after-refused, after-value}
use Rattle.error.proofs.Chains.{first-passed, first-refused, first_passes, first-accepts, first_done, append-passed, append-refused, append_left, append_right}
use Rattle.setup.specs.Lent.{Lent}
use Rattle.setup.specs.declared.Setup.{Setup}
use Rattle.setup.specs.declared.RotationKind.{RotationKind}
use Rattle.setup.specs.declared.RotationKind.TheVariants.{FastHadamard, Stored}
use Rattle.setup.specs.Setups.{by_rotation, counted_projections_of, matrix_needed}
use Rattle.setup.specs.Checks.{scalar_checks}
use Rattle.setup_tables.specs.Checks.{bad_rotation_entry, direction_checks, setup_checks, setup_checks_but_entries}
use Rattle.setup_tables.proofs.Accepted.{but-entries-rest}
use Rattle.rotation.specs.Checks.{rotation_checks}
use Rattle.rotation_stored.specs.Checks.{stored_checks}
use Rattle.setup_rotation.specs.Rotations.{rotated_by, turn_checks, rotate_of}
use Rattle.setup_rotation.proofs.Rotations.{rotate-value}
use Rattle.rounding.specs.Rows.{projected}
use Rattle.qjl_rows.specs.Projection.{project_of}
use Rattle.qjl_rows.proofs.Answers.{project-ready}
use Rattle.qjl_rows.specs.Inner.{Rowed}
use Rattle.qjl_rows.proofs.FiniteSums.{matrix_finite}
use Rattle.turbo_turn.specs.Turning.{space_checks, turned_checks, turn_rotated_of, turn_projected_of}
use Rattle.turbo_turn.proofs.FiniteTurn.{turned-finite}

-- ---- what the checks leave

-- the rotation's own, by its kind
record Turnable (k : RotationKind) (n : ℕ) (entries : List Float) (long room : ℕ) : Type 0 where
  entries_long : length entries ≡ by_rotation k n (n * n)
  entries_good : ltb (place (bad_rotation_entry k) entries) (length entries) ≡ false
  input_long : long ≡ n
  output_long : room ≡ n

turnable-at : (k : RotationKind) (n : ℕ) (entries : List Float) (long room : ℕ) → first (by_rotation k (rotation_checks n entries long room) (stored_checks n entries long room)) accepted ≡ accepted → Turnable k n entries long room
turnable-at FastHadamard n entries long room e =
    let h = (first_passes (rotation_checks n entries long room) tt e).1.1.1 in
    record {
      entries_long = eqb-true _ _ (not-false _ h.0);
      entries_good = h.1.0;
      input_long = eqb-true _ _ (not-false _ h.1.1.0);
      output_long = eqb-true _ _ (not-false _ h.1.1.1.0);
    }
turnable-at Stored n entries long room e =
    let h = (first_passes (stored_checks n entries long room) tt e).1.1.1 in
    record {
      entries_long = eqb-true _ _ (not-false _ h.0);
      entries_good = h.1.0;
      input_long = eqb-true _ _ (not-false _ h.1.1.0);
      output_long = eqb-true _ _ (not-false _ h.1.1.1.0);
    }

-- ---- the checks before the rotation's, case by case

module _ (s : Setup) (directions : List Float) (entries space : ℕ) where
  pub space-scalars : {number place : ℕ} → first (scalar_checks s) accepted ≡ refused number place → first (space_checks s directions entries space) accepted ≡ refused number place
  space-scalars e = append-refused (scalar_checks s) (direction_checks s directions ++ (wrong_input entries (matrix_needed s) ∷ wrong_room space (counted_projections_of s) ∷ [])) tt accepted e

  module _ (scalars : first (scalar_checks s) accepted ≡ accepted) where
    space-tables : first (space_checks s directions entries space) accepted ≡ first (direction_checks s directions ++ (wrong_input entries (matrix_needed s) ∷ wrong_room space (counted_projections_of s) ∷ [])) accepted
    space-tables = append-passed (scalar_checks s) (direction_checks s directions ++ (wrong_input entries (matrix_needed s) ∷ wrong_room space (counted_projections_of s) ∷ [])) tt accepted scalars

    pub space-directions : {number place : ℕ} → first (direction_checks s directions) accepted ≡ refused number place → first (space_checks s directions entries space) accepted ≡ refused number place
    space-directions e = space-tables ∙ append-refused (direction_checks s directions) (wrong_input entries (matrix_needed s) ∷ wrong_room space (counted_projections_of s) ∷ []) tt accepted e

    module _ (table : first (direction_checks s directions) accepted ≡ accepted) where
      space-lengths : first (space_checks s directions entries space) accepted ≡ first (wrong_input entries (matrix_needed s) ∷ wrong_room space (counted_projections_of s) ∷ []) accepted
      space-lengths = space-tables ∙ append-passed (direction_checks s directions) (wrong_input entries (matrix_needed s) ∷ wrong_room space (counted_projections_of s) ∷ []) tt accepted table

      pub space-entries : (entries ≡ matrix_needed s → ⊥) → first (space_checks s directions entries space) accepted ≡ refused 5 entries
      space-entries h = space-lengths ∙ simp (ne_eqb entries (matrix_needed s) h)

      pub space-room : entries ≡ matrix_needed s → (space ≡ counted_projections_of s → ⊥) → first (space_checks s directions entries space) accepted ≡ refused 6 (counted_projections_of s)
      space-room e h = space-lengths ∙ simp (eq-eqb entries (matrix_needed s) e, ne_eqb space (counted_projections_of s) h)

      pub space-passed : entries ≡ matrix_needed s → space ≡ counted_projections_of s → first (space_checks s directions entries space) accepted ≡ accepted
      space-passed e f = space-lengths ∙ simp (eq-eqb entries (matrix_needed s) e, eq-eqb space (counted_projections_of s) f)

  -- what they leave
  pub space-matrix : first (space_checks s directions entries space) accepted ≡ accepted → (entries ≡ matrix_needed s) × (space ≡ counted_projections_of s)
  space-matrix e = let k = (first_passes (space_checks s directions entries space) tt e).1.1.1.1.1.1.1 in (eqb-true _ _ (not-false _ k.0), eqb-true _ _ (not-false _ k.1.0))

-- ---- all of them

module _ (s : Setup) (l : Lent) (query : List Float) (room space : ℕ) where
  pub turned-unspaced : {number place : ℕ} → first (space_checks s l.directions (length l.matrix) space) accepted ≡ refused number place → first (turned_checks s l query room space) accepted ≡ refused number place
  turned-unspaced e = append-refused (space_checks s l.directions (length l.matrix) space) (turn_checks s l.rotation (length query) room) tt accepted e

  -- the rotation decides
  pub turned-decided : first (space_checks s l.directions (length l.matrix) space) accepted ≡ accepted → done (rotate_of s l.rotation query room) ≡ first (turned_checks s l query room space) accepted
  unfolding rotate_of
  turned-decided e =
      first_done (turn_checks s l.rotation (length query) room) (rotated_by s l.rotation query)
      ∙ sym (append-passed (space_checks s l.directions (length l.matrix) space) (turn_checks s l.rotation (length query) room) tt accepted e)

  -- what they leave
  module _ (passed : first (turned_checks s l query room space) accepted ≡ accepted) where
    spaced : first (space_checks s l.directions (length l.matrix) space) accepted ≡ accepted
    spaced = append_left (space_checks s l.directions (length l.matrix) space) (turn_checks s l.rotation (length query) room) accepted passed

    turning : first (turn_checks s l.rotation (length query) room) accepted ≡ accepted
    turning = append_right (space_checks s l.directions (length l.matrix) space) (turn_checks s l.rotation (length query) room) accepted passed

    turnable : Turnable s.kind s.dim l.rotation (length query) room
    turnable = turnable-at s.kind s.dim l.rotation (length query) room turning

    pub turned-rotates : rotate_of s l.rotation query room ≡ value (rotated_by s l.rotation query)
    turned-rotates = rotate-value s l.rotation query room turning

    pub turned-rowed : Rowed s.dim l.matrix query (counted_projections_of s)
    turned-rowed = record { query_long = turnable.input_long; matrix_long = (space-matrix s l.directions (length l.matrix) space spaced).0 }

    pub turned-projects : project_of s.dim l.matrix query space ≡ value (projected s.dim (counted_projections_of s) l.matrix query)
    turned-projects =
        let e = (space-matrix s l.directions (length l.matrix) space spaced).1 in
        project-ready s.dim l.matrix query space e turned-rowed ∙ ap (λ (k : ℕ). value (projected s.dim k l.matrix query)) e

    -- ---- for those who call `turn_query`

    pub turned-rotated : turn_rotated_of s l query room space ≡ value (rotated_by s l.rotation query)
    unfolding turn_rotated_of
    turned-rotated = first-passed (turned_checks s l query room space) _ passed

    pub turned-projected : turn_projected_of s l query room space ≡ value (projected s.dim (counted_projections_of s) l.matrix query)
    unfolding turn_projected_of
    turned-projected = first-passed (turned_checks s l query room space) _ passed

    pub turned-long : length query ≡ s.dim
    turned-long = turnable.input_long

    -- all checks of the setup pass but those of the projection matrix's entries
    pub turned-setup : first (setup_checks_but_entries s l) accepted ≡ accepted
    turned-setup =
        let k = first_passes (space_checks s l.directions (length l.matrix) space) tt spaced in
        let t = k.1.1.1.1.1 in
        first-accepts (setup_checks_but_entries s l) accepted
        (k.0, (k.1.0, (k.1.1.0, (k.1.1.1.0, (k.1.1.1.1.0, (ap not (eq-eqb _ _ turnable.entries_long), (t.0, (t.1.1.0, (turnable.entries_good, (t.1.0, tt))))))))))

    -- finite projections tell of a finite matrix
    pub turned-matrix : clear bad_value (projected s.dim (counted_projections_of s) l.matrix query) ≡ true → first (setup_checks s l) accepted ≡ accepted
    turned-matrix clean = but-entries-rest s l turned-setup ∙ simp (matrix_finite s.dim (counted_projections_of s) l.matrix query turned-rowed (not-true _ clean))

    -- and finite rotated values of a finite query
    pub turned-query : clear bad_value (rotated_by s l.rotation query) ≡ true → clear bad_value query ≡ true
    turned-query clean = ap not (turned-finite s.kind s.dim l.rotation query turnable.entries_long turnable.input_long (not-true _ clean))

  -- a call that says it is done has passed its checks
  pub turned-done : {said : Answer (Unit {0})} → said ≡ done (turn_rotated_of s l query room space) → said ≡ accepted → first (turned_checks s l query room space) accepted ≡ accepted
  unfolding turn_rotated_of
  turned-done e is = sym (first_done (turned_checks s l query room space) (rotated_by s l.rotation query)) ∙ sym e ∙ is

-- ---- the answer and both outputs

-- three facts at once are the clauses of a contract, under their names
pub said_rotated_projected : {A B C : Type 0} → A × (B × C) → record { said : A; rotated : B; projected : C }
said_rotated_projected p = record { said = p.0; rotated = p.1.0; projected = p.1.1 }

-- memory is kept where a call is not done
pub done-keeps : {A : Type 0} (a : Answer A) (old : A) {number place : ℕ} → done a ≡ refused number place → after a old ≡ old
done-keeps (value x) old e = cc
done-keeps (refused n p) old e = refl
done-keeps withdrawn old e = refl

module _ (s : Setup) (l : Lent) (query rotated sums : List Float) where
  abbrev Outputs : Answer (Unit {0}) → List Float → List Float → Type 0
  Outputs said new also =
      (said ≡ done (turn_rotated_of s l query (length rotated) (length sums)))
      × ((new ≡ after (turn_rotated_of s l query (length rotated) (length sums)) rotated)
      × (also ≡ after (turn_projected_of s l query (length rotated) (length sums)) sums))

  pub turn-refused : {number place : ℕ} {new : List Float} → first (turned_checks s l query (length rotated) (length sums)) accepted ≡ refused number place → new ≡ rotated → Outputs (refused number place) new sums
  unfolding turn_rotated_of turn_projected_of
  turn-refused e n =
      let cs = turned_checks s l query (length rotated) (length sums) in
      let one = first-refused cs (value (rotated_by s l.rotation query)) e in
      let two = first-refused cs (value (projected s.dim (counted_projections_of s) l.matrix query)) e in
      (sym (done_refused _ one), (n ∙ sym (after-refused _ rotated one), sym (after-refused _ sums two)))

  pub turn-made : {said : Answer (Unit {0})} {new also : List Float} → first (turned_checks s l query (length rotated) (length sums)) accepted ≡ accepted → said ≡ accepted
      → new ≡ rotated_by s l.rotation query → also ≡ projected s.dim (counted_projections_of s) l.matrix query
      → Outputs said new also
  turn-made e is n m =
      let one = turned-rotated s l query (length rotated) (length sums) e in
      let two = turned-projected s l query (length rotated) (length sums) e in
      (is ∙ sym (done-value _ one), (n ∙ sym (after-value _ rotated one), m ∙ sym (after-value _ sums two)))
