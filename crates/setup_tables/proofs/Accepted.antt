-- What a setup has whose checks all pass, and what follows from them. Proofs alone speak of these. Assumes nothing.
use Prim.Native.Nat.{ℕ, ◌<◌}
use mathlib.Core.Path.{◌≡◌}
use mathlib.Core.Bool.{true, false}
use mathlib.Core.List.{List}
use borrow.Author.Tests.{eqb-true, not-false}
use lib.ListN.{length, get_or}
use lib.Ieee.{Float, nan}
use lib.Ieee.Scale.{finite}
use Rattle.error.specs.Answer.{first, accepted}
use Rattle.error.specs.Checks.{bad_value}
use Rattle.error.proofs.Chains.{first_passes, first-accepts, append_left, append_right, append-passed}
use Rattle.error.proofs.Places.{each-clear}
use Rattle.error.proofs.Finite.{passes-finite}
use Rattle.setup.specs.declared.Setup.{Setup}
use Rattle.setup.specs.Lent.{Lent}
use Rattle.setup.specs.Setups.{rotation_needed, directions_needed, matrix_needed}
use Rattle.setup.specs.Checks.{scalar_checks}
use Rattle.setup.proofs.Usable.{Usable}
use Rattle.setup.proofs.Scalars.{scalars-usable}
use Rattle.setup_tables.specs.Checks.{bad_direction, bad_rotation_entry, table_checks, table_checks_but_entries, entry_checks, setup_checks, setup_checks_but_entries, direction_checks}

-- the table of directions
pub record Directions (s : Setup) (directions : List Float) : Type 0 where
  pub long : length directions ≡ directions_needed s
  pub good : (i : ℕ) → i < length directions → bad_direction (get_or directions i nan) ≡ false

-- the scalars and the three tables
pub record AcceptedSetup (s : Setup) (l : Lent) : Type 0 where
  pub usable : Usable s
  pub rotation_long : length l.rotation ≡ rotation_needed s
  pub rotation_good : (i : ℕ) → i < length l.rotation → bad_rotation_entry s.kind (get_or l.rotation i nan) ≡ false
  pub table : Directions s l.directions
  pub matrix_long : length l.matrix ≡ matrix_needed s
  pub matrix_finite : (i : ℕ) → i < length l.matrix → finite (get_or l.matrix i nan) ≡ true

-- ---- where all pass

module _ (s : Setup) (l : Lent) where
  pub tables-accepted : Usable s → first (table_checks s l) accepted ≡ accepted → AcceptedSetup s l
  tables-accepted usable e =
      let k = first_passes (table_checks s l) tt e in
      record {
        usable = usable;
        rotation_long = eqb-true (length l.rotation) (rotation_needed s) (not-false _ k.0);
        rotation_good = each-clear (bad_rotation_entry s.kind) l.rotation nan k.1.1.1.0;
        table = record {
          long = eqb-true (length l.directions) (directions_needed s) (not-false _ k.1.0);
          good = each-clear bad_direction l.directions nan k.1.1.1.1.0;
        };
        matrix_long = eqb-true (length l.matrix) (matrix_needed s) (not-false _ k.1.1.0);
        matrix_finite = λ i h. passes-finite _ (each-clear bad_value l.matrix nan k.1.1.1.1.1.0 i h);
      }

  -- the checks of the scalars alone pass too
  pub setup-scalars : first (setup_checks s l) accepted ≡ accepted → first (scalar_checks s) accepted ≡ accepted
  setup-scalars e = append_left (scalar_checks s) (table_checks s l) accepted e

  pub setup-accepted : first (setup_checks s l) accepted ≡ accepted → AcceptedSetup s l
  setup-accepted e = tables-accepted (scalars-usable s (setup-scalars e)) (append_right (scalar_checks s) (table_checks s l) accepted e)

  -- and so do those of the directions alone
  pub setup-directions : first (setup_checks s l) accepted ≡ accepted → first (direction_checks s l.directions) accepted ≡ accepted
  setup-directions e =
      let k = first_passes (table_checks s l) tt (append_right (scalar_checks s) (table_checks s l) accepted e) in
      first-accepts (direction_checks s l.directions) accepted (k.1.0, (k.1.1.1.1.0, tt))

-- ---- where all pass but the matrix's entries, which are still to be checked

module _ (s : Setup) (l : Lent) (passed : first (setup_checks_but_entries s l) accepted ≡ accepted) where
  pub but-entries-usable : Usable s
  but-entries-usable = scalars-usable s (append_left (scalar_checks s) (table_checks_but_entries s l) accepted passed)

  pub but-entries_long : length l.matrix ≡ matrix_needed s
  but-entries_long =
      let k = first_passes (table_checks_but_entries s l) tt (append_right (scalar_checks s) (table_checks_but_entries s l) accepted passed) in
      eqb-true (length l.matrix) (matrix_needed s) (not-false _ k.1.1.0)

  pub but-entries-rest : first (setup_checks s l) accepted ≡ first (entry_checks l.matrix) accepted
  but-entries-rest = append-passed (setup_checks_but_entries s l) (entry_checks l.matrix) tt accepted passed
