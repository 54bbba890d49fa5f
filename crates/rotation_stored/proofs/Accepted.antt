-- What the checks of a stored rotation leave of a dimension, its matrix and the lengths, and the answers of the two calls from what the checks say. Assumes nothing.
use Prim.Native.Nat.{ℕ, ◌*◌, ◌≤◌, ◌<◌}
use mathlib.Core.Path.{◌≡◌, sym, ap, ◌∙◌}
use mathlib.Core.Bool.{false}
use mathlib.Core.List.{List}
use borrow.Author.Tests.{eqb-true, ltb-false, not-false}
use lib.ListN.{length, get_or}
use lib.Ieee.{Float, nan}
use Rattle.error.specs.Answer.{value, refused, first, accepted}
use Rattle.error.specs.Checks.{bad_value}
use Rattle.error.proofs.Chains.{first_passes, first-passed, first-refused}
use Rattle.error.proofs.Places.{each-clear}
use Rattle.rounding.specs.Rows.{projected}
use Rattle.rounding.proofs.Butterflies.{length-tabled}
use Rattle.rounding.proofs.Rows.{length-projected}
use Rattle.qjl_rows.specs.Projection.{project_of}
use Rattle.qjl_rows.proofs.Answers.{project-ready}
use Rattle.rotation_stored.specs.Checks.{stored_checks}
use Rattle.rotation_stored.specs.Stored.{stored_rotated, stored_unrotated, stored_apply_of, stored_apply_inverse_of}

pub record Storable (n : ℕ) (matrix : List Float) (long room : ℕ) : Type 0 where
  pub small : n ≤ 512
  pub matrix_long : length matrix ≡ n * n
  pub matrix_good : (i : ℕ) → i < length matrix → bad_value (get_or matrix i nan) ≡ false
  pub input_long : long ≡ n
  pub output_long : room ≡ n

pub storable : (n : ℕ) (matrix : List Float) (long room : ℕ) → first (stored_checks n matrix long room) accepted ≡ accepted → Storable n matrix long room
storable n matrix long room e =
    let all = first_passes (stored_checks n matrix long room) tt e in
    record {
      small = ltb-false 512 n all.1.1.0;
      matrix_long = eqb-true (length matrix) (n * n) (not-false _ all.1.1.1.0);
      matrix_good = each-clear bad_value matrix nan all.1.1.1.1.0;
      input_long = eqb-true long n (not-false _ all.1.1.1.1.1.0);
      output_long = eqb-true room n (not-false _ all.1.1.1.1.1.1.0);
    }

-- ---- the lengths

pub length-stored : (n : ℕ) (matrix xs : List Float) → length (stored_rotated n matrix xs) ≡ n
unfolding stored_rotated
length-stored n matrix xs = length-tabled _ 0 n

pub length-unstored : (n : ℕ) (matrix xs : List Float) → length (stored_unrotated n matrix xs) ≡ n
unfolding stored_unrotated
length-unstored n matrix xs = length-projected n n matrix xs

-- ---- the answers

module _ (n : ℕ) (matrix xs : List Float) (room : ℕ) where
  pub stored_refused : {number place : ℕ} → first (stored_checks n matrix (length xs) room) accepted ≡ refused number place → stored_apply_of n matrix xs room ≡ refused number place
  unfolding stored_apply_of
  stored_refused e = first-refused (stored_checks n matrix (length xs) room) _ e

  pub stored-value : first (stored_checks n matrix (length xs) room) accepted ≡ accepted → stored_apply_of n matrix xs room ≡ value (stored_rotated n matrix xs)
  unfolding stored_apply_of
  stored-value e = first-passed (stored_checks n matrix (length xs) room) _ e

  pub stored-inverse-refused : {number place : ℕ} → first (stored_checks n matrix (length xs) room) accepted ≡ refused number place → stored_apply_inverse_of n matrix xs room ≡ refused number place
  unfolding stored_apply_inverse_of
  stored-inverse-refused e = first-refused (stored_checks n matrix (length xs) room) _ e

  pub stored-inverse-value : first (stored_checks n matrix (length xs) room) accepted ≡ accepted → stored_apply_inverse_of n matrix xs room ≡ value (stored_unrotated n matrix xs)
  unfolding stored_apply_inverse_of
  stored-inverse-value e = first-passed (stored_checks n matrix (length xs) room) _ e

  -- after the checks the projection refuses nothing, and is the inverse
  pub stored-inverse-projects : first (stored_checks n matrix (length xs) room) accepted ≡ accepted → project_of n matrix xs room ≡ stored_apply_inverse_of n matrix xs room
  unfolding stored_unrotated
  stored-inverse-projects e =
      let fit = storable n matrix (length xs) room e in
      project-ready n matrix xs room fit.output_long (record { query_long = fit.input_long; matrix_long = fit.matrix_long })
      ∙ ap (λ (m : ℕ). value (projected n m matrix xs)) fit.output_long
      ∙ sym (stored-inverse-value e)
