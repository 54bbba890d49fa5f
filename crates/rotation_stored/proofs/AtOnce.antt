-- Sums that are all finite tell of a finite matrix: a sum that is finite has finite terms only, and each entry of the matrix is a term's. So where the dimension and
-- the lengths pass, the rotation is answered. Assumes nothing.
use Prim.Native.Nat.{ℕ, zero, suc, ◌+◌, ◌*◌, ◌/◌, ◌%◌, ◌<◌}
use mathlib.Core.Path.{◌≡◌, refl, sym, ap, ◌∙◌, subst}
use mathlib.Core.Bool.{Bool, true, false, not, true≢false, false≢true}
use mathlib.Core.List.{List}
use native.Mathlib.Nat.{mod-lt, div-add-mod', div-lt_iff_lt-mul}
use native.Mathlib.Omega.{arith}
use borrow.Author.Tests.{eq-eqb}
use lib.Dec.{T, ltb}
use lib.ListN.{length, get_or}
use lib.Ieee.{Float, nan}
use lib.Ieee.Scale.{finite}
use Rattle.error.specs.Answer.{Answer, value, done, after, first, place, accepted}
use Rattle.error.specs.Checks.{bad_value}
use Rattle.error.specs.Inner.{AtOnce}
use Rattle.error.proofs.Chains.{first-accepts}
use Rattle.error.proofs.Finite.{finite-passes, passes-finite}
use Rattle.error.proofs.Places.{each-clear, each_none}
use Rattle.rounding.proofs.Partial.{dot-finite}
use Rattle.rounding.specs.Sums.{dot}
use Rattle.qjl_rows.specs.Inner.{Rowed}
use lib.Ieee.Bits.{is_true}
use Rattle.qjl_rows.proofs.FiniteSums.{told, matrix_finite}
use Rattle.rotation_stored.specs.Checks.{stored_checks}
use Rattle.rotation_stored.specs.Stored.{row_of, stored_rotated, stored_unrotated, stored_apply_of, stored_apply_inverse_of}
use Rattle.rotation_stored.specs.Inner.{Shaped, Judged}
use Rattle.rotation_stored.proofs.Accepted.{length-stored, stored-value, stored-inverse-value}
use Rattle.rotation_stored.proofs.Columns.{length-row, row-entry, stored_entry}

-- ---- values that are judged

pub judged-left : (values old : List Float) → Judged values old false old
judged-left values old = record { clean = λ e. absurd (false≢true e); copied = λ e. absurd (false≢true e); kept = λ e. refl }

pub judged-made : (values old new : List Float) → ltb (place bad_value values) (length values) ≡ false → new ≡ values → Judged values old true new
judged-made values old new c e = record { clean = λ t. c; copied = λ t. e; kept = λ t. absurd (true≢false t) }

-- the same values by another name
pub judged-same : {values others old new : List Float} {wrote : Bool} → values ≡ others → Judged values old wrote new → Judged others old wrote new
judged-same {values} {others} {old} {new} {wrote} e j = subst (λ (vs : List Float). Judged vs old wrote new) e j

-- ---- a finite matrix

module _ (n : ℕ) (matrix xs : List Float) (long : length matrix ≡ n * n) (input : length xs ≡ n) (clean : ltb (place bad_value (stored_rotated n matrix xs)) (length (stored_rotated n matrix xs)) ≡ false) where
  row-finite : (i : ℕ) → i < n → T (finite (dot (row_of n matrix i) xs))
  row-finite i l =
      let within : i < length (stored_rotated n matrix xs) = rw (length-stored n matrix xs) l in
      subst (λ (x : Float). T (finite x)) (stored_entry n matrix xs i l) (told _ (passes-finite _ (each-clear bad_value (stored_rotated n matrix xs) nan clean i within)))

  -- the entry of row i and column j
  cell-finite : (i j : ℕ) → i < n → j < n → T (finite (get_or matrix (j * n + i) nan))
  cell-finite i j l c =
      subst (λ (x : Float). T (finite x)) (row-entry n matrix i j c)
      (dot-finite _ (row_of n matrix i) xs (row-finite i l) j (rw (length-row n matrix i) c) (omega (arith, input))).0

  above : (k : ℕ) → k < length matrix → 0 < n
  above k h = some n long
    where
      some : (m : ℕ) → length matrix ≡ m * m → 0 < m
      some zero e = absurd (omega (arith, e))
      some (suc m) e = omega arith

  pub rows-finite : ltb (place bad_value matrix) (length matrix) ≡ false
  rows-finite = each_none bad_value matrix nan (λ k h.
      let some = above k h in
      let e = div-add-mod' k n in
      let column : k / n < n = (div-lt_iff_lt-mul some).1 (omega (arith, long)) in
      finite-passes _ (is_true _ (rw e at (cell-finite (k % n) (k / n) (mod-lt k some) column))))

-- ---- the answers

module _ (n : ℕ) (matrix xs : List Float) (room : ℕ) (shaped : Shaped n (length matrix) (length xs) room) where
  shaped-passed : ltb (place bad_value matrix) (length matrix) ≡ false → first (stored_checks n matrix (length xs) room) accepted ≡ accepted
  shaped-passed clean =
      first-accepts (stored_checks n matrix (length xs) room) accepted
      (shaped.above, (shaped.even, (shaped.small, (ap not (eq-eqb _ _ shaped.matrix_long), (clean, (ap not (eq-eqb _ _ shaped.input_long), (ap not (eq-eqb _ _ shaped.output_long), tt)))))))

  pub rotated-at_once : {old new : List Float} {wrote : Bool} → Judged (stored_rotated n matrix xs) old wrote new → AtOnce (stored_apply_of n matrix xs room) old wrote new
  rotated-at_once j =
      record {
        made = λ e. stored-value n matrix xs room (shaped-passed (rows-finite n matrix xs shaped.matrix_long shaped.input_long (j.clean e))) ∙ ap value (sym (j.copied e));
        kept = j.kept;
      }

  pub unrotated-at_once : {old new : List Float} {wrote : Bool} → Judged (stored_unrotated n matrix xs) old wrote new → AtOnce (stored_apply_inverse_of n matrix xs room) old wrote new
  unfolding stored_unrotated
  unrotated-at_once j =
      let rowed : Rowed n matrix xs n = record { query_long = shaped.input_long; matrix_long = shaped.matrix_long } in
      record {
        made = λ e. stored-inverse-value n matrix xs room (shaped-passed (matrix_finite n n matrix xs rowed (j.clean e))) ∙ ap value (sym (j.copied e));
        kept = j.kept;
      }

-- after a try that left the output as it was
pub applied-again : (answer : ℕ → Answer (List Float)) (mid old : List Float) {new : List Float} {said : Answer (Unit {0})} → mid ≡ old
    → (said ≡ done (answer (length mid))) × (new ≡ after (answer (length mid)) mid)
    → (said ≡ done (answer (length old))) × (new ≡ after (answer (length old)) old)
applied-again answer mid old {new} {said} e h = subst (λ (xs : List Float). (said ≡ done (answer (length xs))) × (new ≡ after (answer (length xs)) xs)) e h
