-- What document 02's request h) says of records holds: the lists differ in one check, which offends elsewhere than before in a moved dimension alone. Assumes nothing.
use Prim.Native.Nat.{ℕ, ◌%◌, ◌/◌, ◌<◌}
use mathlib.Core.Path.{◌≡◌, refl, sym, ap, ◌∙◌}
use mathlib.Core.Bool.{Bool, true, false, not, ◌||◌, ◌&&◌, true≢false}
use mathlib.Core.List.{List, [], ◌∷◌, ◌++◌}
use native.Mathlib.Omega.{arith}
use borrow.Author.Tests.{ltb-true, ltb-false, lt-ltb, le-leb, eqb-true, eqb-false, eq-eqb, ne_eqb, not-true}
use lib.Count.{ones}
use lib.Dec.{ltb, leb, eqb}
use lib.IntN.{ℤ}
use lib.ListN.{length}
use lib.Ieee.{Float}
use Rattle.error.specs.Answer.{Answer, value, refused, Check, check, unless, first}
use Rattle.error.specs.Checks.{wrong_room}
use Rattle.error.proofs.Chains.{and-true}
use Rattle.radius.specs.Codec.{bad_profile, wrong_profile}
use Rattle.setup.specs.Checks.{wrong_projections}
use Rattle.setup.specs.Setups.{counted}
use Rattle.packed.specs.declared.Code.{Code}
use Rattle.packed.specs.Fields.{map_of, mode_of, dim_of, bits_of, projections_of}
use Rattle.packed.specs.Layout.{header_length, header_of}
use Rattle.packed.specs.Reading.{wrong_size, bad_map, wrong_map, bad_polar_bits, wrong_record_dimension, payload_checks, record_checks, unless_withdrawn, read_record_of}
use Rattle.packed.proofs.Withdrawn.{read-refused}
use Rattle.packed_size.specs.Size.{bad_norm_alone, needed_for, code_checks, record_size_of}
use Rattle.packed_writing.specs.Writing.{length_checks, value_checks, record_of, write_record_of}
use Rattle.packed_laws.specs.OtherDimensions.{is_moved, is_moved_record, is_moved_code, wrong_record_power, record_checks_of_powers, code_checks_of_powers, write_checks_of_powers, OtherDimensions}
use Rattle.packed_laws.proofs.Refused.{Other, refused-here}

-- ---- the checks of a dimension, 2, 3 and 4, and the answer behind them

abbrev dimension_with : {A : Type 0} → Check → ℕ → Answer A → Answer A
dimension_with four dim a = first (check (eqb dim 0) 2 0 ∷ check (eqb (dim % 2) 1) 3 dim ∷ four ∷ []) a

module _ {A : Type 0} (dim : ℕ) (a : Answer A) where
  dimension-kept : is_moved dim ≡ false → dimension_with (wrong_record_dimension dim) dim a ≡ dimension_with (wrong_record_power dim) dim a
  dimension-kept e = zero (eqb dim 0) refl
    where
      four : (one above : Bool) → eqb (ones dim) 1 ≡ one → ltb 4096 dim ≡ above → leb dim 4096 && not (eqb (ones dim) 1) ≡ false → unless (check above 4 dim) a ≡ unless (check (not one || above) 4 dim) a
      four true above s t f = refl
      four false true s t f = refl
      four false false s t f = absurd (true≢false (sym (rw (le-leb dim 4096 (ltb-false 4096 dim t), s) refl) ∙ f))

      odd : (t : Bool) → 0 < dim → eqb (dim % 2) 1 ≡ t → unless (check t 3 dim) (unless (wrong_record_dimension dim) a) ≡ unless (check t 3 dim) (unless (wrong_record_power dim) a)
      odd true above s = refl
      odd false above s =
          let n = eqb-false (dim % 2) 1 s in
          four (eqb (ones dim) 1) (ltb 4096 dim) refl refl (rw (lt-ltb 0 dim above, eq-eqb (dim % 2) 0 (omega (arith, n))) at e)

      zero : (t : Bool) → eqb dim 0 ≡ t → unless (check t 2 0) (first (check (eqb (dim % 2) 1) 3 dim ∷ wrong_record_dimension dim ∷ []) a) ≡ unless (check t 2 0) (first (check (eqb (dim % 2) 1) 3 dim ∷ wrong_record_power dim ∷ []) a)
      zero true s = refl
      zero false s = let n = eqb-false dim 0 s in odd (eqb (dim % 2) 1) (omega (arith, n)) refl

  dimension-moved : is_moved dim ≡ true → dimension_with (wrong_record_power dim) dim a ≡ refused 4 dim
  dimension-moved e =
      let ones-not = and-true (ltb 0 dim && eqb (dim % 2) 0 && leb dim 4096) (not (eqb (ones dim) 1)) e in
      let most = and-true (ltb 0 dim && eqb (dim % 2) 0) (leb dim 4096) ones-not.0 in
      let even = and-true (ltb 0 dim) (eqb (dim % 2) 0) most.0 in
      let above = ltb-true 0 dim even.0 in
      let halves = eqb-true (dim % 2) 0 even.1 in
      rw (ne_eqb dim 0 (λ z. omega (arith, z, above)), ne_eqb (dim % 2) 1 (λ z. omega (arith, z, halves)), not-true (eqb (ones dim) 1) ones-not.1)

-- behind two checks: where either offends, what follows is not looked at
kept-behind : {A : Type 0} (one : Bool) (n p : ℕ) (two : Bool) (m q : ℕ) (moved : Bool) (a b : Answer A) → (moved ≡ false → a ≡ b) → not one && not two && moved ≡ false
    → unless (check one n p) (unless (check two m q) a) ≡ unless (check one n p) (unless (check two m q) b)
kept-behind true n p two m q moved a b same e = refl
kept-behind false n p true m q moved a b same e = refl
kept-behind false n p false m q moved a b same e = same e

-- ---- reading

module _ (bytes : List ℕ) where
  -- the checks behind the dimension's
  abbrev behind : List Check
  behind = check (bad_polar_bits (mode_of (map_of bytes)) (bits_of bytes)) 1 (bits_of bytes) ∷ wrong_size (ltb (length bytes) (header_length (map_of bytes))) bytes ∷ wrong_projections (mode_of (map_of bytes)) (projections_of bytes) ∷ payload_checks bytes

  checks_kept : {A : Type 0} (a : Answer A) → is_moved_record bytes ≡ false → first (record_checks bytes) a ≡ first (record_checks_of_powers bytes) a
  checks_kept a e =
      kept-behind (ltb (length bytes) 6) 13 (length bytes) (bad_map (map_of bytes)) 18 (map_of bytes) (is_moved (dim_of bytes))
      (dimension_with (wrong_record_dimension (dim_of bytes)) (dim_of bytes) (first behind a)) (dimension_with (wrong_record_power (dim_of bytes)) (dim_of bytes) (first behind a))
      (dimension-kept (dim_of bytes) (first behind a)) e

  read_kept : is_moved_record bytes ≡ false → read_record_of bytes ≡ unless_withdrawn bytes (first (record_checks_of_powers bytes) (value (header_of bytes)))
  unfolding read_record_of
  read_kept e = ap (unless_withdrawn bytes) (checks_kept (value (header_of bytes)) e)

  read_moved : {A : Type 0} (a : Answer A) → is_moved_record bytes ≡ true → first (record_checks_of_powers bytes) a ≡ refused 4 (dim_of bytes)
  read_moved a e =
      let both = and-true (not (ltb (length bytes) 6) && not (bad_map (map_of bytes))) (is_moved (dim_of bytes)) e in
      let each = and-true (not (ltb (length bytes) 6)) (not (bad_map (map_of bytes))) both.0 in
      rw (not-true (ltb (length bytes) 6) each.0, not-true (bad_map (map_of bytes)) each.1) (dimension-moved (dim_of bytes) (first behind a) both.1)

  read_above : (p : ℕ) → read_record_of bytes ≡ refused 4 p → (p ≡ dim_of bytes) × (4096 < dim_of bytes)
  read_above p told =
      let before = wrong_size (ltb (length bytes) 6) bytes ∷ wrong_map bytes ∷ check (eqb (dim_of bytes) 0) 2 0 ∷ check (eqb (dim_of bytes % 2) 1) 3 (dim_of bytes) ∷ [] in
      let found = refused-here (header_of bytes) before (ltb 4096 (dim_of bytes)) 4 (dim_of bytes) behind (tt, (tt, (tt, (tt, tt)))) (tt, (tt, (tt, (tt, (tt, (tt, (tt, (tt, (tt, tt))))))))) (read-refused bytes told).1 in
      (sym found.1.1, ltb-true 4096 (dim_of bytes) found.1.0)

-- ---- the size and the writing

module _ (code : Code) where
  -- the scalars' checks before the dimension's and behind them
  abbrev before : List Check
  before = wrong_profile code.profile ∷ check (bad_norm_alone code.mode code.norm) 18 0 ∷ []

  abbrev scalars : List Check
  scalars = check (bad_polar_bits code.mode code.bits) 1 code.bits ∷ wrong_projections code.mode code.projections ∷ []

  code-kept : {A : Type 0} (a : Answer A) → is_moved_code code ≡ false → first (code_checks code) a ≡ first (code_checks_of_powers code) a
  code-kept a e =
      kept-behind (bad_profile code.profile) 18 0 (bad_norm_alone code.mode code.norm) 18 0 (is_moved code.dim)
      (dimension_with (wrong_record_dimension code.dim) code.dim (first scalars a)) (dimension_with (wrong_record_power code.dim) code.dim (first scalars a))
      (dimension-kept code.dim (first scalars a)) e

  code-moved : {A : Type 0} (a : Answer A) → is_moved_code code ≡ true → first (code_checks_of_powers code) a ≡ refused 4 code.dim
  code-moved a e =
      let both = and-true (not (bad_profile code.profile) && not (bad_norm_alone code.mode code.norm)) (is_moved code.dim) e in
      let each = and-true (not (bad_profile code.profile)) (not (bad_norm_alone code.mode code.norm)) both.0 in
      rw (not-true (bad_profile code.profile) each.0, not-true (bad_norm_alone code.mode code.norm) each.1) (dimension-moved code.dim (first scalars a) both.1)

  -- 4, with further checks behind those of the scalars that have another number
  code-above : {A : Type 0} (x : A) (rest : List Check) (p : ℕ) → Other 4 rest → first (code_checks code ++ rest) (value x) ≡ refused 4 p → (p ≡ code.dim) × (4096 < code.dim)
  code-above x rest p other told =
      let ahead = before ++ (check (eqb code.dim 0) 2 0 ∷ check (eqb (code.dim % 2) 1) 3 code.dim ∷ []) in
      let found = refused-here x ahead (ltb 4096 code.dim) 4 code.dim (scalars ++ rest) (tt, (tt, (tt, (tt, tt)))) (tt, (tt, other)) told in
      (sym found.1.1, ltb-true 4096 code.dim found.1.0)

  size_kept : is_moved_code code ≡ false → record_size_of code ≡ first (code_checks_of_powers code) (value (needed_for code))
  unfolding record_size_of
  size_kept e = code-kept (value (needed_for code)) e

  size_above : (p : ℕ) → record_size_of code ≡ refused 4 p → (p ≡ code.dim) × (4096 < code.dim)
  unfolding record_size_of
  size_above p told = code-above (needed_for code) [] p tt told

  module _ (radii : List Float) (indices : List ℕ) (signs : List ℤ) (room : ℕ) where
    abbrev rest : List Check
    rest = length_checks (code.dim / 2) (counted code.mode code.projections) (length radii) (length indices) (length signs) ++ value_checks code.profile code.bits code.norm radii indices signs ++ (wrong_room room (needed_for code) ∷ [])

    write_kept : is_moved_code code ≡ false → write_record_of code radii indices signs room ≡ first (write_checks_of_powers code radii indices signs room) (value (record_of code radii indices signs))
    unfolding write_record_of
    write_kept e = code-kept (first rest (value (record_of code radii indices signs))) e

    write_moved : {A : Type 0} (a : Answer A) → is_moved_code code ≡ true → first (write_checks_of_powers code radii indices signs room) a ≡ refused 4 code.dim
    write_moved a e = code-moved (first rest a) e

    write_above : (p : ℕ) → write_record_of code radii indices signs room ≡ refused 4 p → (p ≡ code.dim) × (4096 < code.dim)
    unfolding write_record_of
    write_above p told = code-above (record_of code radii indices signs) rest p (tt, (tt, (tt, (tt, (tt, (tt, (tt, (tt, (tt, tt))))))))) told

pub other-dimensions : OtherDimensions
other-dimensions = record {
  read_kept = λ bytes e. read_kept bytes e;
  checks_kept = λ bytes a e. checks_kept bytes a e;
  size_kept = λ code e. size_kept code e;
  write_kept = λ code radii indices signs room e. write_kept code radii indices signs room e;
  read_moved = λ bytes a e. read_moved bytes a e;
  size_moved = λ code a e. code-moved code a e;
  write_moved = λ code radii indices signs room a e. write_moved code radii indices signs room a e;
  read_above = λ bytes p told. read_above bytes p told;
  size_above = λ code p told. size_above code p told;
  write_above = λ code radii indices signs room p told. write_above code radii indices signs room p told;
}
