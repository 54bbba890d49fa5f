-- No hidden infinity in a rotation: where all rotated values are finite, so were all values that were rotated, by signs and butterflies or by a stored matrix.
-- Assumes nothing.
use Prim.Native.Nat.{ℕ, zero, suc, ◌+◌, ◌*◌, ◌-◌, ◌/◌, ◌%◌, ◌<◌}
use mathlib.Core.Path.{◌≡◌, sym, ◌∙◌, subst}
use mathlib.Core.Bool.{Bool, true, false, cond}
use mathlib.Core.List.{List, map}
use native.Mathlib.Omega.{arith}
use lib.Count.{count_trailing_zeros}
use lib.Dec.{T, eqb, ltb}
use lib.ListN.{length, get_or, length-map, get_or-map}
use lib.Ieee.{Float, nan, binary32, add, sub, mul}
use lib.Ieee.Scale.{finite}
use Rattle.float.specs.Constants.{pos_zero}
use Rattle.error.specs.Answer.{place}
use Rattle.error.specs.Checks.{bad_value}
use Rattle.error.proofs.Finite.{finite-passes, passes-finite}
use Rattle.error.proofs.Places.{each-clear, each_none}
use Rattle.rounding.specs.Butterfly.{entry, stage, stages}
use Rattle.rounding.specs.Sums.{products, dot}
use Rattle.rounding.proofs.Finite.{add-finite, sub-finite, mul-finite}
use Rattle.rounding.proofs.Lists.{get_d_any, length-products, get_or-products}
use Rattle.rounding.proofs.Butterflies.{length-stage, stage_at}
use Rattle.rounding.proofs.Partial.{dot-finite}
use lib.Ieee.Bits.{is_true}
use Rattle.qjl_rows.proofs.FiniteSums.{told}
use Rattle.rotation.specs.Rotation.{inverse_root, scaled, hadamard_of, rotated}
use Rattle.rotation_stored.specs.Stored.{row_of, stored_rotated}
use Rattle.rotation_stored.proofs.Accepted.{length-stored}
use Rattle.rotation_stored.proofs.Columns.{length-row, stored_entry}
use Rattle.setup.specs.declared.RotationKind.{RotationKind}
use Rattle.setup.specs.declared.RotationKind.TheVariants.{FastHadamard, Stored}
use Rattle.setup.specs.Setups.{by_rotation}

-- every value of a list
abbrev AllFinite : List Float → Type 0
AllFinite xs = (i : ℕ) → i < length xs → T (finite (get_or xs i pos_zero))

clear-finite : (xs : List Float) → ltb (place bad_value xs) (length xs) ≡ false → AllFinite xs
clear-finite xs e i l = told _ (passes-finite _ (each-clear bad_value xs pos_zero e i l))

finite-clear : (xs : List Float) → AllFinite xs → ltb (place bad_value xs) (length xs) ≡ false
finite-clear xs h = each_none bad_value xs pos_zero (λ i l. finite-passes _ (is_true _ (h i l)))

-- ---- signs and butterflies

-- entry i of a stage takes entry i of the list, whichever half of its block that stands in
entry-finite : (h : ℕ) (xs : List Float) (i : ℕ) → T (finite (entry (add binary32) (sub binary32) pos_zero h xs i)) → T (finite (get_or xs i pos_zero))
unfolding entry
entry-finite h xs i t = half (eqb (i / h % 2) 0) t
  where
    half : (b : Bool) → T (finite (cond b (add binary32 (get_or xs i pos_zero) (get_or xs (i + h) pos_zero)) (sub binary32 (get_or xs (i - h) pos_zero) (get_or xs i pos_zero)))) → T (finite (get_or xs i pos_zero))
    half true u = (add-finite binary32 (get_or xs i pos_zero) (get_or xs (i + h) pos_zero) u).0
    half false u = (sub-finite binary32 (get_or xs (i - h) pos_zero) (get_or xs i pos_zero) u).1

stage-finite : (h : ℕ) (xs : List Float) → AllFinite (stage (add binary32) (sub binary32) pos_zero h xs) → AllFinite xs
stage-finite h xs all i l =
    entry-finite h xs i
    (subst (λ (x : Float). T (finite x)) (stage_at (add binary32) (sub binary32) pos_zero h xs i l)
    (all i (rw (length-stage (add binary32) (sub binary32) pos_zero h xs) l)))

stages-finite : (n h : ℕ) (xs : List Float) → AllFinite (stages (add binary32) (sub binary32) pos_zero n h xs) → AllFinite xs
unfolding stages
stages-finite zero h xs all = all
stages-finite (suc n) h xs all = stage-finite h xs (stages-finite n (h + h) (stage (add binary32) (sub binary32) pos_zero h xs) all)

scaled-finite : (factor : Float) (xs : List Float) → AllFinite (scaled factor xs) → AllFinite xs
unfolding scaled
scaled-finite factor xs all i l =
    let times : Float → Float = λ x. mul binary32 x factor in
    let within : i < length (map times xs) = rw (length-map xs times) l in
    (mul-finite binary32 (get_or xs i pos_zero) factor
    (subst (λ (x : Float). T (finite x)) (get_d_any (map times xs) pos_zero (times pos_zero) i within ∙ get_or-map times xs i pos_zero) (all i within))).0

products-finite : (xs signs : List Float) → length signs ≡ length xs → AllFinite (products xs signs) → AllFinite xs
products-finite xs signs e all i l =
    (mul-finite binary32 (get_or xs i pos_zero) (get_or signs i pos_zero)
    (subst (λ (x : Float). T (finite x)) (get_or-products xs signs pos_zero i l (omega (arith, e))) (all i (rw (length-products xs signs e) l)))).0

hadamard-finite : (n : ℕ) (signs xs : List Float) → length signs ≡ length xs → AllFinite (rotated n signs xs) → AllFinite xs
unfolding rotated hadamard_of
hadamard-finite n signs xs e all =
    products-finite xs signs e
    (stages-finite (count_trailing_zeros 64 n) 1 (products xs signs)
    (scaled-finite (inverse_root n) (stages (add binary32) (sub binary32) pos_zero (count_trailing_zeros 64 n) 1 (products xs signs)) all))

-- ---- a stored matrix

-- the first row's sum has every value for a factor
stored-finite : (n : ℕ) (matrix xs : List Float) → length xs ≡ n → AllFinite (stored_rotated n matrix xs) → AllFinite xs
stored-finite n matrix xs e all i l =
    let some : 0 < n = omega (arith, e) in
    let within : 0 < length (stored_rotated n matrix xs) = rw (length-stored n matrix xs) some in
    let top : T (finite (dot (row_of n matrix 0) xs)) = subst (λ (x : Float). T (finite x)) (get_d_any (stored_rotated n matrix xs) pos_zero nan 0 within ∙ stored_entry n matrix xs 0 some) (all 0 within) in
    subst (λ (x : Float). T (finite x)) (get_d_any xs nan pos_zero i l)
    (dot-finite pos_zero (row_of n matrix 0) xs top i (rw (length-row n matrix 0) (omega (arith, e))) l).1

-- ---- either of them

pub turned-finite : (k : RotationKind) (n : ℕ) (entries xs : List Float) → length entries ≡ by_rotation k n (n * n) → length xs ≡ n
    → ltb (place bad_value (by_rotation k (rotated n entries xs) (stored_rotated n entries xs))) (length (by_rotation k (rotated n entries xs) (stored_rotated n entries xs))) ≡ false
    → ltb (place bad_value xs) (length xs) ≡ false
turned-finite FastHadamard n entries xs long e clean = finite-clear xs (hadamard-finite n entries xs (long ∙ sym e) (clear-finite (rotated n entries xs) clean))
turned-finite Stored n entries xs long e clean = finite-clear xs (stored-finite n entries xs e (clear-finite (stored_rotated n entries xs) clean))
