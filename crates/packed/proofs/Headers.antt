-- What a header has that passes its checks: its fields are small, so every length and place that follows from them fits. And what reading a field byte by
-- byte gives. Assumes nothing.
use Prim.Native.Nat.{ℕ, ◌+◌, ◌*◌, ◌%◌, ◌≤◌}
use mathlib.Core.Path.{◌≡◌, sym, ap, ◌∙◌}
use mathlib.Core.Bool.{Bool, true, false, cond}
use mathlib.Core.List.{List, [], ◌∷◌}
use native.Mathlib.Nat.{mul-le-mul}
use native.Mathlib.Omega.{arith}
use borrow.Author.Tests.{ltb-false, eqb-false}
use lib.Dec.{ltb, eqb}
use lib.ListN.{length}
use Rattle.digits.specs.Digits.{number}
use Rattle.digits.specs.Inner.{four_at}
use Rattle.lists.proofs.Stores.{run-four}
use Rattle.float.specs.Bytes.{of_le_bytes}
use Rattle.error.specs.Answer.{Answer, value, refused, check, first, accepted}
use Rattle.error.proofs.Chains.{first-all, first-accepts, or-false, append-refused, append-passed}
use Rattle.setup.specs.declared.TurboMode.{TurboMode}
use Rattle.setup.specs.declared.TurboMode.TheVariants.{PolarOnly, PolarWithQjl}
use Rattle.setup.specs.Setups.{by_mode}
use Rattle.packed.specs.Fields.{map_of, has_signs, mode_of, word_at, float_at, projections_start, dim_of, bits_of, projections_of}
use Rattle.packed.specs.Layout.{header_length}
use Rattle.packed.specs.Reading.{wrong_size, bad_map, bad_record_dimension, bad_polar_bits, shape_checks, header_checks}
use Rattle.setup.specs.Checks.{bad_projections}

-- ---- a field of four bytes, read byte by byte

module _ (bytes : List ℕ) (at : ℕ) (h : at + 4 ≤ length bytes) where
  pub word-run : number 256 (four_at bytes at) ≡ word_at bytes at
  word-run = ap (number 256) (sym (run-four {A = ℕ} bytes at 0 h))

  pub float-run : of_le_bytes (four_at bytes at) ≡ float_at bytes at
  float-run = ap of_le_bytes (sym (run-four {A = ℕ} bytes at 0 h))

-- ---- what the checks say of the fields

pub record HeaderUsable (bytes : List ℕ) : Type 0 where
  pub long : 6 ≤ length bytes
  pub map : bad_map (map_of bytes) ≡ false
  pub above : dim_of bytes ≡ 0 → ⊥
  pub even : dim_of bytes % 2 ≡ 1 → ⊥
  pub most : dim_of bytes ≤ 4096
  pub least_bits : 1 ≤ bits_of bytes
  pub most_bits : bits_of bytes ≤ by_mode (mode_of (map_of bytes)) 16 15
  pub header : header_length (map_of bytes) ≤ length bytes
  pub projections : bad_projections (mode_of (map_of bytes)) (projections_of bytes) ≡ false

pub header-usable : {A : Type 0} (bytes : List ℕ) (a : Answer A) {x : A} → first (header_checks bytes) a ≡ value x → HeaderUsable bytes
header-usable bytes a e =
    let all = first-all (header_checks bytes) a e in
    let bits = or-false _ _ all.1.1.1.1.1.0 in
    record {
      long = ltb-false (length bytes) 6 all.0;
      map = all.1.0;
      above = eqb-false (dim_of bytes) 0 all.1.1.0;
      even = eqb-false (dim_of bytes % 2) 1 all.1.1.1.0;
      most = ltb-false 4096 (dim_of bytes) all.1.1.1.1.0;
      least_bits = ltb-false (bits_of bytes) 1 bits.0;
      most_bits = ltb-false (by_mode (mode_of (map_of bytes)) 16 15) (bits_of bytes) bits.1;
      header = ltb-false (length bytes) (header_length (map_of bytes)) all.1.1.1.1.1.1.0;
      projections = all.1.1.1.1.1.1.1.0;
    }

-- ---- bounds that hold in both modes and for every profile

mode-most : (mode : TurboMode) → by_mode mode 16 15 ≤ 16
mode-most PolarOnly = omega arith
mode-most PolarWithQjl = omega arith

pub bits_most : (bytes : List ℕ) → HeaderUsable bytes → bits_of bytes ≤ 16
bits_most bytes u = let h = mode-most (mode_of (map_of bytes)) in omega (arith, h, u.most_bits)

either-most : (t : Bool) (m : ℕ) → bad_projections (cond t PolarWithQjl PolarOnly) (cond t m 0) ≡ false → cond t m 0 ≤ 4096
either-most true m e = ltb-false 4096 m (or-false (eqb m 0) (ltb 4096 m) e).1
either-most false m e = omega arith

pub projections-most : (bytes : List ℕ) → HeaderUsable bytes → projections_of bytes ≤ 4096
unfolding projections_of
projections-most bytes u = either-most (has_signs (map_of bytes)) (word_at bytes (projections_start (map_of bytes))) u.projections

pub product-most : (a b m n : ℕ) → a ≤ m → b ≤ n → a * b ≤ m * n
product-most a b m n h k = mul-le-mul h k

-- ---- the checks of dimension and bits, and the check behind them

module _ {A : Type 0} (bytes : List ℕ) (a : Answer A) (long : ltb (length bytes) 6 ≡ false) (map : bad_map (map_of bytes) ≡ false) where
  pub header-shape : {n p : ℕ} → first (shape_checks (mode_of (map_of bytes)) (dim_of bytes) (bits_of bytes)) accepted ≡ refused n p → first (header_checks bytes) a ≡ refused n p
  header-shape e = rw (long, map) (append-refused (shape_checks (mode_of (map_of bytes)) (dim_of bytes) (bits_of bytes)) (wrong_size (ltb (length bytes) (header_length (map_of bytes))) bytes ∷ check (bad_projections (mode_of (map_of bytes)) (projections_of bytes)) 8 (projections_of bytes) ∷ []) tt a e)

  pub header-cut : first (shape_checks (mode_of (map_of bytes)) (dim_of bytes) (bits_of bytes)) accepted ≡ accepted → ltb (length bytes) (header_length (map_of bytes)) ≡ true → first (header_checks bytes) a ≡ refused 13 (length bytes)
  header-cut pass e = rw (long, map) (append-passed (shape_checks (mode_of (map_of bytes)) (dim_of bytes) (bits_of bytes)) (wrong_size (ltb (length bytes) (header_length (map_of bytes))) bytes ∷ check (bad_projections (mode_of (map_of bytes)) (projections_of bytes)) 8 (projections_of bytes) ∷ []) tt a pass ∙ rw e)

-- ---- the last check, where all before it pass

pub record HeaderPassed (bytes : List ℕ) : Type 0 where
  pub long : ltb (length bytes) 6 ≡ false
  pub map : bad_map (map_of bytes) ≡ false
  pub above : eqb (dim_of bytes) 0 ≡ false
  pub even : eqb (dim_of bytes % 2) 1 ≡ false
  pub most : bad_record_dimension (dim_of bytes) ≡ false
  pub bits : bad_polar_bits (mode_of (map_of bytes)) (bits_of bytes) ≡ false
  pub header : ltb (length bytes) (header_length (map_of bytes)) ≡ false

module _ {A : Type 0} (bytes : List ℕ) (a : Answer A) (p : HeaderPassed bytes) where
  pub header-wrong : bad_projections (mode_of (map_of bytes)) (projections_of bytes) ≡ true → first (header_checks bytes) a ≡ refused 8 (projections_of bytes)
  header-wrong e = rw (p.long, p.map, p.above, p.even, p.most, p.bits, p.header, e)

  pub header-right : bad_projections (mode_of (map_of bytes)) (projections_of bytes) ≡ false → first (header_checks bytes) a ≡ a
  header-right e = first-accepts (header_checks bytes) a (p.long, (p.map, (p.above, (p.even, (p.most, (p.bits, (p.header, (e, tt))))))))
