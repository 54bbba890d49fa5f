-- What inputs have that the writer takes: each of its checks passes, and the bytes are those of `record_of`. Assumes nothing.
use Prim.Native.Nat.{ℕ, ◌/◌, ◌%◌, ◌≤◌, ◌<◌}
use mathlib.Core.Path.{◌≡◌, sym}
use mathlib.Core.Bool.{false}
use mathlib.Core.List.{List, [], ◌∷◌, ◌++◌}
use native.Mathlib.Omega.{arith}
use borrow.Author.Tests.{ltb-false, eqb-false}
use lib.Dec.{ltb}
use lib.IntN.{ℤ}
use lib.ListN.{length, get_or}
use lib.Ieee.{Float, nan}
use Rattle.error.specs.Answer.{value, place}
use Rattle.error.specs.Checks.{wrong_room, bad_index}
use Rattle.error.proofs.Chains.{first-all, first-value}
use Rattle.error.proofs.Places.{each-clear}
use Rattle.bitpack.specs.Signs.{bad_sketch_sign}
use Rattle.error.proofs.Differs.{differs-same}
use Rattle.radius.specs.Codec.{bad_profile}
use Rattle.radius.specs.Radii.{bad_radius}
use Rattle.packed.specs.declared.Code.{Code}
use Rattle.packed.specs.Reading.{bad_polar_bits}
use Rattle.setup.specs.Checks.{bad_projections}
use Rattle.radius.specs.Firsts.{read_back}
use Rattle.packed_size.specs.Size.{norm_value, bad_norm_alone, needed_for}
use Rattle.packed_writing.specs.Writing.{record_of, field_checks, value_checks, write_record_of}
use Rattle.setup.specs.Setups.{counted}

pub record WrittenRecord (code : Code) (radii : List Float) (indices : List ℕ) (signs : List ℤ) (room : ℕ) (bytes : List ℕ) : Type 0 where
  pub made : bytes ≡ record_of code radii indices signs
  pub known : bad_profile code.profile ≡ false
  pub beside : bad_norm_alone code.mode code.norm ≡ false
  pub above : 0 < code.dim
  pub even : code.dim % 2 ≡ 0
  pub most : code.dim ≤ 4096
  pub bits_inside : bad_polar_bits code.mode code.bits ≡ false
  pub projections_inside : bad_projections code.mode code.projections ≡ false
  pub radii_long : length radii ≡ code.dim / 2
  pub indices_long : length indices ≡ code.dim / 2
  pub signs_long : length signs ≡ counted code.mode code.projections
  pub norm_good : bad_radius (norm_value code.norm) ≡ false
  pub radii_good : (i : ℕ) → i < length radii → bad_radius (get_or radii i nan) ≡ false
  pub read_good : (i : ℕ) → i < length (read_back code.profile radii) → bad_radius (get_or (read_back code.profile radii) i nan) ≡ false
  pub indices_good : ltb (place (bad_index code.bits) indices) (length indices) ≡ false
  pub signs_good : ltb (place bad_sketch_sign signs) (length signs) ≡ false
  pub sized : room ≡ needed_for code

pub written : (code : Code) (radii : List Float) (indices : List ℕ) (signs : List ℤ) (room : ℕ) {bytes : List ℕ}
    → write_record_of code radii indices signs room ≡ value bytes → WrittenRecord code radii indices signs room bytes
unfolding write_record_of
written code radii indices signs room told =
    let checks = field_checks code (length radii) (length indices) (length signs) ++ value_checks code.profile code.bits code.norm radii indices signs ++ (wrong_room room (needed_for code) ∷ []) in
    let record-bytes = record_of code radii indices signs in
    let all = first-all checks (value record-bytes) told in
    let lengths = all.1.1.1.1.1.1.1 in
    let values = lengths.1.1.1 in
    let above = eqb-false code.dim 0 all.1.1.0 in
    let even = eqb-false (code.dim % 2) 1 all.1.1.1.0 in
    record {
      made = sym (first-value checks record-bytes told);
      known = all.0;
      beside = all.1.0;
      above = omega (arith, above);
      even = omega (arith, even);
      most = ltb-false 4096 code.dim all.1.1.1.1.0;
      bits_inside = all.1.1.1.1.1.0;
      projections_inside = all.1.1.1.1.1.1.0;
      radii_long = differs-same (length radii) (code.dim / 2) lengths.0;
      indices_long = differs-same (length indices) (code.dim / 2) lengths.1.0;
      signs_long = differs-same (length signs) (counted code.mode code.projections) lengths.1.1.0;
      norm_good = values.0;
      radii_good = each-clear bad_radius radii nan values.1.0;
      read_good = each-clear bad_radius (read_back code.profile radii) nan values.1.1.0;
      indices_good = values.1.1.1.0;
      signs_good = values.1.1.1.1.0;
      sized = differs-same room (needed_for code) values.1.1.1.1.1.0;
    }
