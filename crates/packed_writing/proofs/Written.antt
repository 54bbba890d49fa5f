-- The writer's answers, case by case, as the code comes to them; and what inputs have whose scalars and lengths pass. Assumes nothing.
use Prim.Native.Nat.{ℕ, ◌+◌, ◌*◌, ◌/◌, ◌≤◌, ◌<◌}
use mathlib.Core.Path.{◌≡◌, refl, ◌∙◌}
use mathlib.Core.Bool.{true, false}
use mathlib.Core.List.{List, [], ◌∷◌, ◌++◌}
use native.Mathlib.Omega.{arith}
use borrow.Author.Tests.{lt-ltb, le-ltb, eq-eqb, ne_eqb}
use lib.Dec.{ltb}
use lib.IntN.{ℤ}
use lib.ListN.{length}
use lib.Ieee.{Float}
use Rattle.std.specs.Prelude.{Option}
use Rattle.error.specs.Answer.{value, refused, check, place, first, accepted}
use Rattle.error.proofs.Chains.{first-all, append_left, append-refused, append-passed}
use Rattle.error.specs.Checks.{wrong_room, bad_index}
use Rattle.error.proofs.Differs.{differs-same}
use Rattle.bitpack.specs.Padding.{bytes_for}
use Rattle.bitpack.specs.Signs.{bad_sketch_sign}
use Rattle.float.specs.Bytes.{of_le_bytes}
use Rattle.radius.specs.Codec.{bad_profile, width_of, range_for, payload_for}
use Rattle.radius.specs.Firsts.{read_back, first_bad_read_back_of}
use Rattle.radius.specs.Linear.{linear_radius}
use Rattle.radius.specs.Radii.{bad_radius}
use Rattle.radius.specs.declared.RadiusCodecProfileV1.{RadiusCodecProfileV1}
use Rattle.radius.specs.declared.RadiusCodecProfileV1.TheVariants.{F32, BlockLinearU16, BlockLogU8}
use Rattle.lists.proofs.Chunks.{length-chunks}
use Rattle.packed.specs.declared.Code.{Code}
use Rattle.packed.specs.Layout.{header_length}
use Rattle.packed_size.specs.Size.{norm_value, map_for, needed_for, code_checks}
use Rattle.packed_size.proofs.Scalars.{code-small}
use Rattle.packed_writing.specs.Writing.{item_checks, record_of, length_checks, field_checks, value_checks, write_record_of}
use Rattle.setup.specs.Setups.{counted}
use Rattle.packed_writing.specs.Inner.{Codes}

-- ---- what the scalars and the lengths tell

-- a profile that is not refused, and lengths that fit
pub record Sized (profile : RadiusCodecProfileV1) (bits radii indices signs : ℕ) : Type 0 where
  pub known : bad_profile profile ≡ false
  pub radii_most : radii ≤ 2048
  pub codes : Codes bits indices signs

module _ (code : Code) (radii indices signs : ℕ) (pass : first (field_checks code radii indices signs) accepted ≡ accepted) where
  -- one radius and one index for each pair, one sign for each projection that counts
  pub fields-long : (radii ≡ code.dim / 2) × ((indices ≡ code.dim / 2) × (signs ≡ counted code.mode code.projections))
  fields-long =
      let all = first-all (field_checks code radii indices signs) accepted pass in
      (differs-same radii (code.dim / 2) all.1.1.1.1.1.1.1.0, (differs-same indices (code.dim / 2) all.1.1.1.1.1.1.1.1.0, differs-same signs (counted code.mode code.projections) all.1.1.1.1.1.1.1.1.1.0))

  pub fields-sized : Sized code.profile code.bits radii indices signs
  fields-sized =
      let long = fields-long in
      let small = code-small code (append_left (code_checks code) (length_checks (code.dim / 2) (counted code.mode code.projections) radii indices signs) accepted pass) in
      record {
        known = small.known;
        radii_most = omega (arith, long.0, small.dim_most);
        codes = record { least = small.bits_least; most = small.bits_most; indices_most = omega (arith, long.1.0, small.dim_most); signs_most = omega (arith, long.1.1, small.signs_most) };
      }

  -- the bytes that are needed, by the lengths
  pub fields-needed : header_length (map_for code.profile code.mode code.norm) + width_of code.profile * radii + bytes_for (indices * code.bits) + bytes_for signs ≡ needed_for code
  fields-needed = let long = fields-long in rw (long.0, long.1.0, long.1.1)

-- ---- the writer's answers

module _ (code : Code) (radii : List Float) (indices : List ℕ) (signs : List ℤ) (room : ℕ) where
  -- the scalars and lengths, then the values, then the output's length
  order : write_record_of code radii indices signs room ≡ first (field_checks code (length radii) (length indices) (length signs) ++ (value_checks code.profile code.bits code.norm radii indices signs ++ (wrong_room room (needed_for code) ∷ []))) (value (record_of code radii indices signs))
  unfolding write_record_of
  order = refl

  pub write-fields : {n p : ℕ} → first (field_checks code (length radii) (length indices) (length signs)) accepted ≡ refused n p → write_record_of code radii indices signs room ≡ refused n p
  write-fields e = order ∙ append-refused (field_checks code (length radii) (length indices) (length signs)) (value_checks code.profile code.bits code.norm radii indices signs ++ (wrong_room room (needed_for code) ∷ [])) tt (value (record_of code radii indices signs)) e

  module _ (pass : first (field_checks code (length radii) (length indices) (length signs)) accepted ≡ accepted) where
    values : write_record_of code radii indices signs room ≡ first (value_checks code.profile code.bits code.norm radii indices signs ++ (wrong_room room (needed_for code) ∷ [])) (value (record_of code radii indices signs))
    values = order ∙ append-passed (field_checks code (length radii) (length indices) (length signs)) (value_checks code.profile code.bits code.norm radii indices signs ++ (wrong_room room (needed_for code) ∷ [])) tt (value (record_of code radii indices signs)) pass

    pub write-values : {n p : ℕ} → first (value_checks code.profile code.bits code.norm radii indices signs) accepted ≡ refused n p → write_record_of code radii indices signs room ≡ refused n p
    write-values e = values ∙ append-refused (value_checks code.profile code.bits code.norm radii indices signs) (wrong_room room (needed_for code) ∷ []) tt (value (record_of code radii indices signs)) e

    module _ (good : first (value_checks code.profile code.bits code.norm radii indices signs) accepted ≡ accepted) where
      last : write_record_of code radii indices signs room ≡ first (wrong_room room (needed_for code) ∷ []) (value (record_of code radii indices signs))
      last = values ∙ append-passed (value_checks code.profile code.bits code.norm radii indices signs) (wrong_room room (needed_for code) ∷ []) tt (value (record_of code radii indices signs)) good

      pub write-no-room : {need : ℕ} → need ≡ needed_for code → (room ≡ need → ⊥) → write_record_of code radii indices signs room ≡ refused 6 need
      write-no-room {need} is h = last ∙ rw (← is) (simp (ne_eqb room need h))

      pub write-value : room ≡ needed_for code → write_record_of code radii indices signs room ≡ value (record_of code radii indices signs)
      write-value h = last ∙ simp (eq-eqb _ _ h)

-- ---- radii, as they are and as they would be read back

pub length-read_back : (profile : RadiusCodecProfileV1) (radii : List Float) → bad_profile profile ≡ false → length (read_back profile radii) ≡ length radii
unfolding read_back
length-read_back F32 radii e = length-chunks of_le_bytes 4 (length radii) (payload_for F32 radii)
length-read_back BlockLinearU16 radii e = length-chunks (linear_radius (range_for BlockLinearU16 radii)) 2 (length radii) (payload_for BlockLinearU16 radii)
length-read_back BlockLogU8 radii e = let z : ◌≡◌ {A = ℕ} 0 1 = cc in absurd (omega arith)

-- ---- the values' checks, from what each search returned

pub values-norm : (profile : RadiusCodecProfileV1) (bits : ℕ) (norm : Option Float) (radii : List Float) (indices : List ℕ) (signs : List ℤ) → bad_radius (norm_value norm) ≡ true
    → first (value_checks profile bits norm radii indices signs) accepted ≡ refused 23 0
values-norm profile bits norm radii indices signs e = simp e

module _ (profile : RadiusCodecProfileV1) (bits : ℕ) (norm : Option Float) (radii : List Float) (indices : List ℕ) (signs : List ℤ) (normal : bad_radius (norm_value norm) ≡ false) {bad : ℕ} (found : bad ≡ place bad_radius radii) where
  pub values-radius : bad < length radii → first (value_checks profile bits norm radii indices signs) accepted ≡ refused 16 bad
  values-radius h = simp (normal, ← found, lt-ltb _ _ h)

  module _ (fine : length radii ≤ bad) (known : bad_profile profile ≡ false) {lost : ℕ} (lost-at : lost ≡ first_bad_read_back_of radii profile) where
    -- the checks that are left
    rest : first (value_checks profile bits norm radii indices signs) accepted ≡ first (check (ltb lost (length radii)) 16 lost ∷ item_checks bits indices signs) accepted
    unfolding first_bad_read_back_of
    rest = simp (normal, ← found, le-ltb _ _ fine, length-read_back profile radii known, ← lost-at)

    pub values-lost : lost < length radii → first (value_checks profile bits norm radii indices signs) accepted ≡ refused 16 lost
    values-lost h = rest ∙ simp (lt-ltb _ _ h)

    pub values-codes : length radii ≤ lost → first (value_checks profile bits norm radii indices signs) accepted ≡ first (item_checks bits indices signs) accepted
    values-codes kept = rest ∙ simp (le-ltb _ _ kept)

module _ (bits : ℕ) (indices : List ℕ) (signs : List ℤ) {large : ℕ} (large-at : large ≡ place (bad_index bits) indices) where
  pub codes-large : large < length indices → first (item_checks bits indices signs) accepted ≡ refused 15 large
  codes-large h = simp (← large-at, lt-ltb _ _ h)

  module _ (small : length indices ≤ large) {stray : ℕ} (stray-at : stray ≡ place bad_sketch_sign signs) where
    pub codes-stray : stray < length signs → first (item_checks bits indices signs) accepted ≡ refused 10 stray
    codes-stray h = simp (← large-at, le-ltb _ _ small, ← stray-at, lt-ltb _ _ h)

    pub codes-pass : length signs ≤ stray → first (item_checks bits indices signs) accepted ≡ accepted
    codes-pass h = simp (← large-at, le-ltb _ _ small, ← stray-at, le-ltb _ _ h)
