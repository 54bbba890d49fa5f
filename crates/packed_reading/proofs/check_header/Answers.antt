-- `packed_reading::check_header` meets its contract: a check that passes leaves the rest of the list. Assumes nothing.
use Prim.Native.Nat.{ℕ}
use mathlib.Core.Path.{◌≡◌, sym, ap, ◌∙◌}
use mathlib.Core.Bool.{false}
use native.Mathlib.Omega.{arith}
use lib.Dec.{ltb}
use lib.ListN.{length}
use Rattle.error.specs.Answer.{refused, first, accepted}
use Rattle.error.specs.Outcomes.{says}
use Rattle.error.proofs.Chains.{first-all}
use Rattle.setup.specs.declared.TurboMode.{TurboMode}
use Rattle.packed.specs.Fields.{map_of, mode_of, dim_of, bits_of, projections_of}
use Rattle.packed.specs.Reading.{bad_map, shape_checks}
use Rattle.setup.specs.Checks.{bad_projections}
use Rattle.packed.proofs.Headers.{word-run, HeaderPassed, header-shape, header-cut, header-wrong, header-right}
use Rattle.error.proofs.Passed.{passed_on}
use borrow.Author.Tests.{lt-ltb, le-ltb}
use borrow.Author.Rules.{rules}
use Rattle.packed_reading.proofs.check_header.Goals.{After-check_shape, After-outside_projections, Else-bytes-header_length, In_ok-check_shape}
use Rattle.packed_reading.proofs.check_header.Goals as goal

pub returns-then-bytes-lt6 : goal.returns-then-bytes-lt6
returns-then-bytes-lt6 c = simp (lt-ltb _ _ c.if-bytes-lt6.true)

pub returns-then-outside_map : goal.returns-then-outside_map
returns-then-outside_map c = simp (le-ltb _ _ c.if-bytes-lt6.false, sym c.outside_map.ensures ∙ c.if-outside_map.true)

-- at the check of dimension and bits, the two checks before it have passed
long : (c : goal.After-check_shape) → ltb (length c.args.bytes.now) 6 ≡ false
long c = le-ltb _ _ c.if-bytes-lt6.false

known : (c : goal.After-check_shape) → bad_map (map_of c.args.bytes.now) ≡ false
known c = sym c.outside_map.ensures ∙ c.if-outside_map.false

-- what it answers, in the record's terms
shape : (c : goal.After-check_shape) → let bytes = c.args.bytes.now in says c.check_shape.result ≡ first (shape_checks (mode_of (map_of bytes)) (dim_of bytes) (bits_of bytes)) accepted
shape c =
    let bytes = c.args.bytes.now in
    c.check_shape.ensures
    ∙ ap (λ (m : TurboMode). first (shape_checks m c.get_u32.result (bits_of bytes)) accepted) c.mode_of.ensures
    ∙ ap (λ (n : ℕ). first (shape_checks (mode_of (map_of bytes)) n (bits_of bytes)) accepted) (c.get_u32.ensures ∙ word-run bytes 1 (search rules))

shaped : (c : goal.In_ok-check_shape) → let bytes = c.args.bytes.now in first (shape_checks (mode_of (map_of bytes)) (dim_of bytes) (bits_of bytes)) accepted ≡ accepted
shaped c =
    let bytes = c.args.bytes.now in
    sym
    (c.check_shape.ensures
    ∙ ap (λ (m : TurboMode). first (shape_checks m c.get_u32.result (bits_of bytes)) accepted) c.mode_of.ensures
    ∙ ap (λ (n : ℕ). first (shape_checks (mode_of (map_of bytes)) n (bits_of bytes)) accepted) (c.get_u32.ensures ∙ word-run bytes 1 (search rules)))
    ∙ ap says c.in_ok-check_shape.was

-- all checks but the last
passed : (c : goal.Else-bytes-header_length) →
    (let bytes = c.args.bytes.now in first (shape_checks (mode_of (map_of bytes)) (dim_of bytes) (bits_of bytes)) accepted ≡ accepted) → HeaderPassed c.args.bytes.now
passed c held =
    let bytes = c.args.bytes.now in
    let all = first-all (shape_checks (mode_of (map_of bytes)) (dim_of bytes) (bits_of bytes)) accepted held in
    record {
      long = le-ltb _ _ c.if-bytes-lt6.false;
      map = sym c.outside_map.ensures ∙ c.if-outside_map.false;
      above = all.0;
      even = all.1.0;
      most = all.1.1.0;
      bits = all.1.1.1.0;
      header = ap (ltb (length bytes)) (sym c.header_length.ensures) ∙ le-ltb _ _ c.if-bytes-header_length.false;
    }

-- the last one, as the code asks it
asked : (c : goal.After-outside_projections) → let bytes = c.args.bytes.now in c.outside_projections.result ≡ bad_projections (mode_of (map_of bytes)) (projections_of bytes)
asked c = c.outside_projections.ensures ∙ rw (c.mode_of-2.ensures, c.projections_of-projections.ensures)

pub overflow_cast-result : goal.overflow_cast-result
overflow_cast-result c = omega (arith, c.type_inv.bytes 0)

pub returns-in_err-check_shape : goal.returns-in_err-check_shape
returns-in_err-check_shape c = rw (passed_on c.from_residual.result c.from_residual.ensures.1) (sym (header-shape c.args.bytes.now accepted (long (goal.at.returns-in_err-check_shape c).After-check_shape) (known (goal.at.returns-in_err-check_shape c).After-check_shape) (sym (shape (goal.at.returns-in_err-check_shape c).After-check_shape) ∙ ap says c.in_err-check_shape.was)))

pub returns-then-bytes-header_length : goal.returns-then-bytes-header_length
returns-then-bytes-header_length c = sym (header-cut c.args.bytes.now accepted (long (goal.at.returns-then-bytes-header_length c).After-check_shape) (known (goal.at.returns-then-bytes-header_length c).After-check_shape) (shaped (goal.at.returns-then-bytes-header_length c).In_ok-check_shape) (ap (ltb (length c.args.bytes.now)) (sym c.header_length.ensures) ∙ lt-ltb _ _ c.if-bytes-header_length.true))

pub returns-then-outside_projections : goal.returns-then-outside_projections
returns-then-outside_projections c = ap (refused 8) c.projections_of-projections.ensures ∙ sym (header-wrong _ accepted (passed (goal.at.returns-then-outside_projections c).Else-bytes-header_length (shaped (goal.at.returns-then-outside_projections c).In_ok-check_shape)) (sym (asked (goal.at.returns-then-outside_projections c).After-outside_projections) ∙ c.if-outside_projections.true))

pub returns : goal.returns
returns c = sym (header-right _ accepted (passed (goal.at.returns c).Else-bytes-header_length (shaped (goal.at.returns c).In_ok-check_shape)) (sym (asked (goal.at.returns c).After-outside_projections) ∙ c.if-outside_projections.false))
