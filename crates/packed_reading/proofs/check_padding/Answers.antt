-- `packed_reading::check_padding` meets its contract: each payload is the part that the header gives, and of the right length, so that only its padding is left to say.
-- Assumes nothing.
use Prim.Native.Nat.{ℕ, ◌*◌, ◌/◌}
use mathlib.Core.Path.{◌≡◌, sym, ap, ◌∙◌}
use mathlib.Core.List.{List}
use native.Mathlib.Omega.{arith}
use lib.ListN.{length}
use Rattle.error.specs.Answer.{accepted}
use Rattle.error.specs.Outcomes.{says}
use Rattle.bitpack.specs.Padding.{validate_padding_zero_of}
use Rattle.packed.specs.Fields.{bits_of}
use Rattle.packed.specs.Layout.{pairs_of, indices_used, indices_bytes, signs_bytes}
use Rattle.packed.proofs.Headers.{header-usable, bits_most, product-most}
use Rattle.packed.proofs.Parts.{Ordered, ordered, indices_part, signs_part, header-used, header_projections_lem}
use Rattle.packed.proofs.Payloads.{padding-indices, padding-signs}
use Rattle.error.proofs.Passed.{passed_on}
use Rattle.packed_reading.proofs.check_padding.Goals.{After-validate_padding_zero, Start}
use Rattle.packed_reading.proofs.check_padding.Goals as goal

-- the header's places lie in the record, in their order
within : (c : goal.Start) → Ordered c.args.header (length c.args.bytes.now)
within c =
    let o = ordered c.args.bytes.now c.requires.own in
    record { first = o.first; second = o.second; third = o.third; last = o.last ∙ sym c.requires.sized }

pub overflow_mul-used : goal.overflow_mul-used
overflow_mul-used c = let bytes = c.args.bytes.now in
    let u = header-usable bytes accepted c.requires.passed in
    let p = product-most (pairs_of bytes) (bits_of bytes) 2048 16 (omega (arith, u.most)) (bits_most bytes u) in
    omega (arith, header-used bytes c.requires.own, p)

pub slice_bounds-validate_padding_zero-count : goal.slice_bounds-validate_padding_zero-count
slice_bounds-validate_padding_zero-count c = let w = within (goal.at.slice_bounds-validate_padding_zero-count c).Start in omega (arith, w.first, w.second, w.third, w.last)

pub slice_bounds-validate_padding_zero-start : goal.slice_bounds-validate_padding_zero-start
slice_bounds-validate_padding_zero-start c = let w = within (goal.at.slice_bounds-validate_padding_zero-start c).Start in omega (arith, w.first, w.second, w.third, w.last)

pub slice_bounds-validate_padding_zero-end : goal.slice_bounds-validate_padding_zero-end
slice_bounds-validate_padding_zero-end c = let w = within (goal.at.slice_bounds-validate_padding_zero-end c).Start in omega (arith, w.first, w.second, w.third, w.last)

-- what the check of the indices' padding answers
indices-judged : (c : goal.After-validate_padding_zero) → let bytes = c.args.bytes.now in says c.validate_padding_zero.result ≡ validate_padding_zero_of (indices_bytes bytes) (indices_used bytes)
indices-judged c =
    let bytes = c.args.bytes.now in
    let header = c.args.header in
    c.validate_padding_zero.ensures
    ∙ ap (λ (l : List ℕ). validate_padding_zero_of l (header.dim / 2 * header.bits)) (indices_part bytes c.requires.own)
    ∙ ap (validate_padding_zero_of (indices_bytes bytes)) (header-used bytes c.requires.own)

pub returns-in_err-validate_padding_zero : goal.returns-in_err-validate_padding_zero
returns-in_err-validate_padding_zero c = rw (passed_on c.from_residual.result c.from_residual.ensures.1) (sym (padding-indices c.args.bytes.now c.requires.sized (sym (indices-judged (goal.at.returns-in_err-validate_padding_zero c).After-validate_padding_zero) ∙ ap says c.in_err-validate_padding_zero.was)))

pub slice_bounds-validate_padding_zero-count-2 : goal.slice_bounds-validate_padding_zero-count-2
slice_bounds-validate_padding_zero-count-2 c = let w = within (goal.at.slice_bounds-validate_padding_zero-count-2 c).Start in omega (arith, w.first, w.second, w.third, w.last)

pub slice_bounds-validate_padding_zero-start-2 : goal.slice_bounds-validate_padding_zero-start-2
slice_bounds-validate_padding_zero-start-2 c = let w = within (goal.at.slice_bounds-validate_padding_zero-start-2 c).Start in omega (arith, w.first, w.second, w.third, w.last)

pub slice_bounds-validate_padding_zero-end-2 : goal.slice_bounds-validate_padding_zero-end-2
slice_bounds-validate_padding_zero-end-2 c = let w = within (goal.at.slice_bounds-validate_padding_zero-end-2 c).Start in omega (arith, w.first, w.second, w.third, w.last)

pub returns : goal.returns
returns c = let bytes = c.args.bytes.now in
    c.validate_padding_zero-2.ensures
    ∙ ap (λ (l : List ℕ). validate_padding_zero_of l c.args.header.projections) (signs_part bytes c.requires.own)
    ∙ ap (validate_padding_zero_of (signs_bytes bytes)) (header_projections_lem bytes c.requires.own)
    ∙ sym (padding-signs bytes c.requires.sized (sym (indices-judged (goal.at.returns c).After-validate_padding_zero) ∙ ap says c.in_ok-validate_padding_zero.was))
