-- `codebook::ScalarCodebook::quantize` meets its contract: it says what the check says, then 11, then the level. Assumes nothing.
use Prim.Native.Nat.{ℕ, ◌-◌, ◌^◌, ◌≤◌, min}
use mathlib.Core.Path.{◌≡◌, refl, sym, ap, ◌∙◌}
use mathlib.Core.Bool.{true}
use mathlib.Core.List.{[], ◌∷◌}
use native.Mathlib.Omega.{arith}
use lib.Ieee.{Float}
use lib.Ieee.Scale.{finite}
use lib.Pow.{pow_pos}
use Rattle.error.specs.Answer.{value, first}
use Rattle.error.specs.Outcomes.{says}
use Rattle.codebook.specs.Codebook.{wrong_value, level_of, quantize_of}
use Rattle.codebook.specs.Inner.{check_of}
use Rattle.codebook.proofs.Checks.{check-refused, check-passed, check-narrow}
use Rattle.float.proofs.Levels.{levels-most, levels-in_float}
use Rattle.error.proofs.Passed.{passed_on}
use Rattle.codebook.proofs.ScalarCodebook.quantize.Goals as goal

pub returns-in_err-check : goal.returns-in_err-check
unfolding quantize_of
returns-in_err-check c = let a = c.args in
    rw (passed_on c.from_residual.result c.from_residual.ensures.1) (sym (check-refused a.self.bits a.self.min a.self.max (first (wrong_value a.value ∷ []) (value (level_of a.self.bits a.self.min a.self.max a.value)))
    (sym c.in_err-check.ensures)))

pub returns-then-not-is_finite : goal.returns-then-not-is_finite
unfolding quantize_of
returns-then-not-is_finite c = let a = c.args in
    simp (check-passed a.self.bits a.self.min a.self.max (first (wrong_value a.value ∷ []) (value (level_of a.self.bits a.self.min a.self.max a.value))) (sym c.check.ensures ∙ ap says c.in_ok-check.was), ← c.is_finite.ensures, c.if-not-is_finite.true)

pub level_count-levels-requires : goal.level_count-levels-requires
level_count-levels-requires c = let a = c.args in check-narrow a.self.bits a.self.min a.self.max (sym c.check.ensures ∙ ap says c.in_ok-check.was)

-- the number of levels is in 1..65536
counted : (bits levels : ℕ) → levels ≡ 2 ^ bits → bits ≤ 16 → (1 ≤ levels) × (levels ≤ 65536)
counted bits levels e narrow =
    let p = pow_pos bits in
    let m = levels-most bits narrow in
    (omega (arith, e, p), omega (arith, e, m))

pub int_to_float-levels : goal.int_to_float-levels
int_to_float-levels c = levels-in_float c.level_count-levels.result (counted c.args.self.bits _ c.level_count-levels.ensures (check-narrow c.args.self.bits c.args.self.min c.args.self.max (sym c.check.ensures ∙ ap says c.in_ok-check.was))).1

pub overflow_sub-last : goal.overflow_sub-last
overflow_sub-last c = (counted c.args.self.bits _ c.level_count-levels.ensures (check-narrow c.args.self.bits c.args.self.min c.args.self.max (sym c.check.ensures ∙ ap says c.in_ok-check.was))).0

pub overflow_cast-result : goal.overflow_cast-result
overflow_cast-result c = omega (arith, c.if-index-last.true, counted c.args.self.bits _ c.level_count-levels.ensures (check-narrow c.args.self.bits c.args.self.min c.args.self.max (sym c.check.ensures ∙ ap says c.in_ok-check.was)))

pub overflow_cast-result-else-index-last : goal.overflow_cast-result-else-index-last
overflow_cast-result-else-index-last c = omega (arith, counted c.args.self.bits _ c.level_count-levels.ensures (check-narrow c.args.self.bits c.args.self.min c.args.self.max (sym c.check.ensures ∙ ap says c.in_ok-check.was)))

-- the answer, of the smaller of the level and the last level
answered : (bits : ℕ) (lo hi x : Float) → check_of bits lo hi ≡ value tt → finite x ≡ true → (n : ℕ)
    → n ≡ level_of bits lo hi x → value n ≡ quantize_of bits lo hi x
unfolding quantize_of
answered bits lo hi x passed fine n e =
    ap value e
    ∙ sym (check-passed bits lo hi (first (wrong_value x ∷ []) (value (level_of bits lo hi x))) passed ∙ rw fine refl)

pub returns-then-index-last : goal.returns-then-index-last
unfolding level_of
returns-then-index-last c = let a = c.args in
    let least : c.floor_u32-index.result ≡ min c.floor_u32-index.result (c.level_count-levels.result - 1) = omega (arith, c.if-index-last.true) in
    answered a.self.bits a.self.min a.self.max a.value (sym c.check.ensures ∙ ap says c.in_ok-check.was) (sym c.is_finite.ensures ∙ c.if-not-is_finite.false) _
    (least ∙ simp (c.floor_u32-index.ensures, c.clamp-clipped.ensures, c.level_count-levels.ensures))

pub returns-else-index-last : goal.returns-else-index-last
unfolding level_of
returns-else-index-last c = let a = c.args in
    let least : c.level_count-levels.result - 1 ≡ min c.floor_u32-index.result (c.level_count-levels.result - 1) = omega (arith, c.if-index-last.false) in
    answered a.self.bits a.self.min a.self.max a.value (sym c.check.ensures ∙ ap says c.in_ok-check.was) (sym c.is_finite.ensures ∙ c.if-not-is_finite.false) _
    (least ∙ simp (c.floor_u32-index.ensures, c.clamp-clipped.ensures, c.level_count-levels.ensures))
