-- What the scalars of a record tell, and the checks of them one by one. Assumes nothing.
use Prim.Native.Nat.{ℕ, ◌≤◌}
use mathlib.Core.Path.{◌≡◌, ◌∙◌}
use mathlib.Core.Bool.{true, false}
use mathlib.Core.List.{[], ◌∷◌}
use native.Mathlib.Omega.{arith}
use borrow.Author.Tests.{ltb-false}
use lib.Dec.{ltb, eqb}
use Rattle.error.specs.Answer.{refused, check, first, accepted}
use Rattle.error.proofs.Chains.{first-all, append-refused, append-passed, or-false}
use Rattle.radius.specs.Codec.{bad_profile}
use Rattle.setup.specs.Checks.{bad_projections}
use Rattle.setup.specs.Setups.{counted}
use Rattle.setup.specs.declared.TurboMode.{TurboMode}
use Rattle.setup.specs.declared.TurboMode.TheVariants.{PolarOnly, PolarWithQjl}
use Rattle.packed.specs.Reading.{bad_polar_bits, shape_checks}
use Rattle.packed.specs.declared.Code.{Code}
use Rattle.packed_size.specs.Size.{bad_norm_alone, code_checks}

-- ---- the checks, one by one

module _ (code : Code) (known : bad_profile code.profile ≡ false) where
  pub code-norm_alone : bad_norm_alone code.mode code.norm ≡ true → first (code_checks code) accepted ≡ refused 18 0
  code-norm_alone e = rw (known, e)

module _ (code : Code) (known : bad_profile code.profile ≡ false) (beside : bad_norm_alone code.mode code.norm ≡ false) where
  pub code_shape : {n p : ℕ} → first (shape_checks code.mode code.dim code.bits) accepted ≡ refused n p → first (code_checks code) accepted ≡ refused n p
  code_shape e = rw (known, beside) (append-refused (shape_checks code.mode code.dim code.bits) (check (bad_projections code.mode code.projections) 8 code.projections ∷ []) tt accepted e)

  module _ (pass : first (shape_checks code.mode code.dim code.bits) accepted ≡ accepted) where
    left : first (code_checks code) accepted ≡ first (check (bad_projections code.mode code.projections) 8 code.projections ∷ []) accepted
    left = rw (known, beside) (append-passed (shape_checks code.mode code.dim code.bits) (check (bad_projections code.mode code.projections) 8 code.projections ∷ []) tt accepted pass)

    pub code-projections : bad_projections code.mode code.projections ≡ true → first (code_checks code) accepted ≡ refused 8 code.projections
    code-projections e = left ∙ rw e

    pub code-clear : bad_projections code.mode code.projections ≡ false → first (code_checks code) accepted ≡ accepted
    code-clear e = left ∙ rw e

-- ---- scalars that pass are small

pub record Small (code : Code) : Type 0 where
  pub known : bad_profile code.profile ≡ false
  pub dim_most : code.dim ≤ 4096
  pub bits_least : 1 ≤ code.bits
  pub bits_most : code.bits ≤ 16
  pub signs_most : counted code.mode code.projections ≤ 4096

pub bits_inside : (mode : TurboMode) (b : ℕ) → bad_polar_bits mode b ≡ false → (1 ≤ b) × (b ≤ 16)
bits_inside PolarOnly b e = let both = or-false (ltb b 1) (ltb 16 b) e in (ltb-false b 1 both.0, ltb-false 16 b both.1)
bits_inside PolarWithQjl b e = let both = or-false (ltb b 1) (ltb 15 b) e in let most = ltb-false 15 b both.1 in (ltb-false b 1 both.0, omega (arith, most))

counted-most : (mode : TurboMode) (m : ℕ) → bad_projections mode m ≡ false → counted mode m ≤ 4096
counted-most PolarOnly m e = omega arith
counted-most PolarWithQjl m e = ltb-false 4096 m (or-false (eqb m 0) (ltb 4096 m) e).1

pub code-small : (code : Code) → first (code_checks code) accepted ≡ accepted → Small code
code-small code pass =
    let all = first-all (code_checks code) accepted pass in
    let b = bits_inside code.mode code.bits all.1.1.1.1.1.0 in
    record {
      known = all.0;
      dim_most = ltb-false 4096 code.dim all.1.1.1.1.0;
      bits_least = b.0;
      bits_most = b.1;
      signs_most = counted-most code.mode code.projections all.1.1.1.1.1.1.0;
    }
