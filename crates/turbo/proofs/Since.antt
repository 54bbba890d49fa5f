-- A record whose answer from its reading on is a value: it is opened, the value is its score, and the score is finite. Assumes nothing.
use Prim.Native.Nat.{ℕ, ◌*◌}
use mathlib.Core.Path.{◌≡◌, sym, ◌∙◌, subst}
use mathlib.Core.Bool.{Bool, false}
use mathlib.Core.List.{List, [], ◌∷◌}
use native.Mathlib.Omega.{arith}
use borrow.Author.Tests.{not-false}
use lib.Dec.{T}
use lib.ListN.{length}
use lib.Ieee.{Float}
use lib.Ieee.Scale.{finite}
use Rattle.error.specs.Answer.{value, first}
use Rattle.error.specs.Checks.{wrong_score}
use Rattle.error.proofs.Chains.{first-passed, first_passes, first-value, append_left, append_right}
use Rattle.setup.specs.declared.Setup.{Setup}
use Rattle.packed.specs.Layout.{header_of}
use Rattle.packed.specs.Reading.{is_withdrawn, radii_of}
use Rattle.packed.proofs.Payloads.{length-radii_of}
use Rattle.packed.proofs.Withdrawn.{unless-some, unless-value}
use Rattle.turbo_opening.specs.Opening.{open_checks}
use Rattle.turbo_opening.specs.Inner.{opened_of}
use Rattle.turbo_opening.proofs.Answers.{opened-accepted, opened-dim}
use Rattle.turbo_record.specs.Scoring.{reading_checks, since_reading}

module _ (s : Setup) (bytes : List ℕ) (z : Float) {x : Float} (answered : since_reading s bytes z (value z) ≡ value x) where
  -- the record has bytes, and the checks from its reading on pass
  since-rest : (is_withdrawn bytes ≡ false) × (first (reading_checks s bytes z) (value z) ≡ value x)
  since-rest = unless-value bytes (first (reading_checks s bytes z) (value z)) answered

  -- the record is opened, which needs every check of the reader
  pub since-open : opened_of s bytes ≡ value (header_of bytes)
  unfolding opened_of
  since-open = unless-some bytes _ since-rest.0 ∙ first-passed (open_checks s bytes) (value (header_of bytes)) (append_left (open_checks s bytes) (wrong_score z ∷ []) (value z) since-rest.1)

  -- two coordinates for each radius
  pub since-pairs : 2 * length (radii_of bytes) ≡ s.dim
  since-pairs = omega (arith, length-radii_of bytes, (opened-accepted s bytes since-open).even, opened-dim s bytes since-open)

  -- what is answered is the score
  pub since-value : z ≡ x
  since-value = first-value (reading_checks s bytes z) z since-rest.1

  -- '12: a score .. is not finite' is not answered
  pub since-finite : T (finite z)
  since-finite =
      let last = append_right (open_checks s bytes) (wrong_score z ∷ []) (value z) since-rest.1 in
      let known = not-false (finite z) (first_passes (wrong_score z ∷ []) z last).0 in
      subst (λ (b : Bool). T b) (sym known) tt
