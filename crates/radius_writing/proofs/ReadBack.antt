-- The first radius that offends of radii as they would be read back, profile by profile: floats come back as they are, and a linear radius is judged by its
-- number. Assumes nothing.
use Prim.Native.Nat.{ℕ, suc}
use mathlib.Core.Path.{◌≡◌, refl, ap, ◌∙◌}
use mathlib.Core.Bool.{Bool, cond}
use mathlib.Core.List.{List, [], ◌∷◌, map}
use lib.Ieee.{Float}
use Rattle.error.specs.Answer.{place}
use Rattle.lists.proofs.Chunks.{chunks-joined}
use Rattle.radius.specs.Firsts.{read_back, first_bad_read_back_of}
use Rattle.radius.specs.Linear.{linear_bytes, linear_radius}
use Rattle.radius.specs.Radii.{bad_radius, range_of}
use Rattle.radius.specs.declared.RadiusCodecProfileV1.TheVariants.{F32, BlockLinearU16, BlockLogU8}
use Rattle.radius.proofs.Linear.{length-linear_bytes, linear-kept}
use Rattle.radius.proofs.RoundTrip.{Floats, floats_back}
use Rattle.radius_writing.specs.Inner.{bad_kept}

place_map : {A B : Type 0} (bad : B → Bool) (f : A → B) (before : A → Bool) → ((x : A) → bad (f x) ≡ before x) → (xs : List A) → place bad (map f xs) ≡ place before xs
unfolding place
place_map bad f before same [] = refl
place_map bad f before same (x ∷ xs) = ap (λ (t : Bool). cond t 0 (suc (place bad (map f xs)))) (same x) ∙ ap (λ (n : ℕ). cond (before x) 0 (suc n)) (place_map bad f before same xs)

module _ (radii : List Float) where
  pub first_bad_floats-back : Floats radii → first_bad_read_back_of radii F32 ≡ place bad_radius radii
  unfolding first_bad_read_back_of read_back
  first_bad_floats-back f = ap (place bad_radius) (floats_back radii f)

  pub first_bad_linear-back : first_bad_read_back_of radii BlockLinearU16 ≡ place (bad_kept (range_of radii)) radii
  unfolding first_bad_read_back_of read_back
  first_bad_linear-back =
      let range = range_of radii in
      ap (place bad_radius) (chunks-joined (linear_bytes range) 2 (length-linear_bytes range) (linear_radius range) radii)
      ∙ place_map bad_radius (λ r. linear_radius range (linear_bytes range r)) (bad_kept range) (λ r. ap bad_radius (linear-kept range r)) radii

  pub first-bad-log-back : first_bad_read_back_of radii BlockLogU8 ≡ 0
  unfolding first_bad_read_back_of read_back place
  first-bad-log-back = refl
