-- What a call for the pairs answers, by whether its output is as long as it has to be. Assumes nothing.
use Rattle.std.proofs.Common.{◌≡◌, ℕ, ◌*◌, List, length, eq-eqb, ne_eqb}
use lib.Ieee.{Float}
use Rattle.error.specs.Answer.{value, refused}
use Rattle.polar.specs.Polar.{decoded_pairs, polar_pairs_of}

module _ (directions : List Float) (indices : List ℕ) (radii : List Float) (room : ℕ) where
  pub pairs-refused : (room ≡ 2 * length radii → ⊥) → polar_pairs_of directions indices radii room ≡ refused 6 (2 * length radii)
  unfolding polar_pairs_of
  pairs-refused h = rw (ne_eqb room (2 * length radii) h)

  pub pairs-value : room ≡ 2 * length radii → polar_pairs_of directions indices radii room ≡ value (decoded_pairs directions indices radii)
  unfolding polar_pairs_of
  pairs-value h = rw (eq-eqb room (2 * length radii) h)
