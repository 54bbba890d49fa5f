-- The Hadamard rotation's account is sound for every accepted setup that has that rotation, and its size and bound are those that documents 01 and 02 write. Assumes
-- nothing.
use Prim.Native.Nat.{ℕ, ◌+◌, ◌*◌, ◌≤◌}
use mathlib.Core.Path.{◌≡◌, refl, sym, ap, ◌∙◌, transport}
use mathlib.Core.List.{List}
use native.Mathlib.Nat.{le_refl, one-mul}
use native.Mathlib.Omega.{arith}
use lib.ListN.{length, replicate, get_or, get_or-replicate}
use lib.Ieee.{Float, nan}
use Rattle.float.specs.Units.{unit, mag}
use Rattle.rounding.specs.Sums.{absolute_sum}
use Rattle.rounding.proofs.Close.{AllFit, AllClose}
use Rattle.rotation.specs.Rotation.{inverse_root, rotated}
use Rattle.rotation.specs.Exact.{exact_rotated}
use Rattle.rotation.proofs.Accepted.{Rotatable, power-few}
use Rattle.rotation.proofs.ErrorBound.{rotation_count, rotated-close}
use Rattle.setup.specs.Lent.{Lent}
use Rattle.setup.specs.declared.Setup.{Setup}
use Rattle.setup.specs.declared.RotationKind.{RotationKind}
use Rattle.setup.specs.declared.RotationKind.TheVariants.{FastHadamard}
use Rattle.setup_tables.specs.Checks.{bad_rotation_entry}
use Rattle.setup_tables.proofs.Accepted.{AcceptedSetup}
use Rattle.setup.specs.Setups.{by_mode, by_rotation, counted_projections_of}
use Rattle.polar.proofs.Counts.{polar_size-even}
use Rattle.qjl_residual.specs.Exact.{whole_norm}
use Rattle.turbo_order.specs.Account.{hadamard_account}
use Rattle.turbo_order.specs.Scores.{Content, polar_part_size, residual_part_size, size_by, per_step, per_radius, bound_by}
use Rattle.turbo_order.specs.AsWritten.{written_polar_size, written_size}
use Rattle.turbo_order.proofs.Sound.{Sound}

module _ (s : Setup) (l : Lent) (query : List Float) (is : s.kind ≡ FastHadamard) (accepted : AcceptedSetup s l) (query_long : length query ≡ s.dim) where
  rotatable : Rotatable s.dim l.rotation (length query) s.dim
  rotatable =
      record {
        power = accepted.usable.hadamard is;
        signs_long = accepted.rotation_long ∙ ap (λ (k : RotationKind). by_rotation k s.dim (s.dim * s.dim)) is;
        signs_good = λ i h. sym (ap (λ (k : RotationKind). bad_rotation_entry k (get_or l.rotation i nan)) is) ∙ accepted.rotation_good i h;
        input_long = query_long;
        output_long = refl;
      }

  pub hadamard-sound : AllFit l.rotation → AllFit query → Sound s.dim (hadamard_account s.dim l.rotation query)
  hadamard-sound signs-fit query_fit =
      let few = power-few s.dim (accepted.usable.hadamard is) in
      let small = accepted.usable.most in
      let once = ap (replicate s.dim) (sym (one-mul unit)) in
      record {
        roundings = rotation_count s.dim;
        close =
            transport
            (λ i. AllClose unit (rotation_count s.dim) (once i) (replicate s.dim (mag (inverse_root s.dim) * absolute_sum query)) (rotated s.dim l.rotation query) (exact_rotated s.dim l.rotation query))
            (rotated-close s.dim l.rotation query s.dim rotatable signs-fit query_fit);
        counted = omega arith;
        least = le_refl _;
        most = omega arith;
        some = le_refl 1;
      }

-- ---- the products as they are written

module _ (s : Setup) (l : Lent) (query : List Float) (c : Content) (half : 2 * length c.radii ≤ s.dim) where
  hadamard-size : polar_part_size (hadamard_account s.dim l.rotation query) l c ≡ written_polar_size s l query c
  hadamard-size =
      polar_size-even (mag (inverse_root s.dim) * absolute_sum query) (replicate s.dim (mag (inverse_root s.dim) * absolute_sum query)) l.directions c.indices c.radii
      (λ j k. get_or-replicate s.dim j (mag (inverse_root s.dim) * absolute_sum query) 0 (omega arith))

  pub hadamard-sizes : size_by (hadamard_account s.dim l.rotation query) s l query c ≡ written_size s l query c
  unfolding size_by
  hadamard-sizes = ap (λ (k : ℕ). by_mode s.mode k (k + residual_part_size s l query c)) hadamard-size

  pub hadamard-bound : bound_by (hadamard_account s.dim l.rotation query) s l query c
      ≡ (s.dim + counted_projections_of s + 16) * written_size s l query c + (per_radius * absolute_sum c.radii + per_step * (s.dim * counted_projections_of s * whole_norm c.norm + s.dim))
  unfolding bound_by
  hadamard-bound = rw (hadamard-sizes, one-mul)
