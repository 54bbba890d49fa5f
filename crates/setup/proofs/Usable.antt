-- What a setup has whose scalars' checks all pass. Proofs alone speak of it. Assumes nothing.
use Rattle.std.proofs.Common.{◌≡◌, ◌%◌, ◌<◌, ◌≤◌}
use Rattle.rotation.proofs.Accepted.{Power}
use Rattle.setup.specs.declared.Setup.{Setup}
use Rattle.setup.specs.declared.RotationKind.TheVariants.{FastHadamard, Stored}
use Rattle.setup.specs.declared.TurboMode.TheVariants.{PolarWithQjl}
use Rattle.setup.specs.Setups.{polar_bits_of, counted_projections_of}

pub record Usable (s : Setup) : Type 0 where
  pub above : 0 < s.dim
  pub most : s.dim ≤ 4096
  pub even : s.dim % 2 ≡ 0
  pub hadamard : s.kind ≡ FastHadamard → Power s.dim
  pub stored : s.kind ≡ Stored → s.dim ≤ 512
  pub least_bits : 1 ≤ polar_bits_of s
  pub most_bits : polar_bits_of s ≤ 16
  pub most_projections : counted_projections_of s ≤ 4096
  pub residual_bits : s.mode ≡ PolarWithQjl → polar_bits_of s ≤ 15
  pub residual_projections : s.mode ≡ PolarWithQjl → 0 < counted_projections_of s
