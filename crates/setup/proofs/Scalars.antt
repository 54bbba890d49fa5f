-- What the checks of a setup's scalars say where none offends. Assumes nothing.
use Rattle.std.proofs.Common.{◌≡◌, ℕ, ◌-◌, ◌%◌, ◌<◌, ◌≤◌, false, not, ◌||◌, eqb, ltb, arith, ltb-false, eqb-true}
use borrow.Author.Tests.{eqb-false, not-false}
use lib.Count.{ones}
use Rattle.error.specs.Answer.{first, accepted}
use Rattle.error.proofs.Chains.{or-false, first_passes}
use Rattle.rotation.proofs.Accepted.{Power}
use Rattle.setup.specs.declared.Setup.{Setup}
use Rattle.setup.specs.declared.TurboMode.{TurboMode}
use Rattle.setup.specs.declared.TurboMode.TheVariants.{PolarOnly, PolarWithQjl}
use Rattle.setup.specs.declared.RotationKind.{RotationKind}
use Rattle.setup.specs.declared.RotationKind.TheVariants.{FastHadamard, Stored}
use Rattle.setup.specs.Setups.{by_mode}
use Rattle.setup.specs.Checks.{bad_rotation_dimension, scalar_checks}
use Rattle.setup.proofs.Usable.{Usable}

-- ---- the bits and the projections, by mode

bits_least : (m : TurboMode) (b : ℕ) → ltb b (by_mode m 1 2) ≡ false → 1 ≤ by_mode m b (b - 1)
bits_least PolarOnly b e = ltb-false b 1 e
bits_least PolarWithQjl b e = let l = ltb-false b 2 e in omega (arith, l)

bits_most : (m : TurboMode) (b : ℕ) → ltb 16 b ≡ false → by_mode m b (b - 1) ≤ 16
bits_most PolarOnly b e = ltb-false 16 b e
bits_most PolarWithQjl b e = let l = ltb-false 16 b e in omega (arith, l)

bits-residual : (m : TurboMode) (b : ℕ) → ltb 16 b ≡ false → m ≡ PolarWithQjl → by_mode m b (b - 1) ≤ 15
bits-residual PolarOnly b e r = let z : ◌≡◌ {A = ℕ} 0 1 = cc in omega (arith, z)
bits-residual PolarWithQjl b e r = let l = ltb-false 16 b e in omega (arith, l)

projections-most : (m : TurboMode) (p : ℕ) → by_mode m false (eqb p 0 || ltb 4096 p) ≡ false → by_mode m 0 p ≤ 4096
projections-most PolarOnly p e = omega arith
projections-most PolarWithQjl p e = ltb-false 4096 p (or-false (eqb p 0) (ltb 4096 p) e).1

projections-residual : (m : TurboMode) (p : ℕ) → by_mode m false (eqb p 0 || ltb 4096 p) ≡ false → m ≡ PolarWithQjl → 0 < by_mode m 0 p
projections-residual PolarOnly p e r = let z : ◌≡◌ {A = ℕ} 0 1 = cc in omega (arith, z)
projections-residual PolarWithQjl p e r = let l = eqb-false p 0 (or-false (eqb p 0) (ltb 4096 p) e).0 in omega (arith, l)

-- ---- the dimension, by rotation

dimension-most : (k : RotationKind) (n : ℕ) → bad_rotation_dimension k n ≡ false → n ≤ 4096
dimension-most FastHadamard n e = ltb-false 4096 n (or-false (not (eqb (ones n) 1)) (ltb 4096 n) e).1
dimension-most Stored n e = let l = ltb-false 512 n e in omega (arith, l)

dimension-power : (k : RotationKind) (n : ℕ) → bad_rotation_dimension k n ≡ false → k ≡ FastHadamard → Power n
dimension-power FastHadamard n e is =
    record {
      bit = eqb-true (ones n) 1 (not-false _ (or-false (not (eqb (ones n) 1)) (ltb 4096 n) e).0);
      small = dimension-most FastHadamard n e;
    }
dimension-power Stored n e is = absurd (let z : ◌≡◌ {A = ℕ} 0 1 = cc in omega (arith, z))

dimension-stored : (k : RotationKind) (n : ℕ) → bad_rotation_dimension k n ≡ false → k ≡ Stored → n ≤ 512
dimension-stored FastHadamard n e is = let z : ◌≡◌ {A = ℕ} 0 1 = cc in omega (arith, z)
dimension-stored Stored n e is = ltb-false 512 n e

-- ---- all of them

pub scalars-usable : (s : Setup) → first (scalar_checks s) accepted ≡ accepted → Usable s
scalars-usable s e =
    let k = first_passes (scalar_checks s) tt e in
    let nonzero = eqb-false s.dim 0 k.0 in
    let even = eqb-false (s.dim % 2) 1 k.1.0 in
    let bits = k.1.1.0 in
    let projections = k.1.1.1.0 in
    let dimension = k.1.1.1.1.0 in
    record {
      above = omega (arith, nonzero);
      most = dimension-most s.kind s.dim dimension;
      even = omega (arith, even);
      hadamard = dimension-power s.kind s.dim dimension;
      stored = dimension-stored s.kind s.dim dimension;
      least_bits = bits_least s.mode s.bits (or-false (ltb s.bits (by_mode s.mode 1 2)) (ltb 16 s.bits) bits).0;
      most_bits = bits_most s.mode s.bits (or-false (ltb s.bits (by_mode s.mode 1 2)) (ltb 16 s.bits) bits).1;
      most_projections = projections-most s.mode s.projections projections;
      residual_bits = bits-residual s.mode s.bits (or-false (ltb s.bits (by_mode s.mode 1 2)) (ltb 16 s.bits) bits).1;
      residual_projections = projections-residual s.mode s.projections projections;
    }
