-- Under a setup whose checks pass, but for those of the projection matrix's entries, its rotation refuses no input and no output of its dimension. Assumes nothing.
use Prim.Native.Nat.{ℕ, ◌*◌, ◌%◌}
use mathlib.Core.Path.{◌≡◌, refl, ap}
use mathlib.Core.Bool.{false, not}
use mathlib.Core.List.{List}
use borrow.Author.Tests.{eq-eqb}
use lib.Dec.{eqb, ltb}
use lib.ListN.{length}
use lib.Ieee.{Float}
use Rattle.error.specs.Answer.{first, place, accepted}
use Rattle.error.proofs.Chains.{first_passes, first-accepts}
use Rattle.rotation.specs.Checks.{rotation_checks}
use Rattle.rotation_stored.specs.Checks.{stored_checks}
use Rattle.setup.specs.Lent.{Lent}
use Rattle.setup.specs.declared.Setup.{Setup}
use Rattle.setup.specs.declared.RotationKind.{RotationKind}
use Rattle.setup.specs.declared.RotationKind.TheVariants.{FastHadamard, Stored}
use Rattle.setup.specs.Setups.{by_rotation}
use Rattle.setup.specs.Checks.{bad_rotation_dimension}
use Rattle.setup_tables.specs.Checks.{bad_rotation_entry, setup_checks_but_entries}
use Rattle.setup_rotation.specs.Rotations.{turn_checks}

-- the checks of a rotation that is known, from what each of them asks
turnable-at : (k : RotationKind) (n : ℕ) (entries : List Float) → eqb n 0 ≡ false → eqb (n % 2) 1 ≡ false → bad_rotation_dimension k n ≡ false
    → not (eqb (length entries) (by_rotation k n (n * n))) ≡ false → ltb (place (bad_rotation_entry k) entries) (length entries) ≡ false
    → first (by_rotation k (rotation_checks n entries n n) (stored_checks n entries n n)) accepted ≡ accepted
turnable-at FastHadamard n entries above even small long good =
    let same = ap not (eq-eqb n n refl) in
    first-accepts (rotation_checks n entries n n) accepted (above, (even, (small, (long, (good, (same, (same, tt)))))))
turnable-at Stored n entries above even small long good =
    let same = ap not (eq-eqb n n refl) in
    first-accepts (stored_checks n entries n n) accepted (above, (even, (small, (long, (good, (same, (same, tt)))))))

pub setup-turnable : (s : Setup) (l : Lent) → first (setup_checks_but_entries s l) accepted ≡ accepted → first (turn_checks s l.rotation s.dim s.dim) accepted ≡ accepted
setup-turnable s l passed =
    let k = first_passes (setup_checks_but_entries s l) tt passed in
    turnable-at s.kind s.dim l.rotation k.0 k.1.0 k.1.1.1.1.0 k.1.1.1.1.1.0 k.1.1.1.1.1.1.1.1.0
