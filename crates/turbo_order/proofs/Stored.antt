-- A stored rotation's account is sound for every accepted setup that has one: each entry is a row's sum, which takes n + 1 roundings and an absolute error of n units.
-- Nothing is asked of the matrix but that its entries are f32. Assumes nothing.
use Prim.Native.Nat.{◌+◌}
use mathlib.Core.Path.{◌≡◌}
use mathlib.Core.List.{List}
use native.Mathlib.Omega.{arith}
use lib.Ieee.{Float}
use Rattle.rounding.proofs.Close.{AllFit}
use Rattle.rotation_stored.proofs.ErrorBound.{stored-close}
use Rattle.setup.specs.Lent.{Lent}
use Rattle.setup.specs.declared.Setup.{Setup}
use Rattle.setup.specs.declared.RotationKind.TheVariants.{Stored}
use Rattle.setup_tables.proofs.Accepted.{AcceptedSetup}
use Rattle.turbo_order.specs.Account.{stored_account}
use Rattle.turbo_order.proofs.Sound.{Sound}

pub stored-sound : (s : Setup) (l : Lent) (query : List Float) → s.kind ≡ Stored → AcceptedSetup s l → AllFit l.rotation → AllFit query
    → Sound s.dim (stored_account s.dim l.rotation query)
stored-sound s l query is accepted matrix_fit query_fit =
    let small = accepted.usable.stored is in
    let above = accepted.usable.above in
    record {
      roundings = s.dim + 1;
      close = stored-close s.dim l.rotation query matrix_fit query_fit (omega arith);
      counted = omega arith;
      least = omega arith;
      most = omega arith;
      some = above;
    }
