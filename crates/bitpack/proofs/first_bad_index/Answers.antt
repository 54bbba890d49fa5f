-- `bitpack::first_bad_index` meets its contract: an index of 16 bits is below 2^bits from 16 bits on, and where the pass finds nothing, none is
-- found. Assumes nothing.
use Prim.Native.Nat.{ℕ, ◌^◌, ◌≤◌, ◌<◌}
use mathlib.Core.Path.{◌≡◌, sym, ap, ◌∙◌}
use mathlib.Core.Bool.{not}
use mathlib.Core.List.{List}
use native.Mathlib.Omega.{arith}
use lib.ListN.{length, get_or}
use lib.Pow.{pow_mono}
use borrow.Author.Tests.{lt-leb}
use Rattle.std.proofs.Common.{None}
use Rattle.error.specs.Answer.{place, found}
use Rattle.error.proofs.Places.{each_none}
use Rattle.error.proofs.Sweep.{clear-found}
use Rattle.error.specs.Checks.{bad_index}
use Rattle.bitpack.proofs.first_bad_index.Goals as goal

-- where every index is below 2^16, none is too large for more bits
none-large : (indices : List ℕ) (bits : ℕ) → 16 < bits → ((i : ℕ) → get_or indices i 0 < 65536) → None ≡ found (place (bad_index bits) indices) (length indices)
none-large indices bits wide small =
    let most : 2 ^ 16 ≤ 2 ^ bits = pow_mono {i = 16} {j = bits} (omega arith) in
    clear-found (bad_index bits) indices (ap not (each_none (bad_index bits) indices 0 (λ i h. lt-leb (2 ^ bits) (get_or indices i 0) (omega (arith, most, small i)))))

pub returns-then-bits-gt16 : goal.returns-then-bits-gt16
returns-then-bits-gt16 c = let a = c.args in
    none-large a.indices.now a.bits c.if-bits-gt16.true (λ i. omega (arith, c.type_inv.indices i))

pub returns-then-all_small : goal.returns-then-all_small
returns-then-all_small c = clear-found _ _ (sym c.all_small.ensures ∙ c.if-all_small.true)
