-- `bitpack::all_small` meets its contract: the indices are merged, and one comparison judges them. Assumes nothing.
use Rattle.std.proofs.Common.{◌≡◌, ◌^◌, ◌<◌, ltb}
use Rattle.error.specs.Checks.{bad_index}
use Rattle.error.proofs.Sweep.{Swept}
use Rattle.bitpack.proofs.all_small.Given as goal

abbrev pub invariant-loop-index : goal.invariant-loop-index
invariant-loop-index l = record { power : l.levels ≡ 2 ^ l.bits; small : l.all < 2 ^ 16; swept : Swept (bad_index l.bits) l.indices l.index-index (ltb l.all (2 ^ l.bits)) }
