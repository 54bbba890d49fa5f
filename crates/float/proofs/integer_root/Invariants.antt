-- `float::integer_root` meets its contract. The invariant: j digits are still to be found, and r with all of them set stays below 2 ^ 24. Assumes nothing.
use Rattle.std.proofs.Common.{◌≡◌, ◌+◌, ◌^◌, ◌≤◌}
use Rattle.float.specs.SquareRoot.{root_bits}
use Rattle.float.proofs.integer_root.Given as goal

abbrev pub invariant-loop-j : goal.invariant-loop-j
invariant-loop-j l = record { room : l.r + 2 ^ l.j ≤ 2 ^ 24; digits : root_bits 24 0 l.m ≡ root_bits l.j l.r l.m }
