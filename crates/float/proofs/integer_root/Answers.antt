-- `float::integer_root` meets its contract. The invariant: j digits are still to be found, and r with all of them set stays below 2 ^ 24. Assumes nothing.
use Rattle.std.proofs.Common.{◌≡◌, ℕ, ◌+◌, ◌-◌, ◌*◌, ◌%◌, ◌^◌, ◌<◌, ◌≤◌, ◌∙◌, arith}
use Rattle.float.proofs.IntegerRoot.{root_bits-take, root_bits-skip, root_bits-none, half-power}
use Rattle.float.proofs.integer_root.Goals as goal

-- the shift does not cut the digit that is tried
digit : (r j : ℕ) → 0 < j → r + 2 ^ j ≤ 2 ^ 24 → 1 * 2 ^ (j - 1) % 2 ^ 64 ≡ 2 ^ (j - 1)
digit r j J h = omega (arith, half-power j J)

pub loop-j-preserved-then-t-m : goal.loop-j-preserved-then-t-m
loop-j-preserved-then-t-m c = let s = c.loop-j.invariant in
    let d = digit _ _ c.loop-j-test.true s.room in
    rw d (record { room = omega (arith, half-power _ c.loop-j-test.true); digits = s.digits ∙ root_bits-take _ _ _ c.loop-j-test.true (rw d at c.if-t-m.true) })

pub loop-j-preserved : goal.loop-j-preserved
loop-j-preserved c = let s = c.loop-j.invariant in
    let d = digit _ _ c.loop-j-test.true s.room in
    record { room = omega (arith, half-power _ c.loop-j-test.true); digits = s.digits ∙ root_bits-skip _ _ _ c.loop-j-test.true (rw d at c.if-t-m.false) }

pub returns : goal.returns
returns c = let e : c.loop-j.j ≡ 0 = omega arith in let n = root_bits-none c.loop-j.r c.args.m in cc
