-- `float::nearest_root` meets its contract: the root that was found has at most 24 digits, so its square fits. Assumes nothing.
use Rattle.std.proofs.Common.{ℕ, ◌+◌, ◌*◌, ◌^◌, ◌<◌, sym, subst, le_of_lt, mul-le-mul, arith}
use Rattle.float.proofs.IntegerRoot.{root_bits-lt, nearest_root-raised, nearest_root-kept}
use Rattle.float.proofs.nearest_root.Goals.{After-integer_root-q}
use Rattle.float.proofs.nearest_root.Goals as goal

small : (c : goal.After-integer_root-q) → c.integer_root-q.result < 2 ^ 24
small c = subst (λ (q : ℕ). q < 2 ^ 24) (sym c.integer_root-q.ensures) (root_bits-lt 24 0 c.args.m)

square-lt : (q : ℕ) → q < 2 ^ 24 → q * q + q < 2 ^ 64
square-lt q h = omega (arith, mul-le-mul (le_of_lt h) (le_of_lt h))

pub overflow_mul-q : goal.overflow_mul-q
overflow_mul-q c = record { fits = omega (arith, square-lt c.integer_root-q.result (small (goal.at.overflow_mul-q c).After-integer_root-q)) }

pub overflow_add-q : goal.overflow_add-q
overflow_add-q c = record { fits = square-lt c.integer_root-q.result (small (goal.at.overflow_add-q c).After-integer_root-q) }

pub overflow_add-result : goal.overflow_add-result
overflow_add-result c = record { fits = omega (arith, small (goal.at.overflow_add-result c).After-integer_root-q) }

pub overflow_cast-result : goal.overflow_cast-result
overflow_cast-result c = record { fits = omega (arith, small (goal.at.overflow_cast-result c).After-integer_root-q) }

pub overflow_cast-result-else-q-m : goal.overflow_cast-result-else-q-m
overflow_cast-result-else-q-m c = record { fits = omega (arith, small (goal.at.overflow_cast-result-else-q-m c).After-integer_root-q) }

pub returns-then-q-m : goal.returns-then-q-m
returns-then-q-m c = nearest_root-raised c.args.m c.integer_root-q.result c.integer_root-q.ensures c.if-q-m.true

pub returns-else-q-m : goal.returns-else-q-m
returns-else-q-m c = nearest_root-kept c.args.m c.integer_root-q.result c.integer_root-q.ensures c.if-q-m.false
