-- Private functions answer these to their callers; no public promise is stated by them. The pattern of a finite f32 that is not negative stands for two numbers: a
-- significand, and by how many binary places it is shifted. Assumes nothing.
use Rattle.std.specs.Prelude.{ℕ, ◌+◌, ◌-◌, ◌/◌, ◌%◌, ◌^◌, cond, nat_lt}

-- This is the significand of a pattern below 7F800000: its last 23 digits, with the leading one where the exponent's field is not 0.
unfoldable pub significand_of : ℕ → ℕ
significand_of b = cond (nat_lt b (2 ^ 23)) b (2 ^ 23 + b % 2 ^ 23)

-- This is the exponent's field less 1; a field of 0 counts as 1.
unfoldable pub shift_of : ℕ → ℕ
shift_of b = b / 2 ^ 23 - 1
