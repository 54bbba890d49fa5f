-- Private functions ask one of these of their callers and ensure the other. No public promise is stated by these. Assumes nothing.
use Rattle.std.specs.Prelude.{ℕ, ◌-◌, ◌*◌, ◌≤◌, ◌<◌, ◌≡◌, List, ◌++◌, length, get_or, take, drop}
use Rattle.digits.specs.Digits.{number, digits}

-- A block is 256 bits.
pub record Block (bits : List ℕ) : Type 0 where
  pub long : length bits ≡ 256
  pub small : (i : ℕ) → i < 256 → get_or bits i 0 < 2

-- k bytes are written, of eight signs each; `room` is the output's length.
pub record SignsPacked (bits : List ℕ) (room : ℕ) (out : List ℕ) (k : ℕ) : Type 0 where
  pub sized : length out ≡ room
  pub within : 8 * k ≤ length bits
  pub rest : digits 256 room (number 2 bits) ≡ take k out ++ digits 256 (room - k) (number 2 (drop (8 * k) bits))
