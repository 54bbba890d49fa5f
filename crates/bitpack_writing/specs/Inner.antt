-- Private functions ask some of these of their callers and ensure the others. No public promise is stated by these. Assumes nothing.
use Rattle.std.specs.Prelude.{ℕ, ◌+◌, ◌-◌, ◌*◌, ◌^◌, ◌≤◌, ◌<◌, ◌≡◌, List, ◌++◌, length, get_or, take, drop}
use Rattle.digits.specs.Digits.{number, digits}
use Rattle.bitpack.specs.Padding.{bytes_for}

-- The indices have passed every check of packing but 19; `room` is the output's length.
pub record Packable (indices : List ℕ) (bits room : ℕ) : Type 0 where
  pub wide : 1 ≤ bits
  pub narrow : bits ≤ 16
  pub small : (i : ℕ) → i < length indices → get_or indices i 0 < 2 ^ bits
  pub exact : room ≡ bytes_for (length indices * bits)

-- k groups of eight indices are taken in, each as `bits` bytes; of the output's `room` bytes the others are still to be written.
pub record Gathered (indices : List ℕ) (bits room : ℕ) (out : List ℕ) (k : ℕ) : Type 0 where
  pub sized : length out ≡ room
  pub within : 8 * k ≤ length indices
  pub rest : digits 256 room (number (2 ^ bits) indices) ≡ take (k * bits) out ++ digits 256 (room - k * bits) (number (2 ^ bits) (drop (8 * k) indices))

-- Four indices of `width` bits each stand at `at`.
pub record Readable (indices : List ℕ) (width at : ℕ) : Type 0 where
  pub within : at + 4 ≤ length indices
  pub narrow : width ≤ 16
  pub small : (i : ℕ) → i < length indices → get_or indices i 0 < 2 ^ width

-- Of the bytes `old`, those before `at` stay, and the n from there on become the lowest n of x; what stands behind them is left open.
pub record Placed (old new : List ℕ) (at n x : ℕ) : Type 0 where
  pub sized : length new ≡ length old
  pub front : take (at + n) new ≡ take at old ++ digits 256 n x
