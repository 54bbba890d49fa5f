-- Private functions ask some of these of their callers and ensure the others. No public promise is stated by these. Assumes nothing.
use Rattle.std.specs.Prelude.{ℕ, ◌+◌, ◌-◌, ◌*◌, ◌^◌, ◌≤◌, ◌<◌, ◌≡◌, List, ◌++◌, length, take, drop}
use Rattle.digits.specs.Digits.{number, digits}

-- The bytes hold at least `count` indices of `bits` bits each.
pub record Unpackable (packed : List ℕ) (bits count : ℕ) : Type 0 where
  pub wide : 1 ≤ bits
  pub narrow : bits ≤ 16
  pub enough : count * bits ≤ 8 * length packed

-- Of `room` indices to write, k groups of eight are written, each from `bits` bytes; the rest stands in the bytes that follow.
pub record Eights (packed : List ℕ) (bits room : ℕ) (out : List ℕ) (k : ℕ) : Type 0 where
  pub sized : length out ≡ room
  pub within : 8 * k ≤ room
  pub rest : digits (2 ^ bits) room (number 256 packed) ≡ take (8 * k) out ++ digits (2 ^ bits) (room - 8 * k) (number 256 (drop (k * bits) packed))

-- `held` bits are read and not yet handed out, as the number `acc`; the bytes from `at` on are still to be read.
pub record Windowed (packed : List ℕ) (acc held at : ℕ) : Type 0 where
  pub within : at ≤ length packed
  pub small : held ≤ 47
  pub fits : acc < 2 ^ held

-- At least `width` bits are held or still to be read.
pub record Refillable (packed : List ℕ) (width acc held at : ℕ) : Type 0 where
  pub window : Windowed packed acc held at
  pub narrow : width ≤ 16
  pub enough : width + 8 * at ≤ held + 8 * length packed

-- The same bits are held or still to be read as before, and at least `width` of them are held now.
pub record Refilled (packed : List ℕ) (width acc held at acc' held' at' : ℕ) : Type 0 where
  pub window : Windowed packed acc' held' at'
  pub enough : width ≤ held'
  pub count : 8 * at' + held ≡ 8 * at + held'
  pub same : acc' + 2 ^ held' * number 256 (drop at' packed) ≡ acc + 2 ^ held * number 256 (drop at packed)
