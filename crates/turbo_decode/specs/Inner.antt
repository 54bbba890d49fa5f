-- Private functions of this crate ask these of their callers, so that nothing refuses any more. No public promise is stated by these. Assumes nothing.
use Rattle.std.specs.Prelude.{ℕ, ◌*◌, ◌/◌, ◌≤◌, ◌≡◌, List, Float}
use Rattle.error.specs.Answer.{value, first, accepted}
use Rattle.setup.specs.declared.Setup.{Setup}
use Rattle.setup_rotation.specs.Rotations.{turn_checks}
use Rattle.packed.specs.declared.Header.{Header}
use Rattle.packed.specs.Reading.{read_record_of}

-- The header was read from the record, and there are n values, two for each of its pairs.
pub record Paired (bytes : List ℕ) (header : Header) (n : ℕ) : Type 0 where
  pub read : read_record_of bytes ≡ value header
  pub double : n ≡ 2 * (header.dim / 2)

-- Beside that, the values can be rotated back by the setup, for which `entries` are lent.
pub record Decodable (s : Setup) (entries : List Float) (bytes : List ℕ) (header : Header) (n : ℕ) : Type 0 where
  pub paired : Paired bytes header n
  pub turnable : first (turn_checks s entries n n) accepted ≡ accepted
