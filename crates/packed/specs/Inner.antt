-- Private functions of `packed_reading` ask `Whole` of their callers: the header at hand is the record's own, the checks of the header have passed, and the record has
-- the right length. No public promise is stated by it. Assumes nothing.
use Rattle.std.specs.Prelude.{ℕ, ◌≡◌, List, length}
use Rattle.error.specs.Answer.{first, accepted}
use Rattle.packed.specs.Layout.{record_length, header_of}
use Rattle.packed.specs.Reading.{header_checks}
use Rattle.packed.specs.declared.Header.{Header}

pub record Whole (bytes : List ℕ) (header : Header) : Type 0 where
  pub own : header ≡ header_of bytes
  pub passed : first (header_checks bytes) accepted ≡ accepted
  pub sized : length bytes ≡ record_length bytes
