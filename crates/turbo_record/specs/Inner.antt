-- Private functions of this crate ask some of these of their callers and tell them the others. No public promise is stated by these. Assumes nothing.
use Rattle.std.specs.Prelude.{ℕ, ◌≡◌, cond, true, false, List, Float, None, Option, Some}
use Rattle.std.specs.Float.Ieee.Scale.{finite}
use Rattle.error.specs.Answer.{Answer, value, clear}
use Rattle.radius.specs.Radii.{bad_radius}
use Rattle.setup.specs.declared.Setup.{Setup}
use Rattle.packed.specs.declared.Header.{Header}
use Rattle.packed.specs.Reading.{radii_of}
use Rattle.packed.specs.Peeking.{peek_record_of}
use Rattle.turbo_opening.specs.Opening.{bad_match}

-- A record was peeked at, and it is the setup's.
pub record Peeked (s : Setup) (bytes : List ℕ) (header : Header) : Type 0 where
  pub peeked : peek_record_of bytes ≡ value header
  pub dim : header.dim ≡ s.dim
  pub alike : bad_match s header.bits header.projections ≡ false

-- A sum over the payloads of a record is the one that is due, and no radius offends; else nothing is said.
abbrev pub Summed : Option Float → List ℕ → Float → Type 0
Summed (Some x) bytes due = (x ≡ due) × (clear bad_radius (radii_of bytes) ≡ true)
Summed None bytes due = Unit {0}

-- A sum is the answer's value; else nothing is said.
abbrev pub Answered : Option Float → Answer Float → Type 0
Answered (Some x) a = a ≡ value x
Answered None a = Unit {0}

-- This is a sum where it is finite.
abbrev pub finite_sum_of : Option Float → Option Float
finite_sum_of (Some x) = cond (finite x) (Some x) None
finite_sum_of None = None
