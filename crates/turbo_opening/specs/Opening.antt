-- A record is opened under a setup: read, and held against the setup. Document 01: '.. record reading, 5, 20'. Of a withdrawn position, withdrawn is
-- answered before. Assumes nothing.
use Rattle.std.specs.Prelude.{ℕ, Bool, ◌||◌, List, [], ◌∷◌, ◌++◌}
use Rattle.error.specs.Answer.{Answer, value, Check, check, first}
use Rattle.error.specs.Checks.{differs, wrong_input}
use Rattle.setup.specs.declared.Setup.{Setup}
use Rattle.setup.specs.Checks.{scalar_checks}
use Rattle.setup.specs.Setups.{polar_bits_of, counted_projections_of}
use Rattle.packed.specs.declared.Header.{Header}
use Rattle.packed.specs.Fields.{dim_of, bits_of, projections_of, norm_of}
use Rattle.packed.specs.Layout.{header_of}
use Rattle.packed.specs.Reading.{unless_withdrawn, record_checks, radii_of, indices_of, signs_of}
use Rattle.turbo_order.specs.Scores.{Content}

-- This is what a record holds, as read from its bytes.
abbrev pub content_of : List ℕ → Content
content_of bytes = record { radii = radii_of bytes; indices = indices_of bytes; signs = signs_of bytes; norm = norm_of bytes }

-- '.. a record's bits or projections are not the setup's.' Without signs its projections count as 0.
abbrev pub bad_match : Setup → ℕ → ℕ → Bool
bad_match s bits projections = differs bits (polar_bits_of s) || differs projections (counted_projections_of s)

-- '20: .. Place 0.'
abbrev pub wrong_match : Setup → List ℕ → Check
wrong_match s bytes = check (bad_match s (bits_of bytes) (projections_of bytes)) 20 0

-- '5: .. a record's dimension, differs from the setup's. Place: the .. dimension found.' Then comes 20.
abbrev pub match_checks : Setup → List ℕ → List Check
match_checks s bytes = wrong_input (dim_of bytes) s.dim ∷ wrong_match s bytes ∷ []

-- These are the checks 'record reading, 5, 20'.
abbrev pub open_checks : Setup → List ℕ → List Check
open_checks s bytes = record_checks bytes ++ match_checks s bytes

-- This is what `open_record` answers: the checks of the setup's scalars, withdrawn, then 'record reading, 5, 20'. The value is the header of a record that is the
-- setup's.
unfoldable pub open_record_of : Setup → List ℕ → Answer Header
open_record_of s bytes = first (scalar_checks s) (unless_withdrawn bytes (first (open_checks s bytes) (value (header_of bytes))))
