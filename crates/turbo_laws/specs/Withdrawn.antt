-- Request b) of document 02 moves what is answered of a record without bytes, and nothing else: 'scoring answers withdrawn in place of a score, after the query's checks.
-- Distance does likewise, and decoding after the setup's checks, before 6, with nothing written.' The lists of checks are those of now, with what requests c)
-- and h) moved. Assumes nothing.
use Rattle.std.specs.Prelude.{ℕ, ◌≤◌, ◌≡◌, List, [], ◌∷◌, ◌++◌, length, Float}
use Rattle.error.specs.Answer.{value, withdrawn, first}
use Rattle.error.specs.Checks.{wrong_room}
use Rattle.setup.specs.Lent.{Lent}
use Rattle.setup.specs.declared.Setup.{Setup}
use Rattle.setup.specs.Checks.{scalar_checks}
use Rattle.setup_tables.specs.Checks.{setup_checks}
use Rattle.packed.specs.Layout.{header_of}
use Rattle.packed.specs.Reading.{radii_of}
use Rattle.turbo_query.specs.Query.{query_checks}
use Rattle.turbo_opening.specs.Opening.{open_checks, open_record_of}
use Rattle.turbo_decode.specs.Decode.{decoded, decode_approximate_of}
use Rattle.turbo_distance.specs.Distance.{distance_from_score_of}
use Rattle.turbo_record.specs.Scoring.{record_score, reading_checks}
use Rattle.turbo_phased.specs.Estimates.{estimate, inner_product_estimate_of, inner_product_estimate_phased_of, prepared_checks, inner_product_estimate_prepared_of}
use Rattle.turbo.specs.Distance.{l2_distance_estimate_of}
use Rattle.turbo.specs.Order.{IsScored}

pub record WithdrawnScores : Type 0 where
  -- Of a record of no bytes withdrawn is answered, behind the checks that are named here and no others.
  pub score_none : (s : Setup) (l : Lent) (query : List Float) → inner_product_estimate_of s l query [] ≡ first (query_checks s l query) withdrawn
  pub distance_none : (s : Setup) (l : Lent) (query : List Float) → l2_distance_estimate_of s l query [] ≡ first (query_checks s l query) withdrawn
  pub prepared_none : (s : Setup) (directions rotated projected : List Float)
      → inner_product_estimate_prepared_of s directions rotated projected [] ≡ first (prepared_checks s directions rotated projected) withdrawn
  -- Whatever room is lent: 'before 6'.
  pub decode_none : (s : Setup) (l : Lent) (room : ℕ) → decode_approximate_of s l [] room ≡ first (setup_checks s l) withdrawn
  pub open_none : (s : Setup) → open_record_of s [] ≡ first (scalar_checks s) withdrawn
  -- Where the phase is told, withdrawn is an answer from record reading on.
  pub phased_none : (s : Setup) (l : Lent) (query : List Float) → inner_product_estimate_phased_of s l query [] ≡ first (query_checks s l query) (value withdrawn)
  -- 'in place of a score': a withdrawn position is not scored.
  pub not_scored : (s : Setup) (l : Lent) (query : List Float) (x : Float) → IsScored s l query [] x → ⊥
  -- A record that has bytes is answered as it was: by one list of checks, with a value or the distance at its end, or by two where the phase is told.
  pub score_kept : (s : Setup) (l : Lent) (query : List Float) (bytes : List ℕ) → 1 ≤ length bytes
      → inner_product_estimate_of s l query bytes ≡ first (query_checks s l query ++ reading_checks s bytes (estimate s l query bytes)) (value (estimate s l query bytes))
  pub phased_kept : (s : Setup) (l : Lent) (query : List Float) (bytes : List ℕ) → 1 ≤ length bytes
      → inner_product_estimate_phased_of s l query bytes ≡ first (query_checks s l query) (value (first (reading_checks s bytes (estimate s l query bytes)) (value (estimate s l query bytes))))
  pub distance_kept : (s : Setup) (l : Lent) (query : List Float) (bytes : List ℕ) → 1 ≤ length bytes
      → l2_distance_estimate_of s l query bytes
      ≡ first (query_checks s l query ++ reading_checks s bytes (estimate s l query bytes)) (distance_from_score_of query (radii_of bytes) (estimate s l query bytes))
  pub prepared_kept : (s : Setup) (directions rotated projected : List Float) (bytes : List ℕ) → 1 ≤ length bytes
      → inner_product_estimate_prepared_of s directions rotated projected bytes
      ≡ first (prepared_checks s directions rotated projected ++ reading_checks s bytes (record_score s directions rotated projected bytes)) (value (record_score s directions rotated projected bytes))
  pub decode_kept : (s : Setup) (l : Lent) (bytes : List ℕ) (room : ℕ) → 1 ≤ length bytes
      → decode_approximate_of s l bytes room ≡ first (setup_checks s l ++ open_checks s bytes ++ (wrong_room room s.dim ∷ [])) (value (decoded s l bytes))
  pub open_kept : (s : Setup) (bytes : List ℕ) → 1 ≤ length bytes → open_record_of s bytes ≡ first (scalar_checks s ++ open_checks s bytes) (value (header_of bytes))
