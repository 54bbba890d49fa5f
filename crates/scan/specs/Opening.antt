-- A scan that is opened. Document 02, request a): '21 when k is 0 or above 64'. Assumes nothing.
use Rattle.std.specs.Prelude.{ℕ, [], ◌∷◌, eqb, ltb, pos, replicate}
use mathlib.Core.Bool.{◌||◌}
use Rattle.std.specs.Float.{fin}
use Rattle.error.specs.Answer.{Answer, value, Check, check, first, after}
use Rattle.scan.specs.declared.Scan.{Scan}
use Rattle.scan.specs.Scans.{scan_of, tally_of}

abbrev pub wrong_scan_length : ℕ → Check
wrong_scan_length k = check (eqb k 0 || ltb 64 k) 21 0

-- This is a scan with nothing taken.
unfoldable pub empty_of : ℕ → Scan
empty_of k = scan_of (tally_of k 0 0 0 0 0) (replicate 64 0) (replicate 64 (fin mathlib.Core.Bool.false 0 (pos 0)))

-- This is the scan, or its refusal.
unfoldable pub open_of : ℕ → Answer Scan
open_of k = first (wrong_scan_length k ∷ []) (value (empty_of k))

-- Beside a 21 stands a scan of length 1 with nothing in it.
abbrev pub scan_opened : ℕ → Scan
scan_opened k = after (open_of k) (empty_of 1)
