-- A scan is its counts and two lists, the numbers and the scores of its hits. In a `Scan` they are arrays of 64; a caller may as well lend them. Assumes nothing.
use Rattle.std.specs.Prelude.{ℕ, List, Float}
use Rattle.scan.specs.declared.Tally.{Tally}
use Rattle.scan.specs.declared.Scan.{Scan}

-- This is the scan of a tally and of two lists that are lent beside it.
abbrev pub scan_of : Tally → List ℕ → List Float → Scan
scan_of tally numbers scores = record { tally = tally; numbers = numbers; scores = scores }

-- These are a scan's length and its hits, how many records it has taken, refused and found withdrawn, and how many comparisons it has made.
abbrev pub tally_of : ℕ → ℕ → ℕ → ℕ → ℕ → ℕ → Tally
tally_of long kept taken refusals withdrawals comparisons =
    record { length = long; kept = kept; taken = taken; refused = refusals; withdrawn = withdrawals; comparisons = comparisons }
