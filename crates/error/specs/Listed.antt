-- These are the numbers that have a case of their own in `Refusal`: document 01's list, and what the requests of document 02 that have landed add to it. Assumes nothing.
use Rattle.std.specs.Prelude.{ℕ, Bool, ◌||◌, ◌&&◌, leb, eqb}

-- '1: bits outside 1..16' to '20: a record's bits or projections are not the setup's', and 21, 22, 23, 25 and 26.
abbrev pub listed : ℕ → Bool
listed n = (leb 1 n && leb n 23) || eqb n 25 || eqb n 26
