-- A list of floats is copied into lent memory of the same length. Assumes nothing.
use Rattle.std.specs.Prelude.{cond, List, length, ◌==◌, Float}

-- Memory that held `old` holds `new` afterwards where the lengths are equal, and else `old`.
abbrev pub copy_into_of : List Float → List Float → List Float
copy_into_of new old = cond (length new == length old) new old
