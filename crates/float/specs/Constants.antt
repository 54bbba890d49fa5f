-- These are the floats that definitions of several crates name. Assumes nothing.
use Rattle.std.specs.Prelude.{Bool, false, pos, from_bits, Float}
use Rattle.std.specs.Float.{fin, binary32}

-- This is +0.0.
abbrev pub pos_zero : Float
pos_zero = fin false 0 (pos 0)

-- This is 1.0, or -1.0 where the sign is true.
abbrev pub one : Bool → Float
one s = fin s 1 (pos 0)

-- This is 2.0.
abbrev pub two : Float
two = fin false 1 (pos 1)

-- 'PI is 40490FDB.' (document 01)
unfoldable pub pi : Float
pi = from_bits binary32 0x4049_0FDB
