-- A list copied into memory of its length is there whole. Assumes nothing.
use Rattle.std.proofs.Common.{◌≡◌, List, length, eq-eqb}
use lib.Ieee.{Float}
use Rattle.float.specs.Copying.{copy_into_of}

pub copy_into-same : (new old : List Float) → length new ≡ length old → copy_into_of new old ≡ new
copy_into-same new old e = simp (eq-eqb _ _ e)
