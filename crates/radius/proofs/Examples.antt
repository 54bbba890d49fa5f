-- Computed answers about payloads, and how examples of the radius codec are written: floats by their patterns. Assumes nothing.
use Prim.Native.Nat.{ℕ}
use mathlib.Core.Path.{◌≡◌, refl}
use mathlib.Core.List.{[], ◌∷◌}
use lib.Ieee.{Float, binary32, of_bits}
use Rattle.error.specs.Answer.{value}
use Rattle.radius.specs.Codec.{encoded_bytes_of}
use Rattle.radius.specs.declared.Range.{Range}
use Rattle.radius.specs.declared.RadiusCodecProfileV1.TheVariants.{BlockLinearU16}

abbrev pub float : ℕ → Float
float bits = of_bits binary32 bits

-- from 0 to a bound, and from one bound to another
abbrev pub up_to : ℕ → Range
up_to bits = record { min = float 0x0000_0000; max = float bits }

abbrev pub between : ℕ → ℕ → Range
between lo hi = record { min = float lo; max = float hi }

-- two floats more than the payload
encoded-linear : encoded_bytes_of BlockLinearU16 (0x00 ∷ 0x00 ∷ []) ≡ value 10
unfolding encoded_bytes_of
encoded-linear = refl
