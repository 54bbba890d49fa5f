-- A `Refusal` is a number and a place: '1: bits outside 1..16', and so on down document 01's list, and what the requests of document 02 that have landed add to it; any
-- other number stands by itself. Assumes nothing.
use Rattle.std.specs.Prelude.{ℕ}
use Rattle.error.specs.declared.Refusal.{Refusal}
use Rattle.error.specs.declared.Refusal.TheVariants as refusal

abbrev pub number_of : Refusal → ℕ
number_of (refusal.InvalidBitWidth p) = 1
number_of (refusal.ZeroDimension p) = 2
number_of (refusal.OddDimension p) = 3
number_of (refusal.RotationFailed p) = 4
number_of (refusal.DimensionMismatch p) = 5
number_of (refusal.OutputLength p) = 6
number_of (refusal.InvalidDirection p) = 7
number_of (refusal.ZeroProjectionCount p) = 8
number_of (refusal.NonFiniteMatrix p) = 9
number_of (refusal.MalformedSign p) = 10
number_of (refusal.NonFiniteInput p) = 11
number_of (refusal.NonFiniteScore p) = 12
number_of (refusal.MalformedLength p) = 13
number_of (refusal.MalformedPadding p) = 14
number_of (refusal.MalformedIndex p) = 15
number_of (refusal.MalformedRadius p) = 16
number_of (refusal.MalformedRange p) = 17
number_of (refusal.UndefinedProfile p) = 18
number_of (refusal.LengthOverflow p) = 19
number_of (refusal.ProfileMismatch p) = 20
number_of (refusal.ScanLength p) = 21
number_of (refusal.ScanFull p) = 22
number_of (refusal.MalformedNorm p) = 23
number_of (refusal.ScanNotShorter p) = 25
number_of (refusal.StoredDimension p) = 26
number_of (refusal.Other u p) = u.number

abbrev pub place_of : Refusal → ℕ
place_of (refusal.InvalidBitWidth p) = p
place_of (refusal.ZeroDimension p) = p
place_of (refusal.OddDimension p) = p
place_of (refusal.RotationFailed p) = p
place_of (refusal.DimensionMismatch p) = p
place_of (refusal.OutputLength p) = p
place_of (refusal.InvalidDirection p) = p
place_of (refusal.ZeroProjectionCount p) = p
place_of (refusal.NonFiniteMatrix p) = p
place_of (refusal.MalformedSign p) = p
place_of (refusal.NonFiniteInput p) = p
place_of (refusal.NonFiniteScore p) = p
place_of (refusal.MalformedLength p) = p
place_of (refusal.MalformedPadding p) = p
place_of (refusal.MalformedIndex p) = p
place_of (refusal.MalformedRadius p) = p
place_of (refusal.MalformedRange p) = p
place_of (refusal.UndefinedProfile p) = p
place_of (refusal.LengthOverflow p) = p
place_of (refusal.ProfileMismatch p) = p
place_of (refusal.ScanLength p) = p
place_of (refusal.ScanFull p) = p
place_of (refusal.MalformedNorm p) = p
place_of (refusal.ScanNotShorter p) = p
place_of (refusal.StoredDimension p) = p
place_of (refusal.Other u p) = p
