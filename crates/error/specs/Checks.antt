-- These are the checks that more than one crate makes, numbered as in document 01. Of two lengths the one that was found comes first. Assumes nothing.
use Rattle.std.specs.Prelude.{ℕ, ◌^◌, Bool, not, ◌||◌, List, [], ◌∷◌, leb, ltb, eqb, Float}
use Rattle.std.specs.Float.Ieee.Scale.{finite}
use Rattle.error.specs.Answer.{Answer, value, Check, check, first, place}

-- The two numbers are not equal.
abbrev pub differs : ℕ → ℕ → Bool
differs a b = not (eqb a b)

-- '1: bits outside 1..16 .. Place: the bits.'
abbrev pub wrong_bits : ℕ → Check
wrong_bits bits = check (ltb bits 1 || ltb 16 bits) 1 bits

-- '5: a lent input's length, or a record's dimension, differs from the setup's. Place: the length or dimension found.'
abbrev pub wrong_input : ℕ → ℕ → Check
wrong_input found needed = check (differs found needed) 5 found

-- '6: an output buffer isn't exactly the needed length. Place: the needed length.'
abbrev pub wrong_room : ℕ → ℕ → Check
wrong_room found needed = check (differs found needed) 6 needed

-- '15: index at or above 2^bits.'
abbrev pub bad_index : ℕ → ℕ → Bool
bad_index bits index = leb (2 ^ bits) index

-- '15: .. Place: its index; for a codebook or a single angle, 0.' This is the check of a codebook's index and of a single angle's.
abbrev pub wrong_index : ℕ → ℕ → Check
wrong_index bits index = check (bad_index bits index) 15 0

-- A NaN and an infinity offend: '11: a value is not finite', and '9: a matrix entry is not finite'.
unfoldable pub bad_value : Float → Bool
bad_value x = not (finite x)

-- This is the index of the first value that is not finite, or how many values there are where each is finite.
abbrev pub first_non_finite_of : List Float → ℕ
first_non_finite_of values = place bad_value values

-- '12: a score or distance is not finite. Place 0.'
abbrev pub wrong_score : Float → Check
wrong_score x = check (not (finite x)) 12 0

-- This is a score or a distance with its value, or 12 where it is not finite.
abbrev pub finite_score_of : Float → Answer Float
finite_score_of x = first (wrong_score x ∷ []) (value x)
