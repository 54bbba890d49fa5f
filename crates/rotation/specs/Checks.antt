-- These are the checks of a dimension, of rotation signs and of lengths, as document 01 lists them. Assumes nothing.
use Rattle.std.specs.Prelude.{ℕ, ◌%◌, Bool, true, false, not, ◌&&◌, ◌||◌, List, [], ◌∷◌, ◌++◌, ltb, eqb, length, Float}
use Rattle.std.specs.Int.Count.{ones}
use Rattle.std.specs.Float.Ieee.{ne}
use Rattle.float.specs.Constants.{one}
use Rattle.error.specs.Answer.{Check, check, place, each}
use Rattle.error.specs.Checks.{wrong_input, wrong_room}

-- '2: dimension 0. Place 0.'
abbrev pub wrong_zero_dimension : ℕ → Check
wrong_zero_dimension n = check (eqb n 0) 2 0

-- '3: odd dimension. Place: the dimension.'
abbrev pub wrong_odd_dimension : ℕ → Check
wrong_odd_dimension n = check (eqb (n % 2) 1) 3 n

-- 'even dimension that is no power of two, or above 4,096': an odd one is refused before. 'A dimension is a power of two exactly when one bit of it is set.'
abbrev pub bad_power : ℕ → Bool
bad_power n = not (eqb (ones n) 1) || ltb 4096 n

-- '4: .. Place: the dimension.'
abbrev pub wrong_power : ℕ → Check
wrong_power n = check (bad_power n) 4 n

-- '10: a sign is neither −1 nor 1. Place: its index.' A rotation's signs are floats; those of a sketch are whole numbers.
abbrev pub bad_sign : Float → Bool
bad_sign s = ne s (one true) && ne s (one false)

-- This is the index of the first sign that is neither, or how many signs there are where each is one of them.
abbrev pub first_bad_sign_of : List Float → ℕ
first_bad_sign_of signs = place bad_sign signs

-- 'Rotating either way: 2, 3, 4, 5 for the signs, 10, ..': these are the checks of the dimension and its signs.
abbrev pub sign_checks : ℕ → List Float → List Check
sign_checks n signs =
    wrong_zero_dimension n
    ∷ wrong_odd_dimension n
    ∷ wrong_power n
    ∷ wrong_input (length signs) n
    ∷ each bad_sign 10 signs
    ∷ []

-- '.. 5 for the input'; 'In every call 6 comes after all input checks.' `long` is the input's length, and `room` the output's.
abbrev pub rotation_checks : ℕ → List Float → ℕ → ℕ → List Check
rotation_checks n signs long room = sign_checks n signs ++ (wrong_input long n ∷ wrong_room room n ∷ [])
