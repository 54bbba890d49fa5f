-- An answer leaves by lent numbers: a refusal's number and place, 0 and 0 beside a value, 255 and 0 for a withdrawn position, and parts of the value. Assumes nothing.
use Rattle.std.specs.Prelude.{ℕ}
use Rattle.error.specs.Answer.{Answer, value, refused, withdrawn}

-- These are a number and a place, as the caller finds them.
pub data Said : Type 0 where
  said : ℕ → ℕ → Said

-- A withdrawn position is told by a number that no refusal has: the documents number these from 1 to 28.
abbrev pub withdrawn_number : ℕ
withdrawn_number = 255

-- The two lent numbers hold this after a call that answers so.
abbrev pub told : {A : Type 0} → Answer A → Said
told (value x) = said 0 0
told (refused n p) = said n p
told withdrawn = said withdrawn_number 0

-- This is the answer with a part of its value in the value's place, for a value that leaves by more than one lent number.
abbrev pub part : {A B : Type 0} → (A → B) → Answer A → Answer B
part f (value x) = value (f x)
part f (refused n p) = refused n p
part f withdrawn = withdrawn
