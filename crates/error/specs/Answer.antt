-- A call answers a value, a refusal of a number and a place, or that a position is withdrawn; lent memory then holds the whole result, or what it held. The order of
-- document 01's checks is the order of a list: 'Where several items offend, the first one counts.' Assumes nothing.
use Rattle.std.specs.Prelude.{ℕ, suc, Bool, true, false, cond, not, List, [], ◌∷◌, ltb, length, Option, Some, None}

-- 'An answer is a value or a refusal of a number and a place.' Document 02 adds, in request b), that a position may be withdrawn, which is neither.
pub data Answer (A : Type 0) : Type 0 where
  value : A → Answer A
  refused : ℕ → ℕ → Answer A
  withdrawn : Answer A

-- A check is made of whether it offends, its number and its place.
pub data Check : Type 0 where
  check : Bool → ℕ → ℕ → Check

-- A check that offends gives its refusal; where it does not, the answer stands.
abbrev pub unless : {A : Type 0} → Check → Answer A → Answer A
unless (check true n p) a = refused n p
unless (check false n p) a = a

-- The refusal of the first check in the list that offends is the answer; where none does, the answer is `a`.
abbrev pub first : {A : Type 0} → List Check → Answer A → Answer A
first [] a = a
first (c ∷ cs) a = unless c (first cs a)

-- This is the index of the first item that offends, or how many items there are where none does.
unfoldable pub place : {A : Type 0} → (A → Bool) → List A → ℕ
place bad [] = 0
place bad (x ∷ xs) = cond (bad x) 0 (suc (place bad xs))

-- A place among so many items is found where it is that of an item, and is none where it is past the end.
abbrev pub found : ℕ → ℕ → Option ℕ
found at long = cond (ltb at long) (Some at) None

-- No item offends: the place of the first that does is past the end.
abbrev pub clear : {A : Type 0} → (A → Bool) → List A → Bool
clear bad xs = not (ltb (place bad xs) (length xs))

-- Each item of a list is checked, and the place is the index of the first that offends.
abbrev pub each : {A : Type 0} → (A → Bool) → ℕ → List A → Check
each bad n xs = check (ltb (place bad xs) (length xs)) n (place bad xs)

-- This is the answer of a call that has no value of its own, where nothing offends.
abbrev pub accepted : Answer (Unit {0})
accepted = value tt

-- Of an answer this keeps whether it is refused, and with what, or withdrawn, and drops the value.
abbrev pub done : {A : Type 0} → Answer A → Answer (Unit {0})
done (value x) = accepted
done (refused n p) = refused n p
done withdrawn = withdrawn

-- 'A refusal writes to no lent memory', and no more does a withdrawn position. Memory that held `old` holds the answer's value afterwards, or `old` where there is
-- none.
abbrev pub after : {A : Type 0} → Answer A → A → A
after (value x) old = x
after (refused n p) old = old
after withdrawn old = old
