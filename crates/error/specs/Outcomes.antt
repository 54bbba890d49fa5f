-- What the answers of calls say in the documents' terms. A `Result` is a value or a refusal; where a record is taken, which may be withdrawn, the value is an `Option`,
-- and `None` is a withdrawn position. A `Scored` is what a call answers that scores. Assumes nothing.
use Rattle.std.specs.Prelude.{Float, Result, Ok, Err, Option, Some, None}
use Rattle.error.specs.Answer.{Answer, value, refused, withdrawn}
use Rattle.error.specs.Refusals.{number_of, place_of}
use Rattle.error.specs.declared.Refusal.{Refusal}
use Rattle.error.specs.declared.Scored.{Scored}
use Rattle.error.specs.declared.Scored.TheVariants as scored

abbrev pub says : {A : Type 0} → Result A Refusal → Answer A
says (Ok x) = value x
says (Err r) = refused (number_of r) (place_of r)

abbrev pub says_unless_withdrawn : {A : Type 0} → Result (Option A) Refusal → Answer A
says_unless_withdrawn (Ok (Some x)) = value x
says_unless_withdrawn (Ok None) = withdrawn
says_unless_withdrawn (Err r) = refused (number_of r) (place_of r)

-- 'A score is a number with its value, or a refusal; one answer type holds both.' With document 02's request b) it also holds 'withdrawn in place of a score'.
abbrev pub says_score : Scored → Answer Float
says_score (scored.Score x) = value x
says_score (scored.Refused r) = refused (number_of r) (place_of r)
says_score scored.Withdrawn = withdrawn
