-- `packed_parts::locate` meets its contract: the places of the header that was read, or none. Assumes nothing.
use mathlib.Core.Path.{sym, ap, ◌∙◌}
use Rattle.std.specs.Prelude.{Ok}
use Rattle.error.specs.Outcomes.{says_unless_withdrawn}
use Rattle.packed_parts.specs.Parts.{places_in, locate_of}
use Rattle.packed_parts.proofs.locate.Goals as goal

pub returns-in-Ok-Some : goal.returns-in-Ok-Some
unfolding locate_of
returns-in-Ok-Some c = ap places_in (sym (ap says_unless_withdrawn (c.in-Ok-Some.is ∙ ap Ok c.in-Ok-Some.field-0-is)) ∙ c.read_record.ensures)

pub returns-in-Ok-None : goal.returns-in-Ok-None
unfolding locate_of
returns-in-Ok-None c = c.no_places.ensures ∙ ap places_in (sym (ap says_unless_withdrawn (c.in-Ok-None.is ∙ ap Ok c.in-Ok-None.field-0-is)) ∙ c.read_record.ensures)

pub returns-in-Err : goal.returns-in-Err
unfolding locate_of
returns-in-Err c = c.no_places-in-Err.ensures ∙ ap places_in (sym (ap says_unless_withdrawn c.in-Err.is) ∙ c.read_record.ensures)
