-- One record that is lent to a scan: what scoring it answers, what taking it answers, and the scan afterwards. Document 02, request a): 'a refusal before record reading
-- is answered, numbers nothing and leaves the scan unchanged, and any later refusal makes a refused record.' 'its refusal is answered beside the new scan' '22 when the
-- scan has already taken 4,294,967,295 records, before setup and query; the scan is then unchanged.' Assumes nothing.
use Rattle.std.specs.Prelude.{ℕ, [], ◌∷◌, leb, Float}
use Rattle.error.specs.Answer.{Answer, value, refused, withdrawn, check, first}
use Rattle.scan.specs.declared.Scan.{Scan}
use Rattle.scan.specs.Entering.{most, enter_of}

-- This is what scoring a record answers: the outer answer refuses before the record is read; the inner one is the answer from its reading on.
abbrev pub Event : Type 0
Event = Answer (Answer Float)

-- This is what taking the record answers where so many have been taken: 22 comes before all else. A refusal of the outer answer numbers nothing; the inner answer is
-- that of a record that takes a number.
abbrev pub take_of : ℕ → Event → Event
take_of taken e = first (check (leb most taken) 22 0 ∷ []) e

-- This is the scan afterwards: a record that is read takes a number, and all else leaves the scan as it is.
-- Where no number is left, `enter_of` leaves it so too, and 22 needs no case here.
abbrev pub after_taking : Scan → Event → Scan
after_taking scan (value a) = enter_of scan a
after_taking scan (refused n p) = scan
after_taking scan withdrawn = scan
