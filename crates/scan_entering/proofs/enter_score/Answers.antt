-- `scan_entering::enter_score` meets its contract: the score stands behind all that have room, or it is put in at its place. Assumes nothing.
use Rattle.scan_entering.proofs.Entered.{entered-out, entered-in}
use Rattle.scan_entering.proofs.enter_score.Goals as goal

pub returns-then-room-at : goal.returns-then-room-at
returns-then-room-at c = let a = c.args in
    let place = c.find_place-place.ensures in
    entered-out a.tally a.numbers.now a.scores.now a.score c.least.ensures c.least-room.ensures c.least-held.ensures place.at place.compared
    c.wrapping_add_u64.ensures.value c.if-room-at.true

pub returns : goal.returns
returns c = let a = c.args in
    let place = c.find_place-place.ensures in
    entered-in a.tally a.numbers.now a.scores.now a.score c.least.ensures c.least-room.ensures c.least-held.ensures place.at place.compared
    c.wrapping_add_u64.ensures.value c.if-room-at.false c.least-last.ensures c.put_number.ensures c.put_score.ensures
