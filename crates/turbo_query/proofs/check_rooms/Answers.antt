-- `turbo_query::check_rooms` meets its contract: each return is one case of the laws of its checks. Assumes nothing.
use mathlib.Core.Path.{sym}
use Rattle.turbo_query.proofs.Answers.{rooms-room, rooms-space, rooms-passed}
use Rattle.turbo_query.proofs.check_rooms.Goals as goal

pub returns-then-room-n : goal.returns-then-room-n
returns-then-room-n c = let a = c.args in sym (rooms-room a.n a.m a.room a.space c.if-room-n.true)

pub returns-then-space-m : goal.returns-then-space-m
returns-then-space-m c = let a = c.args in sym (rooms-space a.n a.m a.room a.space c.if-room-n.false c.if-space-m.true)

pub returns : goal.returns
returns c = let a = c.args in sym (rooms-passed a.n a.m a.room a.space c.if-room-n.false c.if-space-m.false)
