-- `radius_reading::first_bad_floats` meets its contract: at once where every one passes, or else by a search. Assumes nothing.
use Rattle.radius_reading.proofs.first_bad_floats.Goals as goal

pub returns-then-all_plain : goal.returns-then-all_plain
returns-then-all_plain c = c.all_plain.ensures c.if-all_plain.true
