-- `radius_reading::first_bad_linear` meets its contract: at once where every one passes, or else by a search. Assumes nothing.
use Rattle.radius_reading.proofs.first_bad_linear.Goals as goal

pub returns-then-all_linear : goal.returns-then-all_linear
returns-then-all_linear c = c.all_linear.ensures c.if-all_linear.true
