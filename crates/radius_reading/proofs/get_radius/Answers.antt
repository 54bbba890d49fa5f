-- `radius_reading::get_radius` meets its contract: the number is that of the definition. Assumes nothing.
use Rattle.radius.specs.Linear.{linear_radius}
use Rattle.radius_reading.proofs.get_radius.Goals as goal

pub returns : goal.returns
unfolding linear_radius
returns c = rw (c.radius_of.ensures, c.get_number.ensures)
