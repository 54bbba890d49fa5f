-- `rotation_stored::sum_rows` leaves the sum along each row: at the end all columns are taken. Assumes nothing.
use Rattle.rotation_stored.proofs.Columns.{taken-end}
use Rattle.rotation_stored.proofs.sum_rows.Goals as goal

pub returns : goal.returns
returns c = taken-end _ _ _ c.add_rest.ensures
