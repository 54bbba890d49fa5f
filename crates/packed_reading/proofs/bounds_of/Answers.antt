-- `packed_reading::bounds_of` meets its contract. Assumes nothing.
use Rattle.packed.specs.Fields.{bounds_of}
use lib.Ieee.{of_bits}
use borrow.Author.Tests.{eq-eqb, ne_eqb}
use borrow.Author.Rules.{rules}
use Rattle.packed.proofs.Headers.{float-run}
use Rattle.packed_reading.proofs.bounds_of.Goals as goal

pub returns-then-bytes-eq1 : goal.returns-then-bytes-eq1
unfolding bounds_of
returns-then-bytes-eq1 c = let bytes = c.args.bytes.now in
    rw (eq-eqb _ _ c.if-bytes-eq1.true, ← float-run bytes 6 (search rules), ← float-run bytes 10 (search rules), ← c.get_f32-min.ensures, ← c.get_f32-max.ensures)

pub returns : goal.returns
unfolding of_bits bounds_of
returns c = rw (ne_eqb _ _ c.if-bytes-eq1.false)
