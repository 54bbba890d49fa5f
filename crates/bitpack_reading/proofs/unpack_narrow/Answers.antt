-- `bitpack_reading::unpack_narrow` meets its contract: a width that stands in a call is the width asked for. Assumes nothing.
use mathlib.Core.Path.{refl}
use native.Mathlib.Omega.{arith}
use Rattle.bitpack_reading.proofs.Eights.{eights-start, unpackable-as, eights-as}
use Rattle.bitpack_reading.proofs.unpack_narrow.Goals as goal

pub unpack_eights-requires : goal.unpack_eights-requires
unpack_eights-requires c = (unpackable-as _ _ _ _ c.if-bits-eq2.true c.requires, omega arith)

pub returns-then-bits-eq2 : goal.returns-then-bits-eq2
returns-then-bits-eq2 c = eights-as _ _ _ _ c.if-bits-eq2.true _ _ c.unpack_eights.ensures

pub unpack_eights-requires-then-bits-eq3 : goal.unpack_eights-requires-then-bits-eq3
unpack_eights-requires-then-bits-eq3 c = (unpackable-as _ _ _ _ c.if-bits-eq3.true c.requires, omega arith)

pub returns-then-bits-eq3 : goal.returns-then-bits-eq3
returns-then-bits-eq3 c = eights-as _ _ _ _ c.if-bits-eq3.true _ _ c.unpack_eights-then-bits-eq3.ensures

pub unpack_eights-requires-then-bits-eq4 : goal.unpack_eights-requires-then-bits-eq4
unpack_eights-requires-then-bits-eq4 c = (unpackable-as _ _ _ _ c.if-bits-eq4.true c.requires, omega arith)

pub returns-then-bits-eq4 : goal.returns-then-bits-eq4
returns-then-bits-eq4 c = eights-as _ _ _ _ c.if-bits-eq4.true _ _ c.unpack_eights-then-bits-eq4.ensures

pub returns : goal.returns
returns c = eights-start _ _ _ c.requires _ refl
