-- The table holds: one truth for all of document 01's worked cases. Each row is computed in the crate that defines it. Assumes nothing.
use Rattle.bitpack.proofs.Examples.{p1, p2, p3, p4, p5, p6, p7}
use Rattle.rotation.proofs.Examples.{p8}
use Rattle.float.proofs.Examples.{root-of-two}
use Rattle.polar.proofs.Examples.{p10}
use Rattle.radius_writing.proofs.Examples.{compress-halves}
use Rattle.packed.proofs.Examples.{p12, p12_radii, p12_indices, p12_signs, p13, p13_radii, p13_indices, p13_signs}
use Rattle.packed_writing.proofs.Examples.{p12_written, p13_written}
use Rattle.table.specs.Table.{Table}

pub table-holds : Table
table-holds = record {
  p1 = p1;
  p2 = p2;
  p3 = p3;
  p4 = p4;
  p5 = p5;
  p6 = p6;
  p7 = p7;
  p8 = p8;
  p9 = root-of-two;
  p10 = p10;
  p11 = compress-halves;
  p12_written = p12_written;
  p12_read = p12;
  p12_radii = p12_radii;
  p12_indices = p12_indices;
  p12_signs = p12_signs;
  p13_written = p13_written;
  p13_read = p13;
  p13_radii = p13_radii;
  p13_indices = p13_indices;
  p13_signs = p13_signs;
}
