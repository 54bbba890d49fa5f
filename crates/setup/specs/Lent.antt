-- These lists are lent beside the scalars of a setup. Document 01: 'A setup is mode .., dimension n, total bits, projections m, n signs, a direction table and a
-- matrix.' Document 02 of a stored rotation: 'The matrix stands where the signs stood'. Assumes nothing.
use Rattle.std.specs.Prelude.{List, Float}

pub record Lent : Type 0 where
  -- The signs of the Hadamard rotation, or the entries of a stored rotation's matrix, column by column.
  pub rotation : List Float
  pub directions : List Float
  -- The matrix that queries and vectors are projected on, row by row.
  pub matrix : List Float

-- Contracts put what is lent together so, from its three lists.
abbrev pub lent : List Float → List Float → List Float → Lent
lent rotation directions matrix = record { rotation = rotation; directions = directions; matrix = matrix }
