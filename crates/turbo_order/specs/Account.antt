-- An account of the rotation of a query is all that the score, its exact score and its bound take from the rotation. So each of the three is defined once for every
-- rotation. Assumes nothing.
use Rattle.std.specs.Prelude.{ℕ, ◌*◌, List, replicate, Float}
use Rattle.rounding.specs.Signed.{Diff}
use Rattle.float.specs.Units.{mag}
use Rattle.rounding.specs.Sums.{absolute_sum}
use Rattle.rotation.specs.Rotation.{inverse_root, rotated}
use Rattle.rotation.specs.Exact.{exact_rotated}
use Rattle.rotation_stored.specs.Stored.{stored_rotated}
use Rattle.rotation_stored.specs.Exact.{exact_stored, stored_sizes}

pub record Account : Type 0 where
  -- These are the query's entries rotated, each step rounded.
  pub entries : List Float
  -- This is 'the query rotated without rounding', each entry a whole number of 2 ^ -298.
  pub exact : List Diff
  -- For each exact entry this is the sum of absolute values that bounds it, in units of 2 ^ -298.
  pub sizes : List ℕ
  -- This stands for n in the bound's 'n + m + 16'.
  pub count : ℕ
  -- The bound's R is multiplied by this.
  pub factor : ℕ

-- This is the Hadamard rotation's: '(1/sqrt(n)) × X' bounds every entry, with 'X the sum of the query's absolute values'; the bound's n and R are as they stand.
abbrev pub hadamard_account : ℕ → List Float → List Float → Account
hadamard_account n signs query =
    record {
      entries = rotated n signs query;
      exact = exact_rotated n signs query;
      sizes = replicate n (mag (inverse_root n) * absolute_sum query);
      count = n;
      factor = 1;
    }

-- This is a stored rotation's, as document 02 has it: 'with n + m + 16 read as 2n + m + 16, R multiplied by n, and in A, for each |c| and |s|, its rotated entry's sum of
-- |matrix entry × query entry| in place of (1/sqrt(n)) × X.'
abbrev pub stored_account : ℕ → List Float → List Float → Account
stored_account n matrix query =
    record {
      entries = stored_rotated n matrix query;
      exact = exact_stored n matrix query;
      sizes = stored_sizes n matrix query;
      count = 2 * n;
      factor = n;
    }
