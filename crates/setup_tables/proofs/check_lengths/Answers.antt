-- `setup_tables::check_lengths` meets its contract: a check that passes leaves the rest of the list, and the scalars bound the lengths that are formed.
-- Assumes nothing.
use Prim.Native.Nat.{ℕ, ◌*◌, ◌^◌}
use mathlib.Core.Path.{◌≡◌, ap, ◌∙◌}
use mathlib.Core.Bool.{true}
use native.Mathlib.Omega.{arith}
use lib.Dec.{eqb}
use lib.ListN.{length}
use Rattle.setup.specs.Setups.{rotation_needed, directions_needed, matrix_needed}
use Rattle.setup.proofs.Usable.{Usable}
use Rattle.setup_tables.proofs.Lengths.{matrix-fits, length-differs, length_meets}
use Rattle.setup.proofs.Scalars.{scalars-usable}
use Rattle.setup_tables.proofs.check_lengths.Goals.{After-counted_projections-rows, After-direction_entries, Else-directions-direction_entries, Else-matrix-rows, Else-rotation-rotation_entries, Start}
use Rattle.setup_tables.proofs.check_lengths.Goals as goal

-- ---- what is known once a check has passed
usable_at : (c : goal.Start) → Usable c.args.setup
usable_at c = scalars-usable c.args.setup c.requires

-- what the call of `direction_entries` returned
entries : (c : goal.After-direction_entries) → c.direction_entries.result ≡ directions_needed c.args.setup
entries c = c.direction_entries.ensures ∙ ap (λ (n : ℕ). 2 * 2 ^ n) c.polar_bits.ensures

-- the product of rows and columns
entry-count : (c : goal.After-counted_projections-rows) → c.counted_projections-rows.result * c.args.setup.dim ≡ matrix_needed c.args.setup
entry-count c = ap (λ (n : ℕ). n * c.args.setup.dim) c.counted_projections-rows.ensures

rotation_long : (c : goal.Else-rotation-rotation_entries) → eqb (length c.args.rotation.now) (rotation_needed c.args.setup) ≡ true
rotation_long c = length_meets _ c.rotation_entries.ensures c.if-rotation-rotation_entries.false

directions-long : (c : goal.Else-directions-direction_entries) → eqb (length c.args.directions.now) (directions_needed c.args.setup) ≡ true
directions-long c = length_meets _ (c.direction_entries.ensures ∙ ap (λ (n : ℕ). 2 * 2 ^ n) c.polar_bits.ensures) c.if-directions-direction_entries.false

matrix_long : (c : goal.Else-matrix-rows) → eqb (length c.args.matrix.now) (matrix_needed c.args.setup) ≡ true
matrix_long c = length_meets _ (ap (λ (n : ℕ). n * c.args.setup.dim) c.counted_projections-rows.ensures) c.if-matrix-rows.false

pub rotation_entries-requires : goal.rotation_entries-requires
rotation_entries-requires c = (usable_at (goal.at.rotation_entries-requires c).Start).most

pub returns-then-rotation-rotation_entries : goal.returns-then-rotation-rotation_entries
returns-then-rotation-rotation_entries c = simp (length-differs _ c.rotation_entries.ensures c.if-rotation-rotation_entries.true)

pub direction_entries-requires : goal.direction_entries-requires
direction_entries-requires c = let u = usable_at (goal.at.direction_entries-requires c).Start in omega (arith, u.most_bits, c.polar_bits.ensures)

pub returns-then-directions-direction_entries : goal.returns-then-directions-direction_entries
returns-then-directions-direction_entries c = simp (rotation_long (goal.at.returns-then-directions-direction_entries c).Else-rotation-rotation_entries, length-differs _ (entries (goal.at.returns-then-directions-direction_entries c).After-direction_entries) c.if-directions-direction_entries.true)

pub overflow_mul-rows : goal.overflow_mul-rows
overflow_mul-rows c = let u = usable_at (goal.at.overflow_mul-rows c).Start in omega (arith, matrix-fits _ _ u.most_projections u.most, ap (λ (n : ℕ). n * c.args.setup.dim) c.counted_projections-rows.ensures)

pub returns-then-matrix-rows : goal.returns-then-matrix-rows
returns-then-matrix-rows c = simp (rotation_long (goal.at.returns-then-matrix-rows c).Else-rotation-rotation_entries, directions-long (goal.at.returns-then-matrix-rows c).Else-directions-direction_entries, length-differs _ (entry-count (goal.at.returns-then-matrix-rows c).After-counted_projections-rows) c.if-matrix-rows.true)

pub returns : goal.returns
returns c = simp (rotation_long (goal.at.returns c).Else-rotation-rotation_entries, directions-long (goal.at.returns c).Else-directions-direction_entries, matrix_long (goal.at.returns c).Else-matrix-rows)
