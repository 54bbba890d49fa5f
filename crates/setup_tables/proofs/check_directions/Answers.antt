-- `setup_tables::check_directions` meets its contract: beyond 60 polar bits no slice is long enough. Assumes nothing.
use Prim.Native.Nat.{ℕ, ◌*◌, ◌^◌}
use mathlib.Core.Path.{refl, ◌≡◌, sym, ap, ◌∙◌}
use borrow.Author.Tests.{ne_eqb}
use Rattle.error.proofs.Places.{each-offends, each-passes, is_found, is_none}
use Rattle.setup.specs.Setups.{directions_needed}
use Rattle.setup_tables.specs.Checks.{bad_direction}
use Rattle.setup_tables.proofs.Lengths.{entries-beyond, length-differs, length_meets}
use Rattle.setup_tables.proofs.check_directions.Goals.{After-direction_entries}
use Rattle.setup_tables.proofs.check_directions.Goals as goal

-- what the call of `direction_entries` returned
entries : (c : goal.After-direction_entries) → c.direction_entries.result ≡ directions_needed c.args.setup
entries c = c.direction_entries.ensures ∙ ap (λ (n : ℕ). 2 * 2 ^ n) c.polar_bits-bits.ensures

pub returns-then-bits-gt60 : goal.returns-then-bits-gt60
returns-then-bits-gt60 c = simp (ne_eqb _ _ (λ e. entries-beyond c.polar_bits-bits.result _ c.if-bits-gt60.true c.well_formed.1.0.1 (e ∙ ap (λ (n : ℕ). 2 * 2 ^ n) (sym c.polar_bits-bits.ensures))))

pub returns-then-directions-direction_entries : goal.returns-then-directions-direction_entries
returns-then-directions-direction_entries c = simp (length-differs _ (entries (goal.at.returns-then-directions-direction_entries c).After-direction_entries) c.if-directions-direction_entries.true)

pub returns-in-Some : goal.returns-in-Some
returns-in-Some c = simp (length_meets _ (entries (goal.at.returns-in-Some c).After-direction_entries) c.if-directions-direction_entries.false, each-offends bad_direction _ (is_found c.first_bad_direction.ensures c.in-Some.is).0 (is_found c.first_bad_direction.ensures c.in-Some.is).1, (is_found c.first_bad_direction.ensures c.in-Some.is).0)

pub returns : goal.returns
returns c = simp (length_meets _ (entries (goal.at.returns c).After-direction_entries) c.if-directions-direction_entries.false, each-passes bad_direction _ refl (is_none c.first_bad_direction.ensures c.in_default.is))
