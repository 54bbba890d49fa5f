-- Demand 3 over what a record holds, for every sound account of a rotation: a finite score lies within its bound of its exact score, and two scores further apart than the sum of their bounds have
-- exact scores in the same strict order. Nothing is asked of the floats but that they are f32, and of the rest only what the checks of a setup, a query and a
-- record leave. Assumes nothing.
use Prim.Native.Nat.{ℕ, ◌+◌, ◌*◌, ◌^◌, ◌≤◌, ◌<◌}
use mathlib.Core.Path.{◌≡◌, refl, ap, ◌∙◌, transport}
use mathlib.Core.List.{List}
use mathlib.Core.Bool.{true, false, not, ◌||◌}
use native.Mathlib.Nat.{le_refl, le_of_eq}
use native.Mathlib.Omega.{arith}
use lib.Dec.{T}
use lib.IntN.{pos}
use lib.ListN.{length, get_or, get_or-replicate}
use lib.Ieee.{Float, nan, fin, binary32, add, lt, fits}
use lib.Ieee.Scale.{finite}
use Rattle.error.proofs.Chains.{or-false}
use Rattle.bitpack.specs.Signs.{bad_sketch_sign}
use Rattle.rounding.specs.Signed.{Near, Under, ◌⊞◌, ◌⊙◌}
use Rattle.rounding.specs.Value.{val}
use Rattle.float.specs.Units.{unit, mag}
use Rattle.rounding.proofs.Close.{Close, AllFit}
use Rattle.rounding.specs.Sums.{absolute_sum}
use Rattle.rounding.proofs.Signed.{near-weaken, order-kept}
use Rattle.rounding.proofs.Calculus.{close-add, close-weaken, close-lift, close-error}
use Rattle.setup.specs.Lent.{Lent}
use Rattle.setup.specs.declared.Setup.{Setup}
use Rattle.setup.specs.declared.TurboMode.{TurboMode}
use Rattle.setup.specs.declared.TurboMode.TheVariants.{PolarOnly, PolarWithQjl}
use Rattle.setup.specs.Setups.{by_mode, counted_projections_of}
use Rattle.setup_tables.specs.Checks.{bad_direction}
use Rattle.setup.proofs.Usable.{Usable}
use Rattle.setup_tables.proofs.Accepted.{Directions}
use Rattle.polar.specs.Polar.{value_at, polar_sum_of}
use Rattle.polar.proofs.Directions.{within-small, missing-small}
use Rattle.polar.proofs.Counts.{close-polar-most}
use Rattle.rounding.specs.Rows.{projected}
use Rattle.qjl_residual.specs.Residual.{residual_of}
use Rattle.qjl_residual.specs.Exact.{whole_norm}
use Rattle.qjl_residual.proofs.ScaleBound.{close-norm-residual}
use Rattle.turbo_order.specs.Account.{Account}
use Rattle.turbo_order.specs.Scores.{Content, score_from, score_by, exact_polar_part, exact_residual_part, exact_by, polar_part_size, residual_part_size, size_by, per_unit, bound_by}
use Rattle.turbo_order.proofs.Sound.{Sound}
use Rattle.turbo_order.proofs.Scales.{per-one, per_radius_is, scaled-unit, alone-within, residual-within}

-- what the checks of setup, query and record leave, whatever the rotation
pub record Scorable (s : Setup) (l : Lent) (query : List Float) (c : Content) : Type 0 where
  pub usable : Usable s
  pub table : Directions s l.directions
  pub directions_fit : AllFit l.directions
  pub matrix_fit : AllFit l.matrix
  pub query_fit : AllFit query
  pub radii_fit : AllFit c.radii
  pub radii_long : 2 * length c.radii ≡ s.dim
  pub marks_long : length c.signs ≡ counted_projections_of s
  pub marks_good : (i : ℕ) → i < length c.signs → bad_sketch_sign (get_or c.signs i (pos 0)) ≡ false
  pub norm_fits : T (fits binary32 c.norm)

-- the polar sum and the residual of the score that an account gives
abbrev pub polar_part : Account → Lent → Content → Float
polar_part a l c = polar_sum_of a.entries l.directions c.indices c.radii

abbrev pub residual_part : Setup → Lent → List Float → Content → Float
residual_part s l query c = residual_of s.projections c.norm (projected s.dim s.projections l.matrix query) c.signs

-- a direction that passes is at most 1.0 in size
direction-small : (x : Float) → bad_direction x ≡ false → mag x ≤ unit
unfolding bad_direction
direction-small x good =
    let apart = or-false (not (finite x) || lt x (fin true 1 (pos 0))) (lt (fin false 1 (pos 0)) x) good in
    within-small x (or-false (not (finite x)) (lt x (fin true 1 (pos 0))) apart.0).1 apart.1

module _ (a : Account) (s : Setup) (l : Lent) (query : List Float) (c : Content) (sound : Sound s.dim a) (h : Scorable s l query c) where
  small : (j : ℕ) → mag (value_at l.directions j) ≤ unit
  small = missing-small l.directions (λ j k. direction-small (get_or l.directions j nan) (h.table.good j k))

  -- the absolute error of the polar sum
  polar_part_error : ℕ
  polar_part_error = 4 * (a.factor * (unit * unit)) * absolute_sum c.radii + length c.radii * (unit * unit * unit)

  few : sound.roundings + 3 + length c.radii ≤ a.count + 15
  few = let counted = sound.counted in let half = h.radii_long in omega arith

  close-polar_part : Close (unit * unit * unit) (sound.roundings + 3 + length c.radii) polar_part_error (polar_part_size a l c) (polar_part a l c) (exact_polar_part a l c)
  unfolding polar_part_error
  close-polar_part =
      close-polar-most a.factor l.directions c.indices c.radii h.directions_fit h.radii_fit sound.some small
      (λ j k. le_of_eq (get_or-replicate s.dim j (a.factor * unit) 0 (let half = h.radii_long in omega arith)))
      (let most = sound.most in omega (arith, few))
      sound.close

  -- ---- with the residual
  counted : s.mode ≡ PolarWithQjl → counted_projections_of s ≡ s.projections
  counted e = ap (λ (mode : TurboMode). by_mode mode 0 s.projections) e

  pairs-some : 0 < length c.radii
  pairs-some = let above = h.usable.above in let half = h.radii_long in omega arith

  close-residual_part : s.mode ≡ PolarWithQjl → Close (unit * unit * unit) (s.dim + s.projections + 2) ((2 * s.dim * whole_norm c.norm + 1) * (unit * unit * unit)) (residual_part_size s l query c) (residual_part s l query c) (exact_residual_part s l query c)
  close-residual_part e =
      let same = counted e in
      let most = h.usable.most in
      let rows = h.usable.most_projections in
      let lifted =
      close-lift unit
      (close-norm-residual s.dim s.projections l.matrix query c.signs h.matrix_fit h.query_fit (omega (arith, same)) (h.marks_long ∙ same) h.marks_good c.norm h.norm_fits) in
      let three : unit * (unit * unit) ≡ unit * unit * unit = omega arith in
      let error : unit * (2 * s.dim * whole_norm c.norm * (unit * unit) + unit * unit) ≡ (2 * s.dim * whole_norm c.norm + 1) * (unit * unit * unit) = omega arith in
      transport (λ i. Close (three i) (s.dim + s.projections + 2) (error i) (residual_part_size s l query c) (residual_part s l query c) (exact_residual_part s l query c)) lifted

  close-whole : s.mode ≡ PolarWithQjl
      → Close (unit * unit * unit) (a.count + s.projections + 15 + 1) (polar_part_error + (2 * s.dim * whole_norm c.norm + 1) * (unit * unit * unit))
      (polar_part_size a l c + residual_part_size s l query c) (add binary32 (polar_part a l c) (residual_part s l query c)) (exact_polar_part a l c ⊞ exact_residual_part s l query c)
  close-whole e =
      let same = counted e in
      let least = sound.least in
      let most = sound.most in
      let rows = h.usable.most_projections in
      close-add (omega (arith, same)) (close-weaken (omega (arith, few)) (le_refl _) (le_refl _) close-polar_part) (close-weaken (omega arith) (le_refl _) (le_refl _) (close-residual_part e))

  -- ---- what the roundings come to, by mode
  error-at : TurboMode → ℕ
  error-at mode =
      by_mode mode
      ((sound.roundings + 3 + length c.radii) * polar_part_size a l c + 2 ^ 24 * polar_part_error)
      ((a.count + s.projections + 15 + 1) * (polar_part_size a l c + residual_part_size s l query c) + 2 ^ 24 * (polar_part_error + (2 * s.dim * whole_norm c.norm + 1) * (unit * unit * unit)))

  near-at : (mode : TurboMode) → s.mode ≡ mode → T (finite (by_mode mode (polar_part a l c) (add binary32 (polar_part a l c) (residual_part s l query c))))
      → Near (per_unit ⊙ val (by_mode mode (polar_part a l c) (add binary32 (polar_part a l c) (residual_part s l query c)))) (2 ^ 23 ⊙ by_mode mode (exact_polar_part a l c) (exact_polar_part a l c ⊞ exact_residual_part s l query c)) (error-at mode)
  unfolding error-at
  near-at PolarOnly e known = let most = sound.most in rw scaled-unit (close-error (omega (arith, few)) known close-polar_part)
  near-at PolarWithQjl e known =
      let same = counted e in
      let most = sound.most in
      let rows = h.usable.most_projections in
      rw scaled-unit (close-error (omega (arith, same)) known (close-whole e))

  -- the bound is at least that
  bound-enough : (mode : TurboMode) → s.mode ≡ mode → error-at mode ≤ bound_by a s l query c
  unfolding error-at polar_part_error bound_by size_by
  bound-enough PolarOnly e =
      let bound = alone-within sound.roundings a.count a.factor (length c.radii) s.dim (polar_part_size a l c) (absolute_sum c.radii) (unit * unit) (unit * unit * unit) sound.counted h.radii_long in
      rw (e, per_radius_is, per-one) (omega (arith, bound))
  bound-enough PolarWithQjl e =
      let same = counted e in
      let some = h.usable.residual_projections e in
      let bound = residual-within sound.roundings a.count a.factor (length c.radii) s.dim (polar_part_size a l c) (absolute_sum c.radii) (unit * unit) (unit * unit * unit) sound.counted h.radii_long s.projections (whole_norm c.norm) (residual_part_size s l query c) (omega (arith, same)) pairs-some in
      rw (e, per_radius_is, per-one) (omega (arith, bound))

  -- Each finite score lies within its bound of its exact score.
  pub score_within : T (finite (score_by a s l query c)) → Near (per_unit ⊙ val (score_by a s l query c)) (2 ^ 23 ⊙ exact_by a s l query c) (bound_by a s l query c)
  unfolding score_from exact_by
  score_within known = near-weaken (bound-enough s.mode refl) (near-at s.mode refl known)

-- Of two records under one setup, query and rotation, scores that differ by more than the sum of their bounds have exact scores in the same strict order.
pub scores-ordered : (a : Account) (s : Setup) (l : Lent) (query : List Float) (c d : Content) → Sound s.dim a → Scorable s l query c → Scorable s l query d → T (finite (score_by a s l query c)) → T (finite (score_by a s l query d))
    → Under (bound_by a s l query c + bound_by a s l query d) (per_unit ⊙ val (score_by a s l query c)) (per_unit ⊙ val (score_by a s l query d)) → Under 0 (2 ^ 23 ⊙ exact_by a s l query c) (2 ^ 23 ⊙ exact_by a s l query d)
scores-ordered a s l query c d sound h g known known' apart = order-kept (score_within a s l query c sound h known) (score_within a s l query d sound g known') apart
