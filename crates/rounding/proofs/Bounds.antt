-- The error calculus on exact numbers: what an exact step does to a `Bound`, and what one rounding adds to it.
-- A rounding takes k to k + 1, and its absolute part goes to r; an exact sum adds the r's and the a's. Assumes nothing.
use mathlib.Core.Path.{◌≡◌, ap, ◌∙◌}
use Prim.Native.Nat.{ℕ, ◌+◌, ◌-◌, ◌*◌, ◌^◌, ◌≤◌}
use native.Mathlib.Nat.{le_trans, le_of_eq, one-mul, mul-one, mul-zero, add-zero, mul_assoc, mul-add, mul-sub, mul-le-mul_left, mul-le-mul_right, mul-le-mul, add-le-add, le_refl}
use native.Mathlib.Omega.{arith}
use mathlib.Core.Bool.{Bool, true, false}
use Rattle.rounding.specs.Signed.{Diff, signed, opposite, turned, ◌⊞◌, ◌⊟◌, ◌⊠◌, ◌⊙◌, Near, Same}
use Rattle.rounding.proofs.Signed.{size, Abs}
use Rattle.rounding.proofs.Close.{Bound}

-- ---- exact steps
pub bound-add : {s k r a q b : ℕ} {v x u y : Diff} → Bound s k r a v x → Bound s k q b u y → Bound s k (r + q) (a + b) (v ⊞ u) (x ⊞ y)
bound-add {s} {k} {r} {a} {q} {b} {v} {x} {u} {y} h g = record {
  sized = record { above = omega (arith, h.sized.above, g.sized.above); below = omega (arith, h.sized.below, g.sized.below) };
  near = record { above = omega (arith, h.near.above, g.near.above); below = omega (arith, h.near.below, g.near.below) };
}

bound-opposite : {s k r a : ℕ} {v x : Diff} → Bound s k r a v x → Bound s k r a (opposite v) (opposite x)
bound-opposite h = record {
  sized = record { above = h.sized.below; below = h.sized.above };
  near = record { above = h.near.below; below = h.near.above };
}

pub bound-sub : {s k r a q b : ℕ} {v x u y : Diff} → Bound s k r a v x → Bound s k q b u y → Bound s k (r + q) (a + b) (v ⊟ u) (x ⊟ y)
bound-sub h g = bound-add h (bound-opposite g)

pub bound-turned : (t : Bool) {s k r a : ℕ} {v x : Diff} → Bound s k r a v x → Bound s k r a (turned t v) (turned t x)
bound-turned false h = h
bound-turned true h = bound-opposite h

-- times an exact factor of size c
pub bound-times : (t : Bool) (c : ℕ) {s k r a : ℕ} {v x : Diff} → Bound s k r a v x → Bound s k (c * r) (c * a) (v ⊠ signed t c) (x ⊠ signed t c)
bound-times false c {s} {k} {r} {a} {v} {x} h = record {
  sized = record { above = omega (arith, mul-le-mul_right c h.sized.above); below = omega (arith, mul-le-mul_right c h.sized.below) };
  near = record { above = omega (arith, mul-le-mul_right c h.near.above); below = omega (arith, mul-le-mul_right c h.near.below) };
}
bound-times true c {s} {k} {r} {a} {v} {x} h = record {
  sized = record { above = omega (arith, mul-le-mul_right c h.sized.below); below = omega (arith, mul-le-mul_right c h.sized.above) };
  near = record { above = omega (arith, mul-le-mul_right c h.near.below); below = omega (arith, mul-le-mul_right c h.near.above) };
}

-- in a unit of which t make the former one
pub bound-lift : (t : ℕ) {s k r a : ℕ} {v x : Diff} → Bound s k r a v x → Bound (t * s) k (t * r) (t * a) v (t ⊙ x)
bound-lift t {s} {k} {r} {a} {v} {x} h = record {
  sized = record { above = omega (arith, mul-le-mul_left t h.sized.above); below = omega (arith, mul-le-mul_left t h.sized.below) };
  near = record { above = omega (arith, mul-le-mul_left t h.near.above); below = omega (arith, mul-le-mul_left t h.near.below) };
}

-- the same exact number, written in another way
pub bound-same : {s k r a : ℕ} {v x y : Diff} → Same x y → Bound s k r a v x → Bound s k r a v y
bound-same {s} {k} {r} {a} {v} {x} {y} e h = record {
  sized = record { above = omega (arith, h.sized.above); below = omega (arith, h.sized.below) };
  near = record { above = omega (arith, h.near.above); below = omega (arith, h.near.below) };
}

-- a wider bound
wider : (k k' r r' a a' : ℕ) → k ≤ k' → r ≤ r' → a ≤ a' → k * (a + r) + 2 ^ 23 * r ≤ k' * (a' + r') + 2 ^ 23 * r'
wider k k' r r' a a' K R A = omega (arith, mul-le-mul K (add-le-add A R))

pub bound-weaken : {s k r a k' r' a' : ℕ} {v x : Diff} → k ≤ k' → r ≤ r' → a ≤ a' → Bound s k r a v x → Bound s k' r' a' v x
bound-weaken {s} {k} {r} {a} {k'} {r'} {a'} {v} {x} K R A h =
    let w = wider k k' r r' a a' K R A in
    record {
      sized = record { above = le_trans h.sized.above (omega arith); below = le_trans h.sized.below (omega arith) };
      near = record { above = le_trans h.near.above (add-le-add (le_refl _) w); below = le_trans h.near.below (add-le-add (le_refl _) w) };
    }

-- an exact number
pub bound-exact : {s k a : ℕ} {v x : Diff} → Same (s ⊙ v) x → Abs x a → Bound s k 0 a v x
bound-exact {s} {k} {a} {v} {x} e h = record { sized = h; near = record { above = omega arith; below = omega arith } }

-- ---- one rounding: from the number d to t * z, with the error (|d| + w) / 2 ^ 24
pub size-times : (s : ℕ) (d : Diff) → s * size d ≡ s * d.plus - s * d.minus + (s * d.minus - s * d.plus)
size-times s d = mul-add s (d.plus - d.minus) (d.minus - d.plus) ∙ ap (λ (x : ℕ). x + s * (d.minus - d.plus)) (mul-sub s d.plus d.minus) ∙ ap (λ (x : ℕ). s * d.plus - s * d.minus + x) (mul-sub s d.minus d.plus)

one_side : (p m xp xm K r a : ℕ) → K ≤ 2 ^ 23 * (a + r) → xp ≤ xm + a → 2 ^ 23 * p + 2 ^ 23 * xm ≤ 2 ^ 23 * m + 2 ^ 23 * xp + (K + 2 ^ 23 * r) → p ≤ m + 2 * (a + r)
one_side p m xp xm K r a h g f = omega arith

both-sides : (p m w : ℕ) → p ≤ m + w → m ≤ p + w → p - m + (m - p) ≤ w
both-sides p m w h g = omega arith

-- |d| is at most twice what bounds it
size-bound : {s k r a : ℕ} {d x : Diff} → k ≤ 2 ^ 23 → Bound s k r a d x → s * size d ≤ 2 * (a + r)
size-bound {s} {k} {r} {a} {d} {x} K h =
    let l : k * (a + r) ≤ 2 ^ 23 * (a + r) = mul-le-mul_right (a + r) K in
    le_trans (le_of_eq (size-times s d))
    (both-sides (s * d.plus) (s * d.minus) (2 * (a + r))
    (one_side (s * d.plus) (s * d.minus) x.plus x.minus (k * (a + r)) r a l h.sized.above h.near.above)
    (one_side (s * d.minus) (s * d.plus) x.minus x.plus (k * (a + r)) r a l h.sized.below h.near.below))

-- the error of the rounding added to the one so far
one-error : (zp zm dp dm xp xm k r a W w g : ℕ) → 2 ^ 24 * zp + 2 ^ 24 * dm ≤ 2 ^ 24 * zm + 2 ^ 24 * dp + (W + w)
    → W ≤ 2 * (a + r) → w ≤ 2 ^ 24 * g → 2 ^ 23 * dp + 2 ^ 23 * xm ≤ 2 ^ 23 * dm + 2 ^ 23 * xp + (k * (a + r) + 2 ^ 23 * r)
    → 2 ^ 23 * zp + 2 ^ 23 * xm ≤ 2 ^ 23 * zm + 2 ^ 23 * xp + ((k + 1) * (a + (r + g)) + 2 ^ 23 * (r + g))
one-error zp zm dp dm xp xm k r a W w g i j l n = omega arith

scaled-side : (s zp zm dp dm W w : ℕ) → 2 ^ 24 * zp + 2 ^ 24 * dm ≤ 2 ^ 24 * zm + 2 ^ 24 * dp + (W + w)
    → 2 ^ 24 * (s * zp) + 2 ^ 24 * (s * dm) ≤ 2 ^ 24 * (s * zm) + 2 ^ 24 * (s * dp) + (s * W + s * w)
scaled-side s zp zm dp dm W w h = omega (arith, mul-le-mul_left s h)

pub bound-rounded : (t w g : ℕ) {s k r a : ℕ} {d x : Diff} (z : Diff) → k ≤ 2 ^ 23 → s * w ≤ 2 ^ 24 * g → Near (2 ^ 24 ⊙ (t ⊙ z)) (2 ^ 24 ⊙ d) (size d + w)
    → Bound s k r a d x → Bound (s * t) (k + 1) (r + g) a z x
bound-rounded t w g {s} {k} {r} {a} {d} {x} z K l n h =
    let j : s * size d ≤ 2 * (a + r) = size-bound K h in
    let above = one-error (s * (t * z.plus)) (s * (t * z.minus)) (s * d.plus) (s * d.minus) x.plus x.minus k r a (s * size d) (s * w) g
    (scaled-side s (t * z.plus) (t * z.minus) d.plus d.minus (size d) w n.above) j l h.near.above in
    let below = one-error (s * (t * z.minus)) (s * (t * z.plus)) (s * d.minus) (s * d.plus) x.minus x.plus k r a (s * size d) (s * w) g
    (scaled-side s (t * z.minus) (t * z.plus) d.minus d.plus (size d) w n.below) j l h.near.below in
    record { sized = h.sized; near = record { above = rw (mul_assoc s t z.plus, mul_assoc s t z.minus) above; below = rw (mul_assoc s t z.plus, mul_assoc s t z.minus) below } }

-- a rounding that adds nothing to the absolute part
pub bound-rounded-relative : {s k r a : ℕ} {d x : Diff} (z : Diff) → k ≤ 2 ^ 23 → Near (2 ^ 24 ⊙ z) (2 ^ 24 ⊙ d) (size d) → Bound s k r a d x → Bound s (k + 1) r a z x
bound-rounded-relative {s} {k} {r} {a} {d} {x} z K n h =
    let m : Near (2 ^ 24 ⊙ (1 ⊙ z)) (2 ^ 24 ⊙ d) (size d + 0) = simp (one-mul, add-zero) n in
    simp (mul-one, add-zero) at (bound-rounded 1 0 0 z K (simp mul-zero (le_refl 0)) m h)

-- ---- the bound as a distance: 2 ^ 23 times the error is at most k * a + 2 ^ 24 * r
pub bound-error : {s k r a : ℕ} {v x : Diff} → k ≤ 2 ^ 23 → Bound s k r a v x → Near (2 ^ 23 ⊙ (s ⊙ v)) (2 ^ 23 ⊙ x) (k * a + 2 ^ 24 * r)
bound-error {s} {k} {r} {a} {v} {x} K h =
    let w : k * (a + r) + 2 ^ 23 * r ≤ k * a + 2 ^ 24 * r = omega (arith, mul-le-mul_right r K) in
    record { above = le_trans h.near.above (add-le-add (le_refl _) w); below = le_trans h.near.below (add-le-add (le_refl _) w) }
