-- The least and the greatest of a list of floats above zero, one law for both: what is picked of two, what is best of the first n, and what sixteen lanes hold of
-- them. The best of the lanes is the best of the list, and there is only one. Assumes nothing.
use Prim.Native.Nat.{ℕ, zero, suc, ◌+◌, ◌-◌, ◌≤◌, ◌<◌}
use mathlib.Core.Path.{◌≡◌, refl, sym, ap, ◌∙◌, subst}
use mathlib.Core.Bool.{Bool, true, false, cond}
use mathlib.Core.Logic.{◌⊎◌, inl, inr, ⊎_elim}
use mathlib.Core.List.{List}
use native.Mathlib.Decide.{dec_lt, ℕ_discrete}
use native.Mathlib.Omega.{arith}
use borrow.Author.Tests.{ltb-true, ltb-false}
use lib.ListN.{length, get_or, drop, set, length-set}
use lib.Seq.{get_or-set_same, get_or-set_other}
use lib.Ieee.{Float, nan, lt}
use Rattle.radius.specs.Radii.{range_of}
use Rattle.radius.specs.declared.Range.{Range}
use Rattle.radius.proofs.Radii.{range_onward, range-start, range-step, range_end}
use Rattle.radius_range.proofs.Sizes.{Above, size_of, shape, lt_size, size-one}

-- ---- two floats: of the least and of the greatest

abbrev pub better : Bool → Float → Float → Bool
better false x y = lt x y
better true x y = lt y x

abbrev pub Ahead : Bool → ℕ → ℕ → Type 0
Ahead false a b = a ≤ b
Ahead true a b = b ≤ a

abbrev pub pick : Bool → Float → Float → Float
pick most x m = cond (better most x m) x m

ahead-self : (most : Bool) (a : ℕ) → Ahead most a a
ahead-self false a = omega arith
ahead-self true a = omega arith

ahead-chain : (most : Bool) (a b c : ℕ) → Ahead most a b → Ahead most b c → Ahead most a c
ahead-chain false a b c p q = omega arith
ahead-chain true a b c p q = omega arith

ahead-both : (most : Bool) (a b : ℕ) → Ahead most a b → Ahead most b a → a ≡ b
ahead-both false a b p q = omega arith
ahead-both true a b p q = omega arith

-- by what the test says
better-ahead : (most : Bool) (x y : Float) → Above x → Above y → better most x y ≡ true → Ahead most (size_of x) (size_of y)
better-ahead false x y p q e = let l = ltb-true (size_of x) (size_of y) (sym (lt_size x y (shape x p) (shape y q)) ∙ e) in omega (arith, l)
better-ahead true x y p q e = let l = ltb-true (size_of y) (size_of x) (sym (lt_size y x (shape y q) (shape x p)) ∙ e) in omega (arith, l)

not-better-ahead : (most : Bool) (x y : Float) → Above x → Above y → better most x y ≡ false → Ahead most (size_of y) (size_of x)
not-better-ahead false x y p q e = ltb-false (size_of x) (size_of y) (sym (lt_size x y (shape x p) (shape y q)) ∙ e)
not-better-ahead true x y p q e = ltb-false (size_of y) (size_of x) (sym (lt_size y x (shape y q) (shape x p)) ∙ e)

-- what is picked is one of the two, and ahead of both
pub record Picked (most : Bool) (x m v : Float) : Type 0 where
  pub either : (v ≡ x) ⊎ (v ≡ m)
  pub first : Ahead most (size_of v) (size_of x)
  pub second : Ahead most (size_of v) (size_of m)

picked : (most : Bool) (x m : Float) → Above x → Above m → Picked most x m (pick most x m)
picked most x m p q = by (better most x m) refl
  where
    by : (t : Bool) → better most x m ≡ t → Picked most x m (cond t x m)
    by true e = record { either = inl refl; first = ahead-self most (size_of x); second = better-ahead most x m p q e }
    by false e = record { either = inr refl; first = not-better-ahead most x m p q e; second = ahead-self most (size_of m) }

-- ---- a list of floats above zero

pub record Among (rs : List Float) (x : Float) : Type 0 where
  pub at : ℕ
  pub inside : at < length rs
  pub is : x ≡ get_or rs at nan

abbrev pub AllAbove : List Float → Type 0
AllAbove rs = (i : ℕ) → i < length rs → Above (get_or rs i nan)

-- one of the list, ahead of its first n
pub record Best (most : Bool) (rs : List Float) (n : ℕ) (x : Float) : Type 0 where
  pub among : Among rs x
  pub ahead : (i : ℕ) → i < n → Ahead most (size_of x) (size_of (get_or rs i nan))

-- each lane is one of the list, and for each of its first n a lane is ahead
pub record Reach (most : Bool) (lanes : List Float) (r : Float) : Type 0 where
  pub lane : ℕ
  pub inside : lane < 16
  pub ahead : Ahead most (size_of (get_or lanes lane nan)) (size_of r)

pub record Laned (most : Bool) (rs lanes : List Float) (n : ℕ) : Type 0 where
  pub long : length lanes ≡ 16
  pub among : (j : ℕ) → j < 16 → Among rs (get_or lanes j nan)
  pub reach : (i : ℕ) → i < n → Reach most lanes (get_or rs i nan)

module _ (rs : List Float) (above : AllAbove rs) where
  among-above : (x : Float) → Among rs x → Above x
  among-above x a = subst Above (sym a.is) (above a.at a.inside)

  module _ (most : Bool) where
    among-picked : (n : ℕ) (m v : Float) → n < length rs → Among rs m → Picked most (get_or rs n nan) m v → Among rs v
    among-picked n m v h a p = ⊎_elim (λ e. record { at = n; inside = h; is = e }) (λ e. record { at = a.at; inside = a.inside; is = e ∙ a.is }) p.either

    pub best-start : 0 < length rs → Best most rs 1 (get_or rs 0 nan)
    best-start h = record { among = record { at = 0; inside = h; is = refl }; ahead = λ i l. first i (omega arith) }
      where
        first : (i : ℕ) → i ≡ 0 → Ahead most (size_of (get_or rs 0 nan)) (size_of (get_or rs i nan))
        first i e = rw e (ahead-self most (size_of (get_or rs 0 nan)))

    pub best-next : (n : ℕ) (m : Float) → n < length rs → Best most rs n m → Best most rs (n + 1) (pick most (get_or rs n nan) m)
    best-next n m h b =
        let r = get_or rs n nan in
        let p = picked most r m (above n h) (among-above m b.among) in
        record { among = among-picked n m (pick most r m) h b.among p; ahead = λ i l. elim (dec_lt i n) [ yes k ↦ ahead-chain most _ _ _ p.second (b.ahead i k) | no k ↦ here p i (omega arith) ] }
      where
        here : Picked most (get_or rs n nan) m (pick most (get_or rs n nan) m) → (i : ℕ) → i ≡ n → Ahead most (size_of (pick most (get_or rs n nan) m)) (size_of (get_or rs i nan))
        here p i e = rw e p.first

    -- there is only one
    pub best-one : (x y : Float) → Best most rs (length rs) x → Best most rs (length rs) y → x ≡ y
    best-one x y p q =
        let over : (u v : Float) → Best most rs (length rs) u → Among rs v → Ahead most (size_of u) (size_of v) = λ u v b a. subst (λ (w : Float). Ahead most (size_of u) (size_of w)) (sym a.is) (b.ahead a.at a.inside) in
        size-one x y (shape x (among-above x p.among)) (shape y (among-above y q.among))
        (ahead-both most (size_of x) (size_of y) (over x y p q.among) (over y x q p.among))

    -- ---- lanes

    -- a float goes into any lane
    pub laned_next : (lanes : List Float) (n j : ℕ) (v : Float) → n < length rs → j < 16 → v ≡ pick most (get_or rs n nan) (get_or lanes j nan) → Laned most rs lanes n → Laned most rs (set lanes j v) (n + 1)
    laned_next lanes n j v h l e inv =
        record {
          long = length-set lanes j v ∙ inv.long;
          among = λ k g. elim (ℕ_discrete k j) [ yes s ↦ subst (λ (x : Float). Among rs x) (sym (stored k s)) (among-picked n old v h (inv.among j l) new) | no s ↦ subst (λ (x : Float). Among rs x) (sym (kept k s)) (inv.among k g) ];
          reach = λ i g. elim (dec_lt i n) [ yes k ↦ again i (inv.reach i k) | no k ↦ here i (omega arith) ];
        }
      where
        old : Float
        old = get_or lanes j nan

        new : Picked most (get_or rs n nan) old v
        new = subst (λ (x : Float). Picked most (get_or rs n nan) old x) (sym e) (picked most (get_or rs n nan) old (above n h) (among-above old (inv.among j l)))

        inside : j < length lanes
        inside = omega (arith, inv.long)

        stored : (k : ℕ) → k ≡ j → get_or (set lanes j v) k nan ≡ v
        stored k s = rw s (get_or-set_same lanes j v nan inside)

        kept : (k : ℕ) → (k ≡ j → ⊥) → get_or (set lanes j v) k nan ≡ get_or lanes k nan
        kept k s = get_or-set_other lanes j k v nan s

        here : (i : ℕ) → i ≡ n → Reach most (set lanes j v) (get_or rs i nan)
        here i s = record { lane = j; inside = l; ahead = rw (s, get_or-set_same lanes j v nan inside) new.first }

        again : (i : ℕ) → Reach most lanes (get_or rs i nan) → Reach most (set lanes j v) (get_or rs i nan)
        again i r = record {
          lane = r.lane;
          inside = r.inside;
          ahead = elim (ℕ_discrete r.lane j) [
            | yes s ↦ subst (λ (x : Float). Ahead most (size_of x) (size_of (get_or rs i nan))) (sym (stored r.lane s)) (ahead-chain most _ _ _ new.second (subst (λ (k : ℕ). Ahead most (size_of (get_or lanes k nan)) (size_of (get_or rs i nan))) s r.ahead))
            | no s ↦ subst (λ (x : Float). Ahead most (size_of x) (size_of (get_or rs i nan))) (sym (kept r.lane s)) r.ahead
          ];
        }

    -- the lanes' best is the list's
    pub laned-best : (lanes : List Float) (x : Float) → Laned most rs lanes (length rs) → Best most lanes (length lanes) x → Best most rs (length rs) x
    laned-best lanes x inv b =
        let lane = inv.among b.among.at (omega (arith, inv.long, b.among.inside)) in
        record {
          among = record { at = lane.at; inside = lane.inside; is = b.among.is ∙ lane.is };
          ahead = λ i l. let r = inv.reach i l in ahead-chain most _ _ _ (b.ahead r.lane (omega (arith, inv.long, r.inside))) r.ahead;
        }

    pub laned-above : (lanes : List Float) (n : ℕ) → Laned most rs lanes n → AllAbove lanes
    laned-above lanes n inv j l = among-above (get_or lanes j nan) (inv.among j (omega (arith, inv.long)))

-- ---- the range in order

module _ (rs : List Float) (above : AllAbove rs) where
  onward : (k n : ℕ) (lo hi : Float) → k + n ≡ length rs → Best false rs n lo → Best true rs n hi → (range : Range) → range ≡ range_onward lo hi (drop n rs) → Best false rs (length rs) range.min × Best true rs (length rs) range.max
  onward zero n lo hi e p q range is =
      let all : n ≡ length rs = omega (arith, e) in
      let done = is ∙ range_end rs n lo hi (omega (arith, e)) in
      rw done ((rw all at p), (rw all at q))
  onward (suc k) n lo hi e p q range is =
      let h : n < length rs = omega (arith, e) in
      onward k (n + 1) _ _ (omega (arith, e)) (best-next rs above false n lo h p) (best-next rs above true n hi h q) range (is ∙ range-step rs n nan lo hi h)

  pub range-best : 0 < length rs → Best false rs (length rs) (range_of rs).min × Best true rs (length rs) (range_of rs).max
  range-best h = onward (length rs - 1) 1 _ _ (omega (arith, h)) (best-start rs above false h) (best-start rs above true h) (range_of rs) (range-start rs nan h)

-- ---- the lanes of both

pub record Both (rs low high : List Float) (n : ℕ) : Type 0 where
  pub within : n ≤ length rs
  pub least : Laned false rs low n
  pub greatest : Laned true rs high n

module _ (rs : List Float) (above : AllAbove rs) where
  pub both-next : (low high : List Float) (n j : ℕ) (v w : Float) → n < length rs → j < 16 → v ≡ pick false (get_or rs n nan) (get_or low j nan) → w ≡ pick true (get_or rs n nan) (get_or high j nan) → Both rs low high n → Both rs (set low j v) (set high j w) (n + 1)
  both-next low high n j v w h l e f inv = record { within = omega arith; least = laned_next rs above false low n j v h l e inv.least; greatest = laned_next rs above true high n j w h l f inv.greatest }

  -- the lanes' ranges are the list's
  pub both_end : (low high : List Float) → 0 < length rs → Both rs low high (length rs) → record { min = (range_of low).min; max = (range_of high).max } ≡ range_of rs
  both_end low high h inv =
      let p = range-best rs above h in
      let l = range-best low (laned-above rs above false low (length rs) inv.least) (omega (arith, inv.least.long)) in
      let g = range-best high (laned-above rs above true high (length rs) inv.greatest) (omega (arith, inv.greatest.long)) in
      let e = best-one rs above false (range_of low).min (range_of rs).min (laned-best rs above false low (range_of low).min inv.least l.0) p.0 in
      let f = best-one rs above true (range_of high).max (range_of rs).max (laned-best rs above true high (range_of high).max inv.greatest g.1) p.1 in
      ap (λ (x : Float). record { min = x; max = (range_of high).max }) e ∙ ap (λ (x : Float). record { min = (range_of rs).min; max = x }) f
