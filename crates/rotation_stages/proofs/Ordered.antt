-- All the stages in order, done in place: what is left to do is so many stages of what is there now. Assumes nothing.
use Prim.Native.Nat.{ℕ, suc, ◌+◌, ◌-◌, ◌*◌, ◌^◌, ◌≤◌, ◌<◌}
use mathlib.Core.Path.{◌≡◌, refl, sym, ap, ◌∙◌, subst}
use mathlib.Core.List.{List}
use native.Mathlib.Nat.{pow-suc}
use native.Mathlib.Omega.{arith}
use lib.ListN.{length}
use lib.Ieee.{Float, binary32, add, sub}
use Rattle.float.specs.Constants.{pos_zero}
use Rattle.rounding.specs.Butterfly.{stage, stages}
use Rattle.rounding.proofs.Butterflies.{length-stage}
use Rattle.rotation_stages.specs.Inner.{Stepped, Steps}

module _ {A : Type 0} (plus minus : A → A → A) (d : A) where
  stages-none : (h : ℕ) (xs : List A) → stages plus minus d 0 h xs ≡ xs
  unfolding stages
  stages-none h xs = refl

  stages-more : (k h : ℕ) (xs : List A) → stages plus minus d (suc k) h xs ≡ stages plus minus d k (h + h) (stage plus minus d h xs)
  unfolding stages
  stages-more k h xs = refl

-- ---- the loop over the stages

-- `left` stages of ys, from `step` on, give the whole
pub record Running (step left : ℕ) (whole ys : List Float) : Type 0 where
  pub steps : Steps step left (length ys)
  pub same : whole ≡ stages (add binary32) (sub binary32) pos_zero left step ys

pub running-start : (step count : ℕ) (xs : List Float) → Steps step count (length xs) → Running step count (stages (add binary32) (sub binary32) pos_zero count step xs) xs
running-start step count xs steps = record { steps = steps; same = refl }

-- with one stage more to do
module _ (step k long : ℕ) (steps : Steps step (suc k) long) where
  doubled : long ≡ 2 ^ k * (2 * step)
  doubled = let p = pow-suc 2 k in steps.whole ∙ ap (λ (n : ℕ). step * n) p ∙ omega arith

  steps-one : Steps (2 * step) k long
  steps-one = record { above = omega (arith, steps.above); whole = doubled ∙ omega arith }

  stepped-one : Stepped (2 * step) long
  stepped-one = record { above = omega (arith, steps.above); blocks = 2 ^ k; whole = doubled }

more-one : (step k : ℕ) (whole ys zs : List Float) → Running step (suc k) whole ys → zs ≡ stage (add binary32) (sub binary32) pos_zero step ys → Running (2 * step) k whole zs
more-one step k whole ys zs inv e =
    let twice : step + step ≡ 2 * step = omega arith in
    let long = ap length e ∙ length-stage (add binary32) (sub binary32) pos_zero step ys in
    record {
      steps = subst (λ (n : ℕ). Steps (2 * step) k n) (sym long) (steps-one step k (length ys) inv.steps);
      same = inv.same ∙ stages-more (add binary32) (sub binary32) pos_zero k step ys ∙ ap (stages (add binary32) (sub binary32) pos_zero k (step + step)) (sym e) ∙ ap (λ (m : ℕ). stages (add binary32) (sub binary32) pos_zero k m zs) twice;
    }

module _ (step left long : ℕ) (steps : Steps step left long) where
  one_more : 0 < left → Steps step (suc (left - 1)) long
  one_more l = let here : left ≡ suc (left - 1) = omega arith in subst (λ (n : ℕ). Steps step n long) here steps

  two-more : 2 ≤ left → Steps (2 * step) (suc (left - 2)) long
  two-more l = let here : left - 1 ≡ suc (left - 2) = omega arith in subst (λ (n : ℕ). Steps (2 * step) n long) here (steps-one step (left - 1) long (one_more (omega arith)))

  pub steps-pairs : 0 < left → Stepped (2 * step) long
  steps-pairs l = stepped-one step (left - 1) long (one_more l)

  pub steps-fours : 2 ≤ left → Stepped (4 * step) long
  steps-fours l = let four : 2 * (2 * step) ≡ 4 * step = omega arith in subst (λ (n : ℕ). Stepped n long) four (stepped-one (2 * step) (left - 2) long (two-more l))

module _ (step left : ℕ) (whole ys zs : List Float) (inv : Running step left whole ys) where
  pub running_more : 0 < left → zs ≡ stage (add binary32) (sub binary32) pos_zero step ys → Running (2 * step) (left - 1) whole zs
  running_more l e =
      let here : left ≡ suc (left - 1) = omega arith in
      more-one step (left - 1) whole ys zs (subst (λ (n : ℕ). Running step n whole ys) here inv) e

pub running-twice : (step left : ℕ) (whole ys zs : List Float) → Running step left whole ys → 2 ≤ left → zs ≡ stage (add binary32) (sub binary32) pos_zero (2 * step) (stage (add binary32) (sub binary32) pos_zero step ys) → Running (4 * step) (left - 2) whole zs
running-twice step left whole ys zs inv l e =
    let four : 2 * (2 * step) ≡ 4 * step = omega arith in
    let less : left - 1 - 1 ≡ left - 2 = omega arith in
    let once = running_more step left whole ys (stage (add binary32) (sub binary32) pos_zero step ys) inv (omega arith) refl in
    let both = running_more (2 * step) (left - 1) whole (stage (add binary32) (sub binary32) pos_zero step ys) zs once (omega arith) e in
    subst (λ (n : ℕ). Running n (left - 2) whole zs) four (subst (λ (n : ℕ). Running (2 * (2 * step)) n whole zs) less both)

pub running-all : (step left : ℕ) (whole ys : List Float) → Running step left whole ys → left ≤ 0 → ys ≡ whole
running-all step left whole ys inv l =
    let none : left ≡ 0 = omega arith in
    sym (inv.same ∙ ap (λ (n : ℕ). stages (add binary32) (sub binary32) pos_zero n step ys) none ∙ stages-none (add binary32) (sub binary32) pos_zero step ys)
