-- `float::root_pattern` meets its contract: the significand has from 1 to 24 binary digits, so all shifts and sums stay small. Assumes nothing.
use Rattle.std.proofs.Common.{◌≡◌, ℕ, suc, ◌+◌, ◌-◌, ◌*◌, ◌/◌, ◌^◌, ◌<◌, ◌≤◌, sym, ap, ◌∙◌, subst, ap₂, lt_of_lt_of_le, lt_of_le_of_lt, mod-eq_of_lt, arith, lit≤}
use lib.Count.{count_leading_zeros, leading_top}
use Rattle.float.specs.Inner.{significand_of, shift_of}
use Rattle.float.specs.SquareRoot.{nearest_root, root_pattern}
use Rattle.float.proofs.Decode.{significand-lt, significand-positive, shift_le}
use Rattle.float.proofs.IntegerRoot.{nearest_root-le}
use Rattle.float.proofs.RootPattern.{power-back, root_pattern-made}
use Rattle.float.proofs.root_pattern.Goals.{After-shift-k}
use Rattle.float.proofs.root_pattern.Goals as goal

-- ---- the significand's digits: suc `top`, from 1 to 24
pub record Digits (q k lz : ℕ) : Type 0 where
  pub top : ℕ
  pub zeros : lz + suc top ≡ 32
  pub least : 2 ^ top ≤ q
  pub most : q < 2 ^ suc top
  pub few : top < 24
  pub place : k ≤ 253

digits : (b : ℕ) → 0 < b → b < 0x7F80_0000 → Digits (significand_of b) (shift_of b) (count_leading_zeros 32 (significand_of b))
digits b p h =
    let z = leading_top 32 (significand_of b) (significand-positive b p) (lt_of_lt_of_le (significand-lt b) (lit≤ tt)) in
    record { top = z.0; zeros = z.1; least = z.2; most = z.3; few = power-back z.0 24 (lt_of_le_of_lt z.2 (significand-lt b)); place = shift_le b h }

known : (c : goal.After-shift-k) → Digits c.significand-q.result c.shift-k.result (count_leading_zeros 32 c.significand-q.result)
known c =
    subst (λ (q : ℕ). Digits q c.shift-k.result (count_leading_zeros 32 q)) (sym c.significand-q.ensures)
    (subst (λ (k : ℕ). Digits (significand_of c.args.b) k (count_leading_zeros 32 (significand_of c.args.b))) (sym c.shift-k.ensures) (digits c.args.b c.requires.0 c.requires.1))

pub overflow_add-k : goal.overflow_add-k
overflow_add-k c = let z = known (goal.at.overflow_add-k c).After-shift-k in omega arith

pub overflow_sub-size : goal.overflow_sub-size
overflow_sub-size c = let z = known (goal.at.overflow_sub-size c).After-shift-k in omega arith

pub overflow_add-size : goal.overflow_add-size
overflow_add-size c = let z = known (goal.at.overflow_add-size c).After-shift-k in omega arith

pub overflow_add-d : goal.overflow_add-d
overflow_add-d c = let z = known (goal.at.overflow_add-d c).After-shift-k in omega arith

pub overflow_sub-d : goal.overflow_sub-d
overflow_sub-d c = let z = known (goal.at.overflow_sub-d c).After-shift-k in omega arith

pub overflow_mul-m : goal.overflow_mul-m
overflow_mul-m c = let z = known (goal.at.overflow_mul-m c).After-shift-k in omega arith

pub overflow_sub-m : goal.overflow_sub-m
overflow_sub-m c = let z = known (goal.at.overflow_sub-m c).After-shift-k in omega arith

pub overflow_cast-m-2 : goal.overflow_cast-m-2
overflow_cast-m-2 c = let z = known (goal.at.overflow_cast-m-2 c).After-shift-k in omega arith

pub overflow_shl-m : goal.overflow_shl-m
overflow_shl-m c = let z = known (goal.at.overflow_shl-m c).After-shift-k in omega arith

pub overflow_mul-result : goal.overflow_mul-result
overflow_mul-result c = let z = known (goal.at.overflow_mul-result c).After-shift-k in omega arith

pub overflow_add-result : goal.overflow_add-result
overflow_add-result c = let z = known (goal.at.overflow_add-result c).After-shift-k in
    let n : c.nearest_root.result ≤ 2 ^ 24 = rw c.nearest_root.ensures (nearest_root-le _) in
    record { fits = omega arith }

same_drop : (lz j k : ℕ) → lz + suc j ≡ 32 → (32 - lz + k + 1) / 2 - 24 ≡ (suc (j + k) + 1) / 2 - 24
same_drop lz j k h = omega arith

pub returns : goal.returns
returns c = let q = c.significand-q.result in
    let k = c.shift-k.result + 149 in
    let d = (32 - count_leading_zeros 32 q + k + 1) / 2 - 24 in
    let z = known (goal.at.returns c).After-shift-k in
    let r = root_pattern-made q z.top c.shift-k.result d z.least z.most z.few z.place (same_drop (count_leading_zeros 32 q) z.top k z.zeros) in
    ap (λ (n : ℕ). d * 2 ^ 23 + n) (c.nearest_root.ensures ∙ ap nearest_root (mod-eq_of_lt (lt_of_lt_of_le r.0 (lit≤ tt))))
    ∙ sym r.1
    ∙ ap₂ (λ (s t : ℕ). root_pattern (s * 2 ^ (t + 149))) c.significand-q.ensures c.shift-k.ensures
