-- Sums that take one value more: where the new sum is finite, so are the old sum and the value. Assumes nothing.
use Prim.Native.Nat.{ℕ, ◌+◌, ◌<◌}
use mathlib.Core.Path.{◌≡◌, sym, ap, subst}
use mathlib.Core.Bool.{true, not}
use mathlib.Core.List.{List}
use native.Mathlib.Omega.{arith}
use native.Mathlib.Decide.{dec_lt, ℕ_discrete}
use lib.Dec.{T}
use lib.ListN.{length, get_or, set, length-set}
use lib.Seq.{get_or-set_same, get_or-set_other}
use lib.Ieee.{Float, nan, binary32, add}
use lib.Ieee.Bits.{is_true}
use lib.Ieee.Scale.{finite}
use Rattle.error.specs.Answer.{clear}
use Rattle.error.specs.Checks.{bad_value}
use Rattle.error.proofs.Finite.{finite-passes}
use Rattle.error.proofs.Places.{each_none}
use Rattle.rounding.proofs.Finite.{add-finite}
use Rattle.finite_sums.specs.Inner.{Among, Took, Ran}

-- ---- values that are finite

among-more : (values : List Float) (from to : ℕ) → Among values from to → T (finite (get_or values to nan)) → Among values from (to + 1)
among-more values from to all here k l h = elim (dec_lt k to) [ yes b ↦ all k l b | no b ↦ let e : to ≡ k = omega arith in subst (λ (i : ℕ). T (finite (get_or values i nan))) e here ]

pub among-joined : (values : List Float) (from mid to : ℕ) → Among values from mid → Among values mid to → Among values from to
among-joined values from mid to left right k l h = elim (dec_lt k mid) [ yes b ↦ left k l b | no b ↦ right k (omega arith) h ]

pub among-clear : (values : List Float) → Among values 0 (length values) → clear bad_value values ≡ true
among-clear values all = ap not (each_none bad_value values nan (λ i l. finite-passes _ (is_true _ (all i (omega arith) l))))

-- ---- one sum

module _ (values : List Float) (from : ℕ) where
  pub ran-more : {to : ℕ} {old new : Float} → Ran values from to old new → Ran values from (to + 1) old (add binary32 new (get_or values to nan))
  ran-more {to} {old} {new} r = record {
    told = λ t.
        let both = add-finite binary32 new (get_or values to nan) t in
        let so_far = r.told both.0 in
        (so_far.0, among-more values from to so_far.1 both.1);
  }

  -- ---- sums side by side

  pub took-start : (sums : List Float) → Took values from from sums sums
  took-start sums = record { told = λ t. (t, λ k l h. absurd (omega arith)) }

  -- sum j takes one
  pub took_more : {to : ℕ} {old new : List Float} (j : ℕ) → j < length new → Took values from to old new → Took values from (to + 1) old (set new j (add binary32 (get_or new j nan) (get_or values to nan)))
  took_more {to} {old} {new} j within s = record {
    told = λ t.
        let sum = add binary32 (get_or new j nan) (get_or values to nan) in
        let long = length-set new j sum in
        let both = add-finite binary32 (get_or new j nan) (get_or values to nan) (subst (λ (x : Float). T (finite x)) (get_or-set_same new j sum nan within) (t j (omega arith) (omega (arith, long)))) in
        let so_far = s.told (λ k l h. elim (ℕ_discrete k j) [ yes e ↦ subst (λ (i : ℕ). T (finite (get_or new i nan))) (sym e) both.0 | no d ↦ subst (λ (x : Float). T (finite x)) (get_or-set_other new j k sum nan d) (t k l (omega (arith, long))) ]) in
        (so_far.0, among-more values from to so_far.1 both.1);
  }

  -- and then those of a longer run
  pub took-then : {mid to : ℕ} {old between new : List Float} → Took values from mid old between → Took values mid to between new → Took values from to old new
  took-then {mid} {to} s r = record {
    told = λ t.
        let later = r.told t in
        let so_far = s.told later.0 in
        (so_far.0, among-joined values from mid to so_far.1 later.1);
  }

-- ---- one sum of all

-- the sums side by side took the values up to `at`, and the last sum takes these sums and the values after
pub sum-clear : (values sums begun : List Float) (at : ℕ) {start mid end : Float} → Took values 0 at begun sums → Ran sums 0 (length sums) start mid → Ran values at (length values) mid end → finite end ≡ true → clear bad_value values ≡ true
sum-clear values sums begun at {start} {mid} {end} took ran rest e =
    let later = rest.told (subst T (sym e) tt) in
    among-clear values (among-joined values 0 at (length values) (took.told (ran.told later.0).1).1 later.1)
