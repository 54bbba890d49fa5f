-- A chain of checks: it answers alike whatever stands at its end, two chains one after the other are one chain, and a value at the end says that no check
-- of the chain offends. Assumes nothing.
use Prim.Native.Nat.{ℕ}
use mathlib.Core.Path.{◌≡◌, refl, sym, ◌∙◌}
use mathlib.Core.Bool.{Bool, true, false, ◌||◌, ◌&&◌, true≢false}
use mathlib.Core.List.{List, [], ◌∷◌, ◌++◌}
use native.Mathlib.Omega.{arith}
use Rattle.error.specs.Answer.{Answer, value, refused, withdrawn, Check, check, first, accepted, done}

-- not both a value and a refusal
pub value-not-refused {ℓ} : {A : Type 0} {X : Type ℓ} {x : A} {n p : ℕ} → value x ≡ refused n p → X
value-not-refused e = let z : ◌≡◌ {A = ℕ} 0 1 = cc in absurd (omega arith)

-- nor is either of them a withdrawn position
pub value-not-withdrawn {ℓ} : {A : Type 0} {X : Type ℓ} {x : A} → value x ≡ withdrawn → X
value-not-withdrawn e = let z : ◌≡◌ {A = ℕ} 0 1 = cc in absurd (omega arith)

pub refused-not-withdrawn {ℓ} : {A : Type 0} {X : Type ℓ} {n p : ℕ} → ◌≡◌ {A = Answer A} (refused n p) withdrawn → X
refused-not-withdrawn e = let z : ◌≡◌ {A = ℕ} 0 1 = cc in absurd (omega arith)

-- both of two tests hold
pub and-true : (a b : Bool) → (a && b) ≡ true → (a ≡ true) × (b ≡ true)
and-true true b e = (refl, e)
and-true false b e = absurd (true≢false (sym e))

-- neither of two tests holds
pub or-false : (a b : Bool) → (a || b) ≡ false → (a ≡ false) × (b ≡ false)
or-false true b e = let f : true ≡ false = e in (f, cc)
or-false false b e = (refl, e)

-- ---- what a function that only checks has found, for any value at the end

module _ {A : Type 0} where
  pub first-passed : (cs : List Check) (a : Answer A) → first cs accepted ≡ accepted → first cs a ≡ a
  first-passed [] a e = refl
  first-passed (check true n p ∷ cs) a e = cc
  first-passed (check false n p ∷ cs) a e = first-passed cs a e

  pub first-refused : (cs : List Check) (a : Answer A) {n p : ℕ} → first cs accepted ≡ refused n p → first cs a ≡ refused n p
  first-refused [] a e = value-not-refused e
  first-refused (check true n p ∷ cs) a e = cc
  first-refused (check false n p ∷ cs) a e = first-refused cs a e

  pub first_done : (cs : List Check) (v : A) → done (first cs (value v)) ≡ first cs accepted
  first_done [] v = refl
  first_done (check true n p ∷ cs) v = refl
  first_done (check false n p ∷ cs) v = first_done cs v

  -- a value comes as it was given
  pub first-value : (cs : List Check) (x : A) {y : A} → first cs (value x) ≡ value y → x ≡ y
  first-value [] x e = cc
  first-value (check true m q ∷ cs) x {y} e = let f : value y ≡ refused m q = cc in value-not-refused f
  first-value (check false m q ∷ cs) x e = first-value cs x e

  -- nor is what is not withdrawn withdrawn behind a chain
  pub first-not_withdrawn : (cs : List Check) (a : Answer A) → (a ≡ withdrawn → ⊥) → first cs a ≡ withdrawn → ⊥
  first-not_withdrawn [] a h e = h e
  first-not_withdrawn (check true n p ∷ cs) a h e = refused-not-withdrawn e
  first-not_withdrawn (check false n p ∷ cs) a h e = first-not_withdrawn cs a h e

  -- ---- two chains

  pub first-append : (cs ds : List Check) (a : Answer A) → first (cs ++ ds) a ≡ first cs (first ds a)
  first-append [] ds a = refl
  first-append (check true n p ∷ cs) ds a = refl
  first-append (check false n p ∷ cs) ds a = first-append cs ds a

  -- a value at the end of both: the first chain passes, and the second answers it
  pub first-clear : (cs : List Check) (a : Answer A) {x : A} → first cs a ≡ value x → first cs accepted ≡ accepted
  first-clear [] a e = refl
  first-clear (check true n p ∷ cs) a e = cc
  first-clear (check false n p ∷ cs) a e = first-clear cs a e

  pub first_ends : (cs : List Check) (a : Answer A) {x : A} → first cs a ≡ value x → a ≡ value x
  first_ends [] a e = e
  first_ends (check true n p ∷ cs) a e = cc
  first_ends (check false n p ∷ cs) a e = first_ends cs a e

  pub append_left : (cs ds : List Check) (a : Answer A) {x : A} → first (cs ++ ds) a ≡ value x → first cs accepted ≡ accepted
  append_left cs ds a e = first-clear cs (first ds a) (sym (first-append cs ds a) ∙ e)

  pub append_right : (cs ds : List Check) (a : Answer A) {x : A} → first (cs ++ ds) a ≡ value x → first ds a ≡ value x
  append_right cs ds a e = first_ends cs (first ds a) (sym (first-append cs ds a) ∙ e)

module _ {A B : Type 0} where
  -- where the first chain refuses, so does the whole
  pub append-refused : (cs ds : List Check) (x : A) (b : Answer B) {n p : ℕ} → first cs (value x) ≡ refused n p → first (cs ++ ds) b ≡ refused n p
  append-refused [] ds x b e = value-not-refused e
  append-refused (check true m q ∷ cs) ds x b e = cc
  append-refused (check false m q ∷ cs) ds x b e = append-refused cs ds x b e

  -- where it passes, the second decides
  pub append-passed : (cs ds : List Check) (x : A) (b : Answer B) {y : A} → first cs (value x) ≡ value y → first (cs ++ ds) b ≡ first ds b
  append-passed [] ds x b e = refl
  append-passed (check true m q ∷ cs) ds x b {y} e = let f : value y ≡ refused m q = cc in value-not-refused f
  append-passed (check false m q ∷ cs) ds x b e = append-passed cs ds x b e

-- ---- check by check

-- no check of the chain offends
abbrev pub Passed : List Check → Type 0
Passed [] = Unit {0}
Passed (check b n p ∷ cs) = (b ≡ false) × Passed cs

pub first_passes : {A : Type 0} (cs : List Check) (x : A) {y : A} → first cs (value x) ≡ value y → Passed cs
first_passes [] x e = tt
first_passes (check true m q ∷ cs) x {y} e = let f : value y ≡ refused m q = cc in value-not-refused f
first_passes (check false m q ∷ cs) x e = (refl, first_passes cs x e)

pub first-accepts : {A : Type 0} (cs : List Check) (a : Answer A) → Passed cs → first cs a ≡ a
first-accepts [] a h = refl
first-accepts (check b n p ∷ cs) a h = rw h.0 (first-accepts cs a h.1)

-- the same for any answer at the end
pub first-all : {A : Type 0} (cs : List Check) (a : Answer A) {x : A} → first cs a ≡ value x → Passed cs
first-all cs a e = first_passes cs tt (first-clear cs a e)
