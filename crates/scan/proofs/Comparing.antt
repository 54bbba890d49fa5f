-- A new score among hits that fall: those before its place are not beaten, those from it on are, and the comparisons from the last upward are as many as it beats, and
-- one more where it does not beat all. Assumes nothing.
use Prim.Native.Nat.{ℕ, zero, suc, ◌-◌, min, ◌≤◌, ◌<◌}
use mathlib.Core.Path.{◌≡◌, refl, sym, ap, ◌∙◌}
use mathlib.Core.Bool.{true, false}
use mathlib.Core.List.{List, [], ◌∷◌, map}
use mathlib.Core.Logic.{⊎_elim}
use native.Mathlib.Omega.{arith}
use borrow.Author.Tests.{ltb-true, ltb-false}
use lib.Dec.{T, ltb}
use lib.ListN.{length, take, get_or, get_or-map}
use lib.Seq.{get_or-take}
use lib.Ieee.{Float, nan, lt}
use lib.Ieee.Scale.{finite}
use Rattle.ranking.specs.declared.Hit.{Hit}
use Rattle.ranking.specs.Ranked.{beats}
use Rattle.ranking.specs.Sorting.{Finites, count}
use Rattle.ranking.proofs.Orders.{Falling}
use Rattle.ranking.proofs.Sorting.{count-few}
use Rattle.ranking.proofs.Ranking.{either, none_before}
use Rattle.scan.specs.Entering.{place_up, compared_up}
use Rattle.scan.specs.History.{beaten_by, comparisons_with}
use Rattle.scan.proofs.Placing.{place-within, place-beaten, place-stopped}

-- what stands outside a list of hits
abbrev pub none : Hit
none = record { number = 0; score = nan }

abbrev pub scores_of : List Hit → List Float
scores_of hits = map (λ (h : Hit). h.score) hits

module _ (x : Float) where
  -- only the first scores are looked at
  module _ (kept : ℕ) (ss : List Float) where
    pub place_kept : (i : ℕ) → i ≤ kept → place_up x (take kept ss) i ≡ place_up x ss i
    unfolding place_up
    place_kept zero le = refl
    place_kept (suc i) le = simp (get_or-take kept ss i nan (omega arith), place_kept i (omega arith))

    pub compared-kept : (i : ℕ) → i ≤ kept → compared_up x (take kept ss) i ≡ compared_up x ss i
    unfolding compared_up
    compared-kept zero le = refl
    compared-kept (suc i) le = simp (get_or-take kept ss i nan (omega arith), compared-kept i (omega arith))

  -- those from the place on, and one more where there is one before it
  compared-place : (ss : List Float) (i : ℕ) → compared_up x ss i ≡ min (suc (i - place_up x ss i)) i
  unfolding compared_up place_up
  compared-place ss zero = omega arith
  compared-place ss (suc i) =
      ⊎_elim
      (λ (p : lt (get_or ss i nan) x ≡ true). simp p (omega (arith, compared-place ss i, place-within x ss i)))
      (λ (p : lt (get_or ss i nan) x ≡ false). simp p (omega arith))
      (either (lt (get_or ss i nan) x))

  -- where those from a place on are beaten and those before it are not
  beaten-from : (at : ℕ) (hits : List Hit) → at ≤ length hits → ((j : ℕ) → j < at → lt (get_or hits j none).score x ≡ false)
      → ((j : ℕ) → at ≤ j → j < length hits → lt (get_or hits j none).score x ≡ true) → beaten_by x hits ≡ length hits - at
  unfolding count
  beaten-from at [] le before from = omega arith
  beaten-from zero (h ∷ hits) le before from = simp (from 0 (omega arith) (omega arith)) (omega (arith, beaten-from zero hits (omega arith) (λ j l. absurd (omega arith)) (λ j l m. from (suc j) (omega arith) (omega arith))))
  beaten-from (suc at) (h ∷ hits) le before from = simp (before 0 (omega arith)) (omega (arith, beaten-from at hits (omega arith) (λ j l. before (suc j) (omega arith)) (λ j l m. from (suc j) (omega arith) (omega arith))))

  pub comparisons-few : (hits : List Hit) → comparisons_with x hits ≤ length hits
  comparisons-few hits =
      ⊎_elim
      (λ (b : ltb (beaten_by x hits) (length hits) ≡ true). simp b (omega (arith, ltb-true (beaten_by x hits) (length hits) b)))
      (λ (b : ltb (beaten_by x hits) (length hits) ≡ false). simp b (omega (arith, count-few (λ (h : Hit). lt h.score x) hits)))
      (either (ltb (beaten_by x hits) (length hits)))

  module _ (hits : List Hit) (f : T (finite x)) (all : Finites hits) (down : Falling hits) where
    abbrev at : ℕ
    at = place_up x (scores_of hits) (length hits)

    score-at : (j : ℕ) → (get_or hits j none).score ≡ get_or (scores_of hits) j nan
    score-at j = sym (get_or-map (λ (h : Hit). h.score) hits j none)

    within : at ≤ length hits
    within = place-within x (scores_of hits) (length hits)

    pub unbeaten-before : (j : ℕ) → j < at → lt (get_or hits j none).score x ≡ false
    unfolding beats
    unbeaten-before j l =
        none_before (at - 1) (record { number = 0; score = x }) none hits f all down (omega (arith, within))
        (ap (λ (y : Float). lt y x) (score-at (at - 1)) ∙ place-stopped x (scores_of hits) (length hits) (omega arith))
        j (omega arith)

    pub beaten-behind : (j : ℕ) → at ≤ j → j < length hits → lt (get_or hits j none).score x ≡ true
    beaten-behind j l m = ap (λ (y : Float). lt y x) (score-at j) ∙ place-beaten x (scores_of hits) (length hits) j l m

    pub comparisons-upward : comparisons_with x hits ≡ compared_up x (scores_of hits) (length hits)
    comparisons-upward =
        let e : beaten_by x hits ≡ length hits - at = beaten-from at hits within unbeaten-before beaten-behind in
        let up = compared-place (scores_of hits) (length hits) in
        ⊎_elim
        (λ (b : ltb (beaten_by x hits) (length hits) ≡ true). simp b (omega (arith, up, e, ltb-true (beaten_by x hits) (length hits) b)))
        (λ (b : ltb (beaten_by x hits) (length hits) ≡ false). simp b (omega (arith, up, e, ltb-false (beaten_by x hits) (length hits) b)))
        (either (ltb (beaten_by x hits) (length hits)))
