-- Many records, one after the other: the ends are looked at from the first on, and so do the records enter; and taken so, each is one event more of the history.
-- Assumes nothing.
use Prim.Native.Nat.{ℕ, ◌+◌, ◌≤◌, ◌<◌}
use mathlib.Core.Path.{◌≡◌, refl, sym, ap, ◌∙◌}
use mathlib.Core.Bool.{Bool, true, false, cond, ◌||◌}
use mathlib.Core.List.{List, [], ◌∷◌}
use native.Mathlib.Numerals.{add-one}
use borrow.Author.Tests.{ltb-false}
use lib.Dec.{ltb}
use lib.ListN.{length, drop, get_or, drop_of_length-le}
use lib.Seq.{drop-cons}
use lib.Ieee.{Float}
use Rattle.error.specs.Answer.{Answer, Check, check, first, accepted}
use Rattle.error.proofs.Chains.{or-false, value-not-refused}
use Rattle.scan.specs.declared.Scan.{Scan}
use Rattle.scan.specs.Entering.{enter_of}
use Rattle.scan_many.specs.Many.{record_at, records_in, wrong_ends, entered_each}

-- the items from the next on
next-on : (items : List ℕ) (i : ℕ) → i < length items → drop i items ≡ get_or items i 0 ∷ drop (i + 1) items
next-on items i h = drop-cons items i 0 h ∙ ap (λ (k : ℕ). get_or items i 0 ∷ drop k items) (sym (add-one i))

-- ---- the ends

-- an end that lies before the one in front of it, or behind the bytes
abbrev pub bad_end : ℕ → ℕ → ℕ → Bool
bad_end long start end = ltb end start || ltb long end

-- an end that passes leaves those behind it
passed_on : (b : Bool) (e : ℕ) (c : Check) → first (cond b (check true 5 e) c ∷ []) accepted ≡ accepted → (b ≡ false) × (first (c ∷ []) accepted ≡ accepted)
passed_on true e c h = value-not-refused (sym h)
passed_on false e c h = (refl, h)

module _ (long start : ℕ) where
  ends-cons : (e : ℕ) (rest : List ℕ) → wrong_ends long start (e ∷ rest) ≡ cond (bad_end long start e) (check true 5 e) (wrong_ends long e rest)
  unfolding wrong_ends
  ends-cons e rest = refl

  module _ (ends : List ℕ) (i : ℕ) where
    pub ends-done : length ends ≤ i → wrong_ends long start (drop i ends) ≡ check false 5 0
    unfolding wrong_ends
    ends-done h = ap (wrong_ends long start) (drop_of_length-le ends h)

    module _ (h : i < length ends) where
      ends-here : wrong_ends long start (drop i ends) ≡ cond (bad_end long start (get_or ends i 0)) (check true 5 (get_or ends i 0)) (wrong_ends long (get_or ends i 0) (drop (i + 1) ends))
      ends-here = ap (wrong_ends long start) (next-on ends i h) ∙ ends-cons (get_or ends i 0) (drop (i + 1) ends)

      pub ends-bad : bad_end long start (get_or ends i 0) ≡ true → wrong_ends long start (drop i ends) ≡ check true 5 (get_or ends i 0)
      ends-bad b = ends-here ∙ ap (λ (x : Bool). cond x (check true 5 (get_or ends i 0)) (wrong_ends long (get_or ends i 0) (drop (i + 1) ends))) b

      pub ends-good : bad_end long start (get_or ends i 0) ≡ false → wrong_ends long start (drop i ends) ≡ wrong_ends long (get_or ends i 0) (drop (i + 1) ends)
      ends-good b = ends-here ∙ ap (λ (x : Bool). cond x (check true 5 (get_or ends i 0)) (wrong_ends long (get_or ends i 0) (drop (i + 1) ends))) b

      -- where the ends from here on pass, this one lies between the start and the bytes' end, and those behind it pass
      pub ends-passed : first (wrong_ends long start (drop i ends) ∷ []) accepted ≡ accepted
          → (start ≤ get_or ends i 0) × (get_or ends i 0 ≤ long) × (first (wrong_ends long (get_or ends i 0) (drop (i + 1) ends) ∷ []) accepted ≡ accepted)
      ends-passed e =
          let p = passed_on (bad_end long start (get_or ends i 0)) (get_or ends i 0) (wrong_ends long (get_or ends i 0) (drop (i + 1) ends)) (sym (ap (λ (c : Check). first (c ∷ []) accepted) ends-here) ∙ e) in
          let b = or-false (ltb (get_or ends i 0) start) (ltb long (get_or ends i 0)) p.0 in
          (ltb-false (get_or ends i 0) start b.0, ltb-false long (get_or ends i 0) b.1, p.1)

-- ---- the records

module _ (score : List ℕ → Answer Float) (bytes : List ℕ) (start : ℕ) (scan : Scan) where
  each-cons : (e : ℕ) (rest : List ℕ) → entered_each score (records_in bytes start (e ∷ rest)) scan ≡ entered_each score (records_in bytes e rest) (enter_of scan (score (record_at bytes start e)))
  unfolding entered_each records_in
  each-cons e rest = refl

  module _ (ends : List ℕ) (i : ℕ) where
    pub each-done : length ends ≤ i → entered_each score (records_in bytes start (drop i ends)) scan ≡ scan
    unfolding entered_each records_in
    each-done h = ap (λ (es : List ℕ). entered_each score (records_in bytes start es) scan) (drop_of_length-le ends h)

    -- with one record entered, the rest are left
    pub each_next : i < length ends → {next : Scan} {a : Answer Float} → next ≡ enter_of scan a → a ≡ score (record_at bytes start (get_or ends i 0))
        → entered_each score (records_in bytes start (drop i ends)) scan ≡ entered_each score (records_in bytes (get_or ends i 0) (drop (i + 1) ends)) next
    each_next h n a =
        ap (λ (es : List ℕ). entered_each score (records_in bytes start es) scan) (next-on ends i h)
        ∙ each-cons (get_or ends i 0) (drop (i + 1) ends)
        ∙ ap (entered_each score (records_in bytes (get_or ends i 0) (drop (i + 1) ends))) (sym (n ∙ ap (enter_of scan) a))
