-- The hits of a scan that a history leads to are the hits of that history. Assumes nothing.
use mathlib.Core.Path.{◌≡◌, sym, ap, ◌∙◌}
use Prim.Native.Nat.{ℕ, zero, suc, ◌%◌, ◌≤◌, ◌<◌}
use native.Mathlib.Nat.{not-suc-le-zero, le_of_suc-le-suc, mod-eq_of_lt, eq-or-lt_of_le}
use native.Mathlib.Omega.{arith}
use mathlib.Core.List.{List, [], ◌∷◌, map}
use mathlib.Core.Logic.{⊎_elim}
use lib.ListN.{length, get_or, take, get_or-append, get_or-map}
use lib.Seq.{ext_get_or, get_or_at, get_or-take}
use lib.Ieee.{Float}
use Rattle.ranking.specs.declared.Hit.{Hit}
use Rattle.scan.specs.declared.Scan.{Scan}
use Rattle.scan.specs.Events.{Event}
use Rattle.scan.specs.Shortening.{Step, records_of, length_after}
use Rattle.scan.specs.History.{Led, kept_of}
use Rattle.scan_closing.specs.Closing.{hit_at_of, hits_to, hits_in}
use Rattle.scan.proofs.Comparing.{none}
use Rattle.scan.proofs.Hits.{hits_few}
use Rattle.scan.proofs.Lengths.{length-few}
use Rattle.scan_closing.proofs.Filling.{length-hits}

hits-get_or : (scan : Scan) (n i : ℕ) → i < n → get_or (hits_to scan n) i none ≡ hit_at_of scan i
unfolding hits_to
hits-get_or scan zero i l = absurd (not-suc-le-zero l)
hits-get_or scan (suc n) i l =
    ⊎_elim
    (λ (e : i ≡ n). rw e (get_or_at (hits_to scan n) (hit_at_of scan n) [] none n (length-hits scan n)))
    (λ (small : i < n). get_or-append (hits_to scan n) (hit_at_of scan n ∷ []) none i (omega (arith, small, length-hits scan n)) ∙ hits-get_or scan n i small)
    (eq-or-lt_of_le (le_of_suc-le-suc l))

-- A list whose items are the parts of hits at the first n places: the item at a place is that part of the hit there.
part_at : {A : Type 0} (part : Hit → A) (xs : List A) (hs : List Hit) (n i : ℕ) → n ≤ 64 → i < n → take n xs ≡ map part hs → get_or xs (i % 64) (part none) ≡ part (get_or hs i none)
part_at part xs hs n i few l e =
    ap (λ (j : ℕ). get_or xs j (part none)) (mod-eq_of_lt (omega (arith, few, l)))
    ∙ sym (get_or-take n xs i (part none) l)
    ∙ ap (λ (ys : List _). get_or ys i (part none)) e
    ∙ get_or-map part hs i none

hit-eq : {n m : ℕ} {x y : Float} → n ≡ m → x ≡ y → ◌≡◌ {A = Hit} (record { number = n; score = x }) (record { number = m; score = y })
hit-eq e d = simp (e, d)

pub hits-led : (scan : Scan) (k : ℕ) (steps : List (Step Event)) → Led k steps scan → hits_in scan ≡ kept_of k steps
unfolding hit_at_of
hits-led scan k steps led = ext_get_or none (hits_in scan) (kept_of k steps) (length-hits scan scan.tally.kept ∙ led.hits.kept) at_each
  where
    few : scan.tally.kept ≤ 64
    few = omega (arith, led.hits.kept, led.few, hits_few (length_after k steps) (records_of steps), length-few k steps)

    at_each : (i : ℕ) → i < length (hits_in scan) → get_or (hits_in scan) i none ≡ get_or (kept_of k steps) i none
    at_each i l =
        let small : i < scan.tally.kept = omega (arith, l, length-hits scan scan.tally.kept) in
        hits-get_or scan scan.tally.kept i small
        ∙ hit-eq (part_at (λ (h : Hit). h.number) scan.numbers (kept_of k steps) scan.tally.kept i few small led.hits.numbers)
        (part_at (λ (h : Hit). h.score) scan.scores (kept_of k steps) scan.tally.kept i few small led.hits.scores)
