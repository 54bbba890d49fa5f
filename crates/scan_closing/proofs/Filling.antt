-- A list that is filled from the front with the hits of a scan: `filled scan xs i` has the first i hits and behind them what was there. Filled as far as closing
-- writes, it is what closing leaves. Assumes nothing.
use mathlib.Core.Path.{◌≡◌, refl, sym, ap, ◌∙◌}
use Prim.Native.Nat.{ℕ, zero, suc, ◌≤◌, ◌<◌}
use native.Mathlib.Omega.{arith}
use mathlib.Core.Bool.{Bool, true, false, cond, not}
use mathlib.Core.List.{List, [], ◌∷◌, ◌++◌, append_assoc, append-nil}
use lib.Dec.{eqb}
use lib.ListN.{length, get_or, set, drop, length-append, length-drop, drop_of_length-le}
use lib.Seq.{drop-cons, set_at}
use borrow.Author.Tests.{eqb-true}
use Rattle.error.specs.Answer.{value, check, first, after}
use Rattle.ranking.specs.declared.Hit.{Hit}
use Rattle.scan.specs.declared.Scan.{Scan}
use Rattle.scan_closing.specs.Closing.{hit_at_of, hits_to, close_of}
use Rattle.scan_closing.specs.Inner.{written_of}

abbrev pub filled : Scan → List Hit → ℕ → List Hit
filled scan xs i = hits_to scan i ++ drop i xs

pub length-hits : (scan : Scan) (i : ℕ) → length (hits_to scan i) ≡ i
unfolding hits_to
length-hits scan zero = refl
length-hits scan (suc i) = omega (arith, length-append (hits_to scan i) (hit_at_of scan i ∷ []), length-hits scan i)

pub filled_none : (scan : Scan) (xs : List Hit) → filled scan xs 0 ≡ xs
unfolding hits_to
filled_none scan xs = refl

pub length-filled : (scan : Scan) (xs : List Hit) (i : ℕ) → i ≤ length xs → length (filled scan xs i) ≡ length xs
length-filled scan xs i le = omega (arith, length-append (hits_to scan i) (drop i xs), length-drop i xs, length-hits scan i)

pub filled-one : (scan : Scan) (xs : List Hit) (i : ℕ) → i < length xs → set (filled scan xs i) i (hit_at_of scan i) ≡ filled scan xs (suc i)
unfolding hits_to
filled-one scan xs i l =
    ap (λ (t : List Hit). set (hits_to scan i ++ t) i (hit_at_of scan i)) (drop-cons xs i (hit_at_of scan i) l)
    ∙ set_at (hits_to scan i) (get_or xs i (hit_at_of scan i)) (drop (suc i) xs) (hit_at_of scan i) i (length-hits scan i)
    ∙ sym (append_assoc (hits_to scan i) (hit_at_of scan i ∷ []) (drop (suc i) xs))

pub written-most : (scan : Scan) (n : ℕ) → written_of scan n ≤ n
unfolding written_of
written-most scan n = go (eqb n scan.tally.kept)
  where
    go : (b : Bool) → cond b n 0 ≤ n
    go true = omega arith
    go false = omega arith

pub filled-written : (scan : Scan) (xs : List Hit) → filled scan xs (written_of scan (length xs)) ≡ after (close_of scan (length xs)) xs
unfolding written_of close_of
filled-written scan xs = go (eqb (length xs) scan.tally.kept) (λ e. eqb-true _ _ e)
  where
    go : (b : Bool) → (b ≡ true → length xs ≡ scan.tally.kept) → filled scan xs (cond b (length xs) 0) ≡ after (first (check (not b) 6 scan.tally.kept ∷ []) (value (hits_to scan scan.tally.kept))) xs
    go true e =
        ap (λ (t : List Hit). hits_to scan (length xs) ++ t) (drop_of_length-le xs {i = length xs} (omega arith))
        ∙ append-nil (hits_to scan (length xs))
        ∙ ap (hits_to scan) (e refl)
    go false e = filled_none scan xs
