-- The two arrays of a scan by value have 64 places each, and a call that is lent all of them leaves the whole scan. Assumes nothing.
use Prim.Native.Nat.{ℕ}
use mathlib.Core.Path.{◌≡◌, ap, ap₂, ◌∙◌}
use mathlib.Core.List.{List, ◌++◌, append-nil}
use native.Mathlib.Omega.{arith}
use lib.ListN.{length, take, drop, drop_of_length-le}
use lib.Seq.{take_all}
use denote.Laws.{Is}
use denote.Struct.Laws as LL
use mir.Val.{Val}
use lib.Ieee.{Float}
use Rattle.scan.specs.declared.Tally.{Tally}
use Rattle.scan.specs.declared.Scan.{Scan}
use Rattle.scan.specs.Scans.{scan_of}
use Rattle.scan.specs.contracts.Scan as T
use Rattle.scan.proofs.Scan.TheLaws as T'

module _ (scan : Scan) (vs : List Val) (good : Is T.the_row scan vs) where
  pub numbers-long : length scan.numbers ≡ 64
  numbers-long = (LL.owed T.the_type T'.the_laws scan vs good).1.0.1.0.1

  pub scores-long : length scan.scores ≡ 64
  scores-long = (LL.owed T.the_type T'.the_laws scan vs good).1.1.0.1.0.1

module _ {A : Type 0} (xs : List A) (long : length xs ≡ 64) where
  all-lent : take 64 xs ≡ xs
  all-lent = take_all 64 xs (omega (arith, long))

  none_left : (ys : List A) → ys ++ drop 64 xs ≡ ys
  none_left ys = ap (λ (zs : List A). ys ++ zs) (drop_of_length-le xs {i = 64} (omega (arith, long))) ∙ append-nil ys

-- all places of both arrays are the scan
pub lent-all : (scan : Scan) → length scan.numbers ≡ 64 → length scan.scores ≡ 64 → scan_of scan.tally (take 64 scan.numbers) (take 64 scan.scores) ≡ scan
lent-all scan n s = ap₂ (scan_of scan.tally) (all-lent scan.numbers n) (all-lent scan.scores s)

-- what is so of the parts that are lent is so of the scan
pub lent-whole : (scan : Scan) → length scan.numbers ≡ 64 → length scan.scores ≡ 64 → (f : Scan → Scan) {tally : Tally} {numbers : List ℕ} {scores : List Float}
    → scan_of tally numbers scores ≡ f (scan_of scan.tally (take 64 scan.numbers) (take 64 scan.scores))
    → scan_of tally (numbers ++ drop 64 scan.numbers) (scores ++ drop 64 scan.scores) ≡ f scan
lent-whole scan n s f {tally} {numbers} {scores} e =
    ap₂ (scan_of tally) (none_left scan.numbers n numbers) (none_left scan.scores s scores)
    ∙ e
    ∙ ap f (lent-all scan n s)
