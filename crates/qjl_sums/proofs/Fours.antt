-- Four rows of a matrix, each with its dot product as the sum so far and what is left of the row: each takes one term more. And the terms of two rows, placed by
-- turns. Assumes nothing.
use Prim.Native.Nat.{ℕ, ◌+◌, ◌*◌, ◌≤◌, ◌<◌}
use mathlib.Core.Path.{◌≡◌, ap, ◌∙◌}
use mathlib.Core.List.{List}
use native.Mathlib.Nat.{add_assoc}
use native.Mathlib.Decide.{dec_lt}
use native.Mathlib.Omega.{arith}
use lib.ListN.{length, get_or, set, length-set}
use lib.Seq.{get_or-set_same, get_or-set_other}
use lib.Ieee.{Float, nan, binary32, add}
use Rattle.rounding.specs.Inner.{SoFar}
use Rattle.rounding.proofs.Running.{dot-more}
use Rattle.qjl_sums.specs.declared.Four.{Four}
use Rattle.qjl_sums.specs.Inner.{row_term, Interleaved, Added, FourSoFar}

module _ (matrix query : List Float) where
  -- ---- terms of two rows by turns

  module _ (even odd column : ℕ) where
    pub paired-more : (i : ℕ) (ys : List Float) (u v : Float) → u ≡ row_term matrix query even (column + i) → v ≡ row_term matrix query odd (column + i) → i < 16
        → Interleaved matrix query even odd column i ys → Interleaved matrix query even odd column (i + 1) (set (set ys (2 * i) u) (2 * i + 1) v)
    paired-more i ys u v e o b inv =
        record {
          long = simp length-set inv.long;
          evens = λ k l. get_or-set_other (set ys (2 * i) u) (2 * i + 1) (2 * k) v nan (omega arith) ∙ elim (dec_lt k i) [ yes g ↦ get_or-set_other ys (2 * i) (2 * k) u nan (omega arith) ∙ inv.evens k g | no g ↦ here-even k (omega arith) ];
          odds = λ k l. elim (dec_lt k i) [ yes g ↦ get_or-set_other (set ys (2 * i) u) (2 * i + 1) (2 * k + 1) v nan (omega arith) ∙ get_or-set_other ys (2 * i) (2 * k + 1) u nan (omega arith) ∙ inv.odds k g | no g ↦ here-odd k (omega arith) ];
        }
      where
        here-even : (k : ℕ) → k ≡ i → get_or (set ys (2 * i) u) (2 * k) nan ≡ row_term matrix query even (column + k)
        here-even k q = rw q (get_or-set_same ys (2 * i) u nan (omega (arith, inv.long)) ∙ e)

        here-odd : (k : ℕ) → k ≡ i → get_or (set (set ys (2 * i) u) (2 * i + 1) v) (2 * k + 1) nan ≡ row_term matrix query odd (column + k)
        here-odd k q = rw q (get_or-set_same (set ys (2 * i) u) (2 * i + 1) v nan (simp length-set (omega (arith, inv.long))) ∙ o)

  -- ---- a sum, and four of them

  -- the next term of one row
  row_more : (from i : ℕ) (acc new v : Float) → from + length query ≤ length matrix → i < length query → v ≡ row_term matrix query from i → new ≡ add binary32 acc v
      → SoFar matrix query from i acc → SoFar matrix query from (i + 1) new
  row_more from i acc new v fits l e s inv = rw (s ∙ ap (add binary32 acc) e) (dot-more matrix query from i acc (omega arith) l inv)

  module _ (from : ℕ) where
    pub four-more : (i : ℕ) (old new : Four) (u v w x : Float) → i < length query
        → u ≡ row_term matrix query from i → v ≡ row_term matrix query (from + length query) i
        → w ≡ row_term matrix query (from + length query + length query) i → x ≡ row_term matrix query (from + length query + length query + length query) i
        → new.a ≡ add binary32 old.a u → new.b ≡ add binary32 old.b v → new.c ≡ add binary32 old.c w → new.d ≡ add binary32 old.d x
        → FourSoFar matrix query from i old → FourSoFar matrix query from (i + 1) new
    four-more i old new u v w x l e f g h a b c d inv =
        let room = inv.fits in
        record {
          fits = room;
          within = omega arith;
          top = row_more from i old.a new.a u (omega arith) l e a inv.top;
          second = row_more (from + length query) i old.b new.b v (omega arith) l f b inv.second;
          third = row_more (from + length query + length query) i old.c new.c w (omega arith) l g c inv.third;
          fourth = row_more (from + length query + length query + length query) i old.d new.d x (omega arith) l h d inv.fourth;
        }

    -- the products are those that were placed by turns
    pub four-placed : (column k : ℕ) (ys zs : List Float) (old new : Four) → k < 16 → column + k < length query
        → Interleaved matrix query (from + length query) from column 16 ys
        → Interleaved matrix query (from + length query + length query) (from + length query + length query + length query) column 16 zs
        → Added old ys zs (2 * k) new → FourSoFar matrix query from (column + k) old → FourSoFar matrix query from (column + (k + 1)) new
    four-placed column k ys zs old new b l p q t inv =
        rw (add_assoc column k 1) at (four-more (column + k) old new _ _ _ _ l (p.odds k b) (p.evens k b) (q.evens k b) (q.odds k b) t.top t.second t.third t.fourth inv)
