-- The rows of a matrix in an output that is filled: one row where the matrix may end, and four rows at a time, some of which may have been stored before. Assumes nothing.
use Prim.Native.Nat.{ℕ, ◌+◌, ◌-◌, ◌*◌, ◌/◌, ◌≤◌, ◌<◌, min}
use mathlib.Core.Path.{◌≡◌, refl, sym, ap, ◌∙◌}
use mathlib.Core.List.{List, [], ◌∷◌}
use mathlib.Core.Logic.{◌⊎◌}
use native.Mathlib.Nat.{suc-mul, le_refl, le-div_iff_mul-le, mul_comm, mul-le-mul_right}
use native.Mathlib.Numerals.{add-one}
use native.Mathlib.Decide.{dec_lt}
use native.Mathlib.Omega.{arith}
use lib.ListN.{length, drop, drop_of_length-le}
use lib.Seq.{drop-drop}
use lib.Ieee.{Float, nan, binary32, add, mul}
use Rattle.std.proofs.Common.{inl, inr}
use Rattle.lists.specs.Inner.{Filled}
use Rattle.lists.proofs.Loops.{filled-start, filled-four, filled-all}
use Rattle.rounding.specs.Sums.{running, products, dot}
use Rattle.rounding.specs.Rows.{projected}
use Rattle.rounding.proofs.Running.{nothing_left, dot-end}
use Rattle.rounding.proofs.Rows.{length-projected, projected-row}
use Rattle.qjl_sums.specs.declared.Four.{Four}
use Rattle.qjl_sums.specs.Inner.{on_row, FourSoFar, four_set}

-- ---- one row, where the matrix may end

-- a dot product as a loop over both lists: the next entry of each
pub dot-next : (v c acc : Float) {vs ws cs ds : List Float} {whole : Float} → vs ≡ v ∷ ws → cs ≡ c ∷ ds → whole ≡ running acc (products vs cs) → whole ≡ running (add binary32 acc (mul binary32 v c)) (products ws ds)
unfolding running products
dot-next v c acc e f inv = inv ∙ rw (e, f)

-- it is through where either list is
pub dot-through : (acc : Float) {vs cs : List Float} {whole : Float} → (vs ≡ []) ⊎ (cs ≡ []) → whole ≡ running acc (products vs cs) → acc ≡ whole
unfolding running products
dot-through acc (inl e) inv = sym (inv ∙ rw e)
dot-through acc {vs} (inr e) inv = sym (inv ∙ rw e (nothing_left vs [] 0 acc (omega arith)))

-- the next row starts n further, or at the matrix's end
pub drop-least : {A : Type 0} (n row from next : ℕ) (xs : List A) → next ≡ min (from + n) (length xs) → drop from xs ≡ drop (row * n) xs → drop next xs ≡ drop ((row + 1) * n) xs
drop-least n row from next xs m e =
    elim (dec_lt (length xs) (from + n)) [ yes h ↦ past (omega arith) (omega arith) | no h ↦ exact (omega arith) ]
    ∙ sym (drop-drop n from xs)
    ∙ ap (drop n) e
    ∙ drop-drop n (row * n) xs
    ∙ ap (λ (k : ℕ). drop k xs) (sym (ap (λ (k : ℕ). k * n) (add-one row) ∙ suc-mul row n))
  where
    exact : next ≡ from + n → drop next xs ≡ drop (from + n) xs
    exact h = rw h

    past : length xs ≤ next → length xs ≤ from + n → drop next xs ≡ drop (from + n) xs
    past h g = drop_of_length-le xs h ∙ sym (drop_of_length-le xs g)

-- ---- four rows at a time

-- as many rows as go into the matrix end within it
pub rows_fit : (n rows long : ℕ) → 0 < rows → n ≤ long / rows → rows * n ≤ long
rows_fit n rows long h l = rw (mul_comm rows n) ((le-div_iff_mul-le h).0 l)

-- where the next eight rows are stored: four from a on and four from b on, with nothing left out
pub record Placed (row a b : ℕ) : Type 0 where
  pub begins : a ≤ row
  pub reaches : row ≤ a + 4
  pub goes_on : b ≤ a + 4

pub placed : (rows row a b : ℕ) → 4 ≤ rows → row < rows → a ≡ min row (rows - 4) → b ≡ min (row + 4) (rows - 4) → Placed row a b
placed rows row a b l h p q =
    record { begins = omega arith; reaches = omega arith; goes_on = omega arith }

-- filled up to an index, and then from an index on that was through already
pub filled-over : {A : Type 0} (d : A) (f : ℕ → A) (start i stop : ℕ) (xs ys zs : List A) → i ≤ start → start ≤ stop → Filled d f 0 start xs ys → Filled d f i stop ys zs → Filled d f 0 stop xs zs
filled-over d f start i stop xs ys zs s t h g =
    record {
      long = g.long ∙ h.long;
      before = λ j l. absurd (omega arith);
      passed = λ j l m. elim (dec_lt j i) [ yes b ↦ g.before j b ∙ h.passed j l (omega arith) | no b ↦ g.passed j (omega arith) m ];
      left = λ j l. g.left j l ∙ h.left j (omega arith);
    }

module _ (matrix query : List Float) where
  -- four rows end within the matrix
  pub rows-within : (rows row : ℕ) → rows * length query ≤ length matrix → row + 4 ≤ rows → row * length query + 4 * length query ≤ length matrix
  rows-within rows row fits l = let h : (row + 4) * length query ≤ rows * length query = mul-le-mul_right (length query) l in omega (arith, h)

  row_at : (row from : ℕ) → from ≡ row * length query → dot (drop from matrix) query ≡ on_row (length query) matrix query row
  row_at row from e = ap (λ (j : ℕ). dot (drop j matrix) query) e

  -- the sums of four rows that are through, stored
  pub four-stored : (row : ℕ) (out new : List Float) (sums : Four) → new ≡ four_set out row sums → row + 4 ≤ length out → FourSoFar matrix query (row * length query) (length query) sums
      → Filled nan (on_row (length query) matrix query) row (row + 4) out new
  four-stored row out new sums e room s =
      let n = length query in
      let from = row * n in
      let through = le_refl n in
      rw e (filled-four nan _ row row out out _ _ _ _ (dot-end matrix query from n _ through s.top)
      (dot-end matrix query (from + n) n _ through s.second ∙ row_at (row + 1) (from + n) (omega arith))
      (dot-end matrix query (from + n + n) n _ through s.third ∙ row_at (row + 2) (from + n + n) (omega arith))
      (dot-end matrix query (from + n + n + n) n _ through s.fourth ∙ row_at (row + 3) (from + n + n + n) (omega arith))
      (le_refl row) (omega arith) (filled-start nan _ row out))

  -- every row is through
  pub rows-through : (row : ℕ) (old out : List Float) → length out ≤ row → Filled nan (on_row (length query) matrix query) 0 row old out → out ≡ projected (length query) (length old) matrix query
  rows-through row old out l inv =
      filled-all nan _ row old out _ (length-projected (length query) (length old) matrix query) (λ j h. projected-row (length query) (length old) matrix query j refl h) (omega (arith, inv.long)) inv
