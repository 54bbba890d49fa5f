-- A loop that fills a list from an index on (`Filled`): its start, one turn and its end. And places in a list that are w apart. Assumes nothing.
use Prim.Native.Nat.{ℕ, ◌+◌, ◌*◌, ◌≤◌, ◌<◌}
use mathlib.Core.Path.{◌≡◌, refl, sym, ap, ◌∙◌}
use mathlib.Core.List.{List}
use native.Mathlib.Nat.{add_assoc, mul-suc, mul-le-mul_left}
use native.Mathlib.Decide.{dec_lt}
use native.Mathlib.Numerals.{add-one}
use native.Mathlib.Omega.{arith}
use lib.ListN.{length, get_or, set, length-set}
use lib.Seq.{get_or-set_same, get_or-set_other, ext_get_or}
use Rattle.lists.specs.Inner.{Filled}

-- ---- a list filled from an index on

module _ {A : Type 0} (d : A) (f : ℕ → A) where
  pub filled-start : (start : ℕ) (xs : List A) → Filled d f start start xs xs
  filled-start start xs = record { long = refl; before = λ j l. refl; passed = λ j l g. absurd (omega arith); left = λ j l. refl }

  pub filled_more : (start i : ℕ) (xs ys : List A) (v : A) → v ≡ f i → start ≤ i → i < length xs → Filled d f start i xs ys → Filled d f start (i + 1) xs (set ys i v)
  filled_more start i xs ys v e s inside inv =
      record {
        long = simp length-set inv.long;
        before = λ j l. get_or-set_other ys i j v d (omega arith) ∙ inv.before j l;
        passed = λ j l g. elim (dec_lt j i) [ yes b ↦ get_or-set_other ys i j v d (omega arith) ∙ inv.passed j l b | no b ↦ here j (omega arith) ];
        left = λ j l. get_or-set_other ys i j v d (omega arith) ∙ inv.left j (omega arith);
      }
    where
      here : (j : ℕ) → j ≡ i → get_or (set ys i v) j d ≡ f j
      here j q = rw q (get_or-set_same ys i v d (omega (arith, inv.long)) ∙ e)

  -- filled up to an index, and then from there on
  pub filled-join : (start i stop : ℕ) (xs ys zs : List A) → start ≤ i → i ≤ stop → Filled d f start i xs ys → Filled d f i stop ys zs → Filled d f start stop xs zs
  filled-join start i stop xs ys zs s t h g =
      record {
        long = g.long ∙ h.long;
        before = λ j l. g.before j (omega arith) ∙ h.before j l;
        passed = λ j l m. elim (dec_lt j i) [ yes b ↦ g.before j b ∙ h.passed j l b | no b ↦ g.passed j (omega arith) m ];
        left = λ j l. g.left j l ∙ h.left j (omega arith);
      }

  -- every index is through: the list is any that has those items
  pub filled-all : (stop : ℕ) (xs ys zs : List A) → length zs ≡ length xs → ((j : ℕ) → j < length xs → get_or zs j d ≡ f j) → length xs ≤ stop → Filled d f 0 stop xs ys → ys ≡ zs
  filled-all stop xs ys zs same items all inv =
      ext_get_or d ys zs (inv.long ∙ sym same) (λ j l. inv.passed j (omega arith) (omega (arith, inv.long)) ∙ sym (items j (omega (arith, inv.long))))

  -- an index at or past the end is the end
  pub filled-done : (start i : ℕ) (xs ys : List A) → i ≤ length xs → length ys ≤ i → Filled d f start i xs ys → Filled d f start (length xs) xs ys
  filled-done start i xs ys most least inv = let e : i ≡ length xs = omega (arith, inv.long) in rw e at inv

  -- four stores, one after the other
  pub filled-four : (start i : ℕ) (xs ys : List A) (a b c e : A) → a ≡ f i → b ≡ f (i + 1) → c ≡ f (i + 2) → e ≡ f (i + 3) → start ≤ i → i + 3 < length xs
      → Filled d f start i xs ys → Filled d f start (i + 4) xs (set (set (set (set ys i a) (i + 1) b) (i + 2) c) (i + 3) e)
  filled-four start i xs ys a b c e p q r t s inside inv =
      let one = filled_more start i xs ys a p s (omega arith) inv in
      let two = filled_more start (i + 1) xs (set ys i a) b q (omega arith) (omega arith) one in
      let three = filled_more start (i + 2) xs (set (set ys i a) (i + 1) b) c r (omega arith) (omega arith) (rw (add_assoc i 1 1) at two) in
      let four = filled_more start (i + 3) xs (set (set (set ys i a) (i + 1) b) (i + 2) c) e t (omega arith) inside (rw (add_assoc i 2 1) at three) in
      rw (add_assoc i 3 1) at four

-- ---- places that are w apart

-- the next place is w further
pub next_place : (w i at : ℕ) → at ≡ w * i → at + w ≡ w * (i + 1)
next_place w i at e = rw (add-one, mul-suc) (ap (λ (k : ℕ). k + w) e)

-- the w entries at the i-th place are within the n places
pub place-within : (w i n at : ℕ) → at ≡ w * i → i < n → at + w ≤ w * n
place-within w i n at e h = let more = mul-le-mul_left w h in let next = mul-suc w i in omega (arith, e, more, next)
