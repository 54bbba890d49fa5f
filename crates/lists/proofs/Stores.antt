-- Runs of items that straight-line code reads or stores one by one: what is read, what the list is then, and what stands before and behind a run.
-- And a list lent in two parts, each of which is stored. Assumes nothing.
use Prim.Native.Nat.{ℕ, suc, ◌+◌, ◌-◌, ◌≤◌, ◌<◌}
use mathlib.Core.Path.{◌≡◌, sym, ap, ◌∙◌}
use mathlib.Core.Logic.{◌≢◌}
use mathlib.Core.List.{List, [], ◌∷◌, ◌++◌, append-nil}
use native.Mathlib.Numerals.{add-one, add-two, add-three}
use native.Mathlib.Omega.{arith}
use lib.ListN.{length, get_or, take, drop, set, length-append, length-drop, drop_of_length-le}
use lib.Seq.{drop-cons, drop-append-add, drop-drop, drop_at, sets-eq, take_at, take_all, length-take-le, take-suc-set, append_snoc, get_or-set_same, get_or-set_other, lt-length-set}

module _ {A : Type 0} where
  -- one more element of a run that starts at `here`
  pub run-next : (xs : List A) (n here next : ℕ) (d : A) → here < length xs → next ≡ suc here → take (suc n) (drop here xs) ≡ get_or xs here d ∷ take n (drop next xs)
  run-next xs n here next d h e = rw (drop-cons xs here d h, e)

  pub run-two : (xs : List A) (at : ℕ) (d : A) → at + 2 ≤ length xs → take 2 (drop at xs) ≡ get_or xs at d ∷ get_or xs (at + 1) d ∷ []
  run-two xs at d h = rw (run-next xs 1 at (at + 1) d (omega arith) (omega arith), run-next xs 0 (at + 1) (at + 2) d (omega arith) (omega arith))

  pub run-four : (xs : List A) (at : ℕ) (d : A) → at + 4 ≤ length xs → take 4 (drop at xs) ≡ get_or xs at d ∷ get_or xs (at + 1) d ∷ get_or xs (at + 2) d ∷ get_or xs (at + 3) d ∷ []
  run-four xs at d h =
      rw (run-next xs 3 at (at + 1) d (omega arith) (omega arith), run-next xs 2 (at + 1) (at + 2) d (omega arith) (omega arith), run-next xs 1 (at + 2) (at + 3) d (omega arith) (omega arith), run-next xs 0 (at + 3) (at + 4) d (omega arith) (omega arith))

  pub store_two : (xs : List A) (at : ℕ) (a b : A) → at + 2 ≤ length xs → set (set xs at a) (at + 1) b ≡ take at xs ++ (a ∷ b ∷ []) ++ drop (at + 2) xs
  store_two xs at a b h = rw add-one (sets-eq (a ∷ b ∷ []) xs at h)

  pub store-four : (xs : List A) (at : ℕ) (a b c d : A) → at + 4 ≤ length xs → set (set (set (set xs at a) (at + 1) b) (at + 2) c) (at + 3) d ≡ take at xs ++ (a ∷ b ∷ c ∷ d ∷ []) ++ drop (at + 4) xs
  store-four xs at a b c d h = rw (add-one, add-two, add-three) (sets-eq (a ∷ b ∷ c ∷ d ∷ []) xs at h)

  -- an element, stored at k, is the next of those before k
  pub store-next : (xs : List A) (k : ℕ) (v : A) (rest : List A) → k < length xs → take k xs ++ (v ∷ rest) ≡ take (k + 1) (set xs k v) ++ rest
  store-next xs k v rest h =
      sym (append_snoc (take k xs) v rest)
      ∙ ap (λ (front : List A). front ++ rest) (sym (ap (λ (m : ℕ). take m (set xs k v)) (add-one k) ∙ take-suc-set xs k v h))

  -- an item, stored at k, is the next of those before k
  pub take_set_next : (xs : List A) (k : ℕ) (v : A) → k < length xs → take (k + 1) (set xs k v) ≡ take k xs ++ (v ∷ [])
  take_set_next xs k v h = rw add-one (take-suc-set xs k v h)

  -- a run, stored at k, keeps the length, and stands right behind what was before k
  module _ (xs run : List A) (k n : ℕ) (sized : length run ≡ n) (fits : k + n ≤ length xs) where
    pub length-store : length (take k xs ++ run ++ drop (k + n) xs) ≡ length xs
    length-store = simp (length-append, length-take-le k xs (omega arith), length-drop) (omega arith)

    pub take-store : take (k + n) (take k xs ++ run ++ drop (k + n) xs) ≡ take k xs ++ run
    take-store = take_at (take k xs ++ run) (drop (k + n) xs) (k + n) (simp (length-append, length-take-le k xs (omega arith), sized))

    -- what is stored at k leaves what stands behind it
    pub drop-store : (m : ℕ) → drop (k + n + m) (take k xs ++ run ++ drop (k + n) xs) ≡ drop (k + n + m) xs
    drop-store m =
        let front : length (take k xs ++ run) ≡ k + n = simp (length-append, length-take-le k xs (omega arith), sized) in
        ap (λ (j : ℕ). drop (j + m) (take k xs ++ run ++ drop (k + n) xs)) (sym front)
        ∙ drop-append-add (take k xs ++ run) (drop (k + n) xs) m
        ∙ drop-drop m (k + n) xs

  -- nothing is stored
  pub store-none : (xs : List A) → xs ≡ take (length xs - 0) xs ++ []
  store-none xs = sym (append-nil (take (length xs - 0) xs) ∙ take_all (length xs - 0) xs (omega arith))

-- ---- two stores at two places
module _ {A : Type 0} (l : List A) (i j : ℕ) (a b d : A) where
  pub stores-first : i ≢ j → i < length l → get_or (set (set l i a) j b) i d ≡ a
  stores-first apart inside = get_or-set_other (set l i a) j i b d apart ∙ get_or-set_same l i a d inside

  pub stores-second : j < length l → get_or (set (set l i a) j b) j d ≡ b
  stores-second inside = get_or-set_same (set l i a) j b d (lt-length-set l i a inside)

  pub stores-other : (k : ℕ) → k ≢ i → k ≢ j → get_or (set (set l i a) j b) k d ≡ get_or l k d
  stores-other k from-i from-j = get_or-set_other (set l i a) j k b d from-j ∙ get_or-set_other l i k a d from-i

-- ---- parts of a list that are lent: the front up to k, and what stands from k on
module _ {A : Type 0} where
  pub lent_back : (xs : List A) (k n : ℕ) → length xs ≡ k + n → length (take (length xs - k) (drop k xs)) ≡ n
  lent_back xs k n long =
      let e : length xs - k ≡ n = omega (arith, long) in
      ap (λ (m : ℕ). length (take m (drop k xs))) e ∙ length-take-le n (drop k xs) (rw length-drop (omega (arith, long)))

  -- the front, after the back was stored
  pub front-again : (xs back : List A) (k : ℕ) → k ≤ length xs → length (take (k - 0) (take k xs ++ back)) ≡ k
  front-again xs back k h =
      let e : k - 0 ≡ k = omega arith in
      ap (λ (n : ℕ). length (take n (take k xs ++ back))) e ∙ ap length (take_at (take k xs) back k (length-take-le k xs h)) ∙ length-take-le k xs h

  -- both stored
  pub store_both : (xs front back : List A) (k : ℕ) → k ≤ length xs → front ++ drop (k - 0) (take k xs ++ (back ++ drop (length xs - k) (drop k xs))) ≡ front ++ back
  store_both xs front back k h =
      let e : k - 0 ≡ k = omega arith in
      let none : drop (length xs - k) (drop k xs) ≡ [] = drop_of_length-le (drop k xs) {i = length xs - k} (rw length-drop (omega arith)) in
      ap (λ (l : List A). front ++ drop (k - 0) (take k xs ++ (back ++ l))) none
      ∙ ap (λ (l : List A). front ++ drop (k - 0) (take k xs ++ l)) (append-nil back)
      ∙ ap (λ (n : ℕ). front ++ drop n (take k xs ++ back)) e
      ∙ ap (λ (l : List A). front ++ l) (drop_at (take k xs) back k (length-take-le k xs h))
