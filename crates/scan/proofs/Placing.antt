-- The place of a new score, and an item put in at a place. `place_up` passes the scores that the new one beats and stops behind one that it does not; `put_in` keeps
-- the length, and its first items are those of the list with the item between. Assumes nothing.
use Prim.Native.Nat.{ℕ, zero, suc, ◌+◌, ◌-◌, min, ◌≤◌, ◌<◌}
use mathlib.Core.Path.{◌≡◌, refl, sym, ap, ◌∙◌}
use mathlib.Core.Bool.{true, false}
use mathlib.Core.List.{List, [], ◌∷◌, ◌++◌, map}
use mathlib.Core.Logic.{⊎_elim}
use native.Mathlib.Decide.{dec_lt}
use native.Mathlib.Omega.{arith}
use lib.ListN.{length, take, drop, get_or, length-append, length-take, length-drop}
use lib.Seq.{take_all, take_at, take-take, take-append-add}
use lib.Ieee.{Float, nan, lt}
use Rattle.ranking.proofs.Ranking.{either}
use Rattle.scan.specs.Entering.{place_up, put_in}

-- ---- the place of a new score

pub place-within : (x : Float) (ss : List Float) (i : ℕ) → place_up x ss i ≤ i
unfolding place_up
place-within x ss zero = omega arith
place-within x ss (suc i) = ⊎_elim (λ (p : lt (get_or ss i nan) x ≡ true). simp p (omega (arith, place-within x ss i))) (λ (p : lt (get_or ss i nan) x ≡ false). simp p (omega arith)) (either (lt (get_or ss i nan) x))

-- the scores from the place on are beaten
pub place-beaten : (x : Float) (ss : List Float) (held j : ℕ) → place_up x ss held ≤ j → j < held → lt (get_or ss j nan) x ≡ true
unfolding place_up
place-beaten x ss zero j from below = absurd (omega arith)
place-beaten x ss (suc i) j from below =
    ⊎_elim
    (λ (p : lt (get_or ss i nan) x ≡ true). elim (dec_lt j i) [ yes b ↦ place-beaten x ss i j (simp p at from) b | no b ↦ let e : j ≡ i = omega arith in rw e p ])
    (λ (p : lt (get_or ss i nan) x ≡ false). let q : suc i ≤ j = simp p at from in absurd (omega arith))
    (either (lt (get_or ss i nan) x))

-- the score before the place is not
pub place-stopped : (x : Float) (ss : List Float) (held : ℕ) → 0 < place_up x ss held → lt (get_or ss (place_up x ss held - 1) nan) x ≡ false
unfolding place_up
place-stopped x ss zero some = absurd (omega arith)
place-stopped x ss (suc i) some =
    ⊎_elim
    (λ (p : lt (get_or ss i nan) x ≡ true). let q : 0 < place_up x ss i = simp p at some in simp p (place-stopped x ss i q))
    (λ (p : lt (get_or ss i nan) x ≡ false). let e : suc i - 1 ≡ i = omega arith in simp (p, e))
    (either (lt (get_or ss i nan) x))

-- ---- an item put in at a place

pub map-take : {A H : Type 0} (f : H → A) (n : ℕ) (xs : List H) → map f (take n xs) ≡ take n (map f xs)
map-take f zero xs = refl
map-take f (suc n) [] = refl
map-take {A} f (suc n) (x ∷ xs) = ap (λ (l : List A). f x ∷ l) (map-take f n xs)

-- an item between those before a place and those from it on
abbrev pub between : {A : Type 0} → ℕ → A → List A → List A
between at x xs = take at xs ++ (x ∷ drop at xs)

module _ {A : Type 0} where
  pub between-length : (at : ℕ) (x : A) (xs : List A) → length (between at x xs) ≡ suc (length xs)
  between-length zero x xs = refl
  between-length (suc at) x [] = refl
  between-length (suc at) x (y ∷ ys) = ap suc (between-length at x ys)

  pub between-map : {B : Type 0} (f : A → B) (at : ℕ) (x : A) (xs : List A) → map f (between at x xs) ≡ between at (f x) (map f xs)
  between-map f zero x xs = refl
  between-map f (suc at) x [] = refl
  between-map {B} f (suc at) x (y ∷ ys) = ap (λ (l : List B). f y ∷ l) (between-map f at x ys)

  -- the first of them, by the first of the list
  pub between-take : (at n : ℕ) (x : A) (xs : List A) → at ≤ n → take (suc n) (between at x xs) ≡ take (suc n) (between at x (take n xs))
  between-take zero n x xs le = ap (λ (l : List A). x ∷ l) (sym (take-take n n xs (omega arith)))
  between-take (suc at) zero x xs le = absurd (omega arith)
  between-take (suc at) (suc n) x [] le = refl
  between-take (suc at) (suc n) x (y ∷ ys) le = ap (λ (l : List A). y ∷ l) (between-take at n x ys (omega arith))

  module _ (at last : ℕ) (x : A) (xs : List A) (within : at ≤ last) (inside : last < length xs) where
    abbrev head : List A
    head = take at xs ++ (x ∷ take (last - at) (drop at xs))

    head-length : length head ≡ suc last
    head-length = simp (length-append, length-take, length-drop) (omega arith)

    put_is : put_in at last x xs ≡ head ++ drop (suc last) xs
    unfolding put_in
    put_is = refl

    pub put-length : length (put_in at last x xs) ≡ length xs
    put-length = ap length put_is ∙ length-append head (drop (suc last) xs) ∙ omega (arith, head-length, length-drop (suc last) xs)

    pub put-take : take (suc last) (put_in at last x xs) ≡ take (suc last) (between at x xs)
    put-take =
        let n : suc last ≡ length (take at xs) + suc (last - at) = omega (arith, length-take at xs) in
        ap (take (suc last)) put_is ∙ take_at head (drop (suc last) xs) (suc last) head-length
        ∙ sym (ap (λ (i : ℕ). take i (between at x xs)) n ∙ take-append-add (take at xs) (x ∷ drop at xs) (suc (last - at)))

-- A list begins with what some items say of themselves, and one more item is put in among them: it then begins with what the items say with that one between them,
-- as many as there is room for.
module _ {A H : Type 0} (f : H → A) (x : H) (hs : List H) (old : List A) (at kept room : ℕ)
    (same : take kept old ≡ map f hs) (many : kept ≡ length hs) (among : at ≤ kept) (full : kept ≤ room) (free : at < room) (long : room ≤ length old) where
  pub put_count : length (take room (between at x hs)) ≡ suc (min kept (room - 1))
  put_count = omega (arith, length-take room (between at x hs), between-length at x hs)

  put-room : take (suc (min kept (room - 1))) (between at x hs) ≡ take room (between at x hs)
  put-room = elim (dec_lt kept room) [
    | yes b ↦ take_all (suc (min kept (room - 1))) (between at x hs) (omega (arith, between-length at x hs)) ∙ sym (take_all room (between at x hs) (omega (arith, between-length at x hs)))
    | no b ↦ let e : suc (min kept (room - 1)) ≡ room = omega arith in rw e
  ]

  pub put_in_lem : take (suc (min kept (room - 1))) (put_in at (min kept (room - 1)) (f x) old) ≡ map f (take room (between at x hs))
  put_in_lem =
      let last = min kept (room - 1) in
      put-take at last (f x) old (omega arith) (omega arith)
      ∙ between-take at last (f x) old (omega arith)
      ∙ ap (λ (l : List A). take (suc last) (between at (f x) l)) (sym (take-take last kept old (omega arith)) ∙ ap (take last) same)
      ∙ sym (between-take at last (f x) (map f hs) (omega arith))
      ∙ ap (take (suc last)) (sym (between-map f at x hs))
      ∙ sym (map-take f (suc last) (between at x hs))
      ∙ ap (map f) put-room
