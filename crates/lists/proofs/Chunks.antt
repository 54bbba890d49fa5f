-- Lists of parts of one length: what each part is, how joined parts grow by one, and that cutting and joining undo each other. Assumes nothing.
use Prim.Native.Nat.{ℕ, zero, suc, ◌+◌, ◌*◌, ◌<◌, suc-le-suc}
use mathlib.Core.Path.{◌≡◌, refl, sym, ap, ◌∙◌}
use mathlib.Core.List.{List, [], ◌∷◌, ◌++◌, map, flat_map, append_assoc, append-nil}
use native.Mathlib.Nat.{mul-zero, mul-suc, add_comm, not-suc-le-zero, le_of_suc-le-suc}
use native.Mathlib.Numerals.{add-one}
use native.Mathlib.Omega.{arith}
use lib.ListN.{length, get_or, take, drop, length-append, length-drop, take-append-drop}
use lib.Seq.{take-suc, take_at, drop_at, drop-drop}
use Rattle.lists.specs.Chunks.{chunks}

-- where the next part starts
part-next : {A : Type 0} (w i : ℕ) (items : List A) → drop (w * i) (drop w items) ≡ drop (w * suc i) items
part-next w i items = drop-drop (w * i) w items ∙ ap (λ (k : ℕ). drop k items) (add_comm w (w * i) ∙ sym (mul-suc w i))

part-first : {A : Type 0} (w : ℕ) (items : List A) → take w items ≡ take w (drop (w * 0) items)
part-first w items = rw mul-zero

module _ {A B : Type 0} (f : List A → B) where
  -- the i-th of the parts' values
  pub chunks-get_or : (w n i : ℕ) (items : List A) (d : B) → i < n → get_or (map f (chunks w n items)) i d ≡ f (take w (drop (w * i) items))
  unfolding chunks
  chunks-get_or w zero i items d h = absurd (not-suc-le-zero h)
  chunks-get_or w (suc n) zero items d h = ap f (part-first w items)
  chunks-get_or w (suc n) (suc i) items d h = chunks-get_or w n i (drop w items) d (le_of_suc-le-suc h) ∙ ap (λ (l : List A). f (take w l)) (part-next w i items)

  pub length-chunks : (w n : ℕ) (items : List A) → length (map f (chunks w n items)) ≡ n
  unfolding chunks
  length-chunks w zero items = refl
  length-chunks w (suc n) items = ap suc (length-chunks w n (drop w items))

-- ---- joined parts

module _ {A B : Type 0} (g : B → List A) where
  joined-append : (xs ys : List B) → flat_map g (xs ++ ys) ≡ flat_map g xs ++ flat_map g ys
  unfolding flat_map
  joined-append [] ys = refl
  joined-append (x ∷ xs) ys = ap (λ (l : List A). g x ++ l) (joined-append xs ys) ∙ sym (append_assoc (g x) (flat_map g xs) (flat_map g ys))

  joined-one : (x : B) → flat_map g (x ∷ []) ≡ g x
  unfolding flat_map
  joined-one x = append-nil (g x)

  pub joined-none : flat_map g [] ≡ []
  unfolding flat_map
  joined-none = refl

  -- one item more
  pub joined-more : (xs : List B) (i : ℕ) (d : B) → i < length xs → flat_map g (take (i + 1) xs) ≡ flat_map g (take i xs) ++ g (get_or xs i d)
  joined-more xs i d h =
      ap (flat_map g) (ap (λ (k : ℕ). take k xs) (add-one i) ∙ take-suc xs i d h)
      ∙ joined-append (take i xs) (get_or xs i d ∷ [])
      ∙ ap (λ (l : List A). flat_map g (take i xs) ++ l) (joined-one (get_or xs i d))

  module _ (w : ℕ) (sized : (x : B) → length (g x) ≡ w) where
    pub length-joined : (xs : List B) → length (flat_map g xs) ≡ w * length xs
    unfolding flat_map
    length-joined [] = sym (mul-zero w)
    length-joined (x ∷ xs) =
        length-append (g x) (flat_map g xs)
        ∙ ap (λ (k : ℕ). k + length (flat_map g xs)) (sized x)
        ∙ ap (λ (k : ℕ). w + k) (length-joined xs)
        ∙ add_comm w (w * length xs)
        ∙ sym (mul-suc w (length xs))

    -- what was joined is cut into the same parts again
    pub chunks-joined : {C : Type 0} (f : List A → C) (xs : List B) → map f (chunks w (length xs) (flat_map g xs)) ≡ map (λ x. f (g x)) xs
    unfolding flat_map chunks
    chunks-joined f [] = refl
    chunks-joined {C} f (x ∷ xs) =
        ap (λ (l : List A). f l ∷ map f (chunks w (length xs) (drop w (g x ++ flat_map g xs)))) (take_at (g x) (flat_map g xs) w (sized x))
        ∙ ap (λ (l : List A). f (g x) ∷ map f (chunks w (length xs) l)) (drop_at (g x) (flat_map g xs) w (sized x))
        ∙ ap (λ (l : List C). f (g x) ∷ l) (chunks-joined f xs)

-- an item of a mapped list, whatever stands for what lies outside
pub map_at : {A B : Type 0} (f : A → B) (xs : List A) (i : ℕ) (d : A) (e : B) → i < length xs → get_or (map f xs) i e ≡ f (get_or xs i d)
map_at f [] i d e h = absurd (not-suc-le-zero h)
map_at f (x ∷ xs) zero d e h = refl
map_at f (x ∷ xs) (suc i) d e h = map_at f xs i d e (le_of_suc-le-suc h)

-- a map that changes no item of a list
pub map_same : {A : Type 0} (f : A → A) (xs : List A) (d : A) → ((i : ℕ) → i < length xs → f (get_or xs i d) ≡ get_or xs i d) → map f xs ≡ xs
map_same f [] d h = refl
map_same {A} f (x ∷ xs) d h =
    ap (λ (y : A). y ∷ map f xs) (h 0 (omega arith))
    ∙ ap (λ (l : List A). x ∷ l) (map_same f xs d (λ i g. h (suc i) (suc-le-suc g)))

-- what was cut is joined to the same list again, where each part comes back
pub joined-chunks : {A B : Type 0} (f : List A → B) (g : B → List A) (w n : ℕ) (items : List A) → length items ≡ w * n → ((i : ℕ) → i < n → let part = take w (drop (w * i) items) in g (f part) ≡ part) → flat_map g (map f (chunks w n items)) ≡ items
unfolding flat_map chunks
joined-chunks f g w zero [] l h = refl
joined-chunks f g w zero (x ∷ items) l h = let z = l ∙ mul-zero w in absurd (omega (arith, z))
joined-chunks {A} f g w (suc n) items l h =
    let first : g (f (take w items)) ≡ take w items = ap (λ (p : List A). g (f p)) (part-first w items) ∙ h 0 (omega arith) ∙ sym (part-first w items) in
    let rest = joined-chunks f g w n (drop w items) (length-drop w items ∙ omega (arith, l, mul-suc w n)) (λ i k. rw (part-next w i items) (h (suc i) (suc-le-suc k))) in
    ap (λ (p : List A). p ++ flat_map g (map f (chunks w n (drop w items)))) first ∙ ap (λ (p : List A). take w items ++ p) rest ∙ take-append-drop w items
