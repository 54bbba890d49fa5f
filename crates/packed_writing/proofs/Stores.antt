-- The runs of bytes that make a header, stored one behind the other. Assumes nothing.
use Prim.Native.Nat.{ℕ, ◌+◌, ◌-◌, ◌≤◌}
use mathlib.Core.Path.{◌≡◌, sym, ap, ◌∙◌}
use mathlib.Core.List.{List, [], ◌∷◌, ◌++◌, append_assoc, append-nil}
use native.Mathlib.Omega.{arith}
use lib.ListN.{length, take, drop, set, length-set, length-append, drop_of_length-le, take-append-drop}
use Rattle.lists.proofs.Stores.{length-store, take-store, take_set_next, drop-store}

-- two runs from byte 6 on, one behind the other, are one
pub store_pair : (xs a b : List ℕ) (k s : ℕ) → length a ≡ k → 6 + k + s ≤ length xs
    → take (6 + k) (take 6 xs ++ a ++ drop (6 + k) xs) ++ b ++ drop (6 + k + s) (take 6 xs ++ a ++ drop (6 + k) xs) ≡ take 6 xs ++ (a ++ b) ++ drop (6 + k + s) xs
store_pair xs a b k s la h =
    ap (λ (l : List ℕ). l ++ b ++ drop (6 + k + s) (take 6 xs ++ a ++ drop (6 + k) xs)) (take-store xs a 6 k la (omega (arith, h)))
    ∙ ap (λ (l : List ℕ). take 6 xs ++ a ++ b ++ l) (drop-store xs a 6 k la (omega (arith, h)) s)
    ∙ ap (λ (l : List ℕ). l ++ drop (6 + k + s) xs) (append_assoc (take 6 xs) a b)

-- a run in the last four places
pub store-last : (xs run : List ℕ) → 4 ≤ length xs → take (length xs - 4) xs ++ run ++ drop (length xs - 4 + 4) xs ≡ take (length xs - 4) xs ++ run
store-last xs run h =
    let none : drop (length xs - 4 + 4) xs ≡ [] = drop_of_length-le xs {i = length xs - 4 + 4} (omega (arith, h)) in
    ap (λ (l : List ℕ). take (length xs - 4) xs ++ run ++ l) none ∙ append-nil (take (length xs - 4) xs ++ run)

-- nothing is stored
pub store_nothing : (xs : List ℕ) (at : ℕ) → xs ≡ take at xs ++ [] ++ drop at xs
store_nothing xs at = sym (ap (λ (l : List ℕ). l ++ drop at xs) (append-nil (take at xs)) ∙ take-append-drop at xs)

-- the first six bytes of a header: one, four and one
pub store-six : (xs word : List ℕ) (first last : ℕ) → length word ≡ 4 → 6 ≤ length xs
    → take 6 (set (take 1 (set xs 0 first) ++ word ++ drop 5 (set xs 0 first)) 5 last) ≡ (first ∷ word) ++ (last ∷ [])
store-six xs word first last lw h =
    let ys : List ℕ = set xs 0 first in
    let long : length ys ≡ length xs = length-set xs 0 first in
    let zs : List ℕ = take 1 ys ++ word ++ drop 5 ys in
    let size : length zs ≡ length ys = length-store ys word 1 4 lw (omega (arith, long, h)) in
    take_set_next zs 5 last (omega (arith, size, long, h))
    ∙ ap (λ (l : List ℕ). l ++ (last ∷ [])) (take-store ys word 1 4 lw (omega (arith, long, h)) ∙ ap (λ (l : List ℕ). l ++ word) (take_set_next xs 0 first (omega (arith, h))))

-- six bytes, a run behind them, and the rest
store-behind : (xs run rest : List ℕ) (k s : ℕ) → length run ≡ k → length xs ≡ 6 + k + s
    → let ys = take 6 xs ++ run ++ drop (6 + k) xs in take (length ys - s) ys ++ rest ≡ take 6 xs ++ run ++ rest
store-behind xs run rest k s sized long =
    let ys : List ℕ = take 6 xs ++ run ++ drop (6 + k) xs in
    let same : length ys ≡ length xs = length-store xs run 6 k sized (omega (arith, long)) in
    let at : length ys - s ≡ 6 + k = omega (arith, same, long) in
    ap (λ (n : ℕ). take n ys ++ rest) at ∙ ap (λ (l : List ℕ). l ++ rest) (take-store xs run 6 k sized (omega (arith, long)))

-- a header: six bytes, two runs behind them, and the rest
pub store-header : (xs a b rest : List ℕ) (k m s : ℕ) → length a ≡ k → length b ≡ m → length xs ≡ 6 + k + m + s
    → let ys = take 6 xs ++ a ++ drop (6 + k) xs in let zs = take (6 + k) ys ++ b ++ drop (6 + k + m) ys in take (length zs - s) zs ++ rest ≡ take 6 xs ++ a ++ b ++ rest
store-header xs a b rest k m s la lb long =
    let at : 6 + k + m ≡ 6 + (k + m) = omega arith in
    ap (λ (l : List ℕ). take (length l - s) l ++ rest) (store_pair xs a b k m la (omega (arith, long)) ∙ ap (λ (n : ℕ). take 6 xs ++ (a ++ b) ++ drop n xs) at)
    ∙ store-behind xs (a ++ b) rest (k + m) s (length-append a b ∙ rw (la, lb)) (omega (arith, long))
    ∙ ap (λ (l : List ℕ). l ++ rest) (sym (append_assoc (take 6 xs) a b))
