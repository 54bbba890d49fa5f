-- A loop that writes w entries for each item of a list: the front holds those of one item more. Assumes nothing.
use Prim.Native.Nat.{ℕ, ◌+◌, ◌*◌, ◌<◌}
use mathlib.Core.Path.{◌≡◌, refl, sym, ap, ◌∙◌}
use mathlib.Core.List.{List, ◌++◌, flat_map}
use lib.ListN.{length, get_or, take, drop}
use Rattle.lists.proofs.Chunks.{joined-more}
use Rattle.lists.proofs.Loops.{next_place, place-within}
use Rattle.lists.proofs.Stores.{take-store}

pub front-next : {A B : Type 0} (g : B → List A) (w : ℕ) → ((x : B) → length (g x) ≡ w) → (xs : List B) (i : ℕ) (d : B) (out out' : List A) → i < length xs → length out ≡ w * length xs → take (w * i) out ≡ flat_map g (take i xs) → out' ≡ take (w * i) out ++ g (get_or xs i d) ++ drop (w * i + w) out → take (w * (i + 1)) out' ≡ flat_map g (take (i + 1) xs)
front-next {A} g w sized xs i d out out' h long front stored =
    let x = get_or xs i d in
    ap (λ (k : ℕ). take k out') (sym (next_place w i (w * i) refl))
    ∙ ap (take (w * i + w)) stored
    ∙ take-store out (g x) (w * i) w (sized x) (rw long (place-within w i (length xs) (w * i) refl h))
    ∙ ap (λ (l : List A). l ++ g x) front
    ∙ sym (joined-more g xs i d h)
