-- Four entries that are h apart through two stages at once: what the four stores leave, and one turn of the loop over the fours of a block. Assumes nothing.
use Prim.Native.Nat.{ℕ, ◌+◌, ◌*◌, ◌≤◌, ◌<◌}
use mathlib.Core.Path.{◌≡◌, ap₂, ◌∙◌, subst}
use mathlib.Core.List.{List}
use mathlib.Core.Logic.{◌≢◌}
use native.Mathlib.Decide.{dec_lt}
use native.Mathlib.Omega.{arith}
use lib.ListN.{length, set, length-set}
use lib.Ieee.{Float, nan, binary32, add, sub}
use Rattle.lists.proofs.Stores.{stores-first, stores-second, stores-other}
use Rattle.rotation_stages.specs.Inner.{entry_at, Fused, Apart, FourDone, FoursDone}

-- ---- the four stores

module _ (h place : ℕ) (ys : List Float) (v w x y : Float) (above : 1 ≤ h) (room : place + 3 * h + 1 ≤ length ys) where
  two : List Float
  two = set (set ys place v) (place + h) w

  all : List Float
  all = set (set two (place + h + h) x) (place + h + h + h) y

  two-long : length two ≡ length ys
  unfolding two
  two-long = simp length-set

  all_first : entry_at all place ≡ v
  unfolding two all
  all_first = stores-other two (place + h + h) (place + h + h + h) x y nan place (omega arith) (omega arith) ∙ stores-first ys place (place + h) v w nan (omega arith) (omega arith)

  all-second : entry_at all (place + h) ≡ w
  unfolding two all
  all-second = stores-other two (place + h + h) (place + h + h + h) x y nan (place + h) (omega arith) (omega arith) ∙ stores-second ys place (place + h) v w nan (omega arith)

  all-third : entry_at all (place + h + h) ≡ x
  unfolding all
  all-third = stores-first two (place + h + h) (place + h + h + h) x y nan (omega arith) (omega (arith, two-long))

  all-fourth : entry_at all (place + h + h + h) ≡ y
  unfolding all
  all-fourth = stores-second two (place + h + h) (place + h + h + h) x y nan (omega (arith, two-long))

  all-other : (i : ℕ) → Apart h place i → entry_at all i ≡ entry_at ys i
  unfolding two all
  all-other i apart = stores-other two (place + h + h) (place + h + h + h) x y nan i apart.third apart.fourth ∙ stores-other ys place (place + h) v w nan i apart.first apart.second

-- the sums and differences of the four, stored
module _ (h place : ℕ) (ys : List Float) (above : 1 ≤ h) (room : place + 3 * h + 1 ≤ length ys) where
  abbrev e : Float
  e = add binary32 (entry_at ys place) (entry_at ys (place + h))

  abbrev f : Float
  f = sub binary32 (entry_at ys place) (entry_at ys (place + h))

  abbrev g : Float
  g = add binary32 (entry_at ys (place + h + h)) (entry_at ys (place + h + h + h))

  abbrev i : Float
  i = sub binary32 (entry_at ys (place + h + h)) (entry_at ys (place + h + h + h))

  pub four-done : FourDone h place ys (set (set (set (set ys place (add binary32 e g)) (place + h) (add binary32 f i)) (place + h + h) (sub binary32 e g)) (place + h + h + h) (sub binary32 f i))
  unfolding two all
  four-done =
      record {
        long = simp length-set;
        fused =
            record {
              first = all_first h place ys (add binary32 e g) (add binary32 f i) (sub binary32 e g) (sub binary32 f i) above room;
              second = all-second h place ys (add binary32 e g) (add binary32 f i) (sub binary32 e g) (sub binary32 f i) above room;
              third = all-third h place ys (add binary32 e g) (add binary32 f i) (sub binary32 e g) (sub binary32 f i) above room;
              fourth = all-fourth h place ys (add binary32 e g) (add binary32 f i) (sub binary32 e g) (sub binary32 f i) above room;
            };
        rest = all-other h place ys (add binary32 e g) (add binary32 f i) (sub binary32 e g) (sub binary32 f i) above room;
      }

-- ---- the loop over the fours of a block

-- two fours of a block, at different offsets, have no entry in common
module _ (h start o p : ℕ) (o-inside : o < h) (p-inside : p < h) (differ : o ≢ p) where
  apart-first : Apart h (start + o) (start + p)
  apart-first = record { first = λ e. differ (omega arith); second = λ e. omega arith; third = λ e. omega arith; fourth = λ e. omega arith }

  apart-second : Apart h (start + o) (start + p + h)
  apart-second = record { first = λ e. omega arith; second = λ e. differ (omega arith); third = λ e. omega arith; fourth = λ e. omega arith }

  apart-third : Apart h (start + o) (start + p + h + h)
  apart-third = record { first = λ e. omega arith; second = λ e. omega arith; third = λ e. differ (omega arith); fourth = λ e. omega arith }

  apart-fourth : Apart h (start + o) (start + p + h + h + h)
  apart-fourth = record { first = λ e. omega arith; second = λ e. omega arith; third = λ e. omega arith; fourth = λ e. differ (omega arith) }

-- what four values become, from lists that hold the same four
fused-from : (h place : ℕ) (xs ys zs : List Float) → entry_at ys place ≡ entry_at xs place → entry_at ys (place + h) ≡ entry_at xs (place + h) → entry_at ys (place + h + h) ≡ entry_at xs (place + h + h)
    → entry_at ys (place + h + h + h) ≡ entry_at xs (place + h + h + h) → Fused h place ys zs → Fused h place xs zs
fused-from h place xs ys zs a b c d fused =
    let e = ap₂ (add binary32) a b in
    let f = ap₂ (sub binary32) a b in
    let g = ap₂ (add binary32) c d in
    let i = ap₂ (sub binary32) c d in
    record {
      first = fused.first ∙ ap₂ (add binary32) e g;
      second = fused.second ∙ ap₂ (add binary32) f i;
      third = fused.third ∙ ap₂ (sub binary32) e g;
      fourth = fused.fourth ∙ ap₂ (sub binary32) f i;
    }

-- and what they became stays in a list that holds the same four
fused-to : (h place : ℕ) (xs ys zs : List Float) → entry_at zs place ≡ entry_at ys place → entry_at zs (place + h) ≡ entry_at ys (place + h) → entry_at zs (place + h + h) ≡ entry_at ys (place + h + h)
    → entry_at zs (place + h + h + h) ≡ entry_at ys (place + h + h + h) → Fused h place xs ys → Fused h place xs zs
fused-to h place xs ys zs a b c d fused =
    record { first = a ∙ fused.first; second = b ∙ fused.second; third = c ∙ fused.third; fourth = d ∙ fused.fourth }

module _ (h start done : ℕ) (xs ys zs : List Float) (inv : FoursDone h start done xs ys) (four : FourDone h (start + done) ys zs) (more : done < h) where
  fused-old : (o : ℕ) → o < done → Fused h (start + o) xs zs
  fused-old o l =
      let differ : done ≢ o = omega arith in
      fused-to h (start + o) xs ys zs
      (four.rest (start + o) (apart-first h start done o more (omega arith) differ))
      (four.rest (start + o + h) (apart-second h start done o more (omega arith) differ))
      (four.rest (start + o + h + h) (apart-third h start done o more (omega arith) differ))
      (four.rest (start + o + h + h + h) (apart-fourth h start done o more (omega arith) differ))
      (inv.fused o l)

  fused-new : Fused h (start + done) xs zs
  fused-new =
      fused-from h (start + done) xs ys zs
      (inv.rest (start + done) (λ o l. apart-first h start o done (omega arith) more (omega arith)))
      (inv.rest (start + done + h) (λ o l. apart-second h start o done (omega arith) more (omega arith)))
      (inv.rest (start + done + h + h) (λ o l. apart-third h start o done (omega arith) more (omega arith)))
      (inv.rest (start + done + h + h + h) (λ o l. apart-fourth h start o done (omega arith) more (omega arith)))
      four.fused

  pub fours-more : FoursDone h start (done + 1) xs zs
  fours-more =
      record {
        long = four.long ∙ inv.long;
        fused = λ o l. elim (dec_lt o done) [ yes b ↦ fused-old o b | no n ↦ here o (omega arith) ];
        rest = λ i apart. four.rest i (apart done (omega arith)) ∙ inv.rest i (λ o l. apart o (omega arith));
      }
    where
      here : (o : ℕ) → done ≡ o → Fused h (start + o) xs zs
      here o e = subst (λ (n : ℕ). Fused h (start + n) xs zs) e fused-new
