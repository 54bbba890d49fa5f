-- The loops that pack signs: their states and their turns. Assumes nothing.
use Prim.Native.Nat.{ℕ, suc, ◌+◌, ◌-◌, ◌*◌, ◌/◌, ◌^◌, ◌≤◌, ◌<◌}
use mathlib.Core.Path.{◌≡◌, sym, ap, ◌∙◌}
use mathlib.Core.List.{List, ◌++◌, append-nil}
use native.Mathlib.Nat.{add-mul-mod_self_left, add-mul-div_left, mod-eq_of_lt, div-eq_of_lt, lt_of_lt_of_le, zero-add, pow-succ'}
use native.Mathlib.Omega.{arith}
use lib.Pow.{pow_mono}
use lib.ListN.{length, get_or, take, drop, set, length-set, length-drop}
use lib.Seq.{take_all, take-add, drop-drop, length-take-le}
use Rattle.digits.specs.Digits.{number, digits}
use Rattle.digits.proofs.Laws.{digits-none, number_append}
use Rattle.bitpack.specs.Padding.{bytes_for}
use Rattle.lists.proofs.Stores.{store-next}
use Rattle.bitpack_signs_writing.specs.Inner.{SignsPacked}
use Rattle.digits.proofs.Digits.{digits-next, number-drop, number-run, number-end, write-end}

-- ---- bits read from the last one down

-- the bits from index i on, as a number
pub record LastBits (bits : List ℕ) (i n : ℕ) : Type 0 where
  pub fits : n < 2 ^ (length bits - i)
  pub is : n ≡ number 2 (drop i bits)

module _ (bits : List ℕ) where
  pub last-start : LastBits bits (length bits) 0
  last-start =
      let none : length bits - length bits ≡ 0 = omega arith in
      record { fits = rw none (omega arith); is = sym (number-end 2 bits (length bits) (omega arith)) }

  pub last_turn : (i n b : ℕ) → 1 ≤ i → i ≤ length bits → LastBits bits i n → b ≡ get_or bits (i - 1) 0 → b < 2 → LastBits bits (i - 1) (2 * n + b)
  last_turn i n b h k inv e small =
      let size : length bits - (i - 1) ≡ suc (length bits - i) = omega arith in
      let next : i - 1 + 1 ≡ i = omega arith in
      let below = number-drop 2 bits (i - 1) (omega (arith, h, k)) ∙ ap (λ (m : ℕ). get_or bits (i - 1) 0 + 2 * number 2 (drop m bits)) next in
      record {
        fits = rw (size, pow-succ') (omega (arith, inv.fits));
        is = omega (arith, below, inv.is, e);
      }

  -- at most seven bits
  pub last-small : (i n : ℕ) → length bits < i + 8 → LastBits bits i n → n < 128
  last-small i n h inv = lt_of_lt_of_le inv.fits (pow_mono {j = 7} (omega (arith, h)))

-- ---- the loop that packs

module _ (bits : List ℕ) (n room : ℕ) (counted : length bits ≡ n) (exact : room ≡ bytes_for n) where
  module _ (out : List ℕ) (k : ℕ) (inv : SignsPacked bits room out k) where
    -- a byte is written whose bits are the next ones
    step : (v next : ℕ) → k < room → v < 256 → number 2 (drop (8 * k) bits) ≡ v + 256 * next → digits 256 room (number 2 bits) ≡ take (k + 1) (set out k v) ++ digits 256 (room - (k + 1)) next
    step v next more small e =
        inv.rest
        ∙ ap (λ (y : ℕ). take k out ++ digits 256 (room - k) y) e
        ∙ ap (λ (ds : List ℕ). take k out ++ ds) (digits-next 256 room k (v + 256 * next) more)
        ∙ rw (add-mul-mod_self_left v 256 next, mod-eq_of_lt small, add-mul-div_left v next {y = 256} (omega arith), div-eq_of_lt small, zero-add)
        (store-next out k v (digits 256 (room - (k + 1)) next) (omega (arith, inv.sized, more)))

    module _ (more : k < n / 8) where
      pub signs-inside : 8 * k + 4 + 4 ≤ n
      signs-inside = omega (arith, more)

      pub signs-room : k < room
      signs-room = omega (arith, more, exact)

      -- the next byte has the next eight bits
      pub signs-byte : (v : ℕ) → v ≡ number 2 (take 8 (drop (8 * k) bits)) → v < 256 → SignsPacked bits room (set out k v) (k + 1)
      signs-byte v e small =
          let next : ℕ = number 2 (drop (8 * (k + 1)) bits) in
          let at : 8 * k + 8 ≡ 8 * (k + 1) = omega arith in
          let run = number-run 2 bits (8 * k) 8 (omega (arith, signs-inside, counted)) ∙ ap (λ (m : ℕ). number 2 (take 8 (drop (8 * k) bits)) + 2 ^ 8 * number 2 (drop m bits)) at in
          let whole : number 2 (drop (8 * k) bits) ≡ v + 256 * next = omega (arith, run, e) in
          record {
            sized = simp length-set inv.sized;
            within = omega (arith, more, counted);
            rest = step v next signs-room small whole;
          }

      pub signs-turn : (a b : ℕ) → a ≡ number 2 (take 4 (drop (8 * k) bits)) → b ≡ number 2 (take 4 (drop (8 * k + 4) bits)) → a < 16 → b < 16 → SignsPacked bits room (set out k (a + 16 * b)) (k + 1)
      signs-turn a b low high smallA smallB =
          let halves = take-add 4 4 (drop (8 * k) bits) ∙ ap (λ (l : List ℕ). take 4 (drop (8 * k) bits) ++ take 4 l) (drop-drop 4 (8 * k) bits) in
          let long : length (take 4 (drop (8 * k) bits)) ≡ 4 = length-take-le 4 (drop (8 * k) bits) (rw length-drop (omega (arith, signs-inside, counted))) in
          let both = ap (number 2) halves ∙ number_append 2 (take 4 (drop (8 * k) bits)) (take 4 (drop (8 * k + 4) bits)) ∙ ap (λ (m : ℕ). number 2 (take 4 (drop (8 * k) bits)) + 2 ^ m * number 2 (take 4 (drop (8 * k + 4) bits))) long in
          signs-byte (a + 16 * b) (omega (arith, both, low, high)) (omega arith)

    -- the last byte, or none
    module _ (done : n / 8 ≤ k) where
      pub signs-left : n < 8 * k + 8
      signs-left = omega (arith, done)

      pub signs-last : (v : ℕ) → k < length out → v ≡ number 2 (drop (8 * k) bits) → v < 256 → set out k v ≡ digits 256 room (number 2 bits)
      signs-last v more e small =
          let inside : k < room = omega (arith, more, inv.sized) in
          let whole : number 2 (drop (8 * k) bits) ≡ v + 256 * 0 = omega (arith, e) in
          let none : room - (k + 1) ≡ 0 = omega (arith, exact, signs-left) in
          sym
          (step v 0 inside small whole
          ∙ ap (λ (m : ℕ). take (k + 1) (set out k v) ++ digits 256 m 0) none
          ∙ ap (λ (ds : List ℕ). take (k + 1) (set out k v) ++ ds) (digits-none 256 0)
          ∙ append-nil (take (k + 1) (set out k v))
          ∙ take_all (k + 1) (set out k v) (simp length-set (omega (arith, inv.sized, exact, signs-left))))

      pub signs_none : length out ≤ k → out ≡ digits 256 room (number 2 bits)
      signs_none h = sym (inv.rest ∙ rw (← inv.sized) (write-end 256 out k (number 2 (drop (8 * k) bits)) h))
