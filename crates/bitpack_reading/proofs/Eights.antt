-- Indices that are unpacked eight at a time: runs of digits that are stored one behind the other, and the turns of the loop
-- that takes eight indices from a word. Eight indices of b bits are b bytes, so that each eight starts at a byte.
-- Assumes nothing.
use Prim.Native.Nat.{ℕ, ◌+◌, ◌-◌, ◌*◌, ◌/◌, ◌^◌, ◌≤◌, ◌<◌}
use mathlib.Core.Path.{◌≡◌, sym, ap, ◌∙◌}
use mathlib.Core.List.{List, ◌++◌, append_assoc}
use native.Mathlib.Nat.{sub-zero, zero-mul, zero-add, mul-le-mul_right, div-div-eq-div-mul, add-mul-div_left, div-eq_of_lt}
use native.Mathlib.Omega.{arith}
use lib.ListN.{length, take, drop, length-drop}
use lib.Seq.{length-take-le, get_or-take, get_or-drop}
use lib.Pow.{pow_pos}
use Rattle.digits.specs.Digits.{number, digits}
use Rattle.digits.proofs.Laws.{Below, power_pos, length_digits, digits_append, number_lt}
use Rattle.lists.proofs.Stores.{length-store, take-store}
use Rattle.bitpack_reading.specs.Inner.{Unpackable, Eights}
use Rattle.digits.proofs.Digits.{digits_low, number-run}
use Rattle.digits.proofs.Windows.{above, shift-out}
use Rattle.digits.proofs.Powers.{power-four, eight-bytes}

-- ---- a run of n digits is stored

module _ (base room : ℕ) (out out' : List ℕ) (i n y : ℕ) (sized : length out ≡ room) (fits : i + n ≤ room) (stored : out' ≡ take i out ++ digits base n y ++ drop (i + n) out) where
  inside : i + n ≤ length out
  inside = rw sized fits

  pub store-sized : length out' ≡ room
  store-sized = ap length stored ∙ length-store out (digits base n y) i n (length_digits base n y) inside ∙ sized

  pub store-digits : take i out ++ digits base (room - i) y ≡ take (i + n) out' ++ digits base (room - (i + n)) (y / base ^ n)
  store-digits =
      let next : List ℕ = digits base (room - (i + n)) (y / base ^ n) in
      let parts : room - i ≡ n + (room - (i + n)) = omega (arith, fits) in
      ap (λ (m : ℕ). take i out ++ digits base m y) parts
      ∙ ap (λ (ds : List ℕ). take i out ++ ds) (digits_append base n (room - (i + n)) y)
      ∙ sym (append_assoc (take i out) (digits base n y) next)
      ∙ ap (λ (ds : List ℕ). ds ++ next) (sym (ap (take (i + n)) stored ∙ take-store out (digits base n y) i n (length_digits base n y) inside))

-- ---- four indices of a word, eight of b bytes

-- the lowest four indices do not see what stands above n bits
four_low : (bits n word rest : ℕ) → 4 * bits ≤ n → digits (2 ^ bits) 4 (word + 2 ^ n * rest) ≡ digits (2 ^ bits) 4 word
four_low bits n word rest h =
    ap (digits (2 ^ bits) 4) (above (4 * bits) n h word rest ∙ ap (λ (m : ℕ). word + m * (2 ^ (n - 4 * bits) * rest)) (power-four bits))
    ∙ digits_low (2 ^ bits) 4 word (2 ^ (n - 4 * bits) * rest) (pow_pos bits)

four-out : (bits word rest : ℕ) → 4 * bits ≤ 64 → (word + 2 ^ 64 * rest) / (2 ^ bits) ^ 4 ≡ word / 2 ^ (4 * bits) + 2 ^ (64 - 4 * bits) * rest
four-out bits word rest h = rw (← power-four bits) (shift-out (4 * bits) 64 h word rest)

-- n bytes leave
bytes-out : (packed : List ℕ) (at n : ℕ) → Below 256 packed → at + n ≤ length packed → number 256 (drop at packed) / 256 ^ n ≡ number 256 (drop (at + n) packed)
bytes-out packed at n below h =
    let low : List ℕ = take n (drop at packed) in
    let short : length low ≡ n = length-take-le n (drop at packed) (rw length-drop (omega (arith, h))) in
    let bytes : Below 256 low = record { at = λ i g. rw (get_or-take n (drop at packed) i 0 (omega (arith, short, g)), get_or-drop at packed i 0) (below.at (at + i) (omega (arith, short, g, h))) } in
    let small : number 256 low < 256 ^ n = rw short at (number_lt 256 low bytes) in
    ap (λ (m : ℕ). m / 256 ^ n) (number-run 256 packed at n h)
    ∙ add-mul-div_left (number 256 low) (number 256 (drop (at + n) packed)) {y = 256 ^ n} (power_pos n (omega arith))
    ∙ ap (λ (m : ℕ). m + number 256 (drop (at + n) packed)) (div-eq_of_lt small)
    ∙ zero-add (number 256 (drop (at + n) packed))

-- ---- the loop

module _ (packed : List ℕ) (bits room : ℕ) (asked : Unpackable packed bits room) where
  pub eights-start : (out : List ℕ) → length out ≡ room → Eights packed bits room out 0
  eights-start out h = record { sized = h; within = omega arith; rest = simp (zero-mul, sub-zero) }

  module _ (out : List ℕ) (k : ℕ) (inv : Eights packed bits room out k) where
    -- the bytes of the eights that are written are there
    pub eights-read : k * bits ≤ length packed
    eights-read = omega (arith, mul-le-mul_right bits inv.within, asked.enough)

    module _ (narrow : bits ≤ 8) (more : k < room / 8) where
      pub eights-room : 8 * k + 4 + 4 ≤ room
      eights-room = omega (arith, more)

      eights-more : k * bits + bits ≤ length packed
      eights-more = omega (arith, mul-le-mul_right bits eights-room, asked.enough)

      pub eights-turn : (word : ℕ) (out' out'' : List ℕ) → Below 256 packed → number 256 (drop (k * bits) packed) ≡ word + 2 ^ 64 * number 256 (drop (k * bits + 8) packed) → out' ≡ take (8 * k) out ++ digits (2 ^ bits) 4 word ++ drop (8 * k + 4) out → out'' ≡ take (8 * k + 4) out' ++ digits (2 ^ bits) 4 (word / 2 ^ (4 * bits)) ++ drop (8 * k + 4 + 4) out' → Eights packed bits room out'' (k + 1)
      eights-turn word out' out'' below read one two =
          let base : ℕ = 2 ^ bits in
          let y : ℕ = number 256 (drop (k * bits) packed) in
          let rest : ℕ = number 256 (drop (k * bits + 8) packed) in
          let first : digits base 4 word ≡ digits base 4 y = sym (ap (digits base 4) read ∙ four_low bits 64 word rest (omega (arith, narrow))) in
          let shifted : y / base ^ 4 ≡ word / 2 ^ (4 * bits) + 2 ^ (64 - 4 * bits) * rest = ap (λ (m : ℕ). m / base ^ 4) read ∙ four-out bits word rest (omega (arith, narrow)) in
          let second : digits base 4 (word / 2 ^ (4 * bits)) ≡ digits base 4 (y / base ^ 4) = sym (ap (digits base 4) shifted ∙ four_low bits (64 - 4 * bits) (word / 2 ^ (4 * bits)) rest (omega (arith, narrow))) in
          let one' : out' ≡ take (8 * k) out ++ digits base 4 y ++ drop (8 * k + 4) out = one ∙ ap (λ (ds : List ℕ). take (8 * k) out ++ ds ++ drop (8 * k + 4) out) first in
          let two' : out'' ≡ take (8 * k + 4) out' ++ digits base 4 (y / base ^ 4) ++ drop (8 * k + 4 + 4) out' = two ∙ ap (λ (ds : List ℕ). take (8 * k + 4) out' ++ ds ++ drop (8 * k + 4 + 4) out') second in
          let sized' : length out' ≡ room = store-sized base room out out' (8 * k) 4 y inv.sized (omega (arith, eights-room)) one' in
          let at : 8 * k + 4 + 4 ≡ 8 * (k + 1) = omega arith in
          let from : k * bits + bits ≡ (k + 1) * bits = omega arith in
          let last : y / base ^ 4 / base ^ 4 ≡ number 256 (drop ((k + 1) * bits) packed) = div-div-eq-div-mul y (base ^ 4) (base ^ 4) ∙ ap (λ (m : ℕ). y / m) (eight-bytes bits) ∙ bytes-out packed (k * bits) bits below eights-more ∙ ap (λ (m : ℕ). number 256 (drop m packed)) from in
          record {
            sized = store-sized base room out' out'' (8 * k + 4) 4 (y / base ^ 4) sized' eights-room two';
            within = omega (arith, eights-room);
            rest =
                inv.rest
                ∙ store-digits base room out out' (8 * k) 4 y inv.sized (omega (arith, eights-room)) one'
                ∙ store-digits base room out' out'' (8 * k + 4) 4 (y / base ^ 4) sized' eights-room two'
                ∙ ap (λ (m : ℕ). take m out'' ++ digits base (room - m) (y / base ^ 4 / base ^ 4)) at
                ∙ ap (λ (m : ℕ). take (8 * (k + 1)) out'' ++ digits base (room - 8 * (k + 1)) m) last;
          }

-- ---- a width by another name

module _ (packed : List ℕ) (bits n room : ℕ) (same : bits ≡ n) where
  pub unpackable-as : Unpackable packed bits room → Unpackable packed n room
  unpackable-as h = rw (← same) h

  pub eights-as : (out : List ℕ) (k : ℕ) → Eights packed n room out k → Eights packed bits room out k
  eights-as out k h = rw same h
