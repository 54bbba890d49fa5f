-- Indices that are packed eight at a time: bytes that are placed one behind the other, four indices and eight as one number, and the turns of the loop.
-- Eight indices of b bits are b bytes, so that each eight starts at a byte; what a word places behind them is left open. Assumes nothing.
use Prim.Native.Nat.{ℕ, ◌+◌, ◌-◌, ◌*◌, ◌/◌, ◌%◌, ◌^◌, ◌≤◌, ◌<◌}
use mathlib.Core.Path.{◌≡◌, sym, ap, ◌∙◌}
use mathlib.Core.List.{List, [], ◌∷◌, ◌++◌, append_assoc}
use native.Mathlib.Nat.{zero-add, add-zero, mul_assoc, mod-lt, mul-mod_left, mul-le-mul_right, add-mul-div_left, div-eq_of_lt}
use native.Mathlib.Omega.{arith}
use lib.ListN.{length, take, drop, length-append}
use lib.Seq.{length-take-le, take_at, take-take}
use lib.Arith.{digits_lt}
use lib.Pow.{pow-add, pow_pos, shl-shr, mod-pow-add, mod-mod-pow, split}
use Rattle.digits.specs.Digits.{number, digits}
use Rattle.digits.proofs.Laws.{power_pos, length_digits, digits_append}
use Rattle.lists.proofs.Stores.{length-store, take-store}
use Rattle.bitpack_writing.specs.Inner.{Packable, Gathered, Placed}
use Rattle.digits.proofs.Digits.{digits_low, number-run}
use Rattle.digits.proofs.Windows.{shift_in-exact, shift_in-fits, shift_in-word}
use Rattle.digits.proofs.Powers.{power-four, eight-bytes}

-- ---- bytes that are placed

module _ (old new : List ℕ) (at n x : ℕ) where
  pub placed-run : at + n ≤ length old → new ≡ take at old ++ digits 256 n x ++ drop (at + n) old → Placed old new at n x
  placed-run fits stored = record {
    sized = ap length stored ∙ length-store old (digits 256 n x) at n (length_digits 256 n x) fits;
    front = ap (take (at + n)) stored ∙ take-store old (digits 256 n x) at n (length_digits 256 n x) fits;
  }

  -- the lowest bytes do not see what stands above them
  pub placed-low : (high y : ℕ) → Placed old new at n x → y ≡ x + 256 ^ n * high → Placed old new at n y
  placed-low high y p e = record {
    sized = p.sized;
    front = p.front ∙ ap (λ (ds : List ℕ). take at old ++ ds) (sym (ap (digits 256 n) e ∙ digits_low 256 n x high (omega arith)));
  }

  -- fewer of them
  pub placed-fewer : (m : ℕ) → m ≤ n → at ≤ length old → Placed old new at n x → Placed old new at m x
  placed-fewer m h fits p =
      let parts : n ≡ m + (n - m) = omega arith in
      let low : List ℕ = take at old ++ digits 256 m x in
      let high : List ℕ = digits 256 (n - m) (x / 256 ^ m) in
      let sized : length low ≡ at + m = simp (length-append, length-take-le at old fits, length_digits) in
      record {
        sized = p.sized;
        front =
            sym (take-take (at + m) (at + n) new (omega arith))
            ∙ ap (take (at + m)) (p.front ∙ ap (λ (j : ℕ). take at old ++ digits 256 j x) parts ∙ ap (λ (ds : List ℕ). take at old ++ ds) (digits_append 256 m (n - m) x) ∙ sym (append_assoc (take at old) (digits 256 m x) high))
            ∙ take_at low high (at + m) sized;
      }

-- more of them behind the first
pub placed-more : (old mid new : List ℕ) (at n m x : ℕ) → Placed old mid at n x → Placed mid new (at + n) m (x / 256 ^ n) → Placed old new at (n + m) x
placed-more old mid new at n m x p q =
    let behind : at + (n + m) ≡ at + n + m = omega arith in
    record {
      sized = q.sized ∙ p.sized;
      front =
          ap (λ (j : ℕ). take j new) behind
          ∙ q.front
          ∙ ap (λ (ds : List ℕ). ds ++ digits 256 m (x / 256 ^ n)) p.front
          ∙ append_assoc (take at old) (digits 256 n x) (digits 256 m (x / 256 ^ n))
          ∙ ap (λ (ds : List ℕ). take at old ++ ds) (sym (digits_append 256 n m x));
    }

-- ---- four indices as one number

-- `high` stands above the n bits of `low`, as the code shifts it in 64 bits
abbrev joined : ℕ → ℕ → ℕ → ℕ
joined n low high = low + high * 2 ^ n % 2 ^ 64

module _ (n low high : ℕ) (fits : n + n ≤ 64) (below : low < 2 ^ n) (above : high < 2 ^ n) where
  joined_is : joined n low high ≡ low + high * 2 ^ n
  joined_is = ap (λ (m : ℕ). low + m) (shift_in-exact n n high above fits)

  joined-fits : joined n low high < 2 ^ (2 * n)
  joined-fits = let double : n + n ≡ 2 * n = omega arith in rw (shift_in-exact n n high above fits) (rw double at (shift_in-fits low n n high below above))

module _ (width : ℕ) (narrow : width ≤ 16) (a b c d : ℕ) (below-a : a < 2 ^ width) (below-b : b < 2 ^ width) (below-c : c < 2 ^ width) (below-d : d < 2 ^ width) where
  first_two : joined width a b < 2 ^ (2 * width)
  first_two = joined-fits width a b (omega arith) below-a below-b

  last-two : joined width c d < 2 ^ (2 * width)
  last-two = joined-fits width c d (omega arith) below-c below-d

  pub four-word : joined (2 * width) (joined width a b) (joined width c d) < 2 ^ 64
  four-word = shift_in-word (joined width a b) (2 * width) (2 * width) (joined width c d) first_two last-two (omega arith)

  pub four-fits : joined (2 * width) (joined width a b) (joined width c d) < 2 ^ (4 * width)
  four-fits =
      let twice : 2 * (2 * width) ≡ 4 * width = omega arith in
      rw twice at (joined-fits (2 * width) (joined width a b) (joined width c d) (omega arith) first_two last-two)

  pub four-number : joined (2 * width) (joined width a b) (joined width c d) ≡ number (2 ^ width) (a ∷ b ∷ c ∷ d ∷ [])
  unfolding number
  four-number =
      let double : 2 * width ≡ width + width = omega arith in
      let square : 2 ^ (2 * width) ≡ 2 ^ width * 2 ^ width = ap (λ (m : ℕ). 2 ^ m) double ∙ pow-add 2 width width in
      joined_is (2 * width) (joined width a b) (joined width c d) (omega arith) first_two last-two
      ∙ rw (joined_is width a b (omega arith) below-a below-b, joined_is width c d (omega arith) below-c below-d, square) (omega arith)

-- ---- eight indices as two words

-- what a shift in 64 bits keeps, and two shifts
shifted : (x k : ℕ) → k ≤ 64 → x * 2 ^ k % 2 ^ 64 ≡ (x % 2 ^ (64 - k)) * 2 ^ k
shifted x k h =
    let parts : 64 ≡ 64 - k + k = omega arith in
    ap (λ (m : ℕ). x * 2 ^ k % 2 ^ m) parts
    ∙ mod-pow-add (x * 2 ^ k) (64 - k) k
    ∙ rw (shl-shr x k, mul-mod_left x (2 ^ k)) (add-zero ((x % 2 ^ (64 - k)) * 2 ^ k))

shifted-twice : (x k n : ℕ) → k + k ≡ n → n ≤ 64 → x * 2 ^ k % 2 ^ 64 * 2 ^ k % 2 ^ 64 ≡ (x % 2 ^ (64 - n)) * 2 ^ n
shifted-twice x k n e h =
    let y : ℕ = x % 2 ^ (64 - k) in
    let parts : 64 - k ≡ k + (64 - n) = omega arith in
    ap (λ (m : ℕ). m * 2 ^ k % 2 ^ 64) (shifted x k (omega arith))
    ∙ ap (λ (m : ℕ). m % 2 ^ 64) (mul_assoc y (2 ^ k) (2 ^ k) ∙ ap (λ (m : ℕ). y * m) (sym (pow-add 2 k k) ∙ ap (λ (m : ℕ). 2 ^ m) e))
    ∙ shifted y n h
    ∙ ap (λ (m : ℕ). m * 2 ^ n) (ap (λ (m : ℕ). x % 2 ^ m % 2 ^ (64 - n)) parts ∙ mod-mod-pow x k (64 - n))

module _ (width : ℕ) (narrow : width ≤ 16) (low high : ℕ) (below : low < 2 ^ (4 * width)) where
  -- the first word, as the code shifts `high` in two, and what is left of `high` for the second
  abbrev first : ℕ
  first = low + high * 2 ^ (2 * width) % 2 ^ 64 * 2 ^ (2 * width) % 2 ^ 64

  abbrev second : ℕ
  second = high / 2 ^ (64 - 4 * width)

  kept : first ≡ low + (high % 2 ^ (64 - 4 * width)) * 2 ^ (4 * width)
  kept = ap (λ (m : ℕ). low + m) (shifted-twice high (2 * width) (4 * width) (omega arith) (omega arith))

  whole-power : 2 ^ (64 - 4 * width) * 2 ^ (4 * width) ≡ 2 ^ 64
  whole-power = let parts : 64 - 4 * width + 4 * width ≡ 64 = omega arith in sym (pow-add 2 (64 - 4 * width) (4 * width)) ∙ ap (λ (m : ℕ). 2 ^ m) parts

  pub eight-word : first < 2 ^ 64
  eight-word =
      let both = digits_lt (mod-lt high (pow_pos (64 - 4 * width))) below in
      rw kept (omega (arith, rw whole-power at both))

  pub eight-parts : low + 2 ^ (4 * width) * high ≡ first + 2 ^ 64 * second
  eight-parts =
      let d : ℕ = 2 ^ (64 - 4 * width) in
      let p : ℕ = 2 ^ (4 * width) in
      ap (λ (m : ℕ). low + p * m) (sym (split high (64 - 4 * width)))
      ∙ parted p d (high / d) (high % d) low
      ∙ ap (λ (m : ℕ). low + high % d * p + m * (high / d)) whole-power
      ∙ ap (λ (m : ℕ). m + 2 ^ 64 * second) (sym kept)
    where
      parted : (p d q r l : ℕ) → l + p * (q * d + r) ≡ l + r * p + d * p * q
      parted p d q r l = omega arith

  second_is : (low + 2 ^ (4 * width) * high) / 256 ^ 8 ≡ second
  second_is =
      ap (λ (m : ℕ). m / 2 ^ 64) eight-parts
      ∙ add-mul-div_left first second {y = 2 ^ 64} (omega arith)
      ∙ ap (λ (m : ℕ). m + second) (div-eq_of_lt eight-word)
      ∙ zero-add second

  module _ (old mid : List ℕ) (at : ℕ) (inside : at ≤ length old) (one : Placed old mid at 8 first) where
    -- both words, of which the first was placed
    begun : Placed old mid at 8 (low + 2 ^ (4 * width) * high)
    begun = placed-low old mid at 8 first second (low + 2 ^ (4 * width) * high) one eight-parts

    pub placed-eight : width ≤ 8 → Placed old mid at width (low + 2 ^ (4 * width) * high)
    placed-eight h = placed-fewer old mid at 8 _ width h inside begun

    pub placed-eight-wide : (new : List ℕ) → Placed mid new (at + 8) 8 second → Placed old new at width (low + 2 ^ (4 * width) * high)
    placed-eight-wide new two =
        placed-fewer old new at 16 _ width narrow inside (placed-more old mid new at 8 8 (low + 2 ^ (4 * width) * high) begun (rw second_is two))

-- ---- the loop

module _ (indices : List ℕ) (bits room : ℕ) (asked : Packable indices bits room) where
  module _ (out : List ℕ) (k : ℕ) (inv : Gathered indices bits room out k) where
    -- the bytes of the eights that are taken in are there
    pub gathered-within : k * bits ≤ room
    gathered-within = omega (arith, mul-le-mul_right bits inv.within, asked.exact)

    module _ (more : k < length indices / 8) where
      pub gathered-more : 8 * k + 4 + 4 ≤ length indices
      gathered-more = omega (arith, more)

      gathered-room : k * bits + bits ≤ room
      gathered-room = omega (arith, mul-le-mul_right bits gathered-more, asked.exact)

      module _ (low high : ℕ) (four : low ≡ number (2 ^ bits) (take 4 (drop (8 * k) indices))) (next : high ≡ number (2 ^ bits) (take 4 (drop (8 * k + 4) indices))) where
        -- the number of the eight, and what stands above it
        eight-number : number (2 ^ bits) (drop (8 * k) indices) ≡ (low + 2 ^ (4 * bits) * high) + 256 ^ bits * number (2 ^ bits) (drop (8 * (k + 1)) indices)
        eight-number =
            let base : ℕ = 2 ^ bits in
            let behind : 8 * k + 4 + 4 ≡ 8 * (k + 1) = omega arith in
            number-run base indices (8 * k) 4 (omega (arith, gathered-more))
            ∙ ap (λ (m : ℕ). number base (take 4 (drop (8 * k) indices)) + base ^ 4 * m) (number-run base indices (8 * k + 4) 4 gathered-more)
            ∙ rw (← four, ← next, behind)
            (raised (base ^ 4) low high (number base (drop (8 * (k + 1)) indices))
            ∙ rw (eight-bytes bits, power-four bits))
          where
            raised : (p l h r : ℕ) → l + p * (h + p * r) ≡ (l + p * h) + p * p * r
            raised p l h r = omega arith

        pub gathered-turn : (out' : List ℕ) → low < 2 ^ (4 * bits) → high < 2 ^ (4 * bits) → Placed out out' (k * bits) bits (low + 2 ^ (4 * bits) * high) → Gathered indices bits room out' (k + 1)
        gathered-turn out' below-low below-high placed =
            let y : ℕ = number (2 ^ bits) (drop (8 * k) indices) in
            let above : ℕ = number (2 ^ bits) (drop (8 * (k + 1)) indices) in
            let eight : ℕ = low + 2 ^ (4 * bits) * high in
            let behind : k * bits + bits ≡ (k + 1) * bits = omega arith in
            let left : room - k * bits ≡ bits + (room - (k + 1) * bits) = omega (arith, gathered-room) in
            let power : 2 ^ (4 * bits) * 2 ^ (4 * bits) ≡ 256 ^ bits = rw (power-four bits) (eight-bytes bits) in
            let fits : eight < 256 ^ bits = let both = digits_lt below-high below-low in omega (arith, rw power at both) in
            let front : digits 256 bits y ≡ digits 256 bits eight = ap (digits 256 bits) eight-number ∙ digits_low 256 bits eight above (omega arith) in
            let back : y / 256 ^ bits ≡ above = ap (λ (m : ℕ). m / 256 ^ bits) eight-number ∙ add-mul-div_left eight above {y = 256 ^ bits} (power_pos bits (omega arith)) ∙ ap (λ (m : ℕ). m + above) (div-eq_of_lt fits) ∙ zero-add above in
            let rest : List ℕ = digits 256 (room - (k + 1) * bits) above in
            record {
              sized = placed.sized ∙ inv.sized;
              within = omega (arith, gathered-more);
              rest =
                  inv.rest
                  ∙ ap (λ (m : ℕ). take (k * bits) out ++ digits 256 m y) left
                  ∙ ap (λ (ds : List ℕ). take (k * bits) out ++ ds) (digits_append 256 bits (room - (k + 1) * bits) y ∙ rw (front, back))
                  ∙ sym (append_assoc (take (k * bits) out) (digits 256 bits eight) rest)
                  ∙ ap (λ (ds : List ℕ). ds ++ rest) (sym placed.front)
                  ∙ ap (λ (m : ℕ). take m out' ++ rest) behind;
            }
