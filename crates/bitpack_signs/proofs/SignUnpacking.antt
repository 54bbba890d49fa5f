-- The loops that unpack signs: their states and their turns. Assumes nothing.
use Prim.Native.Nat.{ℕ, ◌+◌, ◌-◌, ◌*◌, ◌/◌, ◌%◌, ◌^◌, ◌≤◌, ◌<◌}
use mathlib.Core.Path.{◌≡◌, sym, ap, ◌∙◌}
use mathlib.Core.List.{List, ◌++◌, map, map-append, append_assoc, append-nil}
use native.Mathlib.Nat.{add-mul-div_left}
use native.Mathlib.Omega.{arith}
use lib.IntN.{ℤ}
use lib.ListN.{length, get_or, take, drop, set, length-map}
use lib.Seq.{take_all}
use Rattle.digits.specs.Digits.{number, digits}
use Rattle.digits.proofs.Laws.{digits-none, digits_append, length_digits}
use Rattle.bitpack.specs.Signs.{sign_of_bit}
use Rattle.lists.proofs.Stores.{store-next, length-store, take-store}
use Rattle.digits.proofs.Digits.{digits_low, digits-next, number-drop}
use Rattle.digits.proofs.Windows.{above}

-- ---- signs written one by one

pub sign-next : (out : List ℤ) (i y : ℕ) (v : ℤ) → v ≡ sign_of_bit (y % 2) → i < length out → take i out ++ map sign_of_bit (digits 2 (length out - i) y) ≡ take (i + 1) (set out i v) ++ map sign_of_bit (digits 2 (length out - (i + 1)) (y / 2))
sign-next out i y v e h =
    ap (λ (ds : List ℕ). take i out ++ map sign_of_bit ds) (digits-next 2 (length out) i y h)
    ∙ rw (← e) (store-next out i v (map sign_of_bit (digits 2 (length out - (i + 1)) (y / 2))) h)

pub sign-end : (out : List ℤ) (i y : ℕ) → length out ≤ i → take i out ++ map sign_of_bit (digits 2 (length out - i) y) ≡ out
sign-end out i y h =
    let none : length out - i ≡ 0 = omega arith in
    ap (λ (m : ℕ). take i out ++ map sign_of_bit (digits 2 m y)) none
    ∙ ap (λ (ds : List ℕ). take i out ++ map sign_of_bit ds) (digits-none 2 y)
    ∙ append-nil (take i out)
    ∙ take_all i out h

-- ---- the loop that unpacks

-- eight bits leave in two halves
pub byte-out : (n byte next : ℕ) → 8 ≤ n → byte < 256 → digits 2 n (byte + 256 * next) ≡ digits 2 4 byte ++ (digits 2 4 (byte / 16) ++ digits 2 (n - 8) next)
byte-out n byte next h small =
    let parts : n ≡ 4 + (4 + (n - 8)) = omega arith in
    let y : ℕ = byte + 256 * next in
    let lower : y ≡ byte + 16 * (16 * next) = omega arith in
    let shifted : y / 16 ≡ byte / 16 + 16 * next = ap (λ (m : ℕ). m / 16) lower ∙ add-mul-div_left byte (16 * next) {y = 16} (omega arith) in
    let upper : (byte / 16 + 16 * next) / 16 ≡ next = add-mul-div_left (byte / 16) next {y = 16} (omega arith) ∙ omega (arith, small) in
    ap (λ (m : ℕ). digits 2 m y) parts
    ∙ digits_append 2 4 (4 + (n - 8)) y
    ∙ ap (λ (ds : List ℕ). ds ++ digits 2 (4 + (n - 8)) (y / 2 ^ 4)) (ap (digits 2 4) lower ∙ digits_low 2 4 byte (16 * next) (omega arith))
    ∙ ap (λ (m : ℕ). digits 2 4 byte ++ digits 2 (4 + (n - 8)) m) shifted
    ∙ ap (λ (ds : List ℕ). digits 2 4 byte ++ ds)
    (digits_append 2 4 (n - 8) (byte / 16 + 16 * next)
    ∙ ap (λ (ds : List ℕ). ds ++ digits 2 (n - 8) ((byte / 16 + 16 * next) / 2 ^ 4)) (digits_low 2 4 (byte / 16) next (omega arith))
    ∙ ap (λ (m : ℕ). digits 2 4 (byte / 16) ++ digits 2 (n - 8) m) upper)

-- of at most eight bits none is of the next byte
pub byte-alone : (n byte next : ℕ) → n ≤ 8 → digits 2 n (byte + 256 * next) ≡ digits 2 n byte
byte-alone n byte next h = ap (digits 2 n) (above n 8 h byte next) ∙ digits_low 2 n byte (2 ^ (8 - n) * next) (omega arith)

-- eight signs each of k bytes are written
pub record SignsUnpacked (packed : List ℕ) (room : ℕ) (out : List ℤ) (k : ℕ) : Type 0 where
  pub sized : length out ≡ room
  pub within : 8 * k ≤ room
  pub rest : map sign_of_bit (digits 2 room (number 256 packed)) ≡ take (8 * k) out ++ map sign_of_bit (digits 2 (room - 8 * k) (number 256 (drop k packed)))

module _ (packed : List ℕ) (room : ℕ) (enough : room ≤ 8 * length packed) where
  module _ (out : List ℤ) (k : ℕ) (inv : SignsUnpacked packed room out k) where
    module _ (more : k < room / 8) where
      pub unsigns-byte : k < length packed
      unsigns-byte = omega (arith, more, enough)

      pub unsigns-room : 8 * k + 4 + 4 ≤ room
      unsigns-room = omega (arith, more)

      pub unsigns-turn : (out' out'' : List ℤ) → get_or packed k 0 < 256 → out' ≡ take (8 * k) out ++ map sign_of_bit (digits 2 4 (get_or packed k 0)) ++ drop (8 * k + 4) out → out'' ≡ take (8 * k + 4) out' ++ map sign_of_bit (digits 2 4 (get_or packed k 0 / 16)) ++ drop (8 * k + 4 + 4) out' → SignsUnpacked packed room out'' (k + 1)
      unsigns-turn out' out'' small one two =
          let byte : ℕ = get_or packed k 0 in
          let next : ℕ = number 256 (drop (k + 1) packed) in
          let at : 8 * k + 4 + 4 ≡ 8 * (k + 1) = omega arith in
          let low : List ℤ = map sign_of_bit (digits 2 4 byte) in
          let high : List ℤ = map sign_of_bit (digits 2 4 (byte / 16)) in
          let four : length low ≡ 4 = length-map (digits 2 4 byte) sign_of_bit ∙ length_digits 2 4 byte in
          let four' : length high ≡ 4 = length-map (digits 2 4 (byte / 16)) sign_of_bit ∙ length_digits 2 4 (byte / 16) in
          let inside : 8 * k + 4 ≤ length out = omega (arith, unsigns-room, inv.sized) in
          let same : length out' ≡ length out = ap length one ∙ length-store out low (8 * k) 4 four inside in
          let inside' : 8 * k + 4 + 4 ≤ length out' = omega (arith, unsigns-room, inv.sized, same) in
          let front : take (8 * (k + 1)) out'' ≡ take (8 * k) out ++ low ++ high = ap (λ (m : ℕ). take m out'') (sym at) ∙ ap (take (8 * k + 4 + 4)) two ∙ take-store out' high (8 * k + 4) 4 four' inside' ∙ ap (λ (xs : List ℤ). xs ++ high) (ap (take (8 * k + 4)) one ∙ take-store out low (8 * k) 4 four inside) in
          let left : room - 8 * k - 8 ≡ room - 8 * (k + 1) = omega arith in
          record {
            sized = ap length two ∙ length-store out' high (8 * k + 4) 4 four' inside' ∙ same ∙ inv.sized;
            within = omega (arith, unsigns-room);
            rest =
                inv.rest
                ∙ ap (λ (y : ℕ). take (8 * k) out ++ map sign_of_bit (digits 2 (room - 8 * k) y)) (number-drop 256 packed k unsigns-byte)
                ∙ ap (λ (ds : List ℕ). take (8 * k) out ++ map sign_of_bit ds) (byte-out (room - 8 * k) byte next (omega (arith, unsigns-room)) small)
                ∙ simp (map-append, ← append_assoc)
                (ap (λ (xs : List ℤ). xs ++ map sign_of_bit (digits 2 (room - 8 * k - 8) next)) (sym front)
                ∙ ap (λ (m : ℕ). take (8 * (k + 1)) out'' ++ map sign_of_bit (digits 2 m next)) left);
          }

    -- the signs of the last byte, or none
    module _ (done : room / 8 ≤ k) where
      pub unsigns-last : (out' : List ℤ) → 8 * k < length out → out' ≡ take (8 * k) out ++ map sign_of_bit (digits 2 (length out - 8 * k) (get_or packed k 0)) → out' ≡ map sign_of_bit (digits 2 room (number 256 packed))
      unsigns-last out' more e =
          let inside : k < length packed = omega (arith, more, inv.sized, enough) in
          e
          ∙ sym
          (inv.rest
          ∙ ap (λ (y : ℕ). take (8 * k) out ++ map sign_of_bit (digits 2 (room - 8 * k) y)) (number-drop 256 packed k inside)
          ∙ ap (λ (ds : List ℕ). take (8 * k) out ++ map sign_of_bit ds) (byte-alone (room - 8 * k) (get_or packed k 0) (number 256 (drop (k + 1) packed)) (omega (arith, done)))
          ∙ rw inv.sized)

      pub unsigns-none : length out ≤ 8 * k → out ≡ map sign_of_bit (digits 2 room (number 256 packed))
      unsigns-none h = sym (inv.rest ∙ rw (← inv.sized) (sign-end out (8 * k) (number 256 (drop k packed)) h))
