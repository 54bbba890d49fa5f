-- The state of the loop that packs, and its turns. Assumes nothing.
use Prim.Native.Nat.{ℕ, ◌+◌, ◌-◌, ◌*◌, ◌/◌, ◌^◌, ◌≤◌, ◌<◌}
use mathlib.Core.Path.{◌≡◌, sym, ap, ◌∙◌}
use mathlib.Core.List.{List, ◌++◌, append_assoc}
use native.Mathlib.Nat.{add-zero, mul-zero, mul-le-mul_right}
use native.Mathlib.Omega.{arith}
use lib.ListN.{length, get_or, take, drop}
use Rattle.digits.specs.Digits.{number, digits}
use Rattle.digits.proofs.Laws.{length_digits}
use Rattle.bitpack_writing.specs.Inner.{Packable}
use Rattle.lists.proofs.Stores.{length-store, take-store}
use Rattle.digits.proofs.Digits.{number-drop, number-end}
use Rattle.digits.proofs.Windows.{shift_in, shift_in-fits, shift-out-fits, word_out}

-- i indices are taken in, k bytes are written, and `held` bits are on the way between
pub record Packed (indices : List ℕ) (bits room : ℕ) (out : List ℕ) (acc held i k : ℕ) : Type 0 where
  pub sized : length out ≡ room
  pub within : i ≤ length indices
  pub small : held < 32
  pub fits : acc < 2 ^ held
  pub count : 8 * k + held ≡ i * bits
  pub rest : digits 256 room (number (2 ^ bits) indices) ≡ take k out ++ digits 256 (room - k) (acc + 2 ^ held * number (2 ^ bits) (drop i indices))

module _ (indices : List ℕ) (bits room : ℕ) (asked : Packable indices bits room) where
  module _ (out : List ℕ) (acc held i k : ℕ) (inv : Packed indices bits room out acc held i k) (more : i < length indices) where
    taken : (i + 1) * bits ≡ i * bits + bits
    taken = omega arith

    all : (i + 1) * bits ≤ length indices * bits
    all = mul-le-mul_right bits (omega (arith, more))

    -- where 32 bits are held there is room for four bytes
    pub pack-bound : 32 ≤ held + bits → k + 4 ≤ room
    pack-bound h = omega (arith, taken, all, inv.count, asked.exact)

    whole : (acc' : ℕ) → acc' ≡ acc + get_or indices i 0 * 2 ^ held → acc + 2 ^ held * number (2 ^ bits) (drop i indices) ≡ acc' + 2 ^ (held + bits) * number (2 ^ bits) (drop (i + 1) indices)
    whole acc' e =
        ap (λ (m : ℕ). acc + 2 ^ held * m) (number-drop (2 ^ bits) indices i more)
        ∙ shift_in acc held bits (get_or indices i 0) (number (2 ^ bits) (drop (i + 1) indices))
        ∙ rw (← e)

    below : (acc' : ℕ) → acc' ≡ acc + get_or indices i 0 * 2 ^ held → acc' < 2 ^ (held + bits)
    below acc' e = rw e (shift_in-fits acc held bits (get_or indices i 0) inv.fits (asked.small i more))

    -- an index is taken in, and nothing is written
    pub pack-turn : (acc' : ℕ) → acc' ≡ acc + get_or indices i 0 * 2 ^ held → held + bits < 32 → Packed indices bits room out acc' (held + bits) (i + 1) k
    pack-turn acc' e h = record {
      sized = inv.sized;
      within = omega (arith, more);
      small = h;
      fits = below acc' e;
      count = omega (arith, taken, inv.count);
      rest = inv.rest ∙ rw (whole acc' e);
    }

    -- an index is taken in, and four bytes are written
    pub pack-word : (acc' : ℕ) (out' : List ℕ) → acc' ≡ acc + get_or indices i 0 * 2 ^ held → 32 ≤ held + bits → out' ≡ take k out ++ digits 256 4 acc' ++ drop (k + 4) out → Packed indices bits room out' (acc' / 2 ^ 32) (held + bits - 32) (i + 1) (k + 4)
    pack-word acc' out' e h stored =
        let room4 : k + 4 ≤ length out = rw inv.sized (pack-bound h) in
        let shape = ap (take (k + 4)) stored ∙ take-store out (digits 256 4 acc') k 4 (length_digits 256 4 acc') room4 in
        let next : ℕ = acc' / 2 ^ 32 + 2 ^ (held + bits - 32) * number (2 ^ bits) (drop (i + 1) indices) in
        let left : room - k - 4 ≡ room - (k + 4) = omega arith in
        record {
          sized = ap length stored ∙ length-store out (digits 256 4 acc') k 4 (length_digits 256 4 acc') room4 ∙ inv.sized;
          within = omega (arith, more);
          small = omega (arith, inv.small, asked.narrow);
          fits = shift-out-fits 32 (held + bits) h acc' (below acc' e);
          count = omega (arith, taken, inv.count, h);
          rest =
              inv.rest
              ∙ ap (λ (m : ℕ). take k out ++ digits 256 (room - k) m) (whole acc' e)
              ∙ ap (λ (ds : List ℕ). take k out ++ ds) (word_out (room - k) (held + bits) acc' (number (2 ^ bits) (drop (i + 1) indices)) (omega (arith, pack-bound h)) h)
              ∙ sym (append_assoc (take k out) (digits 256 4 acc') (digits 256 (room - k - 4) next))
              ∙ ap (λ (ds : List ℕ). ds ++ digits 256 (room - k - 4) next) (sym shape)
              ∙ ap (λ (m : ℕ). take (k + 4) out' ++ digits 256 m next) left;
        }

  -- all indices are taken in: what is held is what is left to write
  pub pack-end : (out : List ℕ) (acc held i k : ℕ) → Packed indices bits room out acc held i k → length indices ≤ i → digits 256 room (number (2 ^ bits) indices) ≡ take k out ++ digits 256 (length out - k) acc
  pack-end out acc held i k inv h =
      inv.rest ∙ rw (number-end (2 ^ bits) indices i h, inv.sized, mul-zero, add-zero)
