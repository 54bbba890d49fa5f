-- The window that unpacking reads through: how it is refilled, and the turns of the loop that empties it. Assumes nothing.
use Prim.Native.Nat.{ℕ, ◌+◌, ◌-◌, ◌*◌, ◌/◌, ◌%◌, ◌^◌, ◌≤◌, ◌<◌}
use mathlib.Core.Path.{◌≡◌, refl, sym, ap, ◌∙◌}
use mathlib.Core.List.{List, ◌++◌}
use native.Mathlib.Nat.{zero-add, one-mul}
use native.Mathlib.Omega.{arith}
use lib.ListN.{length, get_or, take, drop, set, length-set}
use Rattle.digits.specs.Digits.{number, digits}
use Rattle.bitpack_reading.specs.Inner.{Unpackable, Eights, Windowed, Refillable, Refilled}
use Rattle.digits.proofs.Digits.{number-drop, write-next, write-end}
use Rattle.digits.proofs.Windows.{shift_in, shift_in-fits, low-out, shift-out, shift-out-fits}

-- ---- refilling

module _ (packed : List ℕ) (width acc held at : ℕ) (asked : Refillable packed width acc held at) where
  pub refill-none : width ≤ held → Refilled packed width acc held at acc held at
  refill-none h = record { window = asked.window; enough = h; count = refl; same = refl }

  -- `n` bits are read, as the number x: the same bits stand in the window and behind it
  module _ (n x acc' at' : ℕ) (read : number 256 (drop at packed) ≡ x + 2 ^ n * number 256 (drop at' packed)) (e : acc' ≡ acc + x * 2 ^ held) where
    pub refill-same : acc' + 2 ^ (held + n) * number 256 (drop at' packed) ≡ acc + 2 ^ held * number 256 (drop at packed)
    refill-same = sym (ap (λ (m : ℕ). acc + 2 ^ held * m) read ∙ shift_in acc held n x (number 256 (drop at' packed)) ∙ rw (← e))

    pub refill-fits : x < 2 ^ n → acc' < 2 ^ (held + n)
    refill-fits small = rw e (shift_in-fits acc held n x asked.window.fits small)

  module _ (short : held < width) where
    -- there is a byte to read
    pub refill-bound : at < length packed
    refill-bound = omega (arith, asked.enough)

    pub refill-byte : (acc' : ℕ) → acc' ≡ acc + get_or packed at 0 * 2 ^ held → get_or packed at 0 < 256 → Refillable packed width acc' (held + 8) (at + 1)
    refill-byte acc' e small = record {
      window = record {
        within = omega (arith, refill-bound);
        small = omega (arith, asked.narrow);
        fits = refill-fits 8 (get_or packed at 0) acc' (at + 1) (number-drop 256 packed at refill-bound) e small;
      };
      narrow = asked.narrow;
      enough = omega (arith, asked.enough);
    }

    pub refill-word : (x acc' : ℕ) → at + 4 ≤ length packed → number 256 (drop at packed) ≡ x + 2 ^ 32 * number 256 (drop (at + 4) packed) → x < 2 ^ 32 → acc' ≡ acc + x * 2 ^ held → Refilled packed width acc held at acc' (held + 32) (at + 4)
    refill-word x acc' four read small e = record {
      window = record {
        within = four;
        small = omega (arith, asked.narrow);
        fits = refill-fits 32 x acc' (at + 4) read e small;
      };
      enough = omega (arith, asked.narrow);
      count = omega arith;
      same = refill-same 32 x acc' (at + 4) read e;
    }

-- ---- the loop

-- i indices are written, the bytes before `at` are read, and `held` bits are on the way between
pub record Unpacked (packed : List ℕ) (bits room : ℕ) (out : List ℕ) (acc held at i : ℕ) : Type 0 where
  pub sized : length out ≡ room
  pub within : i ≤ room
  pub window : Windowed packed acc held at
  pub count : i * bits + held ≡ 8 * at
  pub rest : digits (2 ^ bits) room (number 256 packed) ≡ take i out ++ digits (2 ^ bits) (room - i) (acc + 2 ^ held * number 256 (drop at packed))

module _ (packed : List ℕ) (bits room : ℕ) (asked : Unpackable packed bits room) where
  pub unpack-start : (out : List ℕ) (k : ℕ) → Eights packed bits room out k → k * bits ≤ length packed → Unpacked packed bits room out 0 0 (k * bits) (8 * k)
  unpack-start out k eights h = record {
    sized = eights.sized;
    within = eights.within;
    window = record { within = h; small = omega arith; fits = omega arith };
    count = omega arith;
    rest = eights.rest ∙ simp (zero-add, one-mul);
  }

  module _ (out : List ℕ) (acc held at i : ℕ) (inv : Unpacked packed bits room out acc held at i) (more : i < room) where
    taken : (i + 1) * bits ≡ i * bits + bits
    taken = omega arith

    pub unpack-turn : (acc' held' at' v : ℕ) → Refilled packed bits acc held at acc' held' at' → v ≡ acc' % 2 ^ bits → Unpacked packed bits room (set out i v) (acc' / 2 ^ bits) (held' - bits) at' (i + 1)
    unpack-turn acc' held' at' v full e =
        let rest' : ℕ = number 256 (drop at' packed) in
        let y : ℕ = acc' + 2 ^ held' * rest' in
        let inside : i < length out = rw inv.sized more in
        record {
          sized = simp length-set inv.sized;
          within = omega (arith, more);
          window = record {
            within = full.window.within;
            small = omega (arith, full.window.small);
            fits = shift-out-fits bits held' full.enough acc' full.window.fits;
          };
          count = omega (arith, taken, inv.count, full.count, full.enough);
          rest =
              inv.rest
              ∙ ap (λ (m : ℕ). take i out ++ digits (2 ^ bits) (room - i) m) (sym full.same)
              ∙ ap (λ (m : ℕ). take i out ++ digits (2 ^ bits) (m - i) y) (sym inv.sized)
              ∙ write-next (2 ^ bits) out i y inside
              ∙ rw (low-out bits held' full.enough acc' rest', shift-out bits held' full.enough acc' rest', e, inv.sized);
        }

  pub unpack-end : (out : List ℕ) (acc held at i : ℕ) → Unpacked packed bits room out acc held at i → length out ≤ i → digits (2 ^ bits) room (number 256 packed) ≡ out
  unpack-end out acc held at i inv h =
      inv.rest
      ∙ ap (λ (m : ℕ). take i out ++ digits (2 ^ bits) (m - i) (acc + 2 ^ held * number 256 (drop at packed))) (sym inv.sized)
      ∙ write-end (2 ^ bits) out i (acc + 2 ^ held * number 256 (drop at packed)) h
