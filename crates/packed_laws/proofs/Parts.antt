-- A record's bytes one part behind the other, and the bytes of a field, made again from its value. Assumes nothing.
use Prim.Native.Nat.{ℕ, ◌+◌, ◌≤◌, ◌<◌}
use mathlib.Core.Path.{◌≡◌, refl, sym, ap, ◌∙◌, subst}
use mathlib.Core.Bool.{Bool, false, not}
use mathlib.Core.List.{List, [], ◌∷◌, ◌++◌}
use native.Mathlib.Omega.{arith}
use lib.Dec.{T}
use lib.ListN.{length, get_or, take, drop, length-drop, take-append-drop}
use lib.Seq.{take_all, get_or-take, get_or-drop, drop-drop, take-add}
use Rattle.digits.specs.Digits.{digits}
use Rattle.digits.proofs.Laws.{Below, digits_number}
use Rattle.lists.proofs.Stores.{run-next}
use Rattle.float.specs.Bytes.{to_le_bytes}
use Rattle.float.proofs.Bytes.{to_le_bytes-of_le_bytes}
use Rattle.radius.specs.Radii.{bad_radius}
use Rattle.radius.proofs.Radii.{radius-not-nan}
use Rattle.packed.specs.Fields.{word_at, float_at}
use Rattle.packed.specs.Layout.{part_at}
use Rattle.packed.proofs.Parts.{length_part}

-- a part of bytes is of bytes
module _ (bytes : List ℕ) (b : Below 256 bytes) (at long : ℕ) (h : at + long ≤ length bytes) where
  pub part-below : Below 256 (part_at bytes at long)
  part-below = record { at = inside }
    where
      inside : (i : ℕ) → i < length (part_at bytes at long) → get_or (part_at bytes at long) i 0 < 256
      inside i g =
          let small : i < long = omega (arith, g, length_part bytes at long h) in
          rw (get_or-take long (drop at bytes) i 0 small, get_or-drop) (b.at (at + i) (omega (arith, h, small)))

module _ (bytes : List ℕ) (b : Below 256 bytes) (at : ℕ) (h : at + 4 ≤ length bytes) where
  -- a u32's bytes
  pub word-again : digits 256 4 (word_at bytes at) ≡ part_at bytes at 4
  word-again =
      ap (λ (n : ℕ). digits 256 n (word_at bytes at)) (sym (length_part bytes at 4 h))
      ∙ digits_number 256 (part_at bytes at 4) (part-below bytes b at 4 h)

  -- an f32's bytes, of one that is no NaN
  pub float-again : bad_radius (float_at bytes at) ≡ false → to_le_bytes (float_at bytes at) ≡ part_at bytes at 4
  float-again good =
      to_le_bytes-of_le_bytes (part_at bytes at 4) (part-below bytes b at 4 h) (length_part bytes at 4 h)
      (subst (λ (t : Bool). T (not t)) (sym (radius-not-nan (float_at bytes at) good)) tt)

-- what stands from a place on, with a part of it split off
pub split-part : (bytes : List ℕ) (at long : ℕ) → drop at bytes ≡ part_at bytes at long ++ drop (at + long) bytes
split-part bytes at long = sym (take-append-drop long (drop at bytes)) ∙ ap (λ (l : List ℕ). part_at bytes at long ++ l) (drop-drop long at bytes)

-- two runs, one behind the other, are one
pub part-two : (bytes : List ℕ) (at a b : ℕ) → part_at bytes at (a + b) ≡ part_at bytes at a ++ part_at bytes (at + a) b
part-two bytes at a b = take-add a b (drop at bytes) ∙ ap (λ (l : List ℕ). part_at bytes at a ++ take b l) (drop-drop a at bytes)

-- a header and three parts are the whole
pub four-parts : (bytes : List ℕ) (h r x s : ℕ) → length bytes ≡ h + r + x + s → take h bytes ++ (part_at bytes h r ++ (part_at bytes (h + r) x ++ part_at bytes (h + r + x) s)) ≡ bytes
four-parts bytes h r x s long =
    let last : part_at bytes (h + r + x) s ≡ drop (h + r + x) bytes = take_all s (drop (h + r + x) bytes) (rw length-drop (omega (arith, long))) in
    ap (λ (l : List ℕ). take h bytes ++ (part_at bytes h r ++ (part_at bytes (h + r) x ++ l))) last
    ∙ ap (λ (l : List ℕ). take h bytes ++ (part_at bytes h r ++ l)) (sym (split-part bytes (h + r) x))
    ∙ ap (λ (l : List ℕ). take h bytes ++ l) (sym (split-part bytes h r))
    ∙ take-append-drop h bytes

-- the first six bytes: one, four and one
pub six-bytes : (bytes : List ℕ) → 6 ≤ length bytes → take 6 bytes ≡ get_or bytes 0 0 ∷ part_at bytes 1 4 ++ (get_or bytes 5 0 ∷ [])
six-bytes bytes h =
    run-next bytes 5 0 1 0 (omega arith) refl
    ∙ ap (λ (l : List ℕ). get_or bytes 0 0 ∷ l)
    (take-add 4 1 (drop 1 bytes)
    ∙ ap (λ (l : List ℕ). part_at bytes 1 4 ++ take 1 l) (drop-drop 4 1 bytes)
    ∙ ap (λ (l : List ℕ). part_at bytes 1 4 ++ l) (run-next bytes 0 5 6 0 (omega arith) refl))

-- a header of six bytes, a run behind them and another behind that
pub header-parts : (bytes : List ℕ) (r s : ℕ) → take (6 + r + s) bytes ≡ take 6 bytes ++ (part_at bytes 6 r ++ part_at bytes (6 + r) s)
header-parts bytes r s =
    let e : 6 + r + s ≡ 6 + (r + s) = omega arith in
    ap (λ (n : ℕ). take n bytes) e
    ∙ take-add 6 (r + s) bytes
    ∙ ap (λ (l : List ℕ). take 6 bytes ++ l) (take-add r s (drop 6 bytes))
    ∙ ap (λ (l : List ℕ). take 6 bytes ++ (part_at bytes 6 r ++ take s l)) (drop-drop r 6 bytes)
