-- Blocks of 256 signs: the bits of a block, and one product that gathers eight of them into a byte. Assumes nothing.
use Prim.Native.Nat.{ℕ, zero, suc, ◌+◌, ◌*◌, ◌/◌, ◌%◌, ◌≤◌, ◌<◌}
use mathlib.Core.Path.{◌≡◌, refl, sym, ap, ◌∙◌}
use mathlib.Core.Bool.{Bool, true, false, cond}
use mathlib.Core.List.{List, [], ◌∷◌, ◌++◌, map}
use native.Mathlib.Nat.{add-mul-mod_self_left, add-mul-div_left, mod-eq_of_lt, div-eq_of_lt, zero-add}
use native.Mathlib.Omega.{arith}
use native.Mathlib.Numerals.{add-one}
use lib.IntN.{ℤ, pos}
use lib.ListN.{length, get_or, take, drop, set, length-map, length-drop}
use lib.Seq.{get_or-take, get_or-drop, take_all, take-suc, take-take, drop-drop, length-take-le}
use Rattle.digits.specs.Digits.{number}
use Rattle.bitpack.specs.Signs.{is_plus, bit_of_sign}
use Rattle.lists.proofs.Stores.{run-next, take_set_next}
use Rattle.bitpack_signs_writing.specs.Inner.{Block}
use Rattle.bitpack_signs.proofs.Signs.{bit_at}

-- a product moves the bits of four bytes side by side, here those of two words at once
pub bits-gathered : (a b c d e f g h : ℕ) → a < 2 → b < 2 → c < 2 → d < 2 → e < 2 → f < 2 → g < 2 → h < 2
    → (number 256 (a ∷ b ∷ c ∷ d ∷ []) + 16 * number 256 (e ∷ f ∷ g ∷ h ∷ [])) * 16909320 / 16777216 % 256 ≡ number 2 (a ∷ b ∷ c ∷ d ∷ e ∷ f ∷ g ∷ h ∷ [])
unfolding number
bits-gathered a b c d e f g h ka kb kc kd ke kf kg kh =
    let v : ℕ = a + 16 * e in
    let w : ℕ = b + 16 * f in
    let x : ℕ = c + 16 * g in
    let y : ℕ = d + 16 * h in
    let low : ℕ = 132104 * v + 264192 * w + 524288 * x in
    let byte : ℕ = v + 2 * w + 4 * x + 8 * y in
    let high : ℕ = w + 258 * x + 66052 * y in
    let product : (number 256 (a ∷ b ∷ c ∷ d ∷ []) + 16 * number 256 (e ∷ f ∷ g ∷ h ∷ [])) * 16909320 ≡ low + 16777216 * (byte + 256 * high) = omega arith in
    ap (λ (n : ℕ). n / 16777216 % 256) product
    ∙ rw (add-mul-div_left low (byte + 256 * high) {y = 16777216} (omega arith), div-eq_of_lt {n = low} {m = 16777216} (omega arith), zero-add, add-mul-mod_self_left byte 256 high, mod-eq_of_lt {n = byte} {m = 256} (omega arith)) (omega arith)

-- eight items, one after the other
run-eight : (xs : List ℕ) (at : ℕ) → at + 8 ≤ length xs
    → take 8 (drop at xs) ≡ get_or xs at 0 ∷ get_or xs (at + 1) 0 ∷ get_or xs (at + 2) 0 ∷ get_or xs (at + 3) 0 ∷ get_or xs (at + 4) 0 ∷ get_or xs (at + 5) 0 ∷ get_or xs (at + 6) 0 ∷ get_or xs (at + 7) 0 ∷ []
run-eight xs at h =
    rw (run-next xs 7 at (at + 1) 0 (omega arith) (omega arith), run-next xs 6 (at + 1) (at + 2) 0 (omega arith) (omega arith), run-next xs 5 (at + 2) (at + 3) 0 (omega arith) (omega arith), run-next xs 4 (at + 3) (at + 4) 0 (omega arith) (omega arith), run-next xs 3 (at + 4) (at + 5) 0 (omega arith) (omega arith), run-next xs 2 (at + 5) (at + 6) 0 (omega arith) (omega arith), run-next xs 1 (at + 6) (at + 7) 0 (omega arith) (omega arith), run-next xs 0 (at + 7) (at + 8) 0 (omega arith) (omega arith))

-- the product at eight bits of a block
pub block-byte : (bits : List ℕ) (at : ℕ) → at + 8 ≤ 256 → Block bits
    → (number 256 (get_or bits at 0 ∷ get_or bits (at + 1) 0 ∷ get_or bits (at + 2) 0 ∷ get_or bits (at + 3) 0 ∷ []) + 16 * number 256 (get_or bits (at + 4) 0 ∷ get_or bits (at + 5) 0 ∷ get_or bits (at + 6) 0 ∷ get_or bits (at + 7) 0 ∷ [])) * 16909320 / 16777216 % 256
    ≡ number 2 (take 8 (drop at bits))
block-byte bits at h block =
    rw (run-eight bits at (omega (arith, block.long)))
    (bits-gathered _ _ _ _ _ _ _ _ (block.small at (omega arith)) (block.small (at + 1) (omega arith)) (block.small (at + 2) (omega arith)) (block.small (at + 3) (omega arith)) (block.small (at + 4) (omega arith)) (block.small (at + 5) (omega arith)) (block.small (at + 6) (omega arith)) (block.small (at + 7) (omega arith)))

-- ---- the bits of a block, one after the other

module _ (bits : List ℕ) (at : ℕ) (inside : at + 256 ≤ length bits) where
  pub block-next : (block : List ℕ) (i v : ℕ) → i < 256 → length block ≡ 256 → take i block ≡ take i (drop at bits) → v ≡ get_or bits (at + i) 0 → take (i + 1) (set block i v) ≡ take (i + 1) (drop at bits)
  block-next block i v h long front e =
      take_set_next block i v (omega (arith, long))
      ∙ ap (λ (l : List ℕ). l ++ (v ∷ [])) front
      ∙ ap (λ (x : ℕ). take i (drop at bits) ++ (x ∷ [])) (e ∙ sym (get_or-drop at bits i 0))
      ∙ sym (rw add-one (take-suc (drop at bits) i 0 (rw length-drop (omega arith))))

  pub block-end : (block : List ℕ) (i : ℕ) → i ≤ 256 → 256 ≤ i → length block ≡ 256 → take i block ≡ take i (drop at bits) → block ≡ take 256 (drop at bits)
  block-end block i most least long front =
      let e : i ≡ 256 = omega arith in
      sym (take_all i block (omega (arith, long))) ∙ front ∙ ap (λ (n : ℕ). take n (drop at bits)) e

-- ---- a block of signs

module _ (signs : List ℤ) (at : ℕ) (inside : at + 256 ≤ length signs) where
  bit-small : (z : ℤ) → bit_of_sign z < 2
  bit-small z = either (is_plus z)
    where
      either : (b : Bool) → cond b 1 0 < 2
      either true = omega arith
      either false = omega arith

  pub signs-block : Block (take 256 (drop at (map bit_of_sign signs)))
  signs-block =
      record {
        long = length-take-le 256 (drop at (map bit_of_sign signs)) (simp (length-drop, length-map) (omega arith));
        small = λ i h. rw (get_or-take 256 (drop at (map bit_of_sign signs)) i 0 h, get_or-drop at (map bit_of_sign signs) i 0, bit_at signs (at + i)) (bit-small (get_or signs (at + i) (pos 0)));
      }

-- ---- a byte of a block is a byte of the signs

run_inside : (n j m : ℕ) (l : List ℕ) → j + n ≤ m → take n (drop j (take m l)) ≡ take n (drop j l)
run_inside n zero m l h = take-take n m l (omega (arith, h))
run_inside n (suc j) zero l h = absurd (omega (arith, h))
run_inside n (suc j) (suc m) [] h = refl
run_inside n (suc j) (suc m) (x ∷ l) h = run_inside n j m l (omega (arith, h))

pub block_at : (bits block : List ℕ) (k j v : ℕ) → block ≡ take 256 (drop (8 * k) bits) → j < 32 → v ≡ number 2 (take 8 (drop (8 * j) block)) → v ≡ number 2 (take 8 (drop (8 * (k + j)) bits))
block_at bits block k j v is h e =
    let at : 8 * k + 8 * j ≡ 8 * (k + j) = omega arith in
    e
    ∙ ap (λ (l : List ℕ). number 2 (take 8 (drop (8 * j) l))) is
    ∙ ap (number 2) (run_inside 8 (8 * j) 256 (drop (8 * k) bits) (omega arith) ∙ ap (take 8) (drop-drop (8 * j) (8 * k) bits))
    ∙ ap (λ (m : ℕ). number 2 (take 8 (drop m bits))) at

-- the same of the n-th block
pub whole_block_at : (bits block : List ℕ) (n j v : ℕ) → block ≡ take 256 (drop (256 * n) bits) → j < 32 → v ≡ number 2 (take 8 (drop (8 * j) block)) → v ≡ number 2 (take 8 (drop (8 * (32 * n + j)) bits))
whole_block_at bits block n j v is h e =
    let at : 256 * n ≡ 8 * (32 * n) = omega arith in
    block_at bits block (32 * n) j v (is ∙ ap (λ (m : ℕ). take 256 (drop m bits)) at) h e
