-- The items that a loop reads from a payload: the first that offends, and a list of them all; and the first bad radius of a payload. Assumes nothing.
use Prim.Native.Nat.{ℕ, zero, suc, ◌*◌, ◌/◌, ◌≤◌, ◌<◌, suc-le-suc}
use mathlib.Core.Path.{◌≡◌, refl, sym, ap, ◌∙◌}
use mathlib.Core.Bool.{Bool, true, false}
use mathlib.Core.List.{List, [], ◌∷◌, map}
use native.Mathlib.Nat.{le_of_suc-le-suc}
use native.Mathlib.Omega.{arith}
use lib.Ieee.{Float}
use lib.ListN.{length, get_or}
use lib.Seq.{ext_get_or}
use Rattle.digits.specs.Inner.{two_at, four_at}
use Rattle.error.specs.Answer.{place}
use Rattle.error.proofs.Places.{place-nil, place-bad, place-good}
use Rattle.float.specs.Bytes.{of_le_bytes}
use Rattle.lists.specs.Chunks.{chunks}
use Rattle.lists.proofs.Chunks.{chunks-get_or, length-chunks}
use Rattle.lists.proofs.Stores.{run-two, run-four}
use Rattle.radius.specs.Codec.{width_of, radii_for}
use Rattle.radius.specs.Firsts.{first_bad_payload_of}
use Rattle.radius.specs.Linear.{linear_radius}
use Rattle.radius.specs.Radii.{bad_radius}
use Rattle.radius.specs.declared.Range.{Range}
use Rattle.radius.specs.declared.RadiusCodecProfileV1.{RadiusCodecProfileV1}
use Rattle.radius.specs.declared.RadiusCodecProfileV1.TheVariants.{F32, BlockLinearU16, BlockLogU8}

-- ---- the first item that offends: none before it does, and it does or is past the end

first-place : {A : Type 0} (bad : A → Bool) (xs : List A) (i : ℕ) (d : A) → i ≤ length xs → ((k : ℕ) → k < i → bad (get_or xs k d) ≡ false) → (i < length xs → bad (get_or xs i d) ≡ true) → i ≡ place bad xs
first-place bad [] i d most before here = omega (arith, place-nil bad)
first-place bad (x ∷ xs) zero d most before here = sym (place-bad bad x xs (here (omega arith)))
first-place bad (x ∷ xs) (suc i) d most before here =
    ap suc (first-place bad xs i d (le_of_suc-le-suc most) (λ k l. before (suc k) (suc-le-suc l)) (λ l. here (suc-le-suc l)))
    ∙ sym (place-good bad x xs (before 0 (omega arith)))

-- ---- items that a loop reads one by one

module _ {B : Type 0} (items : List B) (count : ℕ) (at : ℕ → B) (sized : length items ≡ count) (same : (k : ℕ) (d : B) → k < count → get_or items k d ≡ at k) where
  first-read : (bad : B → Bool) (i : ℕ) → i ≤ count → ((k : ℕ) → k < i → bad (at k) ≡ false) → (i < count → bad (at i) ≡ true) → i ≡ place bad items
  first-read bad i most before here =
      first-place bad items i (at i) (omega arith)
      (λ k l. ap bad (same k (at i) (omega arith)) ∙ before k l)
      (λ l. ap bad (same i (at i) (omega arith)) ∙ here (omega arith))

  all-read : (out : List B) (d : B) → length out ≡ count → ((k : ℕ) → k < count → get_or out k d ≡ at k) → out ≡ items
  all-read out d long read = ext_get_or d out items (long ∙ sym sized) (λ k l. read k (omega arith) ∙ sym (same k d (omega arith)))

-- ---- floats of four bytes each

module _ (bytes : List ℕ) (count : ℕ) (room : 4 * count ≤ length bytes) where
  float-at : (k : ℕ) (d : Float) → k < count → get_or (map of_le_bytes (chunks 4 count bytes)) k d ≡ of_le_bytes (four_at bytes (4 * k))
  float-at k d h = chunks-get_or of_le_bytes 4 count k bytes d h ∙ ap of_le_bytes (run-four {A = ℕ} bytes (4 * k) 0 (omega arith))

  pub first-float : (i : ℕ) → i ≤ count → ((k : ℕ) → k < i → bad_radius (of_le_bytes (four_at bytes (4 * k))) ≡ false) → (i < count → bad_radius (of_le_bytes (four_at bytes (4 * i))) ≡ true) → i ≡ place bad_radius (map of_le_bytes (chunks 4 count bytes))
  first-float = first-read _ count (λ k. of_le_bytes (four_at bytes (4 * k))) (length-chunks of_le_bytes 4 count bytes) float-at bad_radius

  pub all-floats : (out : List Float) (d : Float) → length out ≡ count → ((k : ℕ) → k < count → get_or out k d ≡ of_le_bytes (four_at bytes (4 * k))) → out ≡ map of_le_bytes (chunks 4 count bytes)
  all-floats = all-read _ count (λ k. of_le_bytes (four_at bytes (4 * k))) (length-chunks of_le_bytes 4 count bytes) float-at

-- ---- radii of two bytes each within a range

module _ (range : Range) (bytes : List ℕ) (count : ℕ) (room : 2 * count ≤ length bytes) where
  linear-at : (k : ℕ) (d : Float) → k < count → get_or (map (linear_radius range) (chunks 2 count bytes)) k d ≡ linear_radius range (two_at bytes (2 * k))
  linear-at k d h = chunks-get_or (linear_radius range) 2 count k bytes d h ∙ ap (linear_radius range) (run-two {A = ℕ} bytes (2 * k) 0 (omega arith))

  pub first-linear : (i : ℕ) → i ≤ count → ((k : ℕ) → k < i → bad_radius (linear_radius range (two_at bytes (2 * k))) ≡ false) → (i < count → bad_radius (linear_radius range (two_at bytes (2 * i))) ≡ true) → i ≡ place bad_radius (map (linear_radius range) (chunks 2 count bytes))
  first-linear = first-read _ count (λ k. linear_radius range (two_at bytes (2 * k))) (length-chunks (linear_radius range) 2 count bytes) linear-at bad_radius

  pub all-linear : (out : List Float) (d : Float) → length out ≡ count → ((k : ℕ) → k < count → get_or out k d ≡ linear_radius range (two_at bytes (2 * k))) → out ≡ map (linear_radius range) (chunks 2 count bytes)
  all-linear = all-read _ count (λ k. linear_radius range (two_at bytes (2 * k))) (length-chunks (linear_radius range) 2 count bytes) linear-at

-- ---- of a payload of whole radii

pub first-bad-whole : (profile : RadiusCodecProfileV1) (range : Range) (payload : List ℕ) (count : ℕ) → length payload ≡ width_of profile * count → first_bad_payload_of payload profile range ≡ place bad_radius (radii_for profile count range payload)
unfolding first_bad_payload_of
first-bad-whole F32 range payload count h = let e : length payload / 4 ≡ count = omega arith in rw e
first-bad-whole BlockLinearU16 range payload count h = let e : length payload / 2 ≡ count = omega arith in rw e
first-bad-whole BlockLogU8 range payload count h = refl

-- ---- no payload of the profile that is refused has a radius

pub first-bad-log : (payload : List ℕ) (range : Range) → first_bad_payload_of payload BlockLogU8 range ≡ 0
unfolding first_bad_payload_of place
first-bad-log payload range = refl
