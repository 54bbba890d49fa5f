-- Radii in the second half of an output become pairs in all of it, in place: after i pairs the front holds these, and the radii from pair i on still stand where
-- they stood. How it starts, one turn, and its end. Assumes nothing.
use Prim.Native.Nat.{ℕ, ◌+◌, ◌-◌, ◌*◌, ◌/◌, ◌≤◌, ◌<◌}
use mathlib.Core.Path.{◌≡◌, refl, sym, ap, ◌∙◌}
use mathlib.Core.Bool.{true, false}
use mathlib.Core.List.{List, ◌++◌, append-nil}
use native.Mathlib.Omega.{arith}
use lib.ListN.{length, get_or, take, drop, set, length-set, length-drop}
use lib.Seq.{get_or-drop, get_or-set_other, drop_at, drop-length, length-take-le}
use borrow.Rule.Slice.PartMut.{put_mid, post_of, Post-is}
use lib.Ieee.{Float, nan, binary32, mul}
use Rattle.float.specs.Constants.{pos_zero}
use Rattle.rounding.specs.Butterfly.{from}
use Rattle.rounding.proofs.Lists.{get_d_any}
use Rattle.bitpack.specs.Packing.{indices_in}
use Rattle.radius.specs.Codec.{radii_for}
use Rattle.radius.specs.declared.Range.{Range}
use Rattle.radius.specs.declared.RadiusCodecProfileV1.{RadiusCodecProfileV1}
use Rattle.polar.specs.Polar.{value_at, along, across, laid, decoded_pairs}
use Rattle.polar.proofs.Loops.{laid-start, laid_more, laid_end}
use Rattle.polar_blocks.specs.Payload.{fits_pairs, payload_pairs_of}
use Rattle.polar_blocks.specs.Inner.{index_at}
use Rattle.polar_blocks.proofs.Indices.{index-digit}

-- `held` is what the output held before
pub record Spread (directions : List Float) (indices : List ℕ) (bits pairs : ℕ) (held : List Float) (i : ℕ) (out : List Float) : Type 0 where
  pub within : i ≤ pairs
  pub long : length out ≡ length held
  pub front : let is = indices_in bits pairs indices in let radii = drop pairs held in decoded_pairs directions is radii ≡ take (2 * i) out ++ laid (along directions is radii) (across directions is radii) (from i (pairs - i))
  pub left : (j : ℕ) → i ≤ j → get_or out (pairs + j) nan ≡ get_or held (pairs + j) nan

module _ (directions : List Float) (indices : List ℕ) (bits pairs : ℕ) (held : List Float) (double : length held ≡ 2 * pairs) where
  abbrev radii : List Float
  radii = drop pairs held

  abbrev is : List ℕ
  is = indices_in bits pairs indices

  radii-count : length radii ≡ pairs
  radii-count = rw length-drop (omega arith)

  pub spread-start : Spread directions indices bits pairs held 0 held
  unfolding decoded_pairs
  spread-start =
      record {
        within = omega arith;
        long = refl;
        front = ap (λ (n : ℕ). laid (along directions is radii) (across directions is radii) (from 0 n)) radii-count ∙ laid-start _ _ pairs held;
        left = λ j h. refl;
      }

  pub spread_end : (i : ℕ) (out : List Float) → pairs ≤ i → Spread directions indices bits pairs held i out → out ≡ decoded_pairs directions is radii
  spread_end i out h s = laid_end _ _ pairs i out h (omega (arith, s.long, double, h)) s.front

  module _ (i : ℕ) (out : List Float) (h : i < pairs) (s : Spread directions indices bits pairs held i out) where
    -- the radius that is read is that of the pair
    read : get_or out (pairs + i) nan ≡ value_at radii i
    read = s.left i (omega arith) ∙ sym (get_or-drop pairs held i nan) ∙ get_d_any radii nan pos_zero i (rw radii-count h)

    -- and its direction the one that its index names
    product : (v : Float) (w : ℕ → Float) → v ≡ w (index_at bits indices i) → mul binary32 (get_or out (pairs + i) nan) v ≡ mul binary32 (value_at radii i) (w (get_or is i 0))
    product v w e = ap (λ (u : Float). mul binary32 u v) read ∙ ap (mul binary32 (value_at radii i)) (e ∙ ap w (index-digit bits pairs indices i h))

    pub spread-more : (c t : Float) → c ≡ value_at directions (2 * index_at bits indices i) → t ≡ value_at directions (2 * index_at bits indices i + 1)
        → Spread directions indices bits pairs held (i + 1) (set (set out (2 * i) (mul binary32 (get_or out (pairs + i) nan) c)) (2 * i + 1) (mul binary32 (get_or out (pairs + i) nan) t))
    spread-more c t e f =
        record {
          within = omega arith;
          long = simp length-set s.long;
          front =
              laid_more _ _ pairs i out _ _ h (omega (arith, s.long, double, h))
              (product c (λ n. value_at directions (2 * n)) e)
              (product t (λ n. value_at directions (2 * n + 1)) f)
              s.front;
          left = λ j g.
              get_or-set_other (set out (2 * i) _) (2 * i + 1) (pairs + j) _ nan (λ z. omega (arith, z, h, g))
              ∙ get_or-set_other out (2 * i) (pairs + j) _ nan (λ z. omega (arith, z, h, g))
              ∙ s.left j (omega (arith, g));
        }

-- ---- radii that are restored into the second half

pub half-held : (held ys : List Float) (pairs : ℕ) → length held ≡ 2 * pairs → drop pairs (put_mid pairs (length held - pairs) held ys) ≡ ys
half-held held ys pairs double =
    drop_at (take pairs held) (ys ++ post_of pairs (length held - pairs) held) pairs (length-take-le pairs held (omega (arith, double)))
    ∙ ap (λ (l : List Float). ys ++ l) (Post-is pairs (length held) held (omega (arith, double)) ∙ drop-length held)
    ∙ append-nil ys

pub half-long : (held : List Float) (pairs : ℕ) → length held ≡ 2 * pairs → length (take (length held - pairs) (drop pairs held)) ≡ pairs
half-long held pairs double = length-take-le (length held - pairs) (drop pairs held) (rw length-drop (omega arith)) ∙ omega (arith, double)

-- ---- what `payload_pairs` answers and leaves

module _ (directions : List Float) (profile : RadiusCodecProfileV1) (range : Range) (radii indices : List ℕ) (bits : ℕ) (out : List Float) where
  pub pairs-left : fits_pairs profile radii indices bits (length out) ≡ false
      → (false ≡ fits_pairs profile radii indices bits (length out)) × (out ≡ payload_pairs_of directions profile range radii indices bits out)
  unfolding payload_pairs_of
  pairs-left e = (sym e, rw e)

  pub pairs_made : (new : List Float) → fits_pairs profile radii indices bits (length out) ≡ true
      → new ≡ decoded_pairs directions (indices_in bits (length out / 2) indices) (radii_for profile (length out / 2) range radii)
      → (true ≡ fits_pairs profile radii indices bits (length out)) × (new ≡ payload_pairs_of directions profile range radii indices bits out)
  unfolding payload_pairs_of
  pairs_made new e made = (sym e, made ∙ rw e)
