-- What bytes of which so many bits are used are answered, case by case. Assumes nothing.
use Prim.Native.Nat.{ℕ, ◌-◌, ◌/◌, ◌%◌, ◌^◌}
use mathlib.Core.Path.{◌≡◌}
use mathlib.Core.List.{List}
use lib.ListN.{length, get_or}
use borrow.Author.Tests.{eq-eqb, ne_eqb}
use Rattle.error.specs.Answer.{value, refused}
use Rattle.bitpack.specs.Padding.{bytes_for, bad_padding, validate_padding_zero_of}

pub padding-length : (packed : List ℕ) (used : ℕ) → (length packed ≡ bytes_for used → ⊥) → validate_padding_zero_of packed used ≡ refused 13 (length packed)
unfolding validate_padding_zero_of
padding-length packed used h = simp (ne_eqb _ _ h)

module _ (packed : List ℕ) (used : ℕ) (right : length packed ≡ bytes_for used) where
  -- a last byte that is used whole
  pub padding-whole : used % 8 ≡ 0 → validate_padding_zero_of packed used ≡ value tt
  unfolding validate_padding_zero_of bad_padding
  padding-whole h = simp (eq-eqb _ _ right, eq-eqb _ _ h)

  pub padding-wrong : (used % 8 ≡ 0 → ⊥) → (get_or packed (length packed - 1) 0 / 2 ^ (used % 8) ≡ 0 → ⊥) → validate_padding_zero_of packed used ≡ refused 14 (length packed - 1)
  unfolding validate_padding_zero_of bad_padding
  padding-wrong h k = simp (eq-eqb _ _ right, ne_eqb _ _ h, ne_eqb _ _ k)

  pub padding-right : (used % 8 ≡ 0 → ⊥) → get_or packed (length packed - 1) 0 / 2 ^ (used % 8) ≡ 0 → validate_padding_zero_of packed used ≡ value tt
  unfolding validate_padding_zero_of bad_padding
  padding-right h k = simp (eq-eqb _ _ right, ne_eqb _ _ h, eq-eqb _ _ k)
