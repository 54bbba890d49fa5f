-- A withdrawn position and the answers that stand behind it: where a record has bytes the answer stands, and an answer that is a value or a refusal says that it has.
-- Assumes nothing.
use Prim.Native.Nat.{ℕ, ◌≤◌}
use mathlib.Core.Path.{◌≡◌, refl, sym, ap}
use mathlib.Core.Bool.{Bool, true, false, cond}
use mathlib.Core.List.{List}
use native.Mathlib.Omega.{arith}
use borrow.Author.Tests.{ne_eqb}
use lib.ListN.{length}
use Rattle.error.specs.Answer.{Answer, value, refused, withdrawn, Check, first}
use Rattle.error.proofs.Chains.{value-not-withdrawn, refused-not-withdrawn, first-not_withdrawn}
use Rattle.packed.specs.declared.Header.{Header}
use Rattle.packed.specs.Layout.{header_of}
use Rattle.packed.specs.Reading.{is_withdrawn, unless_withdrawn, record_checks, read_record_of}

-- a record that has bytes
pub some_bytes : (bytes : List ℕ) → 1 ≤ length bytes → is_withdrawn bytes ≡ false
some_bytes bytes h = ne_eqb (length bytes) 0 (λ z. omega (arith, z, h))

module _ {A : Type 0} (bytes : List ℕ) (a : Answer A) where
  pub unless-none : is_withdrawn bytes ≡ true → unless_withdrawn bytes a ≡ withdrawn
  unless-none e = ap (λ (t : Bool). cond t withdrawn a) e

  pub unless-some : is_withdrawn bytes ≡ false → unless_withdrawn bytes a ≡ a
  unless-some e = ap (λ (t : Bool). cond t withdrawn a) e

  pub unless-value : {x : A} → unless_withdrawn bytes a ≡ value x → (is_withdrawn bytes ≡ false) × (a ≡ value x)
  unless-value {x} e = split (is_withdrawn bytes) e
    where
      split : (t : Bool) → cond t withdrawn a ≡ value x → (t ≡ false) × (a ≡ value x)
      split true f = value-not-withdrawn (sym f)
      split false f = (refl, f)

  pub unless-refused : {n p : ℕ} → unless_withdrawn bytes a ≡ refused n p → (is_withdrawn bytes ≡ false) × (a ≡ refused n p)
  unless-refused {n} {p} e = split (is_withdrawn bytes) e
    where
      split : (t : Bool) → cond t withdrawn a ≡ refused n p → (t ≡ false) × (a ≡ refused n p)
      split true f = refused-not-withdrawn (sym f)
      split false f = (refl, f)

-- a withdrawn answer, of checks with a value at their end, says that there are no bytes
pub unless_withdrawn_lem : {A : Type 0} (bytes : List ℕ) (cs : List Check) (x : A) → unless_withdrawn bytes (first cs (value x)) ≡ withdrawn → is_withdrawn bytes ≡ true
unless_withdrawn_lem bytes cs x e = split (is_withdrawn bytes) e
  where
    split : (t : Bool) → cond t withdrawn (first cs (value x)) ≡ withdrawn → t ≡ true
    split true f = refl
    split false f = absurd (first-not_withdrawn cs (value x) (λ g. value-not-withdrawn g) f)

-- ---- what the reader's answer says of the bytes

module _ (bytes : List ℕ) where
  pub read-passed : {header : Header} → read_record_of bytes ≡ value header → (is_withdrawn bytes ≡ false) × (first (record_checks bytes) (value (header_of bytes)) ≡ value header)
  unfolding read_record_of
  read-passed e = unless-value bytes (first (record_checks bytes) (value (header_of bytes))) e

  pub read-refused : {n p : ℕ} → read_record_of bytes ≡ refused n p → (is_withdrawn bytes ≡ false) × (first (record_checks bytes) (value (header_of bytes)) ≡ refused n p)
  unfolding read_record_of
  read-refused e = unless-refused bytes (first (record_checks bytes) (value (header_of bytes))) e

  pub read-withdrawn : read_record_of bytes ≡ withdrawn → is_withdrawn bytes ≡ true
  unfolding read_record_of
  read-withdrawn e = unless_withdrawn_lem bytes (record_checks bytes) (header_of bytes) e
