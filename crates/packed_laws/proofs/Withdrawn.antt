-- What document 02's request b) says of records holds: a record of no bytes is withdrawn, and one that has bytes is answered as it was. Assumes nothing.
use Prim.Native.Nat.{ℕ, ◌≤◌}
use mathlib.Core.Path.{◌≡◌, refl, sym, ap, ◌∙◌}
use mathlib.Core.Bool.{false, true≢false}
use mathlib.Core.List.{List, [], ◌∷◌}
use native.Mathlib.Omega.{arith}
use borrow.Author.Tests.{eqb-true, lt-ltb}
use lib.IntN.{ℤ}
use lib.ListN.{length}
use lib.Ieee.{Float}
use Rattle.error.specs.Answer.{Answer, value, refused, withdrawn, first}
use Rattle.packed.specs.declared.Code.{Code}
use Rattle.packed.specs.declared.Header.{Header}
use Rattle.packed.specs.Layout.{radii_bytes, indices_bytes, signs_bytes, header_of}
use Rattle.packed.specs.Reading.{is_withdrawn, record_checks, read_record_of, part_where, radii_part_of, indices_part_of, signs_part_of, read_radii_of, read_indices_of, read_signs_of}
use Rattle.packed.proofs.Withdrawn.{some_bytes, unless-some, read-withdrawn}
use Rattle.packed.proofs.Accepted.{accepted-some}
use Rattle.packed_writing.specs.Writing.{header_bytes, record_of}
use Rattle.packed_laws.specs.Withdrawn.{WithdrawnRecords}
use Rattle.packed_laws.proofs.Inputs.{written}

no_bytes : (bytes : List ℕ) → length bytes ≡ 0 → bytes ≡ []
no_bytes [] e = refl
no_bytes (b ∷ bytes) e = absurd (omega (arith, e))

read_kept : (bytes : List ℕ) → 1 ≤ length bytes → read_record_of bytes ≡ first (record_checks bytes) (value (header_of bytes))
unfolding read_record_of
read_kept bytes h = unless-some bytes _ (some_bytes bytes h)

short : (bytes : List ℕ) → 1 ≤ length bytes → length bytes ≤ 5 → read_record_of bytes ≡ refused 13 (length bytes)
short bytes h k = read_kept bytes h ∙ rw (lt-ltb (length bytes) 6 (omega (arith, k))) refl

module _ (bytes : List ℕ) (h : 1 ≤ length bytes) where
  radii_part_kept : radii_part_of bytes ≡ part_where (first (record_checks bytes) (value (header_of bytes))) (radii_bytes bytes)
  unfolding radii_part_of
  radii_part_kept = ap (λ (answer : Answer Header). part_where answer (radii_bytes bytes)) (read_kept bytes h)

  indices_part_kept : indices_part_of bytes ≡ part_where (first (record_checks bytes) (value (header_of bytes))) (indices_bytes bytes)
  unfolding indices_part_of
  indices_part_kept = ap (λ (answer : Answer Header). part_where answer (indices_bytes bytes)) (read_kept bytes h)

  signs_part_kept : signs_part_of bytes ≡ part_where (first (record_checks bytes) (value (header_of bytes))) (signs_bytes bytes)
  unfolding signs_part_of
  signs_part_kept = ap (λ (answer : Answer Header). part_where answer (signs_bytes bytes)) (read_kept bytes h)

-- what is written begins with its map byte
written-some : (code : Code) (radii : List Float) (indices : List ℕ) (signs : List ℤ) → is_withdrawn (record_of code radii indices signs) ≡ false
unfolding record_of header_bytes
written-some code radii indices signs = some_bytes (record_of code radii indices signs) (omega arith)

not-both : (bytes : List ℕ) → is_withdrawn bytes ≡ false → read_record_of bytes ≡ withdrawn → ⊥
not-both bytes s e = true≢false (sym (read-withdrawn bytes e) ∙ s)

pub withdrawn-records : WithdrawnRecords
unfolding read_record_of radii_part_of indices_part_of signs_part_of read_radii_of read_indices_of read_signs_of
withdrawn-records = record {
  none = refl;
  only = λ bytes e. no_bytes bytes (eqb-true (length bytes) 0 (read-withdrawn bytes e));
  short = short;
  accepted_not_withdrawn = λ bytes a e. not-both bytes (accepted-some bytes a) e;
  written_not_withdrawn = λ code radii indices signs room bytes told e.
      not-both bytes (ap is_withdrawn (written code radii indices signs room told).made ∙ written-some code radii indices signs) e;
  radii_part = refl;
  indices_part = refl;
  signs_part = refl;
  radii_none = λ room. refl;
  indices_none = λ room. refl;
  signs_none = λ room. refl;
  read_kept = read_kept;
  radii_part_kept = radii_part_kept;
  indices_part_kept = indices_part_kept;
  signs_part_kept = signs_part_kept;
  radii_kept = λ bytes room h. unless-some bytes _ (some_bytes bytes h);
  indices_kept = λ bytes room h. unless-some bytes _ (some_bytes bytes h);
  signs_kept = λ bytes room h. unless-some bytes _ (some_bytes bytes h);
}
