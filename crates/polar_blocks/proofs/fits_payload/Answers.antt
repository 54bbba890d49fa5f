-- `polar_blocks::fits_payload` meets its contract: its tests are those of the definition, in the same order. Assumes nothing.
use Prim.Native.Nat.{◌≤◌}
use native.Mathlib.Nat.{mul-le-mul}
use native.Mathlib.Omega.{arith}
use borrow.Author.Tests.{le-leb, lt-leb, eq-eqb, ne_eqb}
use Rattle.polar_blocks.specs.Payload.{fits_payload}
use Rattle.bitpack.proofs.Lengths.{div_ceil-bytes_for}
use Rattle.radius.proofs.Widths.{width-most}
use Rattle.polar_blocks.proofs.fits_payload.Goals as goal

pub returns-then-pairs-gt2048 : goal.returns-then-pairs-gt2048
unfolding fits_payload
returns-then-pairs-gt2048 c = rw (lt-leb _ 2048 c.if-pairs-gt2048.true)

pub returns-then-bits-lt1 : goal.returns-then-bits-lt1
unfolding fits_payload
returns-then-bits-lt1 c = rw (le-leb _ 2048 c.if-pairs-gt2048.false, lt-leb 1 _ c.if-bits-lt1.true)

pub returns-then-bits-gt16 : goal.returns-then-bits-gt16
unfolding fits_payload
returns-then-bits-gt16 c = rw (le-leb _ 2048 c.if-pairs-gt2048.false, le-leb 1 _ c.if-bits-lt1.false, lt-leb _ 16 c.if-bits-gt16.true)

pub returns-then-is_bad_profile : goal.returns-then-is_bad_profile
unfolding fits_payload
returns-then-is_bad_profile c = rw (le-leb _ 2048 c.if-pairs-gt2048.false, le-leb 1 _ c.if-bits-lt1.false, le-leb _ 16 c.if-bits-gt16.false, ← c.is_bad_profile.ensures, c.if-is_bad_profile.true)

pub overflow_mul-width : goal.overflow_mul-width
overflow_mul-width c = let width : c.width_of-width.result ≤ 4 = rw c.width_of-width.ensures (width-most c.args.profile) in
    record { fits = omega (arith, mul-le-mul width c.if-pairs-gt2048.false) }

pub returns-then-radii-width : goal.returns-then-radii-width
unfolding fits_payload
returns-then-radii-width c = rw
    (le-leb _ 2048 c.if-pairs-gt2048.false, le-leb 1 _ c.if-bits-lt1.false, le-leb _ 16 c.if-bits-gt16.false, ← c.is_bad_profile.ensures, c.if-is_bad_profile.false, ← c.width_of-width.ensures, ne_eqb _ _ c.if-radii-width.true)

pub overflow_mul-used : goal.overflow_mul-used
overflow_mul-used c = record { fits = omega (arith, mul-le-mul c.if-pairs-gt2048.false c.if-bits-gt16.false) }

pub returns : goal.returns
unfolding fits_payload
returns c = rw
    (le-leb _ 2048 c.if-pairs-gt2048.false, le-leb 1 _ c.if-bits-lt1.false, le-leb _ 16 c.if-bits-gt16.false, ← c.is_bad_profile.ensures, c.if-is_bad_profile.false, ← c.width_of-width.ensures, eq-eqb _ _ c.if-radii-width.false, ← div_ceil-bytes_for _, ← c.div_ceil.ensures)
