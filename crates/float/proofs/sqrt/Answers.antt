-- `float::sqrt` meets its contract: the cases of `RootCases`, and above zero the pattern that `root_pattern` makes. Assumes nothing.
use Rattle.std.proofs.Common.{◌≡◌, ℕ, ◌+◌, ◌*◌, ◌^◌, ◌<◌, true, T, sym, ap, ◌∙◌, subst}
use lib.Ieee.{Float, binary32, fits, nan_bits, of_bits, div}
use Rattle.float.specs.Units.{non_negative, mag}
use Rattle.float.specs.Inner.{significand_of, shift_of}
use Rattle.float.specs.SquareRoot.{NearestRoot, root_pattern, square_root}
use Rattle.float.proofs.Decode.{to_bits-below}
use Rattle.float.proofs.RootCases.{root-of-zero, root-of-infinite, root-of-none, positive-finite, positive-mag, to_bits-positive}
use Rattle.float.proofs.SquareRoot.{square_root-fields, square_root-nearest}
use Rattle.float.proofs.sqrt.Goals.{Then-x-3}
use Rattle.float.proofs.sqrt.Goals as goal

held : (x : Float) → fits binary32 x ≡ true → T (fits binary32 x)
held x e = subst T (sym e) tt

-- the second clause follows from the first
both : (x r : Float) → fits binary32 x ≡ true → r ≡ square_root x → record { value : r ≡ square_root x; nearest : T (non_negative x) → 0 < mag x → NearestRoot x r }
both x r fit e = record { value = e; nearest = λ g h. subst (NearestRoot x) (sym e) (square_root-nearest x (held x fit) g h) }

pub returns-then-x : goal.returns-then-x
unfolding of_bits
returns-then-x c = both c.args.x _ c.well_formed.0.1 (root-of-zero c.args.x c.if-x.true)

pub float_from_bits-t-3 : goal.float_from_bits-t-3
unfolding nan_bits
float_from_bits-t-3 c = tt

-- x is above zero and finite
positive : (c : goal.Then-x-3) → T (non_negative c.args.x) × (0 < mag c.args.x)
unfolding of_bits
positive c =
    (positive-finite c.args.x c.if-x-2.true c.if-x-3.true, positive-mag c.args.x (held c.args.x c.well_formed.0.1) c.if-x-2.true c.if-x-3.true)

pub root_pattern-requires : goal.root_pattern-requires
root_pattern-requires c = let p = positive (goal.at.root_pattern-requires c).Then-x-3 in
    subst (λ (b : ℕ). (0 < b) × (b < 0x7F80_0000)) (sym c.to_bits.ensures) (to_bits-positive c.args.x (held c.args.x c.well_formed.0.1) p.0 p.1, to_bits-below c.args.x (held c.args.x c.well_formed.0.1) p.0)

pub returns-then-x-3 : goal.returns-then-x-3
returns-then-x-3 c = let p = positive (goal.at.returns-then-x-3 c).Then-x-3 in
    both c.args.x c.from_bits.result c.well_formed.0.1
    (c.from_bits.ensures
    ∙ ap (of_bits binary32) (c.root_pattern.ensures ∙ ap (λ (b : ℕ). root_pattern (significand_of b * 2 ^ (shift_of b + 149))) c.to_bits.ensures)
    ∙ sym (square_root-fields c.args.x (held c.args.x c.well_formed.0.1) p.0 p.1))

pub returns-then-x-2 : goal.returns-then-x-2
unfolding of_bits
returns-then-x-2 c = both c.args.x _ c.well_formed.0.1 (root-of-infinite c.args.x c.if-x-2.true c.if-x-3.false)

pub returns : goal.returns
unfolding of_bits div
returns c = both c.args.x _ c.well_formed.0.1 (root-of-none c.args.x c.if-x.false c.if-x-2.false)
