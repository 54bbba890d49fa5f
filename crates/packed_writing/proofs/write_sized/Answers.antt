-- `packed_writing::write_sized` meets its contract: the checks of the values and of the output's length, then the header and the payloads, each in its part
-- of the memory. Assumes nothing.
use Prim.Native.Nat.{ℕ, ◌+◌, ◌*◌}
use mathlib.Core.Path.{◌≡◌, refl, sym, ap, ◌∙◌}
use mathlib.Core.List.{List, ◌++◌}
use native.Mathlib.Omega.{arith}
use lib.ListN.{length}
use Rattle.error.proofs.Chains.{first-all}
use Rattle.error.specs.Answer.{first, accepted}
use Rattle.error.specs.Outcomes.{says}
use Rattle.error.proofs.Answers.{both-refused, both-value}
use Rattle.bitpack.specs.Padding.{bytes_for}
use Rattle.radius.specs.Codec.{width_of, range_for}
use Rattle.radius.specs.declared.Range.{Range}
use Rattle.packed.specs.Layout.{header_length}
use Rattle.packed_size.specs.Size.{map_for}
use Rattle.packed_writing.specs.Writing.{header_bytes, record_of, value_checks}
use Rattle.lists.proofs.Stores.{lent_back, front-again, store_both}
use Rattle.packed_writing.proofs.Written.{fields-sized, fields-needed, write-values, write-no-room, write-value}
use borrow.Author.Rules.{rules}
use Rattle.error.proofs.Clauses.{said_left}
use Rattle.error.proofs.Passed.{passed_on}
use Rattle.packed_writing.proofs.write_sized.Goals.{After-header_length-head, In_ok-check_values}
use Rattle.packed_writing.proofs.write_sized.Goals as goal

-- the values have passed
values : (c : goal.In_ok-check_values) → let a = c.args in first (value_checks a.code.profile a.code.bits a.code.norm a.radii.now a.indices.now a.signs.now) accepted ≡ accepted
values c = sym c.check_values.ensures ∙ ap says c.in_ok-check_values.was

head-is : (c : goal.After-header_length-head) → let a = c.args in c.header_length-head.result ≡ header_length (map_for a.code.profile a.code.mode a.code.norm)
head-is c = c.header_length-head.ensures ∙ ap header_length c.map_for.ensures

-- the output has room for the header and the payloads
out-long : (c : goal.After-header_length-head) → let a = c.args in length a.out.now ≡ c.header_length-head.result + (width_of a.code.profile * length a.radii.now + (bytes_for (length a.indices.now * a.code.bits) + bytes_for (length a.signs.now)))
out-long c =
    let e = c.if-out-need.false in
    let n = c.requires.1 in
    let f = fields-needed c.args.code (length c.args.radii.now) (length c.args.indices.now) (length c.args.signs.now) c.requires.0 in
    let h = c.header_length-head.ensures ∙ ap header_length c.map_for.ensures in
    omega (arith, e, n, f, h)

pub check_values-requires : goal.check_values-requires
check_values-requires c = (fields-sized c.args.code (length c.args.radii.now) (length c.args.indices.now) (length c.args.signs.now) c.requires.0).known

pub returns-in_err-check_values : goal.returns-in_err-check_values
returns-in_err-check_values c = rw (passed_on c.from_residual.result c.from_residual.ensures.1) (said_left (both-refused _ _ (write-values c.args.code c.args.radii.now c.args.indices.now c.args.signs.now (length c.args.out.now) c.requires.0 (sym c.in_err-check_values.ensures))))

pub returns-then-out-need : goal.returns-then-out-need
returns-then-out-need c = said_left (both-refused _ _ (write-no-room c.args.code c.args.radii.now c.args.indices.now c.args.signs.now (length c.args.out.now) c.requires.0 (values (goal.at.returns-then-out-need c).In_ok-check_values) c.requires.1 c.if-out-need.true))

pub slice_bounds-put_payloads-count : goal.slice_bounds-put_payloads-count
slice_bounds-put_payloads-count c = let e = out-long (goal.at.slice_bounds-put_payloads-count c).After-header_length-head in omega (arith, e)

pub slice_bounds-put_payloads-start : goal.slice_bounds-put_payloads-start
slice_bounds-put_payloads-start c = let e = out-long (goal.at.slice_bounds-put_payloads-start c).After-header_length-head in omega (arith, e)

pub put_payloads-range-requires : goal.put_payloads-range-requires
put_payloads-range-requires c = let n = length c.args.radii.now in
    let rest = bytes_for (length c.args.indices.now * c.args.code.bits) + bytes_for (length c.args.signs.now) in
    let z = fields-sized c.args.code (length c.args.radii.now) (length c.args.indices.now) (length c.args.signs.now) c.requires.0 in
    let all = first-all (value_checks c.args.code.profile c.args.code.bits c.args.code.norm c.args.radii.now c.args.indices.now c.args.signs.now) accepted (values (goal.at.put_payloads-range-requires c).In_ok-check_values) in
    record {
      known = z.known;
      radii_most = z.radii_most;
      radii_good = all.1.0;
      rest = rest;
      exact = lent_back c.args.out.now c.header_length-head.result (width_of c.args.code.profile * n + rest) (let e = out-long (goal.at.put_payloads-range-requires c).After-header_length-head in omega (arith, e));
      codes = record { codes = z.codes; indices_good = all.1.1.1.0; signs_good = all.1.1.1.1.0; exact = refl };
    }

pub slice_bounds-put_header-end : goal.slice_bounds-put_header-end
slice_bounds-put_header-end c = let e = out-long (goal.at.slice_bounds-put_header-end c).After-header_length-head in search rules

pub put_header-requires : goal.put_header-requires
put_header-requires c = front-again c.args.out.now _ c.header_length-head.result (let e = out-long (goal.at.put_header-requires c).After-header_length-head in omega (arith, e))
    ∙ head-is (goal.at.put_header-requires c).After-header_length-head

pub returns : goal.returns
unfolding record_of
returns c = said_left (let a = c.args in
    let payload : List ℕ = c.put_payloads-range.new.out in
    both-value _ _ _ (write-value a.code a.radii.now a.indices.now a.signs.now (length a.out.now) c.requires.0 (values (goal.at.returns c).In_ok-check_values) (c.if-out-need.false ∙ c.requires.1))
    (store_both a.out.now c.put_header.new.out payload c.header_length-head.result (let e = out-long (goal.at.returns c).After-header_length-head in omega (arith, e))
    ∙ ap (λ (l : List ℕ). l ++ payload) c.put_header.ensures
    ∙ ap (λ (r : Range). header_bytes a.code r ++ payload) c.put_payloads-range.ensures.is
    ∙ ap (λ (l : List ℕ). header_bytes a.code (range_for a.code.profile a.radii.now) ++ l) c.put_payloads-range.ensures.left))
