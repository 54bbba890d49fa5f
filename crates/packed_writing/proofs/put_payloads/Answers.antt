-- `packed_writing::put_payloads` meets its contract: two parts of the memory, one behind the other. Assumes nothing.
use Prim.Native.Nat.{ℕ, ◌+◌, ◌*◌}
use mathlib.Core.Path.{◌≡◌, sym, ap, ◌∙◌, subst}
use mathlib.Core.List.{List, ◌++◌}
use native.Mathlib.Omega.{arith}
use lib.ListN.{length}
use Rattle.radius.specs.Codec.{payload_for}
use Rattle.packed_writing.specs.Inner.{CodesReady}
use Rattle.packed.proofs.Headers.{product-most}
use Rattle.radius.proofs.Widths.{width-most}
use Rattle.lists.proofs.Stores.{lent_back, front-again, store_both}
use Rattle.packed_writing.proofs.Writing.{radii-pass}
use Rattle.packed_writing.proofs.put_payloads.Goals.{After-width_of}
use Rattle.packed_writing.proofs.put_payloads.Goals as goal

-- the radii's bytes and the rest
body : (c : goal.After-width_of) → length c.args.out.now ≡ c.width_of.result * length c.args.radii.now + c.requires.rest
body c = c.requires.exact ∙ ap (λ (n : ℕ). n * length c.args.radii.now + c.requires.rest) (sym c.width_of.ensures)

pub overflow_mul-body : goal.overflow_mul-body
overflow_mul-body c = let s = c.requires in let w = width-most c.args.profile in let p = product-most c.width_of.result (length c.args.radii.now) 4 2048 (omega (arith, w, c.width_of.ensures)) s.radii_most in let e = body ((goal.at.overflow_mul-body c).After-width_of) in omega (arith, p, e)

pub slice_bounds-put_codes-count : goal.slice_bounds-put_codes-count
slice_bounds-put_codes-count c = let s = c.requires in let w = width-most c.args.profile in let p = product-most c.width_of.result (length c.args.radii.now) 4 2048 (omega (arith, w, c.width_of.ensures)) s.radii_most in let e = body ((goal.at.slice_bounds-put_codes-count c).After-width_of) in omega (arith, p, e)

pub slice_bounds-put_codes-start : goal.slice_bounds-put_codes-start
slice_bounds-put_codes-start c = let s = c.requires in let w = width-most c.args.profile in let p = product-most c.width_of.result (length c.args.radii.now) 4 2048 (omega (arith, w, c.width_of.ensures)) s.radii_most in let e = body ((goal.at.slice_bounds-put_codes-start c).After-width_of) in omega (arith, p, e)

pub put_codes-requires : goal.put_codes-requires
put_codes-requires c = subst (λ (n : ℕ). CodesReady c.args.indices.now c.args.bits c.args.signs.now n) (sym (lent_back c.args.out.now (c.width_of.result * length c.args.radii.now) c.requires.rest (body (goal.at.put_codes-requires c).After-width_of))) c.requires.codes

pub slice_bounds-put_radii-end : goal.slice_bounds-put_radii-end
slice_bounds-put_radii-end c = let e = body (goal.at.slice_bounds-put_radii-end c).After-width_of in omega (arith, e, c.put_codes.auto)

pub put_radii-requires : goal.put_radii-requires
put_radii-requires c = let s = c.requires in
    let e = body (goal.at.put_radii-requires c).After-width_of in
    radii-pass c.args.radii.now c.args.profile _ s.known (front-again c.args.out.now _ (c.width_of.result * length c.args.radii.now) (omega (arith, e)) ∙ ap (λ (n : ℕ). n * length c.args.radii.now) c.width_of.ensures) s.radii_good

pub returns : goal.returns
returns c = let e = body (goal.at.returns c).After-width_of in record {
  is = c.put_radii.ensures.is;
  left = store_both c.args.out.now c.put_radii.new.out c.put_codes.new.out (c.width_of.result * length c.args.radii.now) (omega (arith, e))
      ∙ ap (λ (l : List ℕ). l ++ c.put_codes.new.out) c.put_radii.ensures.left
      ∙ ap (λ (l : List ℕ). payload_for c.args.profile c.args.radii.now ++ l) c.put_codes.ensures;
}
