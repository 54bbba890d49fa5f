-- `packed_writing::put_header` meets its contract: six bytes, the range, the projections and the norm, one behind the other. Assumes nothing.
use Prim.Native.Nat.{ℕ, ◌+◌, ◌-◌}
use mathlib.Core.Path.{◌≡◌, ap, ◌∙◌}
use mathlib.Core.List.{List, [], ◌∷◌, ◌++◌}
use native.Mathlib.Omega.{arith}
use lib.ListN.{length, take, drop, set, length-set}
use Rattle.digits.specs.Digits.{digits}
use Rattle.digits.proofs.Words.{put_word-room}
use Rattle.digits.proofs.Laws.{length_digits}
use Rattle.setup.specs.Setups.{by_mode}
use Rattle.packed.specs.declared.Code.{Code}
use Rattle.packed.specs.Layout.{header_length}
use Rattle.packed_size.specs.Size.{by_profile, by_norm, map_for}
use Rattle.packed_size.proofs.Maps.{map-tells}
use Rattle.packed_writing.specs.Writing.{range_bytes, projection_bytes, norm_bytes, header_bytes}
use Rattle.packed_writing.proofs.Stores.{store-six, store-header}
use Rattle.packed_writing.proofs.Writing.{range-long, projection-long}
use Rattle.packed_writing.proofs.put_header.Goals.{After-put_projections, After-put_range, After-put_word}
use Rattle.packed_writing.proofs.put_header.Goals as goal

-- the memory is as long as the header
long : (code : Code) {size : ℕ} → size ≡ header_length (map_for code.profile code.mode code.norm) → size ≡ 6 + by_profile code.profile 0 8 + by_mode code.mode 0 4 + by_norm code.norm 0 (λ x. 4)
long code exact = exact ∙ (map-tells code.profile code.mode code.norm).long

-- its length stays
filled : (c : goal.After-put_word) → length c.put_word.new.out ≡ length c.args.out.now
filled c = c.put_word.auto.out ∙ length-set c.args.out.now 0 c.map_for.result

ranged : (c : goal.After-put_range) → length c.put_range.new.out ≡ length c.args.out.now
ranged c = c.put_range.auto.out ∙ length-set c.put_word.new.out 5 c.args.code.bits ∙ c.put_word.auto.out ∙ length-set c.args.out.now 0 c.map_for.result

counted : (c : goal.After-put_projections) → length c.put_projections.new.out ≡ length c.args.out.now
counted c = c.put_projections.auto.out ∙ c.put_range.auto.out ∙ length-set c.put_word.new.out 5 c.args.code.bits ∙ c.put_word.auto.out ∙ length-set c.args.out.now 0 c.map_for.result

-- the dimension stands behind the map byte
stored : (c : goal.After-put_word) → let a = c.args in let xs = set a.out.now 0 c.map_for.result in c.put_word.new.out ≡ take 1 xs ++ digits 256 4 a.code.dim ++ drop 5 xs
stored c =
    let l = long c.args.code c.requires in
    c.put_word.ensures ∙ put_word-room _ 1 c.args.code.dim (rw length-set (omega (arith, l)))

pub bounds-out-5 : goal.bounds-out-5
bounds-out-5 c = let l = long c.args.code c.requires in omega (arith, l, filled (goal.at.bounds-out-5 c).After-put_word)

pub put_range-requires : goal.put_range-requires
put_range-requires c = let l = long c.args.code c.requires in rw length-set (omega (arith, l, filled (goal.at.put_range-requires c).After-put_word))

pub put_projections-requires : goal.put_projections-requires
put_projections-requires c = let l = long c.args.code c.requires in omega (arith, l, ranged (goal.at.put_projections-requires c).After-put_range, c.range_end.ensures)

pub put_norm-requires : goal.put_norm-requires
put_norm-requires c = let l = long c.args.code c.requires in omega (arith, l, counted (goal.at.put_norm-requires c).After-put_projections)

pub shape_of-out : goal.shape_of-out
shape_of-out c = c.put_norm.auto.out ∙ counted (goal.at.shape_of-out c).After-put_projections

pub returns : goal.returns
unfolding header_bytes
returns c = let a = c.args in
    let out = a.out.now in
    let l = long c.args.code c.requires in
    let ys : List ℕ = set c.put_word.new.out 5 a.code.bits in
    let room = length-set c.put_word.new.out 5 a.code.bits ∙ filled (goal.at.returns c).After-put_word ∙ l in
    let range : List ℕ = range_bytes a.code.profile a.range in
    let rows : List ℕ = projection_bytes a.code.mode a.code.projections in
    let norm : List ℕ = norm_bytes a.code.norm in
    let k : ℕ = by_profile a.code.profile 0 8 in
    let m : ℕ = by_mode a.code.mode 0 4 in
    c.put_norm.ensures
    ∙ ap (λ (l : List ℕ). take (length l - by_norm a.code.norm 0 (λ x. 4)) l ++ norm)
    (c.put_projections.ensures
    ∙ ap (λ (at : ℕ). take at c.put_range.new.out ++ rows ++ drop (at + m) c.put_range.new.out) c.range_end.ensures
    ∙ ap (λ (l : List ℕ). take (6 + k) l ++ rows ++ drop (6 + k + m) l) c.put_range.ensures)
    ∙ store-header ys range rows norm k m (by_norm a.code.norm 0 (λ x. 4)) (range-long a.code.profile a.range) (projection-long a.code.mode a.code.projections) room
    ∙ ap (λ (l : List ℕ). take 6 (set l 5 a.code.bits) ++ range ++ rows ++ norm) (stored (goal.at.returns c).After-put_word)
    ∙ ap (λ (l : List ℕ). l ++ range ++ rows ++ norm) (store-six out (digits 256 4 a.code.dim) c.map_for.result a.code.bits (length_digits 256 4 a.code.dim) (omega (arith, l)))
    ∙ ap (λ (m : ℕ). (m ∷ digits 256 4 a.code.dim) ++ (a.code.bits ∷ []) ++ range ++ rows ++ norm) c.map_for.ensures
