-- `bitpack_signs::first_bad_sketch_sign` meets its contract: where the pass finds nothing, there is none, and else the position is that of the first that offends. Assumes nothing.
use mathlib.Core.Path.{sym, ◌∙◌}
use Rattle.bitpack.specs.Signs.{bad_sketch_sign}
use Rattle.std.proofs.Common.{rules}
use Rattle.error.proofs.Places.{found-position}
use Rattle.error.proofs.Sweep.{clear-found}
use Rattle.bitpack_signs.proofs.first_bad_sketch_sign.Goals as goal

pub returns-then-all_signs : goal.returns-then-all_signs
returns-then-all_signs c = clear-found bad_sketch_sign _ (sym c.all_signs.ensures ∙ c.if-all_signs.true)

pub returns : goal.returns
returns c = found-position bad_sketch_sign _ _ _ c.position.ensures.ran c.iter.ensures.rest (λ x q k. search rules) (λ x q k. search rules)
