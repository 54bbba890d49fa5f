-- `bitpack::find_large` meets its contract: the position is that of the first index that offends. Assumes nothing.
use Rattle.std.proofs.Common.{rules, tests}
use Rattle.error.specs.Checks.{bad_index}
use Rattle.error.proofs.Places.{found-position}
use Rattle.bitpack.proofs.find_large.Goals as goal

pub returns : goal.returns
returns c = found-position (bad_index c.args.bits) _ _ _ c.position.ensures.ran c.iter.ensures.rest (λ x q k. search (rules, tests)) (λ x q k. search (rules, tests))
