-- `radius_writing::compress` meets its contract: the refusal of its checks, or what was written. Assumes nothing.
use mathlib.Core.Path.{◌≡◌, sym, ap, ◌∙◌}
use lib.ListN.{length}
use Rattle.error.specs.Answer.{first, accepted}
use Rattle.error.specs.Outcomes.{says}
use Rattle.radius.specs.Codec.{compress_checks}
use Rattle.radius_writing.proofs.Checks.{compress-refused, compress-room, compress-value}
use Rattle.error.proofs.Clauses.{said_left}
use Rattle.error.proofs.Passed.{passed_on}
use Rattle.radius_writing.proofs.compress.Goals.{In_ok-check_compress}
use Rattle.radius_writing.proofs.compress.Goals as goal

pub returns-in_err-check_compress : goal.returns-in_err-check_compress
returns-in_err-check_compress c = rw (passed_on c.from_residual.result c.from_residual.ensures.1) (said_left (compress-refused _ _ _ _ (sym c.in_err-check_compress.ensures)))

-- no check offends
passed : (c : goal.In_ok-check_compress) → let a = c.args in first (compress_checks a.radii.now a.profile (length a.out.now)) accepted ≡ accepted
passed c = sym c.check_compress.ensures ∙ ap says c.in_ok-check_compress.was

pub write_payload-range-requires : goal.write_payload-range-requires
write_payload-range-requires c = let a = c.args in compress-room a.radii.now a.profile (length a.out.now) (passed (goal.at.write_payload-range-requires c).In_ok-check_compress)

pub returns : goal.returns
returns c = said_left (compress-value _ _ _ _ (passed (goal.at.returns c).In_ok-check_compress) _ _ c.write_payload-range.ensures.range c.write_payload-range.ensures.bytes)
