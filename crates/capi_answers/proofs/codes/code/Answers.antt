-- `capi_answers::codes::code` meets its contract. Assumes nothing.
use Rattle.capi_answers.proofs.codes.code.Goals as goal

pub returns : goal.returns
returns c = rw (c.profile-codec.ensures, c.mode-chosen.ensures, c.source_norm-stored.ensures)
