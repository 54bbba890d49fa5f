-- `capi::scans::foldrima_scan_shorten` meets its contract. Assumes nothing.
use Rattle.capi_answers.proofs.Tell.{told-as}
use Rattle.capi.proofs.scans.foldrima_scan_shorten.Goals as goal

pub returns : goal.returns
returns c = record { answer = told-as c.tell.ensures c.shorten_within-shorter.ensures.said; left = c.shorten_within-shorter.ensures.left }
