-- `capi::scans::foldrima_scan_open` meets its contract. Assumes nothing.
use Rattle.capi_answers.proofs.Tell.{told-as}
use Rattle.capi.proofs.scans.foldrima_scan_open.Goals as goal

pub returns : goal.returns
returns c = record { answer = told-as c.tell.ensures c.open-opened.ensures.said; left = c.open-opened.ensures.left }
