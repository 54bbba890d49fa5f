-- `capi::scans::foldrima_scan_close` meets its contract. Assumes nothing.
use Rattle.capi_answers.proofs.Tell.{told-as}
use Rattle.capi.proofs.scans.foldrima_scan_close.Goals as goal

pub returns : goal.returns
returns c = record { answer = told-as c.tell.ensures c.close-answer.ensures.said; left = c.close-answer.ensures.left }
