-- `capi::records::foldrima_read_record` meets its contract. Assumes nothing.
use Rattle.capi_answers.specs.Codes.{header_mode, header_profile, header_dim, header_bits, header_projections, header_min, header_max, header_has_norm, header_norm}
use Rattle.capi_answers.proofs.Tell.{told-as, part-as}
use Rattle.capi.proofs.records.foldrima_read_record.Goals as goal

pub returns : goal.returns
returns c = let a = c.args in
    let e = c.read_record-answer.ensures in
    record { answer = told-as c.tell_unless_withdrawn.ensures e; mode = part-as header_mode a.mode.now c.tell_header.ensures.mode e; profile = part-as header_profile a.profile.now c.tell_header.ensures.profile e; dim = part-as header_dim a.dim.now c.tell_header.ensures.dim e; bits = part-as header_bits a.bits.now c.tell_header.ensures.bits e; projections = part-as header_projections a.projections.now c.tell_header.ensures.projections e; least = part-as header_min a.min.now c.tell_header.ensures.least e; greatest = part-as header_max a.max.now c.tell_header.ensures.greatest e; stood = part-as header_has_norm a.has_norm.now c.tell_header.ensures.stood e; norm = part-as header_norm a.norm.now c.tell_header.ensures.norm e }
