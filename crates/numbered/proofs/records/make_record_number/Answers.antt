-- `numbered::records::make_record_number` meets its contract: it is the codec's call on the record of the fields, and its outcome's number. Assumes nothing.
use mathlib.Core.Path.{◌∙◌, ap}
use Rattle.codebook.specs.Refusals.{outcome_number}
use Rattle.codec.specs.Record.{status_of}
use Rattle.codec.specs.Calls.{make_record_call}
use Rattle.numbered.proofs.Fields.{from_fields}
use Rattle.numbered.proofs.records.make_record_number.Goals as goal

pub returns : goal.returns
returns c =
    let a = c.args in
    let e = c.make_record.ensures.fact in
    let w = ap (λ h. make_record_call a.book.now h a.bits.now) c.record_from.ensures
    ∙ from_fields a.book.now a.plant a.carcass a.side (status_of a.status) a.bits.now in
    (c.outcome_number.ensures ∙ ap outcome_number e.0 ∙ ap (λ x. outcome_number x.outcome) w, e.1 ∙ ap (λ x. x.buffer) w)
