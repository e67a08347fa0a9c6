-- `numbered::records::read_record_answer` meets its contract: the record is written where its length is 4, and kept where it is not. Assumes nothing.
use mathlib.Core.Path.{◌≡◌, refl, ◌∙◌, sym, ap}
use lib.ListN.{length}
use borrow.Author.Tests.{eq-eqb}
use Rattle.codebook.specs.Refusals.{outcome_number}
use Rattle.codec.specs.Calls.{read_record_call, hook_read}
use Rattle.codec.proofs.Record.{default-none}
use Rattle.answers.specs.Slices.{record_slice, filled}
use Rattle.answers.specs.Numbers.{length_mismatch}
use Rattle.numbered.proofs.Answered.{record-written, record-left}
use Rattle.numbered.proofs.records.read_record_answer.Goals as goal
use Rattle.numbered.proofs.records.read_record_answer.Goals.{in-Ok, in-Err}

pub returns-then-not-fits : goal.returns-then-not-fits
returns-then-not-fits c =
    let a = c.args in
    let w = sym (record-left a.book.now a.bits.now a.hook.now c.if-not-fits.true) in
    (c.length_mismatch.ensures ∙ ap length_mismatch c.load.ensures.value ∙ ap (λ x. x.number) w, ap (λ x. x.slice) w)

-- the number and the record are those of the reading's answer
pub returns : goal.returns
unfolding hook_read filled record_slice
returns c =
    let a = c.args in
    let w = sym (record-written a.book.now a.bits.now a.hook.now c.if-not-fits.false) in
    let m = c.match-read_record in
    let n : (m.number.0 ≡ outcome_number (read_record_call a.book.now a.bits.now)) × (m.number.1 ≡ hook_read (read_record_call a.book.now a.bits.now)) =
    elim m.branch [
      | in-Ok v ↦ rw v.number-is (ap outcome_number v.in-Ok.ensures.value, ap hook_read v.in-Ok.ensures.value)
      | in-Err v ↦ rw v.number-is (v.from.ensures ∙ ap outcome_number v.in-Err.ensures.value, default-none v.default.ensures ∙ ap hook_read v.in-Err.ensures.value)
    ] in
    let f : filled (record_slice m.number.1) a.hook.now ≡ record_slice m.number.1 = rw (eq-eqb (length a.hook.now) 4 c.if-not-fits.false) refl in
    (n.0 ∙ ap (λ x. x.number) w, c.put_hook.ensures ∙ f ∙ ap record_slice n.1 ∙ ap (λ x. x.slice) w)
