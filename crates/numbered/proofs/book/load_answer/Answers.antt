-- `numbered::book::load_answer` meets its contract: the shape is written where its length is 3, and kept where it is not. Assumes nothing.
use mathlib.Core.Path.{◌∙◌, sym, ap}
use lib.ListN.{replicate}
use Rattle.codebook.specs.Refusals.{outcome_number}
use Rattle.answers.specs.Numbers.{length_mismatch}
use Rattle.numbered.specs.Answers.{shape_slice}
use Rattle.numbered.proofs.Answered.{load-written, load-left}
use Rattle.numbered.proofs.book.load_answer.Goals as goal

pub returns-then-not-fits : goal.returns-then-not-fits
returns-then-not-fits c =
    let a = c.args in
    let w = sym (load-left a.book.now a.shape.now c.if-not-fits.true) in
    (c.length_mismatch.ensures ∙ ap length_mismatch c.load-loaded.ensures.value ∙ ap (λ x. x.number) w, ap (λ x. x.slice) w)

pub returns-in-Ok : goal.returns-in-Ok
unfolding shape_slice
returns-in-Ok c =
    let a = c.args in
    let w = sym (load-written a.book.now a.shape.now c.if-not-fits.false) in
    let e = c.in-Ok.ensures.value in
    (ap outcome_number e ∙ ap (λ x. x.number) w, c.copy_from_slice.ensures.after ∙ ap shape_slice e ∙ ap (λ x. x.slice) w)

pub returns-in-Err : goal.returns-in-Err
unfolding shape_slice
returns-in-Err c =
    let a = c.args in
    let w = sym (load-written a.book.now a.shape.now c.if-not-fits.false) in
    let e = c.in-Err.ensures.value in (
      c.from.ensures ∙ ap outcome_number e ∙ ap (λ x. x.number) w,
      c.fill.ensures.after (λ y q. q) ∙ ap (λ n. replicate n 0) c.if-not-fits.false ∙ ap shape_slice e ∙ ap (λ x. x.slice) w,
    )
