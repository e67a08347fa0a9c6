-- `loading::loader::load_tables` meets its contract. The loop's invariant: the numbers and tables stand for what is loaded before the place,
-- and loading goes on from there (Running.antt). The measure is what is left of the book. Assumes nothing.
use mathlib.Core.Path.{sym, ◌∙◌}
use native.Mathlib.Omega.{arith}
use Rattle.std.proofs.lemmas.Result.{err_from_is_err_and}
use Rattle.codebook.specs.declared.Refusal.TheVariants.{Truncated, Unknown}
use Rattle.loading.proofs.Running.{reached-none, reached-end, reached-unlisted, reached-refused, reached-next, reached-last, refused-answer}
use Rattle.loading.proofs.loader.load_tables.Goals as goal

pub loop-at-init : goal.loop-at-init
loop-at-init c = reached-none _ _ _ c.start-p.ensures

pub read_command-requires : goal.read_command-requires
read_command-requires c = c.loop-at-test.true

pub returns-in_default : goal.returns-in_default
returns-in_default c =
    let read = sym c.read_command.ensures ∙ c.in_default.is in
    let end = refused-answer _ _ _ Unknown (reached-unlisted _ _ _ _ _ c.loop-at.invariant c.loop-at-test.true read) in
    record { answer = end.0; filled = end.1 }

pub loop-at-smaller : goal.loop-at-smaller
loop-at-smaller c =
    let x = c.in-Some in
    let read = sym c.read_command.ensures ∙ x.is in
    let r = c.loop-at.invariant in
    let step = c.obey.ensures _ r.s r.holds in
    omega (arith, (reached-next _ _ _ _ _ r c.loop-at-test.true x.field-0 read _ _ (rw (c.in_ok-q.was, c.in-Next.is) at step)).1)

pub loop-at-preserved : goal.loop-at-preserved
loop-at-preserved c =
    let x = c.in-Some in
    let read = sym c.read_command.ensures ∙ x.is in
    let r = c.loop-at.invariant in
    let step = c.obey.ensures _ r.s r.holds in
    (reached-next _ _ _ _ _ r c.loop-at-test.true x.field-0 read _ _ (rw (c.in_ok-q.was, c.in-Next.is) at step)).0

pub returns-in_err-q : goal.returns-in_err-q
returns-in_err-q c =
    let x = c.in-Some in
    let read = sym c.read_command.ensures ∙ x.is in
    let r = c.loop-at.invariant in
    let step = c.obey.ensures _ r.s r.holds in
    let p = err_from_is_err_and c.from_residual.result c.from_residual.ensures.1 in
    let end = refused-answer _ _ _ _ (reached-refused _ _ _ _ _ r c.loop-at-test.true x.field-0 read _ _ (rw c.in_err-q.was at step)) in
    rw (p.1, p.2) (record { answer = end.0; filled = end.1 })

pub returns-in-End : goal.returns-in-End
returns-in-End c =
    let x = c.in-Some in
    let read = sym c.read_command.ensures ∙ x.is in
    let r = c.loop-at.invariant in
    let step = c.obey.ensures _ r.s r.holds in
    let last = reached-last _ _ _ _ _ r c.loop-at-test.true x.field-0 read _ _ (rw (c.in_ok-q.was, c.in-End.is) at step) in
    record { answer = c.finish.ensures ∙ sym last.0; filled = last.1 }

pub returns : goal.returns
returns c =
    let end = refused-answer _ _ _ Truncated (reached-end _ _ _ _ _ c.loop-at.invariant c.loop-at-test.false) in
    record { answer = end.0; filled = end.1 }
