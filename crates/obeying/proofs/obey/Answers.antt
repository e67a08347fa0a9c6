-- `obeying::obey` meets its contract: a command that may not stand is misplaced, the end needs no operands, and any other that lacks some is cut.
-- Assumes nothing.
use mathlib.Core.Path.{refl, sym, ◌∙◌}
use Rattle.std.proofs.lemmas.Result.{err_from_is_err_and}
use Rattle.codebook.specs.declared.Refusal.TheVariants.{Truncated, Misplaced}
use Rattle.codebook.specs.Loading.{next}
use Rattle.codebook.specs.Progress.{byte_of, is_end}
use Rattle.obeying.proofs.Verdicts.{refuse, proceed, refused, proceeded, verdict-misplaced, verdict-cut, verdict-whole, verdict-end, goes-next, goes-end, not-end}
use Rattle.obeying.proofs.obey.Goals as goal

pub returns-then-not-stands : goal.returns-then-not-stands
returns-then-not-stands c old s h =
    let a = c.args in
    refuse _ _ Misplaced (verdict-misplaced a.p s h.counts a.c a.whole (sym c.stands.ensures ∙ c.if-not-stands.true)) refl

pub grow-requires : goal.grow-requires
grow-requires c = (sym c.stands.ensures ∙ c.if-not-stands.false, not-end c.args.c c.in_default.not-End)

pub returns-in-End : goal.returns-in-End
unfolding is_end byte_of next
returns-in-End c old s h =
    let a = c.args in
    let stands = rw c.in-End.is at (sym c.stands.ensures ∙ c.if-not-stands.false) in
    rw c.in-End.is (proceed _ _ _ _ (verdict-end a.p s h.counts a.whole stands) (goes-end _ _ _ refl h))

pub returns-then-not-whole : goal.returns-then-not-whole
returns-then-not-whole c old s h =
    let a = c.args in
    let other = not-end a.c c.in_default.not-End in
    rw c.if-not-whole.true (refuse _ _ Truncated (verdict-cut a.p s h.counts a.c (sym c.stands.ensures ∙ c.if-not-stands.false) other) refl)

pub returns-in_err-grow : goal.returns-in_err-grow
returns-in_err-grow c old s h =
    let a = c.args in
    let p = err_from_is_err_and c.from_residual.result c.from_residual.ensures.1 in
    let whole = verdict-whole a.p s h.counts a.c (sym c.stands.ensures ∙ c.if-not-stands.false) (not-end a.c c.in_default.not-End) in
    let fault = refused _ _ _ _ (rw c.in_err-grow.was at (c.grow.ensures old s h)) in
    rw (p.1, p.2, c.if-not-whole.false) (refuse _ _ _ (whole ∙ fault.0) fault.1)

pub returns : goal.returns
returns c old s h =
    let a = c.args in
    let other = not-end a.c c.in_default.not-End in
    let whole = verdict-whole a.p s h.counts a.c (sym c.stands.ensures ∙ c.if-not-stands.false) other in
    let grown = proceeded _ _ _ _ (rw c.in_ok-grow.was at (c.grow.ensures old s h)) in
    rw c.if-not-whole.false (proceed _ _ _ _ (whole ∙ grown.0) (goes-next _ _ _ other grown.1))
