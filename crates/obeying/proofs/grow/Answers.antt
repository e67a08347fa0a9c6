-- `obeying::grow` meets its contract: where a command may stand, what its own function requires holds, and no other command comes there.
-- Assumes nothing.
use mathlib.Core.Path.{sym, subst}
use native.Mathlib.Omega.{arith}
use lib.Dec.{T, eqb, ltb, eqb→eq, ltb→lt}
use borrow.Author.Tests.{ltb-true}
use Rattle.laws.proofs.Tests.{and_left, and_right}
use Rattle.codebook.specs.Progress.{stands, run_command}
use Rattle.obeying.proofs.Verdicts.{nowhere, no-index}
use Rattle.obeying.proofs.grow.Goals as goal

pub run-requires : goal.run-requires
unfolding stands
run-requires c = (ltb-true c.args.p.filled c.args.p.n (rw c.in-Free.is at c.requires.0), omega arith)

pub run-requires-in-Zero : goal.run-requires-in-Zero
unfolding stands
run-requires-in-Zero c = (ltb-true c.args.p.filled c.args.p.n (rw c.in-Zero.is at c.requires.0), omega arith)

pub term-requires : goal.term-requires
unfolding stands
term-requires c = rw c.in-Term.is at c.requires.0

pub returns-in_default-c-3 : goal.returns-in_default-c-3
returns-in_default-c-3 c old s h =
    let before = no-index c.args.p s h.counts c.if-p-eq0.true in
    absurd (nowhere c.args.p c.args.c c.requires.0 c.requires.1 (λ m _. c.in_default-c-3.not-Length m) c.in_default.not-Free c.in_default-c.not-Zero c.in_default-c-2.not-Term
    (λ i l _. omega arith) (λ j bias _ l _. omega arith))

pub returns-in_default-c-4 : goal.returns-in_default-c-4
returns-in_default-c-4 c old s h =
    absurd (nowhere c.args.p c.args.c c.requires.0 c.requires.1 (λ m e _. omega (arith, c.if-p-eq0.false)) c.in_default.not-Free c.in_default-c.not-Zero c.in_default-c-2.not-Term
    (λ i _. c.in_default-c-4.not-Tie i) (λ j bias e _ _. omega (arith, c.if-p.true)))

pub returns-in_default-c-5 : goal.returns-in_default-c-5
returns-in_default-c-5 c old s h =
    absurd (nowhere c.args.p c.args.c c.requires.0 c.requires.1 (λ m e _. omega (arith, c.if-p-eq0.false)) c.in_default.not-Free c.in_default-c.not-Zero c.in_default-c-2.not-Term
    (λ i l _. omega (arith, c.if-p.false)) (λ j bias _ _. c.in_default-c-5.not-Block j bias))

pub block-requires : goal.block-requires
unfolding stands
block-requires c =
    let p = c.args.p in
    let both = subst T (sym (rw c.in-Block.is at c.requires.0)) tt in
    (eqb→eq p.filled p.n (and_left (eqb p.filled p.n) (ltb p.covered p.n) both), ltb→lt p.covered p.n (and_right (eqb p.filled p.n) (ltb p.covered p.n) both))

pub returns-in-Free : goal.returns-in-Free
unfolding run_command
returns-in-Free c = rw c.in-Free.is c.run.ensures

pub returns-in-Zero : goal.returns-in-Zero
unfolding run_command
returns-in-Zero c = rw c.in-Zero.is c.run-in-Zero.ensures
