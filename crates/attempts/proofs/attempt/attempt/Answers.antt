-- `attempts::attempt::attempt` meets its contract: by the outcome of loading, then of the tests; else the run is made and decided on, and what it leaves is the call's.
-- Assumes nothing.
use mathlib.Core.Path.{sym, ap, ◌∙◌}
use Rattle.machine.specs.declared.HookDecoded.{HookDecoded}
use Rattle.machine.specs.Calls.{Input, Lent, Called, given, lent_in, lengths_of}
use Rattle.machine.proofs.Unbarred.{Free}
use Rattle.attempts.specs.Attempt.{Ready}
use Rattle.attempts.proofs.Judged.{default-counts}
use Rattle.attempts.proofs.Readied.{has-small, has-few, ready, refused-bare, not-loaded, has, not-admitted, free, ran}
use Rattle.attempts.proofs.attempt.attempt.Goals as goal
use Rattle.attempts.proofs.attempt.attempt.Goals.{Start, In-Ok-admit}

-- what the call is given and lent
abbrev call : Start → Input
call c = let a = c.args in given a.book.now a.asked a.values.now

abbrev buffers : Start → Lent
buffers c = let a = c.args in lent_in a.out.now a.workspace.now a.walk.now

pub returns-in-Err-clause-called : goal.returns-in-Err-clause-called
returns-in-Err-clause-called c =
    let s = (goal.at.returns-in-Err-clause-called c).Start in
    let e = not-loaded c.args.k (call s) (buffers s) c.in-Err.r (sym c.in-Err.is ∙ c.load_tables.ensures.answer) in
    (c.refused.ensures ∙ refused-bare c.in-Err.r c.default.result (default-counts c.default.result c.default.ensures) ∙ e.0, e.1)

pub admit-requires : goal.admit-requires
admit-requires c =
    let s = (goal.at.admit-requires c).Start in
    let x = c.in-Ok.x in
    let h = has c.args.k (call s) (buffers s) x (sym c.in-Ok.is ∙ c.load_tables.ensures.answer) in
    (has-small c.args.book.now x h, has-few c.args.book.now x h)

-- where the call is admitted: nothing bars it, so that the run has what it needs
unbarred : (c : In-Ok-admit) → let a = c.args in
    Free a.k c.in-Ok.x c.in-Ok-admit.s (lengths_of (given a.book.now a.asked a.values.now) (lent_in a.out.now a.workspace.now a.walk.now)) a.values.now
unbarred c =
    let a = c.args in
    free a.k (given a.book.now a.asked a.values.now) (lent_in a.out.now a.workspace.now a.walk.now) c.in-Ok.x (sym c.in-Ok.is ∙ c.load_tables.ensures.answer) c.in-Ok-admit.s
    (sym c.in-Ok-admit.is ∙ c.admit.ensures)

abbrev readied : (c : In-Ok-admit) → Ready c.in-Ok.x c.args.values.now c.load_tables.new.tables
readied c =
    let a = c.args in
    let h = has a.k (given a.book.now a.asked a.values.now) (lent_in a.out.now a.workspace.now a.walk.now) c.in-Ok.x (sym c.in-Ok.is ∙ c.load_tables.ensures.answer) in
    ready a.book.now a.values.now c.in-Ok.x h _ _ c.load_tables.ensures.filled (unbarred c).sized.values (unbarred c).valued

pub decide-requires-clause-ranged : goal.decide-requires-clause-ranged
decide-requires-clause-ranged c =
    let f = unbarred (goal.at.decide-requires-clause-ranged c).In-Ok-admit in
    (f.ranged, f.held, f.sized.word, f.sized.bits)

pub decide-requires-clause-workspace_needed : goal.decide-requires-clause-workspace_needed
decide-requires-clause-workspace_needed c =
    let f = unbarred (goal.at.decide-requires-clause-workspace_needed c).In-Ok-admit in
    (f.sized.numbers, f.sized.bytes)

pub decide-requires-clause-walk_needed : goal.decide-requires-clause-walk_needed
decide-requires-clause-walk_needed c =
    let f = unbarred (goal.at.decide-requires-clause-walk_needed c).In-Ok-admit in
    (f.sized.paths, f.sized.blocks, f.sized.scores)

pub decide-requires-clause-ready : goal.decide-requires-clause-ready
decide-requires-clause-ready c = readied (goal.at.decide-requires-clause-ready c).In-Ok-admit

pub returns-in-Ok-admit-clause-called : goal.returns-in-Ok-admit-clause-called
returns-in-Ok-admit-clause-called c =
    let s = (goal.at.returns-in-Ok-admit-clause-called c).Start in
    let o = c.decide.ensures.called (readied (goal.at.returns-in-Ok-admit-clause-called c).In-Ok-admit) in
    let w = ran c.args.k (call s) (buffers s) c.in-Ok.x (sym c.in-Ok.is ∙ c.load_tables.ensures.answer) c.in-Ok-admit.s (sym c.in-Ok-admit.is ∙ c.admit.ensures) in
    (o.0 ∙ ap (λ (y : Called HookDecoded). y.answer) w, o.1 ∙ ap (λ (y : Called HookDecoded). y.lent) w)

pub returns-in-Err-admit-clause-called : goal.returns-in-Err-admit-clause-called
returns-in-Err-admit-clause-called c =
    let s = (goal.at.returns-in-Err-admit-clause-called c).Start in
    let d = c.default-in-Err-admit in
    let e = not-admitted c.args.k (call s) (buffers s) c.in-Ok.x (sym c.in-Ok.is ∙ c.load_tables.ensures.answer) c.in-Err-admit.r (sym c.in-Err-admit.is ∙ c.admit.ensures) in
    (c.refused-in-Err-admit.ensures ∙ refused-bare c.in-Err-admit.r d.result (default-counts d.result d.ensures) ∙ e.0, e.1)
