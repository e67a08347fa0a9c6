-- `attempts::verdict::judge` meets its contract: by the limit, then by what is read. Assumes nothing.
use mathlib.Core.Path.{sym, ap, ◌∙◌, subst}
use native.Mathlib.Omega.{arith}
use Rattle.std.specs.Prelude.{Ok}
use Rattle.machine.specs.declared.Reads.{Reads}
use Rattle.attempts.proofs.Judged.{default-record, judged-above, judged-data, judged-record}
use Rattle.attempts.specs.Attempt.{judged_final, judged_as, RecordIn}
use Rattle.attempts.proofs.verdict.judge.Goals as goal

pub record_of-requires : goal.record_of-requires
unfolding RecordIn
record_of-requires c =
    subst (λ (r : Reads). RecordIn r c.args.info.now) c.in-Record.is c.requires

pub returns-then-s-discrepancy : goal.returns-then-s-discrepancy
returns-then-s-discrepancy c =
    let a = c.args in
    judged-above a.s (judged_final a.discrepancy a.info.now) a.r (omega arith)

pub returns-in-Data : goal.returns-in-Data
returns-in-Data c =
    let a = c.args in
    let f = judged_final a.discrepancy a.info.now in
    ap Ok (default-record c.default.result c.default.ensures) ∙ judged-data a.s f (omega arith) ∙ sym (ap (λ (r : Reads). judged_as r a.s f) c.in-Data.is)

pub returns-in-Record : goal.returns-in-Record
returns-in-Record c =
    let a = c.args in
    let f = judged_final a.discrepancy a.info.now in
    c.record_of.ensures ∙ judged-record a.s f (omega arith) ∙ sym (ap (λ (r : Reads). judged_as r a.s f) c.in-Record.is)
