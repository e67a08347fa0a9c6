-- `coding::make_record` meets its contract: by loading's answer and the tests. Assumes nothing.
use mathlib.Core.Path.{sym, ap, ◌∙◌}
use Rattle.std.specs.Prelude.{Ok}
use Rattle.codec.proofs.Numbers.{make-record-number}
use Rattle.coding.proofs.Told.{Known, shape-refused, shape-known, handed, told, make-refused, make-mismatch, make-bad, make-good}
use Rattle.coding.proofs.make_record.Goals as goal
use Rattle.coding.proofs.make_record.Goals.{In_ok-x, then-x-ne32-via-then-x-ne32, then-x-ne32-via-else-x-ne32+then-bits-ne32}

-- the book that is loaded
known : (c : In_ok-x) → Known c.args.book.now c.in_ok-x.x.m c.in_ok-x.x.n c.in_ok-x.x.k
known c = shape-known c.args.book.now c.in_ok-x.x c.in_ok-x.ensures.value

pub returns-in_err-x : goal.returns-in_err-x
returns-in_err-x c =
    let a = c.args in
    let r = c.in_err-x.field-0.0 in
    let t = told c.from_residual.result a.bits.now (make-record-number a.book.now a.h a.bits.now)
    (make-refused a.book.now a.bits.now a.h r (shape-refused a.book.now r c.in_err-x.ensures.value)
    ∙ ap (λ o. record { outcome = o; buffer = a.bits.now }) (sym (handed c.from_residual.result c.from_residual.ensures.1))) in
    record { fact = t.0; number = t.1 }

pub returns-then-x-ne32 : goal.returns-then-x-ne32
returns-then-x-ne32 c =
    let a = c.args in
    let K = known (goal.at.returns-then-x-ne32 c).In_ok-x in
    let t = told _ a.bits.now (make-record-number a.book.now a.h a.bits.now)
    (make-mismatch a.book.now a.bits.now K.is K.loads a.h
    (λ f. elim c.then-x-ne32.branch [
      | then-x-ne32-via-then-x-ne32 w ↦ w.if-x-ne32.true (K.free ∙ f.0)
      | then-x-ne32-via-else-x-ne32+then-bits-ne32 w ↦ w.if-bits-ne32.true f.1
    ])) in
    record { fact = t.0; number = t.1 }

pub returns-then-not-record_fits : goal.returns-then-not-record_fits
returns-then-not-record_fits c =
    let a = c.args in
    let K = known (goal.at.returns-then-not-record_fits c).In_ok-x in
    let t = told _ a.bits.now (make-record-number a.book.now a.h a.bits.now)
    (make-bad a.book.now a.bits.now K.is K.loads (sym K.free ∙ c.if-x-ne32.false) c.if-bits-ne32.false a.h (sym c.record_fits.ensures ∙ c.if-not-record_fits.true)) in
    record { fact = t.0; number = t.1 }

pub returns : goal.returns
returns c =
    let a = c.args in
    let K = known (goal.at.returns c).In_ok-x in
    let t = told (Ok tt) c.put_record.new.bits (make-record-number a.book.now a.h a.bits.now)
    (make-good a.book.now a.bits.now K.is K.loads (sym K.free ∙ c.if-x-ne32.false) c.if-bits-ne32.false a.h (sym c.record_fits.ensures ∙ c.if-not-record_fits.false)
    ∙ ap (λ v. record { outcome = Ok tt; buffer = v }) (sym c.put_record.ensures)) in
    record { fact = t.0; number = t.1 }
