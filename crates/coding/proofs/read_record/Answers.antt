-- `coding::read_record` meets its contract: by loading's answer and the tests. Assumes nothing.
use mathlib.Core.Path.{sym, ◌∙◌}
use Rattle.coding.proofs.Told.{Known, shape-refused, shape-known, are-bits, handed, record-told, record-refused, record-mismatch, record-bad, record-good}
use Rattle.coding.proofs.read_record.Goals as goal
use Rattle.coding.proofs.read_record.Goals.{In_ok-x, then-x-ne32-via-then-x-ne32, then-x-ne32-via-else-x-ne32+then-bits-ne32}

-- the book that is loaded
known : (c : In_ok-x) → Known c.args.book.now c.in_ok-x.x.m c.in_ok-x.x.n c.in_ok-x.x.k
known c = shape-known c.args.book.now c.in_ok-x.x c.in_ok-x.ensures.value

pub returns-in_err-x : goal.returns-in_err-x
returns-in_err-x c =
    let a = c.args in
    let r = c.in_err-x.field-0.0 in
    let t = record-told a.book.now a.bits.now
    (handed c.from_residual.result c.from_residual.ensures.1 ∙ record-refused a.book.now a.bits.now r (shape-refused a.book.now r c.in_err-x.ensures.value)) in
    record { value = t.0; number = t.1 }

pub returns-then-x-ne32 : goal.returns-then-x-ne32
returns-then-x-ne32 c =
    let a = c.args in
    let K = known (goal.at.returns-then-x-ne32 c).In_ok-x in
    let t = record-told a.book.now a.bits.now
    (record-mismatch a.book.now a.bits.now K.is K.loads
    (λ f. elim c.then-x-ne32.branch [
      | then-x-ne32-via-then-x-ne32 w ↦ w.if-x-ne32.true (K.free ∙ f.0)
      | then-x-ne32-via-else-x-ne32+then-bits-ne32 w ↦ w.if-bits-ne32.true f.1
    ])) in
    record { value = t.0; number = t.1 }

pub returns-then-not-are_bits : goal.returns-then-not-are_bits
returns-then-not-are_bits c =
    let a = c.args in
    let K = known (goal.at.returns-then-not-are_bits c).In_ok-x in
    let t = record-told a.book.now a.bits.now
    (record-bad a.book.now a.bits.now K.is K.loads (sym K.free ∙ c.if-x-ne32.false) c.if-bits-ne32.false (sym c.are_bits.ensures ∙ c.if-not-are_bits.true)) in
    record { value = t.0; number = t.1 }

pub record_of-requires : goal.record_of-requires
record_of-requires c = (c.if-bits-ne32.false, are-bits _ (sym c.are_bits.ensures ∙ c.if-not-are_bits.false))

pub returns : goal.returns
returns c =
    let a = c.args in
    let K = known (goal.at.returns c).In_ok-x in
    let t = record-told a.book.now a.bits.now
    (c.record_of.ensures
    ∙ record-good a.book.now a.bits.now K.is K.loads (sym K.free ∙ c.if-x-ne32.false) c.if-bits-ne32.false (sym c.are_bits.ensures ∙ c.if-not-are_bits.false)) in
    record { value = t.0; number = t.1 }
