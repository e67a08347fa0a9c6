-- `coding::encode` meets its contract: by loading's answer and the tests. Assumes nothing.
use mathlib.Core.Path.{◌≡◌, sym, ap, ap₂, ◌∙◌, subst}
use mathlib.Core.List.{[]}
use Prim.Native.Nat.{◌^◌}
use native.Mathlib.Omega.{arith}
use lib.ListN.{length}
use Rattle.std.specs.Prelude.{Ok}
use Rattle.laws.specs.Lists.{All}
use Rattle.polar.specs.Bits.{Bit}
use Rattle.polar.specs.Transform.{transform}
use Rattle.codebook.specs.Book.{free_count}
use Rattle.codec.specs.Code.{fill, encode}
use Rattle.codec.specs.Tabled.{Tabled}
use Rattle.codec.proofs.Fill.{fill-after}
use Rattle.codec.proofs.Numbers.{encode-number}
use Rattle.coding.proofs.Told.{Known, shape-refused, shape-known, load-tabled, are-bits, handed, told, encode-refused, encode-mismatch, encode-bad, encode-good}
use Rattle.coding.proofs.encode.Goals as goal
use Rattle.coding.proofs.encode.Goals.{In_ok-x, Else-not-are_bits, After-fill, then-bits-x-via-then-bits-x, then-bits-x-via-else-bits-x+then-word-x}

-- the book that is loaded
known : (c : In_ok-x) → Known c.args.book.now c.in_ok-x.x.m c.in_ok-x.x.n c.in_ok-x.x.k
known c = shape-known c.args.book.now c.in_ok-x.x c.in_ok-x.ensures.answer

-- where the tests are passed: the tables hold the book's kinds, the lengths are right, and the data are bits
passed : (c : Else-not-are_bits) → (K : Known c.args.book.now c.in_ok-x.x.m c.in_ok-x.x.n c.in_ok-x.x.k) →
    Tabled K.is.kinds c.load_tables.new.tables.kinds c.load_tables.new.tables.terms × (length c.args.word.now ≡ 2 ^ K.is.m) × (length c.args.bits.now ≡ free_count K.is.kinds) × All Bit c.args.bits.now
passed c K = (
  load-tabled c.args.book.now K.is _ _ K.loads c.in_ok-x.ensures.filled,
  c.if-word-x.false ∙ K.size,
  c.if-bits-x.false ∙ K.free,
  are-bits _ (sym c.are_bits.ensures ∙ c.if-not-are_bits.false),
)

pub returns-in_err-x : goal.returns-in_err-x
returns-in_err-x c =
    let a = c.args in
    let r = c.in_err-x.field-0.0 in
    let t = told c.from_residual.result a.word.now (encode-number a.book.now a.bits.now a.word.now)
    (encode-refused a.book.now a.bits.now a.word.now r (shape-refused a.book.now r c.in_err-x.ensures.answer)
    ∙ ap (λ o. record { outcome = o; buffer = a.word.now }) (sym (handed c.from_residual.result c.from_residual.ensures.1))) in
    record { fact = t.0; number = t.1 }

pub returns-then-bits-x : goal.returns-then-bits-x
returns-then-bits-x c =
    let a = c.args in
    let K = known (goal.at.returns-then-bits-x c).In_ok-x in
    let t = told _ a.word.now (encode-number a.book.now a.bits.now a.word.now)
    (encode-mismatch a.book.now a.bits.now a.word.now K.is K.loads
    (λ f. elim c.then-bits-x.branch [
      | then-bits-x-via-then-bits-x w ↦ w.if-bits-x.true (f.0 ∙ sym K.free)
      | then-bits-x-via-else-bits-x+then-word-x w ↦ w.if-word-x.true (f.1 ∙ sym K.size)
    ])) in
    record { fact = t.0; number = t.1 }

pub returns-then-not-are_bits : goal.returns-then-not-are_bits
returns-then-not-are_bits c =
    let a = c.args in
    let K = known (goal.at.returns-then-not-are_bits c).In_ok-x in
    let t = told _ a.word.now (encode-number a.book.now a.bits.now a.word.now)
    (encode-bad a.book.now a.bits.now a.word.now K.is K.loads (c.if-bits-x.false ∙ K.free) (c.if-word-x.false ∙ K.size) (sym c.are_bits.ensures ∙ c.if-not-are_bits.true)) in
    record { fact = t.0; number = t.1 }

pub fill-requires : goal.fill-requires
fill-requires c =
    let x = goal.at.fill-requires c in
    let K = known x.In_ok-x in
    let z = passed x.Else-not-are_bits K in
    record { some = (_, (z.0, K.valid.indices ∙ sym z.1, sym z.2)); all = z.3 }

-- the word is filled with u
filled : (c : After-fill) → (K : Known c.args.book.now c.in_ok-x.x.m c.in_ok-x.x.n c.in_ok-x.x.k) →
    Tabled K.is.kinds c.load_tables.new.tables.kinds c.load_tables.new.tables.terms × (length c.args.word.now ≡ 2 ^ K.is.m) × (length c.args.bits.now ≡ free_count K.is.kinds) × All Bit c.args.bits.now →
    c.fill.new.word ≡ fill [] K.is.kinds c.args.bits.now
filled c K z = c.fill.ensures _ z.0 (K.valid.indices ∙ sym z.1) (sym z.2)

pub transform-requires : goal.transform-requires
transform-requires c =
    let x = goal.at.transform-requires c in
    let K = known x.In_ok-x in
    let z = passed x.Else-not-are_bits K in
    let f = fill-after [] K.is.kinds c.args.bits.now (unfold All in tt) z.3 in
    let e : length (fill [] K.is.kinds c.args.bits.now) ≡ 2 ^ K.is.m = omega (arith, f.size, K.valid.indices) in
    subst (λ v. (length v ≡ 2 ^ c.in_ok-x.x.m) × All Bit v) (sym (filled x.After-fill K z)) (e ∙ ap (λ n. 2 ^ n) (sym K.height), f.bits)

pub returns : goal.returns
unfolding encode
returns c =
    let a = c.args in
    let x = goal.at.returns c in
    let K = known x.In_ok-x in
    let z = passed x.Else-not-are_bits K in
    let e = c.transform.ensures ∙ ap₂ transform K.height (filled x.After-fill K z) in
    let t = told (Ok tt) c.transform.new.c (encode-number a.book.now a.bits.now a.word.now)
    (encode-good a.book.now a.bits.now a.word.now K.is K.loads z.2 z.1 (sym c.are_bits.ensures ∙ c.if-not-are_bits.false)
    ∙ ap (λ v. record { outcome = Ok tt; buffer = v }) (sym e)) in
    record { fact = t.0; number = t.1 }
