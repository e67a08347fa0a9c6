-- `coding::read_data` meets its contract: by loading's answer and the tests. Assumes nothing.
use mathlib.Core.Path.{◌≡◌, sym, ap, ◌∙◌}
use Prim.Native.Nat.{◌^◌}
use lib.ListN.{length}
use Rattle.std.specs.Prelude.{Ok}
use Rattle.laws.specs.Lists.{All}
use Rattle.polar.specs.Bits.{Bit}
use Rattle.polar.specs.Transform.{transform}
use Rattle.codebook.specs.Book.{free_count}
use Rattle.codec.specs.Code.{free_bits, read_data}
use Rattle.codec.specs.Tabled.{Tabled}
use Rattle.codec.proofs.Numbers.{read-data-number}
use Rattle.coding.proofs.Told.{Known, known_small, shape-refused, shape-known, load-tabled, zeros-part, are-bits, handed, told, read-refused, read-mismatch, read-bad, read-good}
use Rattle.coding.proofs.read_data.Goals as goal
use Rattle.coding.proofs.read_data.Goals.{In_ok-x, Else-not-are_bits, then-word-n-via-then-word-n, then-word-n-via-else-word-n+then-bits-x}

-- the book that is loaded
known : (c : In_ok-x) → Known c.args.book.now c.in_ok-x.x.m c.in_ok-x.x.n c.in_ok-x.x.k
known c = shape-known c.args.book.now c.in_ok-x.x c.in_ok-x.ensures.answer

-- where the tests are passed: the tables hold the book's kinds, the lengths are right, and the word is of bits
passed : (c : Else-not-are_bits) → (K : Known c.args.book.now c.in_ok-x.x.m c.in_ok-x.x.n c.in_ok-x.x.k) →
    Tabled K.is.kinds c.load_tables.new.tables.kinds c.load_tables.new.tables.terms × (length c.args.word.now ≡ 2 ^ K.is.m) × (length c.args.bits.now ≡ free_count K.is.kinds) × All Bit c.args.word.now
passed c K = (
  load-tabled c.args.book.now K.is _ _ K.loads c.in_ok-x.ensures.filled,
  c.if-word-n.false ∙ K.size,
  c.if-bits-x.false ∙ K.free,
  are-bits _ (sym c.are_bits.ensures ∙ c.if-not-are_bits.false),
)

pub returns-in_err-x : goal.returns-in_err-x
returns-in_err-x c =
    let a = c.args in
    let r = c.in_err-x.field-0.0 in
    let t = told c.from_residual.result a.bits.now (read-data-number a.book.now a.word.now a.bits.now)
    (read-refused a.book.now a.bits.now a.word.now r (shape-refused a.book.now r c.in_err-x.ensures.answer)
    ∙ ap (λ o. record { outcome = o; buffer = a.bits.now }) (sym (handed c.from_residual.result c.from_residual.ensures.1))) in
    record { fact = t.0; number = t.1 }

pub returns-then-word-n : goal.returns-then-word-n
returns-then-word-n c =
    let a = c.args in
    let K = known (goal.at.returns-then-word-n c).In_ok-x in
    let t = told _ a.bits.now (read-data-number a.book.now a.word.now a.bits.now)
    (read-mismatch a.book.now a.bits.now a.word.now K.is K.loads
    (λ f. elim c.then-word-n.branch [
      | then-word-n-via-then-word-n w ↦ w.if-word-n.true (f.0 ∙ sym K.size)
      | then-word-n-via-else-word-n+then-bits-x w ↦ w.if-bits-x.true (f.1 ∙ sym K.free)
    ])) in
    record { fact = t.0; number = t.1 }

pub returns-then-not-are_bits : goal.returns-then-not-are_bits
returns-then-not-are_bits c =
    let a = c.args in
    let K = known (goal.at.returns-then-not-are_bits c).In_ok-x in
    let t = told _ a.bits.now (read-data-number a.book.now a.word.now a.bits.now)
    (read-bad a.book.now a.bits.now a.word.now K.is K.loads (c.if-bits-x.false ∙ K.free) (c.if-word-n.false ∙ K.size) (sym c.are_bits.ensures ∙ c.if-not-are_bits.true)) in
    record { fact = t.0; number = t.1 }

pub slice_bounds-u-end : goal.slice_bounds-u-end
slice_bounds-u-end c = known_small (known (goal.at.slice_bounds-u-end c).In_ok-x)

pub slice_bounds-data_of-end : goal.slice_bounds-data_of-end
slice_bounds-data_of-end c = zeros-part _ (known_small (known (goal.at.slice_bounds-data_of-end c).In_ok-x))

pub data_of-requires : goal.data_of-requires
data_of-requires c =
    let x = goal.at.data_of-requires c in
    let K = known x.In_ok-x in
    let z = passed x.Else-not-are_bits K in
    record {
      some = (_, (z.0.coded, K.valid.indices ∙ sym z.1, sym z.2));
      word_len = (c.if-word-n.false ∙ zeros-part _ (known_small K), z.1 ∙ ap (λ n. 2 ^ n) (sym K.height), z.3);
    }

pub returns : goal.returns
unfolding read_data
returns c =
    let a = c.args in
    let x = goal.at.returns c in
    let K = known x.In_ok-x in
    let z = passed x.Else-not-are_bits K in
    let e = c.data_of.ensures.bits_after _ z.0.coded (K.valid.indices ∙ sym z.1) (sym z.2) ∙ ap (λ m. free_bits K.is.kinds (transform m a.word.now)) K.height in
    let t = told (Ok tt) c.data_of.new.bits (read-data-number a.book.now a.word.now a.bits.now)
    (read-good a.book.now a.bits.now a.word.now K.is K.loads z.2 z.1 (sym c.are_bits.ensures ∙ c.if-not-are_bits.false)
    ∙ ap (λ v. record { outcome = Ok tt; buffer = v }) (sym e)) in
    record { fact = t.0; number = t.1 }
