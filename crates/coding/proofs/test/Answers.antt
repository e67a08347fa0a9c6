-- `coding::test` meets its contract: by loading's answer and the tests. Assumes nothing.
use mathlib.Core.Path.{◌≡◌, sym, ap, ◌∙◌}
use Prim.Native.Nat.{◌^◌}
use lib.ListN.{length}
use Rattle.std.specs.Prelude.{Ok}
use Rattle.laws.specs.Lists.{All}
use Rattle.polar.specs.Bits.{Bit}
use Rattle.polar.specs.Transform.{transform}
use Rattle.codec.specs.Code.{obeys_all, in_code}
use Rattle.codec.specs.Tabled.{Tabled}
use Rattle.coding.proofs.Told.{Known, known_small, shape-refused, shape-known, load-tabled, zeros-part, are-bits, handed, test-told, test-refused, test-mismatch, test-bad, test_good}
use Rattle.coding.proofs.test.Goals as goal
use Rattle.coding.proofs.test.Goals.{In_ok-x, Else-not-are_bits}

-- the book that is loaded
known : (c : In_ok-x) → Known c.args.book.now c.in_ok-x.x.m c.in_ok-x.x.n c.in_ok-x.x.k
known c = shape-known c.args.book.now c.in_ok-x.x c.in_ok-x.ensures.answer

-- where the tests are passed: the tables hold the book's kinds, the length is right, and the word is of bits
passed : (c : Else-not-are_bits) → (K : Known c.args.book.now c.in_ok-x.x.m c.in_ok-x.x.n c.in_ok-x.x.k) →
    Tabled K.is.kinds c.load_tables.new.tables.kinds c.load_tables.new.tables.terms × (length c.args.word.now ≡ 2 ^ K.is.m) × All Bit c.args.word.now
passed c K = (
  load-tabled c.args.book.now K.is _ _ K.loads c.in_ok-x.ensures.filled,
  c.if-word-n.false ∙ K.size,
  are-bits _ (sym c.are_bits.ensures ∙ c.if-not-are_bits.false),
)

pub returns-in_err-x : goal.returns-in_err-x
returns-in_err-x c =
    let a = c.args in
    let r = c.in_err-x.field-0.0 in
    let t = test-told a.book.now a.word.now
    (handed c.from_residual.result c.from_residual.ensures.1 ∙ test-refused a.book.now a.word.now r (shape-refused a.book.now r c.in_err-x.ensures.answer)) in
    record { value = t.0; number = t.1.0; exactly = t.1.1 }

pub returns-then-word-n : goal.returns-then-word-n
returns-then-word-n c =
    let a = c.args in
    let K = known (goal.at.returns-then-word-n c).In_ok-x in
    let t = test-told a.book.now a.word.now (test-mismatch a.book.now a.word.now K.is K.loads (λ e. c.if-word-n.true (e ∙ sym K.size))) in
    record { value = t.0; number = t.1.0; exactly = t.1.1 }

pub returns-then-not-are_bits : goal.returns-then-not-are_bits
returns-then-not-are_bits c =
    let a = c.args in
    let K = known (goal.at.returns-then-not-are_bits c).In_ok-x in
    let t = test-told a.book.now a.word.now
    (test-bad a.book.now a.word.now K.is K.loads (c.if-word-n.false ∙ K.size) (sym c.are_bits.ensures ∙ c.if-not-are_bits.true)) in
    record { value = t.0; number = t.1.0; exactly = t.1.1 }

pub slice_bounds-u-end : goal.slice_bounds-u-end
slice_bounds-u-end c = known_small (known (goal.at.slice_bounds-u-end c).In_ok-x)

pub slice_bounds-in_code-end : goal.slice_bounds-in_code-end
slice_bounds-in_code-end c = zeros-part _ (known_small (known (goal.at.slice_bounds-in_code-end c).In_ok-x))

pub in_code-requires : goal.in_code-requires
in_code-requires c =
    let x = goal.at.in_code-requires c in
    let K = known x.In_ok-x in
    let z = passed x.Else-not-are_bits K in
    record {
      some = (_, (z.0, K.valid.indices ∙ sym z.1));
      word_len = (c.if-word-n.false ∙ zeros-part _ (known_small K), z.1 ∙ ap (λ n. 2 ^ n) (sym K.height), z.2);
    }

pub returns : goal.returns
unfolding in_code
returns c =
    let a = c.args in
    let x = goal.at.returns c in
    let K = known x.In_ok-x in
    let z = passed x.Else-not-are_bits K in
    let e = c.in_code.ensures _ z.0 (K.valid.indices ∙ sym z.1) ∙ ap (λ m. obeys_all (transform m a.word.now) 0 K.is.kinds) K.height in
    let t = test-told a.book.now a.word.now (ap Ok e ∙ test_good a.book.now a.word.now K.is K.loads z.1 (sym c.are_bits.ensures ∙ c.if-not-are_bits.false)) in
    record { value = t.0; number = t.1.0; exactly = t.1.1 }
