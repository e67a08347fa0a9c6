-- `extraction::extract::third` meets its contract: once the values of the path's next block are there, the search answers the reader's nearest word
-- and the next after it; the path's row and entry, written anew, hold the path with the nearest, the insertion queues it, and the next is kept for
-- it. Moves.antt and Keeping.antt have each step, for any state that memory stands for; the contract's own state shows what the calls need.
-- Assumes nothing.
use mathlib.Core.Path.{◌≡◌, ap₂, ◌∙◌}
use mathlib.Core.List.{List}
use Prim.Native.Nat.{ℕ, ◌+◌}
use lib.ListN.{length-set}
use native.Mathlib.Omega.{arith}
use lib.IntN.{ℤ, pos, neg_ℤ, ◌-ℤ◌}
use mir.Facts.{to_z-of_z}
use Rattle.laws.proofs.Signed.{back, abs-fits}
use Rattle.polar.specs.Layers.{Within}
use Rattle.order.specs.Entries.{key_at, slot_at}
use Rattle.sharing.specs.Sharing.{HasRow}
use Rattle.standing.specs.Seen.{Memory, memory, Lent}
use Rattle.standing.proofs.Sizes.{slot-low}
use Rattle.words.specs.Kept.{Table}
use Rattle.words.specs.declared.Block.{Block}
use Rattle.extraction.specs.Extraction.{Thirding}
use Rattle.extraction.proofs.Moves.{third-bias, third-blocks, third-low, third-spent, third-cost, third-id, third-searchable, third-words, third-total, third-packed, third-queued}
use Rattle.extraction.proofs.Keeping.{third-kept}
use Rattle.extraction.proofs.extract.third.Goals as goal

-- the path's slot has a row
there : {m D N e s : ℕ} {x y : Memory} {es vs kinds terms : List ℕ} {kept : Table} {last at : Block} → Thirding m D N x e es vs kinds terms last at kept → Lent m D N y → s ≡ slot_at e → HasRow s y.rows
there o l q = let low = slot-low o.moving.hand.stands in (omega (arith, low, l.few), omega (arith, low, l.rows))

-- a bias, and a score, are small
bias-back : (z : ℤ) → Within 1048576 z → back z ≡ z
bias-back z h = to_z-of_z (abs-fits z (omega arith))

score-back : (z : ℤ) → Within 2096640 z → back z ≡ z
score-back z h = to_z-of_z (abs-fits z (omega arith))

pub cells_of-own-requires : goal.cells_of-own-requires
unfolding memory
cells_of-own-requires c = there c.requires.by_index.1 c.calculate.ensures.lent_2.0 c.slot_of-slot.ensures.0

pub put-requires : goal.put-requires
unfolding memory
put-requires c = there c.requires.by_index.1 c.calculate.ensures.lent_2.0 c.slot_of-slot.ensures.0

pub overflow_add-spent : goal.overflow_add-spent
unfolding memory
overflow_add-spent c =
    let o = c.requires.by_index.1 in
    let st = c.calculate.ensures.by_index_2 _ _ o.moving in
    let spent = rw c.slot_of-slot.ensures.0 at c.cells_of-own.ensures.spent in
    let cost = rw c.slot_of-slot.ensures.0 at c.cells_of-own.ensures.cost in
    record { fits = omega (arith, spent, cost, third-spent o st, third-cost o st, o.total) }

pub nearest_words-found-requires-clause-has_row : goal.nearest_words-found-requires-clause-has_row
unfolding memory
nearest_words-found-requires-clause-has_row c =
    let o = c.requires.by_index.1 in
    let l = c.calculate.ensures.lent_2.0 in
    let id = third-id o (c.calculate.ensures.by_index_2 _ _ o.moving) l.has.many in
    (there o l c.slot_of-slot.ensures.0, l.has.deep, third-low o, rw c.slot_of-slot.ensures.0 id)

pub nearest_words-found-requires-clause-searchable : goal.nearest_words-found-requires-clause-searchable
unfolding memory
nearest_words-found-requires-clause-searchable c =
    let o = c.requires.by_index.1 in
    rw c.slot_of-slot.ensures.0 (third-searchable o (c.calculate.ensures.by_index_2 _ _ o.moving) c.calculate.ensures.lent_2.0)

pub score-requires : goal.score-requires
unfolding memory
score-requires c =
    let o = c.requires.by_index.1 in
    let st = c.calculate.ensures.by_index_2 _ _ o.moving in
    let slot = c.slot_of-slot.ensures.0 in
    let spent = rw slot at c.cells_of-own.ensures.spent in
    let cost = rw slot at c.cells_of-own.ensures.cost in
    let total = third-total o st (third-words o st slot c.nearest_words-found.ensures.fact).0 in
    (omega (arith, spent, cost, total), rw (bias-back _ (third-bias o)) (third-bias o))

pub overflow_add-blocks_of : goal.overflow_add-blocks_of
unfolding memory
overflow_add-blocks_of c = record { fits = omega (arith, c.blocks_of.ensures, third-blocks c.requires.by_index.1) }

pub entry-d-requires : goal.entry-d-requires
unfolding memory key_at
entry-d-requires c = (
  rw (score-back _ c.score.ensures.1) (omega (arith, c.score.ensures.1)),
  omega (arith, c.blocks_of.ensures, third-blocks c.requires.by_index.1),
  omega (arith, c.number_of.ensures),
  c.slot_of-slot.ensures.1,
)

pub bounds-kept-slot : goal.bounds-kept-slot
bounds-kept-slot c = omega (arith, c.slot_of-slot.ensures.0, slot-low c.requires.by_index.1.moving.hand.stands, c.requires.lent.2)

pub returns-clause-lent_2 : goal.returns-clause-lent_2
unfolding memory
returns-clause-lent_2 c =
    let l = c.calculate.ensures.lent_2.0 in (
      record {
        few = l.few;
        rows = omega (arith, l.rows, c.put.ensures.size);
        has = record { deep = l.has.deep; many = l.has.many; held = l.has.held; numbers = l.has.numbers; bytes = l.has.bytes };
        enough = l.enough;
      },
      simp length-set c.requires.lent.2,
    )

pub returns-clause-by_index_2 : goal.returns-clause-by_index_2
unfolding memory
returns-clause-by_index_2 c vs o =
    let st = c.calculate.ensures.by_index_2 _ vs o.moving in
    let slot = c.slot_of-slot.ensures.0 in
    let spent = rw slot at c.cells_of-own.ensures.spent in
    let cost = rw slot at c.cells_of-own.ensures.cost in
    let both = third-words o st slot c.nearest_words-found.ensures.fact in
    let near : ℕ = c.nearest_words-found.result.first.cost in
    let score = score-back _ c.score.ensures.1 ∙ c.score.ensures.0 ∙ ap₂ (λ (n : ℕ) (z : ℤ). neg_ℤ (pos n) -ℤ z) (ap₂ (λ (a b : ℕ). a + b + near) spent cost) (bias-back _ (third-bias o)) in
    let packed = rw (slot, c.number_of.ensures, c.blocks_of.ensures) at c.entry-d.ensures in
    let d = third-packed o st both.0 score packed in
    let row = rw (slot, spent, cost, rw slot at c.cells_of-own.ensures.parities) at c.put.ensures in
    rw c.insert.ensures.order_len_2.1 (third-queued o st both.0 d row, rw slot (third-kept o both.1 d (omega (arith, slot-low o.moving.hand.stands, c.requires.lent.2))))
