-- `reading::run::finish` meets its contract: the word that the row holds goes into the sums of the root, and no more than the row's ids changed; so
-- the array of the path's id at the root holds the final word. Assumes nothing.
use mathlib.Core.Path.{◌≡◌, refl, ap₂, ◌∙◌}
use mathlib.Core.List.{List}
use Prim.Native.Nat.{ℕ, ◌+◌, ◌*◌, ◌≤◌, ◌<◌}
use native.Mathlib.Omega.{arith}
use lib.ListN.{length}
use Rattle.order.specs.Entries.{slot_at}
use Rattle.standing.specs.Seen.{Memory, memory, Lent}
use Rattle.standing.proofs.Sizes.{slot-low}
use Rattle.words.specs.declared.Block.{Block}
use Rattle.steps.proofs.Commits.{own-viewed, commit-seen}
use Rattle.reading.specs.Ending.{Ending}
use Rattle.reading.proofs.Ended.{end-heights, end-word, end-spent}
use Rattle.reading.proofs.run.finish.Goals as goal

-- the row of the path's slot is there, in rows of that length
there : {m D N e i n : ℕ} {x : Memory} {es vs : List ℕ} {last : Block} → Ending m D N x e es vs last → Lent m D N x → i ≡ slot_at e → n ≡ length x.rows → (i < 256) × (i * 16 + 16 ≤ n)
there h l q z = let low = slot-low h.hand.stands in (omega (arith, low, l.few), omega (arith, low, l.rows))

pub cells_of-own-requires : goal.cells_of-own-requires
unfolding memory
cells_of-own-requires c = there c.requires.by_index.2 c.requires.lent.0 c.slot_of-slot.ensures.0 refl

pub commit-requires-clause-has_arrays : goal.commit-requires-clause-has_arrays
unfolding memory
commit-requires-clause-has_arrays c =
    let h = c.requires.by_index.2 in
    let r = c.slot_of-slot.ensures.0 in
    let l = end-heights h r in
    (c.requires.lent.0.has, there h c.requires.lent.0 r refl, l.0, l.1)

pub commit-requires-clause-viewed : goal.commit-requires-clause-viewed
unfolding memory
commit-requires-clause-viewed c =
    let h = c.requires.by_index.2 in
    own-viewed h.hand c.requires.lent.0.enough c.slot_of-slot.ensures.0 h.valid h.own

pub overflow_add-counts-2 : goal.overflow_add-counts-2
unfolding memory
overflow_add-counts-2 c =
    let h = c.requires.by_index.2 in
    let row = end-spent h c.slot_of-slot.ensures.0 in
    record { fits = omega (arith, c.cells_of-own.ensures.spent, c.cells_of-own.ensures.cost, row.0, row.1, h.own.fit.total) }

pub id_of-requires : goal.id_of-requires
unfolding memory
id_of-requires c =
    let l = c.requires.lent.0 in
    (there c.requires.by_index.2 l c.slot_of-slot.ensures.0 c.commit.ensures.has_arrays_2.1.size, l.has.deep)

pub returns-clause-ran : goal.returns-clause-ran
unfolding memory
returns-clause-ran c es vs h =
    let a = c.args in
    let l = c.requires.lent.0 in
    let slot = c.slot_of-slot.ensures.0 in
    let t = a.stage.tally in
    let y : Memory = memory c.commit.new.memory.rows.now c.commit.new.memory.holders c.commit.new.memory.numbers.now c.commit.new.memory.bytes.now in
    let row = end-spent h slot in
    let sum = ap₂ (λ (a b : ℕ). a + b) (c.cells_of-own.ensures.spent ∙ row.0) (c.cells_of-own.ensures.cost ∙ row.1) in
    let seen = commit-seen h.hand l.enough slot h.valid h.own y _ c.cells_of-own.ensures.word c.commit.ensures.step_seen in
    let w = end-word h slot y seen c.id_of.result c.id_of.ensures in
    (λ i. record { extractions = t.extractions + 1; crowded = t.crowded; outrun = t.outrun; discrepancy = sum i }, w.0, w.1)
