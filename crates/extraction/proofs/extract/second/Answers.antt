-- `extraction::extract::second` meets its contract: the entry has the path's blocks; where there are none nothing changes, else the copy is that of
-- its last block. Seconds.antt has both cases, for any state that memory stands for; the contract's own state shows what the call needs. Assumes
-- nothing.
use mathlib.Core.Path.{◌≡◌, sym, ◌∙◌}
use Prim.Native.Nat.{suc, ◌-◌}
use native.Mathlib.Omega.{arith}
use Rattle.order.specs.Entries.{key_at}
use Rattle.order.proofs.Queues.{queue-length}
use Rattle.extraction.proofs.Seconds.{second_none, second-copying, second-done, second-crowds}
use Rattle.extraction.proofs.extract.second.Goals as goal

pub returns-then-empty-clause-fact : goal.returns-then-empty-clause-fact
returns-then-empty-clause-fact c o =
    let a = c.args in
    let k = second_none o a.t.crowded (omega (arith, c.blocks_of-blocks.ensures, c.if-empty.true)) in
    ((sym (queue-length a.t.queued a.queue.now.order) ∙ k.0, k.1, k.2, k.3, k.4), second-crowds o k.3)

pub copy-requires-clause-by_index : goal.copy-requires-clause-by_index
copy-requires-clause-by_index c =
    let n = c.blocks_of-blocks.result in
    let some : n ≡ suc (n - 1) = omega (arith, c.if-empty.false) in
    (_, some, second-copying c.requires.seconding c.requires.le_paths.0 (omega (arith, c.blocks_of-blocks.ensures)))

pub returns-clause-fact : goal.returns-clause-fact
returns-clause-fact c o =
    let a = c.args in
    let two = c.requires.le_paths.0 in
    let n = c.blocks_of-blocks.result in
    let some : n ≡ suc (n - 1) = omega (arith, c.if-empty.false) in
    let blocks : (key_at a.e).blocks ≡ suc (n - 1) = omega (arith, c.blocks_of-blocks.ensures) in
    let k = second-done o two blocks a.t.crowded c.copy.new.kept (c.copy.ensures.by_index_2 _ (second-copying o two blocks) some) in
    (k, second-crowds o k.3)
