-- `steps::copies::copy` meets its contract: the word kept or the search's answer is the reader's next word; where there is none nothing changes, else the queue is cut, the
-- top vacant slot is the copy's, and fork makes the copy. Nexts.antt has each step, for any state that memory stands for; the contract's own state
-- shows what the calls need. Assumes nothing.
use mathlib.Core.Path.{◌≡◌, sym, ap, ◌∙◌}
use mathlib.Core.Bool.{true}
use mathlib.Core.List.{◌∷◌}
use Prim.Native.Nat.{ℕ, suc, ◌+◌, ◌-◌, ◌<◌}
use native.Mathlib.Omega.{arith}
use lib.ListN.{length, get_or}
use borrow.Author.Tests.{not-true, not-false}
use Rattle.order.specs.Entries.{slot_at, queue_of}
use Rattle.order.proofs.Queues.{queue-first, queue-length}
use Rattle.standing.specs.Seen.{memory, contents}
use Rattle.standing.proofs.Sizes.{slot-low}
use Rattle.steps.specs.Steps.{Forking, Copying}
use Rattle.steps.proofs.Forks.{lent-on, fork-apart}
use Rattle.steps.proofs.Nexts.{copy-low, copy-id, copy-searchable, copy-cost, copy-found, copy-none, copy-fork, copy_done}
use Rattle.steps.proofs.copies.copy.Goals.{After-crowd-left}
use Rattle.steps.proofs.copies.copy.Goals as goal

pub other_word-found-requires-clause-has_row : goal.other_word-found-requires-clause-has_row
unfolding memory
other_word-found-requires-clause-has_row c =
    let l = c.requires.lent.0 in
    let o = c.requires.by_index.2 in
    let low = slot-low o.hand.stands in
    let few : slot_at c.args.e < 256 = omega (arith, low, l.few) in
    ((few, omega (arith, low, l.rows)), l.has.deep, copy-low o, copy-id o l.has.many, omega (arith, low, c.requires.lent.1))

pub other_word-found-requires-clause-searchable : goal.other_word-found-requires-clause-searchable
unfolding memory
other_word-found-requires-clause-searchable c = copy-searchable c.requires.by_index.2 c.requires.lent.0

pub other_word-found-requires-clause-cost : goal.other_word-found-requires-clause-cost
unfolding memory
other_word-found-requires-clause-cost c = copy-cost c.requires.by_index.2

pub returns-then-not-found-clause-by_index_2 : goal.returns-then-not-found-clause-by_index_2
unfolding memory
returns-then-not-found-clause-by_index_2 c = λ b o q.
    let t = c.args.t in
    let found = copy-found o c.other_word-found.ensures.nexts in
    let k = copy-none o t.next t.crowded found.first (not-true _ c.if-not-found.true) in
    (sym (queue-length t.queued c.args.queue.now.order) ∙ k.0, k.1, k.2, k.3, k.4)

pub crowd-left-requires-clause-rows : goal.crowd-left-requires-clause-rows
unfolding memory
crowd-left-requires-clause-rows c = let l = c.requires.lent.0 in (l.rows, l.has.held, l.has.deep)

-- ---- once the queue is cut

-- the copy's slot is the top vacant one
abbrev top : After-crowd-left → ℕ
top c = c.args.s.paths - (c.crowd-left.result + 2)

abbrev slot : After-crowd-left → ℕ
slot c = get_or c.crowd-left.new.queue.vacant (top c) 0

vacant-is : (c : After-crowd-left) → let vacant = c.crowd-left.new.queue.vacant in
    queue_of vacant (c.args.s.paths - (c.crowd-left.result + 1)) ≡ slot c ∷ queue_of vacant (top c)
vacant-is c =
    let vacant = c.crowd-left.new.queue.vacant in
    let n : ℕ = c.args.s.paths - (c.crowd-left.result + 1) in
    let down : n - 1 ≡ top c = omega arith in
    queue-first n vacant (omega (arith, c.crowd-left.ensures.held.2)) ∙ ap (λ (i : ℕ). get_or vacant i 0 ∷ queue_of vacant i) down

-- what fork needs, for any state that memory stands for where the call began
abbrev Copy : After-crowd-left → ℕ → Type 0
Copy c b =
    let a = c.args in
    Copying a.layout.m a.s.paths a.layout.arrays (contents a.memory.now) a.e (queue_of a.queue.now.order a.t.queued)
    (queue_of a.queue.now.vacant (a.s.paths - (a.t.queued + 1))) a.tables.now.kinds a.tables.now.terms a.last a.kept.now b

forking : (c : After-crowd-left) (b : ℕ) (o : Copy c b) → c.other_word-found.result.first.some ≡ true → let a = c.args in
    Forking a.layout.m a.s.paths a.layout.arrays (contents c.crowd-left.new.memory) a.e (slot c) (queue_of c.crowd-left.new.queue.order c.crowd-left.result)
    (queue_of c.crowd-left.new.queue.vacant (top c)) a.last c.other_word-found.result b
unfolding memory
forking c b o there =
    let a = c.args in
    let f = c.crowd-left.ensures in
    let left = f.by_index_2 a.layout.arrays a.e o.hand c.requires.lent.0.has.many in
    copy-fork o (copy-found o c.other_word-found.ensures.nexts) there left.0 f.held.2 (rw (vacant-is c) at left.1)

pub fork-requires-clause-lent : goal.fork-requires-clause-lent
unfolding memory
fork-requires-clause-lent c =
    let l = c.requires.lent.0 in
    let has = l.has in
    let p = c.requires.by_index in
    let f = c.crowd-left.ensures in
    let others = f.others_as_before in
    let apart = fork-apart (forking (goal.at.fork-requires-clause-lent c).After-crowd-left p.0 p.2 (not-false _ c.if-not-found.false)) in (
      lent-on l (ap length others.0) (record { deep = has.deep; many = has.many; held = f.held.0; numbers = rw others.1 has.numbers; bytes = rw others.2 has.bytes }),
      apart.1,
      f.held.2,
      omega arith,
      c.requires.lent.1,
    )

pub fork-requires-clause-by_index : goal.fork-requires-clause-by_index
fork-requires-clause-by_index c =
    let p = c.requires.by_index in
    let d = (goal.at.fork-requires-clause-by_index c).After-crowd-left in
    (p.0, p.1, queue_of c.crowd-left.new.queue.vacant (top d), forking d p.0 p.2 (not-false _ c.if-not-found.false))

pub returns-clause-by_index_2 : goal.returns-clause-by_index_2
unfolding memory forking
returns-clause-by_index_2 c = λ b o q.
    let a = c.args in
    let d = (goal.at.returns-clause-by_index_2 c).After-crowd-left in
    let there = not-false _ c.if-not-found.false in
    let f = c.crowd-left.ensures in
    let r = c.tallied.ensures in
    let left = f.by_index_2 a.layout.arrays a.e o.hand c.requires.lent.0.has.many in
    let h = c.fork.ensures.by_index_2 b (queue_of c.crowd-left.new.queue.vacant (top d)) (forking d b o there) q in
    let k = copy_done o (copy-found o c.other_word-found.ensures.nexts) there left.0 f.held.2 (rw (vacant-is d) at left.1) a.t.next a.t.crowded c.fork.new.kept f.held.3 h in
    let down : a.s.paths - (suc c.crowd-left.result + 1) ≡ top d = omega arith in
    let here = ap (λ (n : ℕ). a.t.crowded + (n - c.crowd-left.result)) (sym (queue-length a.t.queued a.queue.now.order)) in
    rw (r.0, r.1, r.3, c.fork.ensures.lent_2.1, down) (k.0, k.1, here ∙ k.2, k.3, k.4)
