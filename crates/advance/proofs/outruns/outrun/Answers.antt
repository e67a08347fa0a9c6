-- `advance::outruns::outrun` meets its contract. Before the L-th visit, and after it, all paths stay; at the L-th those with more blocks stay, the
-- others are gone, and both together are those queued. Assumes nothing.
use mathlib.Core.Path.{◌≡◌, refl, sym, ap, ◌∙◌}
use Prim.Native.Nat.{◌+◌, ◌-◌}
use native.Mathlib.Numerals.{add-one}
use native.Mathlib.Omega.{arith}
use lib.ListN.{length, get_or}
use Rattle.queue.specs.Queue.{ahead, numbers, visit}
use Rattle.runs.proofs.Ends.{visit-same}
use Rattle.reader.specs.Paths.{key_of}
use Rattle.order.specs.Entries.{key_at, queue_of}
use Rattle.order.proofs.Queues.{queue-length}
use Rattle.standing.proofs.Sizes.{stands-length}
use Rattle.advance.proofs.Sides.{sides-length, stay_all, stay-ahead}
use Rattle.advance.proofs.Losses.{stands-numbers, outruns}
use Rattle.advance.proofs.outruns.outrun.Goals as goal

pub returns-then-seen-s-clause-held : goal.returns-then-seen-s-clause-held
unfolding visit
returns-then-seen-s-clause-held c =
    let a = c.args in
    let seen = visit-same a.visits.now a.b (omega arith) in
    let entries = queue_of a.queue.now.order a.t.queued in (
      c.requires.rows.1,
      rw add-one,
      refl,
      refl,
      refl,
      omega arith,
      sym (stay_all key_at a.s.visits a.b (visit a.visits.now a.b) entries (omega (arith, seen, c.if-seen-s.true))).0,
    )

pub returns-then-seen-s-clause-by_index_2 : goal.returns-then-seen-s-clause-by_index_2
returns-then-seen-s-clause-by_index_2 c =
    let a = c.args in
    let seen = visit-same a.visits.now a.b (omega arith) in
    let entries = queue_of a.queue.now.order a.t.queued in
    λ arrays x small.
    let q = x.queued in
    let stay = stay_all (key_of q.book) a.s.visits a.b (visit a.visits.now a.b) q.paths (omega (arith, seen, c.if-seen-s.true)) in
    let level : a.t.queued ≡ length q.paths = omega (arith, stands-length q.stands, queue-length a.t.queued a.queue.now.order) in
    (rw stay.0 level, rw stay.1 (omega arith), rw stay.0 q.stands, outruns x entries (stands-numbers q.stands ∙ ap (numbers (key_of q.book)) (sym stay.0)))

pub returns-clause-held : goal.returns-clause-held
unfolding visit
returns-clause-held c =
    let a = c.args in
    let left = c.sift-left in
    let seen = visit-same a.visits.now a.b (omega arith) in
    let lth : get_or (visit a.visits.now a.b) a.b 0 ≡ a.s.visits = omega (arith, seen, c.if-seen-s.false) in
    let entries = queue_of a.queue.now.order a.t.queued in
    let same = c.dismiss-gone.ensures.unchanged.1 in (
      c.dismiss-gone.ensures.held.0,
      rw add-one,
      refl,
      refl,
      refl,
      omega (arith, left.ensures.order_len.1),
      left.ensures.order_len.2 ∙ rw same (sym (stay-ahead key_at a.s.visits a.b (visit a.visits.now a.b) entries lth).0),
    )

pub returns-clause-by_index_2 : goal.returns-clause-by_index_2
returns-clause-by_index_2 c =
    let a = c.args in
    let gone = c.dismiss-gone in
    let left = c.sift-left in
    let seen = visit-same a.visits.now a.b (omega arith) in
    let lth : get_or (visit a.visits.now a.b) a.b 0 ≡ a.s.visits = omega (arith, seen, c.if-seen-s.false) in
    λ arrays x small.
    let q = x.queued in
    let w = gone.ensures.by_index_2 arrays q small in
    let stay = stay-ahead (key_of q.book) a.s.visits a.b (visit a.visits.now a.b) q.paths lth in
    let level : length q.paths ≡ a.t.queued = omega (arith, stands-length q.stands, queue-length a.t.queued a.queue.now.order) in
    let many : left.result ≡ length (ahead (key_of q.book) a.b q.paths) =
    sym (queue-length left.result left.new.order) ∙ ap length left.ensures.order_len.2 ∙ stands-length w.1 in
    let slots : a.s.paths - left.result ≡ a.s.paths - a.t.queued + gone.result =
    omega (arith, sides-length (key_of q.book) a.b q.paths, w.0) in
    let same : numbers key_at (queue_of left.new.order left.result) ≡ numbers (key_of q.book) (ahead (key_of q.book) a.b q.paths) =
    ap (numbers key_at) left.ensures.order_len.2 ∙ stands-numbers w.1 in (
      rw stay.0 many,
      rw stay.1 (ap (λ n. a.t.outrun + n) w.0),
      rw (stay.0, slots, left.ensures.order_len.2) w.1,
      outruns x _ (same ∙ ap (numbers (key_of q.book)) (sym stay.0)),
    )
