-- `sharing::holders::share` meets its contract. Assumes nothing.
use mathlib.Core.Path.{◌≡◌, sym}
use mathlib.Core.List.{List}
use mathlib.Core.Logic.{◌⊎◌, inl, inr}
use Prim.Native.Nat.{ℕ, ◌+◌, ◌*◌, ◌≤◌, ◌<◌}
use native.Mathlib.Omega.{arith}
use lib.ListN.{length, get_or}
use Rattle.laws.proofs.Stores.{Stored, stored-none, stored_more}
use Rattle.laws.proofs.Tests.{lt-or}
use Rattle.sharing.specs.Sharing.{id_at, held_at, Copied, MoreBy}
use Rattle.sharing.proofs.Tables.{held-count, more-none, more-add}
use Rattle.sharing.proofs.holders.share.Goals as goal

pub loop-h-init : goal.loop-h-init
loop-h-init c = record { held = c.requires.held.0; copied = stored-none _ _ _; more = more-none _ _ _ }

-- the id that a turn reads is as it was, since the other row is being written; it is an id, and one more path may hold it
turn : {old rows was holders : List ℕ} {from to h m : ℕ} → Stored old rows (to * 16) (id_at old from) h → MoreBy h old from was holders →
    h < m + 1 → m ≤ 9 → from * 16 + 16 ≤ length old → (from ≡ to → ⊥) → ((h : ℕ) → h ≤ m → let id = id_at old from h in (id ≤ 256) × (held_at was h id < 65535)) →
    (get_or rows (from * 16 + h) 0 ≡ get_or old (from * 16 + h) 0) × (get_or rows (from * 16 + h) 0 ≤ 256)
    × (get_or holders (h * 257 + get_or rows (from * 16 + h) 0) 0 < 65535)
unfolding id_at held_at
turn {old} {rows} {was} {holders} {from} {to} {h} {m} s t l top room apart ids =
    let e = same (lt-or from to) in
    let k = rw (← e) at (ids h (omega arith)) in
    (e, k.0, omega (arith, k.1, t.rest h (get_or rows (from * 16 + h) 0) (omega arith) (omega arith) k.0))
  where
    same : (from < to) ⊎ (to ≤ from) → get_or rows (from * 16 + h) 0 ≡ get_or old (from * 16 + h) 0
    same (inl k) = s.before (from * 16 + h) (omega arith)
    same (inr k) = s.after (from * 16 + h) (omega arith)

pub bounds-holders-h : goal.bounds-holders-h
bounds-holders-h c =
    let x = c.loop-h.invariant in
    let p = c.requires in
    omega (arith, turn x.copied x.more c.loop-h-test.true p.held.1 p.held.2.1 p.fact p.by_index)

pub overflow_add-holders-in-loop-h : goal.overflow_add-holders-in-loop-h
overflow_add-holders-in-loop-h c =
    let x = c.loop-h.invariant in
    let p = c.requires in
    omega (arith, turn x.copied x.more c.loop-h-test.true p.held.1 p.held.2.1 p.fact p.by_index)

pub bounds-holders-h-in-loop-h : goal.bounds-holders-h-in-loop-h
bounds-holders-h-in-loop-h c =
    let x = c.loop-h.invariant in
    let p = c.requires in
    omega (arith, turn x.copied x.more c.loop-h-test.true p.held.1 p.held.2.1 p.fact p.by_index)

pub loop-h-preserved : goal.loop-h-preserved
unfolding id_at held_at
loop-h-preserved c =
    let x = c.loop-h.invariant in
    let p = c.requires in
    let k = turn x.copied x.more c.loop-h-test.true p.held.1 p.held.2.1 p.fact p.by_index in
    record {
      held = held-count _ _ _ _ x.held (omega arith) k.1 (λ _ _. omega arith);
      copied = stored_more (get_or c.loop-h.rows (c.args.from * 16 + c.loop-h.h) 0) x.copied (omega arith) k.0;
      more = more-add x.held.size (omega arith) (sym k.0) k.1 x.more;
    }

pub returns-clause-held_2 : goal.returns-clause-held_2
returns-clause-held_2 c = (c.loop-h.invariant.held, c.loop-h.invariant.copied.size)

pub returns-clause-copied : goal.returns-clause-copied
unfolding Copied id_at
returns-clause-copied c =
    let s = c.loop-h.invariant.copied in
    (λ h l. s.done h (omega arith), s.before, λ k l. s.after k (omega arith))

pub returns-clause-more_by : goal.returns-clause-more_by
returns-clause-more_by c =
    let e : c.loop-h.h ≡ c.args.m + 1 = omega arith in
    rw e at c.loop-h.invariant.more
