-- `start::begin` meets its contract: the table of holders is given as zeros, and each height's store counts one path more. Assumes nothing.
use mathlib.Core.Path.{◌≡◌, refl, ap, ◌∙◌}
use Prim.Native.Nat.{ℕ, ◌+◌, ◌*◌, ◌<◌}
use mathlib.Core.List.{List}
use native.Mathlib.Omega.{arith}
use lib.ListN.{length, get_or, replicate, length-replicate}
use Rattle.laws.proofs.Lists.{get_d-zeros}
use Rattle.sharing.proofs.Tables.{more-none}
use Rattle.start.proofs.Begun.{Zeros, none_below, held-begun, begun_more, begun-last, begun-held}
use Rattle.start.proofs.begin.Goals as goal

-- a table of zeros holds none
none : {l : List ℕ} → l ≡ replicate 2580 0 → Zeros l
none e k = ap (λ l. get_or l k 0) e ∙ get_d-zeros 2580 k

pub loop-h-init : goal.loop-h-init
loop-h-init c = record {
  held = none_below c.args.holders.now (none c.requires.2) (ap length c.requires.2 ∙ length-replicate {A = ℕ} 2580 0);
  more = more-none _ _ _;
}

pub loop-h-preserved : goal.loop-h-preserved
loop-h-preserved c =
    let x = c.loop-h in
    let a = c.args in record {
      held = held-begun x.h 0 (x.h * 257) x.invariant.held (omega arith) (omega arith) (omega arith);
      more = begun_more a.rows.now a.m c.requires.1 (none c.requires.2) x.invariant.held.size c.requires.3 (omega arith) x.invariant.more;
    }

pub returns : goal.returns
returns c =
    let x = c.loop-h.invariant in
    let rows = c.args.rows.now in
    let m = c.args.m in
    let room : m < length rows = omega arith in (
      refl,
      held-begun m 1 (m * 257 + 1) x.held c.requires.3 (omega arith) (omega arith),
      begun-held rows m c.requires.1 (none c.requires.2) room (begun-last rows m c.requires.1 (none c.requires.2) x.held.size c.requires.3 room (omega arith) x.more),
    )
