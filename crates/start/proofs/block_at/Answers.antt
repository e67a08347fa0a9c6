-- `start::block_at` meets its contract: the tables hold the block's start, height and bias, and the place of its word is the turn of its
-- end, which lies within the book. Assumes nothing.
use mir.Syntax.{w32}
use mathlib.Core.Path.{◌≡◌, ap, ap₂, ◌∙◌}
use Prim.Native.Nat.{suc, ◌+◌, ◌^◌}
use native.Mathlib.Omega.{arith}
use lib.ListN.{get_or}
use lib.Pow.{pow_pos}
use mir.Facts.{to_z-of_z}
use Rattle.codebook.specs.Book.{start_of, block_at}
use Rattle.reader.specs.Arrays.{turn}
use Rattle.reader.specs.Paths.{place}
use Rattle.start.proofs.block_at.Goals as goal

pub twos-requires : goal.twos-requires
twos-requires c = let a = c.args in omega (arith, pow_pos (get_or a.tables.now.heights a.b 0))

pub returns : goal.returns
unfolding place
returns c B ok t l =
    let a = c.args in
    let b = a.b in
    let e : get_or a.tables.now.starts b 0 + c.power.result ≡ start_of B.blocks b + 2 ^ (block_at B b).j =
    ap₂ (λ x y. x + y) (t.start b l) (c.power.ensures ∙ ap (λ j. 2 ^ j) (t.height b l)) in
    record {
      within = l;
      start = t.start b l;
      height = t.height b l;
      bias = to_z-of_z {w = w32} (record { sfits = omega arith }) ∙ t.bias b l;
      word = c.twos.ensures.1 B.m ok.high (omega (arith, (ok.blocks b l).within)) ∙ ap (turn (suc B.m)) e;
    }
