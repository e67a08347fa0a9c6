-- `extraction::extract::extract` meets its contract: what each of the three steps needs follows from the state that the run reaches, and what they
-- leave is the reader's extraction. Extracts.antt has each step, for any state that memory stands for; the contract's own state shows what the calls
-- need. Assumes nothing.
use mathlib.Core.Path.{◌∙◌}
use native.Mathlib.Omega.{arith}
use Rattle.standing.specs.Seen.{memory}
use Rattle.extraction.proofs.Extracts.{extract-blocks, extract-seconding, extract-thirding, extract-moved, extract-outrunning, extract-done}
use Rattle.extraction.proofs.extract.extract.Goals as goal

pub second-x-requires-clause-seconding : goal.second-x-requires-clause-seconding
second-x-requires-clause-seconding c = extract-seconding c.requires.extracting

pub third-requires-clause-by_index : goal.third-requires-clause-by_index
third-requires-clause-by_index c =
    let o = c.requires.extracting in
    (_, extract-thirding o c.requires.le_paths.0 c.args.t.crowded c.second-x.new.kept (c.second-x.ensures.fact (extract-seconding o)).0)

pub outrun-requires-clause-rows : goal.outrun-requires-clause-rows
unfolding memory
outrun-requires-clause-rows c = let l = c.third.ensures.lent_2.0 in (l.rows, l.has.held, l.has.deep)

pub outrun-requires-clause-paths_bound : goal.outrun-requires-clause-paths_bound
outrun-requires-clause-paths_bound c =
    let f = c.second-x.ensures.extractions_value in (
      c.third.ensures.lent_2.0.few,
      f.2,
      omega (arith, c.blocks_of.ensures, extract-blocks c.requires.extracting),
      c.requires.by_index _,
      omega (arith, f.1, c.requires.le_paths.4),
    )

pub outrun-requires-clause-by_index : goal.outrun-requires-clause-by_index
outrun-requires-clause-by_index c =
    let a = c.args in
    let o = c.requires.extracting in
    let two = c.requires.le_paths.0 in
    let x = c.second-x in
    let copied = (x.ensures.fact (extract-seconding o)).0 in
    let moved = extract-moved o two a.t.crowded x.new.kept copied _ _ _ x.result.queued (c.third.ensures.by_index_2 _ (extract-thirding o two a.t.crowded x.new.kept copied)) in
    (a.layout.arrays, c.third.ensures.lent_2.0.has.many, extract-outrunning o two a.t.crowded x.new.kept copied c.third.new.kept moved _ x.ensures.extractions_value.0 _ c.blocks_of.ensures)

pub returns-clause-lent_2 : goal.returns-clause-lent_2
unfolding memory
returns-clause-lent_2 c =
    let l = c.third.ensures.lent_2.0 in
    let same = c.outrun.ensures.unchanged in (
      record {
        few = l.few;
        rows = rw same.0 l.rows;
        has = record { deep = l.has.deep; many = l.has.many; held = c.outrun.ensures.held.0; numbers = rw same.1 l.has.numbers; bytes = rw same.2 l.has.bytes };
        enough = l.enough;
      },
      c.third.ensures.lent_2.1,
    )

pub returns-clause-fact : goal.returns-clause-fact
returns-clause-fact c o =
    let a = c.args in
    let two = c.requires.le_paths.0 in
    let x = c.second-x in
    let same = x.ensures.extractions_value in
    let f = c.outrun.ensures.held in
    let copied = (x.ensures.fact (extract-seconding o)).0 in
    let moved = extract-moved o two a.t.crowded x.new.kept copied _ _ _ x.result.queued (c.third.ensures.by_index_2 _ (extract-thirding o two a.t.crowded x.new.kept copied)) in
    let w =
    c.outrun.ensures.by_index_2 a.layout.arrays (extract-outrunning o two a.t.crowded x.new.kept copied c.third.new.kept moved _ same.0 _ c.blocks_of.ensures)
    c.third.ensures.lent_2.0.has.many in
    let k =
    extract-done o two a.t.crowded x.new.kept copied c.third.new.kept moved x.result.outrun c.blocks_of.result c.blocks_of.ensures _ same.0 f.6
    (w.0, w.1, w.2) in
    (k.0, f.2 ∙ k.1, f.1 ∙ k.2, f.4 ∙ k.3, omega (arith, k.4, same.1), k.5, k.6)
