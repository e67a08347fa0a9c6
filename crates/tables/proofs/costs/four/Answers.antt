-- `tables::costs::four` meets its contract, by what `pick` ensures. Assumes nothing.
use native.Mathlib.Omega.{arith}
use Rattle.outer.proofs.Sums.{entry-small, picked-four}
use Rattle.tables.proofs.costs.four.Goals as goal

pub overflow_add-result : goal.overflow_add-result
overflow_add-result c =
    omega (arith, entry-small _ _ _ _ _ c.args.table.small (omega arith) c.pick.ensures, entry-small _ _ _ _ _ c.args.table.small (omega arith) c.pick-2.ensures)

pub overflow_add-result-2 : goal.overflow_add-result-2
overflow_add-result-2 c =
    omega (arith, entry-small _ _ _ _ _ c.args.table.small (omega arith) c.pick.ensures, entry-small _ _ _ _ _ c.args.table.small (omega arith) c.pick-2.ensures, entry-small _ _ _ _ _ c.args.table.small (omega arith) c.pick-3.ensures)

pub overflow_add-result-3 : goal.overflow_add-result-3
overflow_add-result-3 c =
    omega (arith, entry-small _ _ _ _ _ c.args.table.small (omega arith) c.pick.ensures, entry-small _ _ _ _ _ c.args.table.small (omega arith) c.pick-2.ensures, entry-small _ _ _ _ _ c.args.table.small (omega arith) c.pick-3.ensures, entry-small _ _ _ _ _ c.args.table.small (omega arith) c.pick-4.ensures)

pub returns : goal.returns
returns c =
    let a = c.args in (
      omega (arith, picked-four a.table.sums.now a.p a.w, c.pick.ensures, c.pick-2.ensures, c.pick-3.ensures, c.pick-4.ensures),
      omega (arith, entry-small _ _ _ _ _ c.args.table.small (omega arith) c.pick.ensures, entry-small _ _ _ _ _ c.args.table.small (omega arith) c.pick-2.ensures, entry-small _ _ _ _ _ c.args.table.small (omega arith) c.pick-3.ensures, entry-small _ _ _ _ _ c.args.table.small (omega arith) c.pick-4.ensures),
    )
