-- `standing::row::put` meets its contract: the five stores are those of a list of five numbers, one after the other. Assumes nothing.
use mathlib.Core.Path.{refl}
use mathlib.Core.List.{[], ◌∷◌}
use Prim.Native.Nat.{ℕ, ◌+◌, ◌*◌}
use native.Mathlib.Omega.{arith}
use lib.ListN.{get_or}
use Rattle.laws.proofs.Stores.{stored-none}
use Rattle.standing.specs.Standing.{cell, spent_at, cost_at, word_at, earlier_at, parities_at}
use Rattle.standing.proofs.Cells.{store-next, store-read}
use Rattle.standing.proofs.row.put.Goals as goal

pub returns : goal.returns
unfolding cell
returns c =
    let x = c.args.cells in
    let at = c.args.slot * 16 in
    let value : ℕ → ℕ = λ k. get_or (x.spent ∷ x.cost ∷ x.word ∷ x.earlier ∷ x.parities ∷ []) k 0 in
    let none = stored-none c.args.rows.now (at + spent_at) value in
    let one = store-next (at + spent_at) x.spent none (omega arith) (omega arith) refl in
    let two = store-next (at + cost_at) x.cost one (omega arith) (omega arith) refl in
    let three = store-next (at + word_at) x.word two (omega arith) (omega arith) refl in
    let four = store-next (at + earlier_at) x.earlier three (omega arith) (omega arith) refl in
    let all = store-next (at + parities_at) x.parities four (omega arith) (omega arith) refl in
    record {
      size = all.size;
      spent = store-read (at + spent_at) 0 all (omega arith) (omega arith);
      cost = store-read (at + cost_at) 1 all (omega arith) (omega arith);
      word = store-read (at + word_at) 2 all (omega arith) (omega arith);
      earlier = store-read (at + earlier_at) 3 all (omega arith) (omega arith);
      parities = store-read (at + parities_at) 4 all (omega arith) (omega arith);
      before = all.before;
      after = λ k h. all.after k (omega arith);
    }
