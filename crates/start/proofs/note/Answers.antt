-- `start::note` meets its contract: an entry's number and blocks are small, so the casts keep them. Assumes nothing.
use mathlib.Core.Path.{◌≡◌, ap, ◌∙◌}
use Prim.Native.Nat.{ℕ}
use native.Mathlib.Omega.{arith}
use lib.IntN.{pos}
use lib.ListN.{set}
use mir.Syntax.{w32}
use mir.Val.{SFits}
use mir.Facts.{to_z-of_z}
use Rattle.laws.proofs.Signed.{abs-fits}
use Rattle.order.specs.Entries.{key_at}
use Rattle.start.proofs.note.Goals as goal

-- an entry's number, and its blocks, fit
number_fits : (e n : ℕ) → n ≡ (key_at e).number → SFits w32 (pos n)
unfolding key_at
number_fits e n q = abs-fits (pos n) (omega arith)

blocks-fit : (e n : ℕ) → n ≡ (key_at e).blocks → SFits w32 (pos n)
unfolding key_at
blocks-fit e n q = abs-fits (pos n) (omega arith)

pub overflow_cast-walk : goal.overflow_cast-walk
overflow_cast-walk c = number_fits _ _ c.number_of.ensures

pub overflow_cast-walk-2 : goal.overflow_cast-walk-2
overflow_cast-walk-2 c = blocks-fit _ _ c.blocks_of.ensures

pub returns-clause-noted : goal.returns-clause-noted
returns-clause-noted c =
    let a = c.args in
    let n = c.number_of.ensures in
    let b = c.blocks_of.ensures in (
      ap (set a.walk.now.path.now a.at) (to_z-of_z (number_fits a.e _ n) ∙ ap pos n),
      ap (set a.walk.now.blocks.now a.at) (to_z-of_z (blocks-fit a.e _ b) ∙ ap pos b),
      ap (set a.walk.now.score.now a.at) (to_z-of_z {w = w32} (record { sfits = c.score_of.type_inv }) ∙ c.score_of.ensures),
    )
