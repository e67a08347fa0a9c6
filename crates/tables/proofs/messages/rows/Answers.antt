-- `tables::messages::rows` meets its contract: the table has the rows, by a test that is computed at each entry. Assumes nothing.
use mathlib.Core.Bool.{Bool}
use mathlib.Core.List.{List, [], ◌∷◌, zip_with}
use Prim.Native.Nat.{ℕ}
use lib.Dec.{eqb, eqb→eq}
use lib.ListN.{get_or}
use Rattle.polar.specs.Bits.{add_bits, number}
use Rattle.polar.specs.Transform.{transform}
use Rattle.outer.specs.Search.{unit, row_of}
use Rattle.outer.proofs.Rows.{every-at}
use Rattle.tables.proofs.messages.rows.Goals as goal

rows : List ℕ
rows =
    1 ∷ 3 ∷ 5 ∷ 15 ∷ 17 ∷ 51 ∷ 85 ∷ 255 ∷ 257 ∷ 771 ∷ 1285 ∷ 3855 ∷ 4369 ∷ 13107 ∷ 21845 ∷ 65535 ∷ 65537 ∷ 196611 ∷ 327685 ∷ 983055 ∷ 1114129 ∷ 3342387 ∷ 5570645 ∷ 16711935 ∷ 16843009 ∷ 50529027 ∷ 84215045 ∷ 252645135 ∷ 286331153 ∷ 858993459 ∷ 1431655765 ∷ 4294967295 ∷ []

right : ℕ → Bool
right i = eqb (get_or rows i 0) (row_of i)

pub returns : goal.returns
unfolding rows right row_of unit transform number add_bits zip_with
returns c = λ i h. eqb→eq (get_or rows i 0) (row_of i) (every-at right 32 tt i h)
