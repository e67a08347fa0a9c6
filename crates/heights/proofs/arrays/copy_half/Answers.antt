-- `heights::arrays::copy_half` meets its contract: the two arrays do not overlap, or are one, and what is written is one array's contents.
-- Assumes nothing.
use borrow.Author.Rules.{rules}
use Rattle.heights.proofs.Spots.{spots-clear}
use Rattle.heights.proofs.Contents.{parts-read, parts-length, parts-written}
use Rattle.heights.proofs.arrays.copy_half.Goals as goal

pub copy_values-requires : goal.copy_values-requires
copy_values-requires c =
    rw (c.spot_of.ensures, c.spot_of-2.ensures, c.power-n.ensures)
    (spots-clear c.args.numbers.now c.requires.3 c.requires.1 (search) c.requires.1 (search))

pub returns : goal.returns
returns c = let l = c.args.numbers.now in
    let e = c.copy_values.ensures in
    let n = c.power-n.ensures in record {
      numbers_len_unchanged = search rules;
      by_index = λ vals p. parts-written l vals p c.requires.3 c.requires.1 c.requires.5 e c.spot_of-2.ensures
          (parts-read l vals p c.requires.1 c.requires.4 c.spot_of.ensures n)
          (parts-length l vals p c.requires.3 c.requires.1 c.requires.4);
    }
