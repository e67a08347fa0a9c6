-- A clean hook reads clean: document 02, the first request. What a clean hook is, and what the plain machine's run and the reader's come to on it, for every L and D
-- allowed: proofs/Run.antt and proofs/Calls.antt show it. Assumes nothing.
use Rattle.std.specs.Prelude.{◌≡◌, cond, List, map, ℕ, zero, suc, ◌+◌, ◌-◌, ◌^◌, ◌<◌, min, length, ℤ, pos, neg_ℤ, ◌≤ℤ◌, T, eqb}
use Rattle.laws.specs.Lists.{All, tab}
use Rattle.laws.specs.Pairs.{Paired}
use Rattle.polar.specs.Bits.{Bit}
use Rattle.polar.specs.Shown.{Shows}
use Rattle.codebook.specs.Book.{Book, free_count, block_at, kinds_of}
use Rattle.codec.specs.Code.{in_code, read_data}
use Rattle.queue.specs.Queue.{Step, Final, End, found}
use Rattle.machine.specs.declared.Counts.{Counts}
use Rattle.machine.specs.Calls.{counts_of, final_in}
use Rattle.steprecords.specs.declared.StepRecord.{StepRecord}
use Rattle.steprecords.specs.Records.{record_of}

-- ---- a clean hook

-- The received values ys show the word w of book B, and its biases never rise.
pub record Clean (B : Book) (ys : List ℤ) (w : List ℕ) : Type 0 where
  -- w is a word of the code: n bits that obey the book
  pub size : length w ≡ 2 ^ B.m
  pub bits : All Bit w
  pub member : T (in_code B w)
  -- each of the n values is not 0, and has the sign of w's bit in its place: above 0 for a 0, below 0 for a 1
  pub signs : Paired Shows w ys
  -- no block has a higher bias than the block before it
  pub biases : (b : ℕ) → suc b < length B.blocks → (block_at B (suc b)).bias ≤ℤ (block_at B b).bias

-- ---- its run

-- the score of path 0 with b blocks: 0, or minus the bias of its last block
unfoldable pub clean_score : Book → ℕ → ℤ
clean_score B zero = pos 0
clean_score B (suc b) = neg_ℤ (block_at B b).bias

-- its extraction then
unfoldable pub clean_record : Book → ℕ → StepRecord
clean_record B b = record { path = pos 0; blocks = pos b; score = clean_score B b }

-- V + 1 extractions, namely those of path 0 with 0, 1, .., V blocks
unfoldable pub clean_walk : Book → List StepRecord
clean_walk B = tab (length B.blocks + 1) (clean_record B)

-- how many of the first b blocks hold a free index: such a block has a next word, any other has one word alone
unfoldable pub branching : Book → ℕ → ℕ
branching B zero = 0
branching B (suc b) = branching B b + min 1 (free_count (kinds_of B b))

-- the copies that path 0 leaves behind: one for each block with a next word, but for the last block
unfoldable pub copies : Book → ℕ
copies B = branching B (length B.blocks - 1)

-- The counts: V + 1 extractions, discrepancy 0. With L 1 each copy is outrun as soon as it is made. Else the copies stay: D - 1 have room beside path 0, and the
-- others, if there are more, are crowded out.
unfoldable pub clean_counts : Book → ℕ → ℕ → Counts
clean_counts B L D =
    let once = eqb L 1 in
    record {
      extractions = length B.blocks + 1;
      crowded = cond once 0 (copies B - (D - 1));
      outrun = cond once (copies B) 0;
      discrepancy = 0;
    }

-- the final word is w, with its own data, at discrepancy 0
unfoldable pub clean_final : Book → List ℕ → Final
clean_final B w = record { word = w; bits = read_data B w; discrepancy = 0 }

-- A run reads clean: its extractions, its counts, and its end.
pub record RunsClean (B : Book) (L D : ℕ) (w : List ℕ) (steps : List Step) (end : End Final) : Type 0 where
  pub walk : map record_of steps ≡ clean_walk B
  pub counts : counts_of steps (final_in end) ≡ clean_counts B L D
  pub final : end ≡ found (clean_final B w)
