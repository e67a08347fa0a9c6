-- There are clean hooks, at the least L, D and T: two of the marked table, one with biases 3, 2, 2 and 0 and values from 1 to 2,047 in magnitude, one with k = 0. By computing.
-- Assumes nothing.
use mathlib.Core.Path.{refl}
use mathlib.Core.List.{List, [], ◌∷◌, ◌++◌}
use Prim.Native.Nat.{ℕ, zero, suc, ◌<◌}
use native.Mathlib.Omega.{arith}
use lib.ListN.{length, replicate}
use lib.IntN.{pos}
use lib.Signed.{◌≤ℤ◌}
use Rattle.laws.specs.Pairs.{Paired}
use Rattle.codebook.specs.Book.{free, frozen, Book, block_at}
use Rattle.machine.specs.declared.Reads.TheVariants.{Data}
use Rattle.machine.specs.Calls.{Input, Lent, call_of, plain}
use Rattle.machine.specs.Table.{asks, size, zeros, block, end, flat_book, room, flat_room, clean_values}
use Rattle.machine.proofs.Computing.{computing}
use Rattle.runs.specs.Handed.{Made}
use Rattle.clean.specs.Clean.{Clean}
use Rattle.clean.specs.Calls.{ReadsClean}
use Rattle.clean.proofs.Calls.{call-clean}

-- ---- biases that fall and stay, the word 1011

abbrev falling_book : Book
falling_book =
    record {
      m = 2;
      kinds = free ∷ free ∷ free ∷ free ∷ [];
      blocks = record { j = 0; bias = pos 3 } ∷ record { j = 0; bias = pos 2 } ∷ record { j = 0; bias = pos 2 } ∷ record { j = 0; bias = pos 0 } ∷ [];
    }

abbrev word : List ℕ
word = 1 ∷ 0 ∷ 1 ∷ 1 ∷ []

abbrev hook : Input
hook = asks (flat_book 3 2 2 0) 1 2 0 clean_values

made : Made plain hook flat_room falling_book
unfolding computing
made = record { loads = refl; unbarred = refl }

falling : Clean falling_book hook.values word
unfolding computing Paired
falling =
    record {
      size = refl;
      bits = (omega arith, (omega arith, (omega arith, (omega arith, tt))));
      member = tt;
      signs =
          (record { some = omega arith; sign = refl }, (record { some = omega arith; sign = refl }, (record { some = omega arith; sign = refl }, (record { some = omega arith; sign = refl }, tt))));
      biases = fall;
    }
  where
    fall : (b : ℕ) → suc b < length falling_book.blocks → (block_at falling_book (suc b)).bias ≤ℤ (block_at falling_book b).bias
    fall zero l = record { le = tt }
    fall (suc zero) l = record { le = tt }
    fall (suc (suc zero)) l = record { le = tt }
    fall (suc (suc (suc b))) l = absurd (omega arith)

pub clean-example : ReadsClean Data falling_book hook.settings flat_room word (call_of plain hook flat_room)
clean-example = call-clean plain hook flat_room falling_book word falling made

-- ---- k = 0, one block

abbrev zero_book : Book
zero_book = record { m = 2; kinds = frozen ∷ frozen ∷ frozen ∷ frozen ∷ []; blocks = record { j = 2; bias = pos 5 } ∷ [] }

abbrev zero_word : List ℕ
zero_word = 0 ∷ 0 ∷ 0 ∷ 0 ∷ []

abbrev zero_hook : Input
zero_hook = asks (size 2 ++ (zeros 4 ++ (block 2 5 ++ end))) 1 2 0 (replicate 4 (pos 1))

abbrev zero_room : Lent
zero_room = room 4 0 80 16 2

zero-made : Made plain zero_hook zero_room zero_book
unfolding computing
zero-made = record { loads = refl; unbarred = refl }

zero-clean : Clean zero_book zero_hook.values zero_word
unfolding computing Paired
zero-clean =
    record {
      size = refl;
      bits = (omega arith, (omega arith, (omega arith, (omega arith, tt))));
      member = tt;
      signs =
          (record { some = omega arith; sign = refl }, (record { some = omega arith; sign = refl }, (record { some = omega arith; sign = refl }, (record { some = omega arith; sign = refl }, tt))));
      biases = λ b l. absurd (omega arith);
    }

pub zero-example : ReadsClean Data zero_book zero_hook.settings zero_room zero_word (call_of plain zero_hook zero_room)
zero-example = call-clean plain zero_hook zero_room zero_book zero_word zero-clean zero-made
