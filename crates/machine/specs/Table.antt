-- The marked table: document 01's M1 to M11 and "Also run", and rows that pin what these leave open. proofs/Table.antt computes each row.
-- Assumes nothing.
use Rattle.std.specs.Prelude.{true, false, cond, List, [], ◌∷◌, ◌++◌, map, ℕ, zero, suc, drop, replicate, ℤ, pos, neg_ℤ, eqb, Option as Beside, Some, None, Ok, Err}
use Rattle.std.proofs.Math.Option.{none, some}
use Rattle.polar.specs.Bits.{to_bits}
use Rattle.codebook.specs.declared.Refusal.TheVariants.{Mismatch, BadValue}
use Rattle.codec.specs.declared.Status.{Status}
use Rattle.codec.specs.declared.Status.TheVariants.{Passed, HeldForLaboratory, Condemned}
use Rattle.codec.specs.declared.HookRecord.{HookRecord}
use Rattle.machine.specs.declared.Reads.{Reads}
use Rattle.machine.specs.declared.Reads.TheVariants.{Data, Record}
use Rattle.machine.specs.declared.Manner.{Manner}
use Rattle.machine.specs.declared.Counts.{Counts}
use Rattle.queue.specs.Queue.{Step}
use Rattle.settings.specs.Settings.{asked}
use Rattle.machine.specs.Calls.{Input, Lent, given, no_counts}
use Rattle.machine.specs.Rows.{Row, is_q, is_p, transforms, loads, ranks, encodes, tests, reads_data, makes, reads, makes_in, reads_in, walks, decodes, refuses, leaves, hooks, answers, Seen, shape}

-- ---- books, command by command, with small operands

-- the length 2^m; free and zero indices; a tie and a term
unfoldable pub size : ℕ → List ℕ
size m = 0x10 ∷ m ∷ []

unfoldable pub frees : ℕ → List ℕ
frees count = 0x01 ∷ 0 ∷ count ∷ []

unfoldable pub zeros : ℕ → List ℕ
zeros count = 0x02 ∷ 0 ∷ count ∷ []

unfoldable pub tie : ℕ → List ℕ
tie i = 0x03 ∷ 0 ∷ i ∷ []

unfoldable pub term : ℕ → List ℕ
term i = 0x04 ∷ 0 ∷ i ∷ []

-- an index command by its byte and both bytes of its operand, the higher first
unfoldable pub wide : ℕ → ℕ → ℕ → List ℕ
wide byte high low = byte ∷ high ∷ low ∷ []

-- a block with a bias of 0 to 255, with one of -256 to -1 by its lowest byte, and with any bias by its four bytes
unfoldable pub block : ℕ → ℕ → List ℕ
block j bias = 0x05 ∷ j ∷ 0 ∷ 0 ∷ 0 ∷ bias ∷ []

unfoldable pub block_below : ℕ → ℕ → List ℕ
block_below j low = 0x05 ∷ j ∷ 0xff ∷ 0xff ∷ 0xff ∷ low ∷ []

unfoldable pub block_with : ℕ → ℕ → ℕ → ℕ → ℕ → List ℕ
block_with j a b c d = 0x05 ∷ j ∷ a ∷ b ∷ c ∷ d ∷ []

-- the end
unfoldable pub end : List ℕ
end = 0x7f ∷ []

-- commands again and again
unfoldable pub times : ℕ → List ℕ → List ℕ
times zero c = []
times (suc n) c = c ++ times n c

-- the (16,10) hook: zeros 0, 4, 8, 9, 10, 12; blocks j = 2, 2, 3 with bias -47, -52, -56
unfoldable pub hook_book : List ℕ
hook_book =
    size 4 ++ (zeros 1 ++ (frees 3 ++ (zeros 1 ++ (frees 3 ++ (zeros 3 ++ (frees 1 ++ (zeros 1 ++ (frees 3
    ++ (block_below 2 0xd1 ++ (block_below 2 0xcc ++ (block_below 3 0xc8 ++ end)))))))))))

-- M6: m = 2, index 0 zero, 2 tied to 1, one block
unfoldable pub tied_book : List ℕ
tied_book = size 2 ++ (zeros 1 ++ (frees 1 ++ (tie 1 ++ (frees 1 ++ (block 2 0 ++ end)))))

-- m = 2, all free, four blocks of one index with these biases
unfoldable pub flat_book : ℕ → ℕ → ℕ → ℕ → List ℕ
flat_book a b c d = size 2 ++ (frees 4 ++ (block 0 a ++ (block 0 b ++ (block 0 c ++ (block 0 d ++ end)))))

-- the same with two blocks of two indices, and with index 3 zero and no bias
unfoldable pub pair_book : ℕ → ℕ → List ℕ
pair_book a b = size 2 ++ (frees 4 ++ (block 1 a ++ (block 1 b ++ end)))

unfoldable pub last_zero_book : List ℕ
last_zero_book = size 2 ++ (frees 3 ++ (zeros 1 ++ (times 4 (block 0 0) ++ end)))

-- m = 2, index 2 tied to 0 and 1, the others free, two blocks of two indices
unfoldable pub sum_book : ℕ → ℕ → List ℕ
sum_book a b = size 2 ++ (frees 2 ++ (tie 0 ++ (term 1 ++ (frees 1 ++ (block 1 a ++ (block 1 b ++ end))))))

-- m = 2, all free, one block
unfoldable pub one_block : List ℕ
one_block = size 2 ++ (frees 4 ++ (block 2 0 ++ end))

-- m = 5, all 32 free, blocks of two: it holds a record
unfoldable pub record_book : List ℕ
record_book = size 5 ++ (frees 32 ++ (times 16 (block 1 0) ++ end))

-- m = 6, the first half zero, so that each word is a word of the record's book twice
unfoldable pub repeat_book : List ℕ
repeat_book = size 6 ++ (zeros 32 ++ (frees 32 ++ (block 5 0 ++ (times 16 (block 1 0) ++ end))))

-- m = 6, index 0 zero, then so many ties to it
unfoldable pub ties_book : ℕ → List ℕ
ties_book n = size 6 ++ (zeros 1 ++ times n (tie 0))

-- m = 9, 260 indices free and 252 zero, blocks of eight
unfoldable pub wide_runs : List ℕ
wide_runs = size 9 ++ (wide 0x01 1 4 ++ (zeros 252 ++ (times 64 (block 3 0) ++ end)))

-- m = 9, the first 257 indices zero, then a tie to 256 and 0 and one to 0 and 256: their terms differ in the high byte alone
unfoldable pub wide_ties : List ℕ
wide_ties = size 9 ++ (wide 0x02 1 1 ++ (wide 0x03 1 0 ++ (term 0 ++ (tie 0 ++ (wide 0x04 1 0 ++ (zeros 253 ++ (times 16 (block 5 0) ++ end)))))))

-- ---- inputs

-- what a call is given, its settings L, D and T by their numbers
abbrev pub asks : List ℕ → ℕ → ℕ → ℕ → List ℤ → Input
asks book L D T ys = given book (asked L D T) ys

-- 002's example in hundredths
unfoldable pub hook_values : List ℤ
hook_values =
    pos 44 ∷ pos 746 ∷ pos 719 ∷ pos 282 ∷ pos 563 ∷ pos 978 ∷ pos 606 ∷ neg_ℤ (pos 12) ∷ neg_ℤ (pos 64) ∷ pos 938 ∷ pos 1087 ∷ pos 1300
    ∷ pos 1343 ∷ pos 943 ∷ pos 202 ∷ pos 1320 ∷ []

-- values of all magnitudes with the signs of the word 1011
unfoldable pub clean_values : List ℤ
clean_values = neg_ℤ (pos 5) ∷ pos 3 ∷ neg_ℤ (pos 1) ∷ neg_ℤ (pos 2047) ∷ []

-- buffers of these lengths, filled with sevens: word, data, workspace numbers and bytes, walk
unfoldable pub room : ℕ → ℕ → ℕ → ℕ → ℕ → Lent
room n k numbers bytes walk =
    record {
      word = replicate n 7;
      bits = replicate k 7;
      numbers = replicate numbers (pos 7);
      bytes = replicate bytes 7;
      walk_path = replicate walk (pos 7);
      walk_blocks = replicate walk (pos 7);
      walk_score = replicate walk (pos 7);
    }

-- enough for the (16,10) hook at D 8 and L 4, for the flat books at D 8 and L 2, and for the record's books at D 4 and L 1
unfoldable pub hook_room : Lent
hook_room = room 16 10 512 256 13

unfoldable pub flat_room : Lent
flat_room = room 4 4 320 64 9

unfoldable pub record_room : Lent
record_room = room 32 32 384 256 17

unfoldable pub repeat_room : Lent
repeat_room = room 64 32 640 512 18

-- the flat books' room, with walk buffers of these lengths: path numbers, blocks, scores
unfoldable pub flat_walk : ℕ → ℕ → ℕ → Lent
flat_walk paths blocks scores =
    record {
      word = flat_room.word;
      bits = flat_room.bits;
      numbers = flat_room.numbers;
      bytes = flat_room.bytes;
      walk_path = replicate paths (pos 7);
      walk_blocks = replicate blocks (pos 7);
      walk_score = replicate scores (pos 7);
    }

-- the (16,10) hook at these settings
unfoldable pub hook_run : ℕ → ℕ → ℕ → Input
hook_run L D T = asks hook_book L D T hook_values

-- values that say a word plainly: 100 for a 0, -100 for a 1
unfoldable pub plainly : List ℕ → List ℤ
plainly c = map (λ (b : ℕ). cond (eqb b 0) (pos 100) (neg_ℤ (pos 100))) c

-- ---- results

-- an extraction, and the counts of a run
unfoldable pub step : ℕ → ℕ → ℤ → List ℕ → List ℕ → Step
step path blocks score crowded outrun = record { path = path; blocks = blocks; score = score; crowded = crowded; outrun = outrun }

unfoldable pub counts : ℕ → ℕ → ℕ → ℕ → Counts
counts extractions crowded outrun discrepancy =
    record { extractions = extractions; crowded = crowded; outrun = outrun; discrepancy = discrepancy }

-- a call that hands out a word, and one that keeps the sevens
unfoldable pub gave : Counts → List ℕ → List ℕ → Seen
gave n c ds = record { number = 0; counts = n; word = c; bits = ds }

unfoldable pub kept_back : ℕ → Counts → Lent → Seen
kept_back r n l = record { number = r; counts = n; word = l.word; bits = l.bits }

-- a record
unfoldable pub hook : ℕ → ℕ → ℕ → Status → HookRecord
hook plant carcass side status = record { plant = plant; carcass = carcass; side = side; status = status }

-- the record of a refusal: all zeros, status passed
unfoldable pub blank : HookRecord
blank = hook 0 0 0 Passed

-- one held for the laboratory, its bits, and its word in the record's book
unfoldable pub held : HookRecord
held = hook 63 0xabcde 1 HeldForLaboratory

unfoldable pub held_bits : List ℕ
held_bits = to_bits 32 0b111111_10101011110011011110_1_001_00

unfoldable pub held_word : List ℕ
held_word = to_bits 32 0b1110_1010_1101_1101_0010_0101_1110_1100

-- ---- the table

-- M1 to M6
unfoldable pub marked : List Row
marked =
    -- M1
    is_q (neg_ℤ (pos 44)) (pos 563) (neg_ℤ (pos 44))
    -- M2
    ∷ is_q (pos 0) (pos 5) (pos 0)
    -- M3
    ∷ is_p 1 (neg_ℤ (pos 44)) (pos 563) (pos 607)
    -- M4
    ∷ transforms 2 (to_bits 4 0b0110) (to_bits 4 0b0110)
    -- M5
    ∷ transforms 2 (to_bits 4 0b0111) (to_bits 4 0b1001)
    -- M6
    ∷ encodes tied_book (to_bits 2 0b11) (replicate 4 7) 0 (to_bits 4 0b1001)
    ∷ []

-- M7 to M11: walks, with what is outrun in M8 and crowded out in M10, words and counts; and "Also run": 2,047 passes, 2,048 gets 9; D 1 gets 8; the empty book gets 1
unfoldable pub marked_runs : List Row
marked_runs =
    -- M7
    walks (hook_run 4 8 100)
    (step 0 0 (pos 0) [] [] ∷ step 0 1 (pos 47) [] [] ∷ step 1 1 (neg_ℤ (pos 9)) [] [] ∷ step 1 2 (neg_ℤ (pos 4)) [] []
    ∷ step 1 3 (neg_ℤ (pos 20)) [] [] ∷ [])
    ∷ decodes (hook_run 4 8 100) hook_room (gave (counts 5 0 0 76) (replicate 16 0) (replicate 10 0))
    -- M8
    ∷ decodes (hook_run 1 8 402) hook_room (gave (counts 4 0 2 402) (to_bits 16 0b1001_0000_0000_0000) (to_bits 10 0b1110000000))
    ∷ walks (hook_run 1 8 402)
    (step 0 0 (pos 0) [] [] ∷ step 0 1 (pos 47) [] (1 ∷ []) ∷ step 0 2 (neg_ℤ (pos 242)) [] (2 ∷ []) ∷ step 0 3 (neg_ℤ (pos 346)) [] [] ∷ [])
    -- M9
    ∷ decodes (hook_run 1 8 401) hook_room (kept_back 10 (counts 4 0 2 402) hook_room)
    -- M10
    ∷ decodes (hook_run 4 2 100) hook_room (gave (counts 5 2 0 76) (replicate 16 0) (replicate 10 0))
    ∷ walks (hook_run 4 2 100)
    (step 0 0 (pos 0) [] [] ∷ step 0 1 (pos 47) [] [] ∷ step 1 1 (neg_ℤ (pos 9)) (0 ∷ []) [] ∷ step 1 2 (neg_ℤ (pos 4)) (2 ∷ []) []
    ∷ step 1 3 (neg_ℤ (pos 20)) [] [] ∷ [])
    -- M11
    ∷ decodes (asks hook_book 4 8 0 (replicate 16 (pos 0))) hook_room (gave (counts 4 0 0 0) (replicate 16 0) (replicate 10 0))
    -- also run
    ∷ decodes (asks hook_book 4 8 0 (replicate 16 (pos 2047))) hook_room (gave (counts 4 0 0 0) (replicate 16 0) (replicate 10 0))
    ∷ decodes (asks hook_book 4 8 0 (replicate 15 (pos 2047) ++ pos 2048 ∷ [])) hook_room (kept_back 9 no_counts hook_room)
    ∷ decodes (hook_run 4 1 100) hook_room (kept_back 8 no_counts hook_room)
    ∷ decodes (asks [] 4 8 100 hook_values) hook_room (kept_back 1 no_counts hook_room)
    ∷ []

-- the order of equals, with every value 0: more blocks first, then the lower number; the last of two queued paths crowded out, and none where there is no next
-- word; outrun with fewer blocks than b; ties over two blocks; the words of a block, equals by the smaller number
unfoldable pub queue_rows : List Row
queue_rows =
    walks (asks (flat_book 0 0 0 0) 2 8 0 (replicate 4 (pos 0)))
    (step 0 0 (pos 0) [] [] ∷ step 0 1 (pos 0) [] [] ∷ step 0 2 (pos 0) [] [] ∷ step 0 3 (pos 0) [] [] ∷ step 0 4 (pos 0) [] [] ∷ [])
    ∷ walks (asks (flat_book 0 10 20 30) 2 8 0 (replicate 4 (pos 0)))
    (step 0 0 (pos 0) [] [] ∷ step 0 1 (pos 0) [] [] ∷ step 1 1 (pos 0) [] [] ∷ step 0 2 (neg_ℤ (pos 10)) [] []
    ∷ step 1 2 (neg_ℤ (pos 10)) [] (2 ∷ 3 ∷ []) ∷ step 0 3 (neg_ℤ (pos 20)) [] [] ∷ step 1 3 (neg_ℤ (pos 20)) [] (4 ∷ 5 ∷ []) ∷ step 0 4 (neg_ℤ (pos 30)) [] [] ∷ [])
    ∷ walks (asks (flat_book 5 2 0 5) 2 3 0 (neg_ℤ (pos 2) ∷ neg_ℤ (pos 3) ∷ neg_ℤ (pos 1) ∷ pos 1 ∷ []))
    (step 0 0 (pos 0) [] [] ∷ step 0 1 (neg_ℤ (pos 5)) [] [] ∷ step 0 2 (neg_ℤ (pos 2)) [] [] ∷ step 0 3 (pos 0) (1 ∷ []) []
    ∷ step 3 3 (neg_ℤ (pos 3)) [] (2 ∷ []) ∷ step 0 4 (neg_ℤ (pos 5)) [] [] ∷ [])
    ∷ walks (asks (sum_book 3 5) 2 3 0 (pos 1 ∷ neg_ℤ (pos 2) ∷ neg_ℤ (pos 4) ∷ pos 2 ∷ []))
    (step 0 0 (pos 0) [] [] ∷ step 0 1 (neg_ℤ (pos 3)) [] [] ∷ step 1 1 (neg_ℤ (pos 4)) [] (2 ∷ []) ∷ step 0 2 (neg_ℤ (pos 5)) [] [] ∷ [])
    ∷ ranks one_block (replicate 4 (pos 0)) (0 ∷ 1 ∷ 2 ∷ 3 ∷ 4 ∷ [])
    ∷ ranks one_block (pos 1 ∷ pos 1 ∷ neg_ℤ (pos 2) ∷ pos 1 ∷ []) (4 ∷ 5 ∷ 6 ∷ 12 ∷ 0 ∷ 7 ∷ 13 ∷ 14 ∷ 1 ∷ [])
    ∷ []

-- Document 02's first request, and what its conditions are for. Where biases never rise and no value is 0, path 0 alone is taken, once with each number of blocks, and k
-- may be 0; its copies are outrun at L 1 and crowded out at D 2. With a bias that rises by 2 the same values take 6 extractions instead of 5, and at D 2 path 0 is crowded
-- out and the word lost. With one value 0 it takes 8 instead of 5, and at L 1 the word is lost.
unfoldable pub clean_rows : List Row
clean_rows =
    walks (asks (flat_book 3 2 2 0) 2 8 0 clean_values)
    (step 0 0 (pos 0) [] [] ∷ step 0 1 (neg_ℤ (pos 3)) [] [] ∷ step 0 2 (neg_ℤ (pos 2)) [] [] ∷ step 0 3 (neg_ℤ (pos 2)) [] [] ∷ step 0 4 (pos 0) [] [] ∷ [])
    ∷ decodes (asks (flat_book 3 2 2 0) 2 8 0 clean_values) flat_room (gave (counts 5 0 0 0) (to_bits 4 0b1011) (to_bits 4 0b1101))
    ∷ decodes (asks (flat_book 3 2 2 0) 1 8 0 clean_values) flat_room (gave (counts 5 0 3 0) (to_bits 4 0b1011) (to_bits 4 0b1101))
    ∷ decodes (asks (flat_book 3 2 2 0) 2 2 0 clean_values) flat_room (gave (counts 5 2 0 0) (to_bits 4 0b1011) (to_bits 4 0b1101))
    ∷ decodes (asks (pair_book 2 0) 2 2 0 clean_values) flat_room (gave (counts 3 0 0 0) (to_bits 4 0b1011) (to_bits 4 0b1101))
    ∷ decodes (asks (size 2 ++ (zeros 4 ++ (block 2 5 ++ end))) 1 2 0 (replicate 4 (pos 1))) (room 4 0 80 16 2) (gave (counts 2 0 0 0) (replicate 4 0) [])
    ∷ decodes (asks (flat_book 0 2 2 2) 2 8 0 clean_values) flat_room (gave (counts 6 0 0 0) (to_bits 4 0b1011) (to_bits 4 0b1101))
    ∷ decodes (asks (pair_book 0 2) 2 2 0 clean_values) flat_room (kept_back 10 (counts 4 1 1 1) flat_room)
    ∷ decodes (asks last_zero_book 2 8 0 (neg_ℤ (pos 1) ∷ replicate 3 (pos 1))) (room 4 3 320 64 9) (gave (counts 5 0 0 0) (to_bits 4 0b1000) (to_bits 3 0b100))
    ∷ decodes (asks last_zero_book 2 8 0 (neg_ℤ (pos 1) ∷ pos 1 ∷ pos 1 ∷ pos 0 ∷ [])) (room 4 3 320 64 9) (gave (counts 8 0 4 0) (to_bits 4 0b1000) (to_bits 3 0b100))
    ∷ decodes (asks last_zero_book 1 8 0 (neg_ℤ (pos 1) ∷ pos 1 ∷ pos 1 ∷ pos 0 ∷ [])) (room 4 3 320 64 9) (kept_back 10 (counts 5 0 3 3) (room 4 3 320 64 9))
    ∷ []

-- books that load, at the limits: bias, 8 free, 32 ties, a term after the tie that fills the last index; counts, ties and terms above 255
unfoldable pub good_books : List Row
good_books =
    loads hook_book (shape 0 16 10 3)
    ∷ loads tied_book (shape 0 4 2 1)
    ∷ loads record_book (shape 0 32 32 16)
    ∷ loads (size 2 ++ (zeros 4 ++ (block_with 2 0 16 0 0 ++ end))) (shape 0 4 0 1)
    ∷ loads (size 2 ++ (zeros 4 ++ (block_with 2 0xff 0xf0 0 0 ++ end))) (shape 0 4 0 1)
    ∷ loads (size 4 ++ (frees 8 ++ (zeros 8 ++ (block 4 0 ++ end)))) (shape 0 16 8 1)
    ∷ loads (ties_book 32 ++ (zeros 31 ++ (block 5 0 ++ (block 5 0 ++ end)))) (shape 0 64 0 2)
    ∷ loads (size 2 ++ (zeros 3 ++ (tie 0 ++ (term 1 ++ (block 2 0 ++ end))))) (shape 0 4 0 1)
    ∷ loads wide_runs (shape 0 512 260 64)
    ∷ loads wide_ties (shape 0 512 0 16)
    ∷ []

-- 1, short: the book ends in a command, or where one is due
unfoldable pub truncated_books : List Row
truncated_books =
    loads [] (shape 1 0 0 0)
    ∷ loads ((0x10 ∷ [])) (shape 1 0 0 0)
    ∷ loads (size 2) (shape 1 0 0 0)
    ∷ loads (size 9) (shape 1 0 0 0)
    ∷ loads (size 2 ++ (0x01 ∷ 0 ∷ [])) (shape 1 0 0 0)
    ∷ loads (size 2 ++ (zeros 4 ++ (0x05 ∷ 2 ∷ 0 ∷ 0 ∷ 0 ∷ []))) (shape 1 0 0 0)
    ∷ loads (size 2 ++ (zeros 4 ++ block 2 0)) (shape 1 0 0 0)
    ∷ []

-- 2, strange: a byte that is not listed, also where nothing may stand but the length
unfoldable pub unknown_commands : List Row
unknown_commands =
    loads ((0x20 ∷ [])) (shape 2 0 0 0)
    ∷ loads ((0x00 ∷ [])) (shape 2 0 0 0)
    ∷ loads (size 2 ++ (0x06 ∷ [])) (shape 2 0 0 0)
    ∷ loads (size 2 ++ (zeros 4 ++ (block 2 0 ++ (0x11 ∷ [])))) (shape 2 0 0 0)
    ∷ []

-- 3, misplaced: no length first, or twice; a term after no tie; an index command when all are filled; a block before that, or once the blocks reach n;
-- the end before they do; any byte after the end
unfoldable pub misplaced_books : List Row
misplaced_books =
    loads (frees 1) (shape 3 0 0 0)
    ∷ loads end (shape 3 0 0 0)
    ∷ loads (size 2 ++ size 2) (shape 3 0 0 0)
    ∷ loads (size 2 ++ (frees 1 ++ term 0)) (shape 3 0 0 0)
    ∷ loads (size 2 ++ (zeros 1 ++ (tie 0 ++ (frees 1 ++ term 0)))) (shape 3 0 0 0)
    ∷ loads (size 2 ++ (zeros 4 ++ frees 1)) (shape 3 0 0 0)
    ∷ loads (size 2 ++ (zeros 4 ++ tie 0)) (shape 3 0 0 0)
    ∷ loads (size 2 ++ (zeros 3 ++ (tie 0 ++ (block 2 0 ++ term 1)))) (shape 3 0 0 0)
    ∷ loads (size 2 ++ (zeros 3 ++ block 0 0)) (shape 3 0 0 0)
    ∷ loads (size 2 ++ (zeros 4 ++ (block 2 0 ++ block 0 0))) (shape 3 0 0 0)
    ∷ loads (size 2 ++ (zeros 4 ++ end)) (shape 3 0 0 0)
    ∷ loads (size 2 ++ (zeros 4 ++ (block 1 0 ++ end))) (shape 3 0 0 0)
    ∷ loads (tied_book ++ (0x7f ∷ [])) (shape 3 0 0 0)
    ∷ loads (tied_book ++ (0x20 ∷ [])) (shape 3 0 0 0)
    ∷ []

-- 4, off range: m; a count of 0, or past n; a tie or term that names no earlier index, or one twice; a block too long, at no multiple of its length, past n;
-- a bias; a count, a tie and a term whose low byte alone would pass
unfoldable pub out_of_range_books : List Row
out_of_range_books =
    loads (size 1) (shape 4 0 0 0)
    ∷ loads (size 10) (shape 4 0 0 0)
    ∷ loads (size 2 ++ frees 0) (shape 4 0 0 0)
    ∷ loads (size 2 ++ zeros 0) (shape 4 0 0 0)
    ∷ loads (size 2 ++ frees 5) (shape 4 0 0 0)
    ∷ loads (size 2 ++ (zeros 3 ++ frees 2)) (shape 4 0 0 0)
    ∷ loads (size 2 ++ tie 0) (shape 4 0 0 0)
    ∷ loads (size 2 ++ (zeros 1 ++ tie 1)) (shape 4 0 0 0)
    ∷ loads (size 2 ++ (zeros 1 ++ (tie 0 ++ term 0))) (shape 4 0 0 0)
    ∷ loads (size 2 ++ (zeros 1 ++ (tie 0 ++ term 1))) (shape 4 0 0 0)
    ∷ loads (size 2 ++ (zeros 4 ++ (block 0 0 ++ block 1 0))) (shape 4 0 0 0)
    ∷ loads (size 2 ++ (zeros 4 ++ block 3 0)) (shape 4 0 0 0)
    ∷ loads (size 6 ++ (zeros 64 ++ block 6 0)) (shape 4 0 0 0)
    ∷ loads (size 2 ++ (zeros 4 ++ block_with 2 0 16 0 1)) (shape 4 0 0 0)
    ∷ loads (size 2 ++ (zeros 4 ++ block_with 2 0xff 0xef 0xff 0xff)) (shape 4 0 0 0)
    ∷ loads (size 2 ++ wide 0x01 1 4) (shape 4 0 0 0)
    ∷ loads (size 2 ++ wide 0x02 1 4) (shape 4 0 0 0)
    ∷ loads (size 9 ++ (zeros 5 ++ wide 0x03 1 0)) (shape 4 0 0 0)
    ∷ loads (size 9 ++ (wide 0x02 1 0 ++ wide 0x03 1 0)) (shape 4 0 0 0)
    ∷ loads (size 9 ++ (zeros 5 ++ (tie 1 ++ wide 0x04 1 0))) (shape 4 0 0 0)
    ∷ []

-- 5, overtied, and 6, heavy
unfoldable pub too_many_tied_or_free : List Row
too_many_tied_or_free =
    loads (ties_book 33) (shape 5 0 0 0)
    ∷ loads (ties_book 33 ++ zeros 30) (shape 5 0 0 0)
    ∷ loads (size 4 ++ (frees 9 ++ (zeros 7 ++ block 4 0))) (shape 6 0 0 0)
    ∷ loads (size 5 ++ (zeros 7 ++ (frees 9 ++ (zeros 16 ++ (block 5 0 ++ end))))) (shape 6 0 0 0)
    ∷ []

-- two faults in one command: 2 before 3, 3 before 1, 3 before 4, 1 before 4, 1 before 5, 1 before 6, 4 before 5, 4 before 6
unfoldable pub first_faults : List Row
first_faults =
    loads ((0x7e ∷ [])) (shape 2 0 0 0)
    ∷ loads ((0x05 ∷ [])) (shape 3 0 0 0)
    ∷ loads (size 2 ++ (0x10 ∷ [])) (shape 3 0 0 0)
    ∷ loads (frees 0) (shape 3 0 0 0)
    ∷ loads (size 2 ++ (0x01 ∷ 9 ∷ [])) (shape 1 0 0 0)
    ∷ loads (ties_book 32 ++ (0x03 ∷ 0 ∷ [])) (shape 1 0 0 0)
    ∷ loads (size 4 ++ (frees 9 ++ (zeros 7 ++ (0x05 ∷ 4 ∷ 0 ∷ [])))) (shape 1 0 0 0)
    ∷ loads (ties_book 32 ++ tie 33) (shape 4 0 0 0)
    ∷ loads (size 4 ++ (frees 9 ++ (zeros 7 ++ block_with 4 0 16 0 1))) (shape 4 0 0 0)
    ∷ []

-- encode, test, read data: 7 before 9, words and data in the code and outside it
unfoldable pub codec_rows : List Row
codec_rows =
    encodes tied_book (to_bits 2 0b11) (replicate 5 7) 7 (replicate 5 7)
    ∷ encodes tied_book (to_bits 3 0b111) (replicate 4 7) 7 (replicate 4 7)
    ∷ encodes tied_book (1 ∷ 2 ∷ []) (replicate 4 7) 9 (replicate 4 7)
    ∷ encodes tied_book (2 ∷ []) (replicate 4 7) 7 (replicate 4 7)
    ∷ encodes [] (2 ∷ []) [] 1 []
    ∷ tests tied_book (to_bits 4 0b1001) (Ok true)
    ∷ tests tied_book (to_bits 4 0b1000) (Ok false)
    ∷ tests tied_book (to_bits 4 0b0011) (Ok false)
    ∷ tests tied_book (to_bits 3 0b100) (Err Mismatch)
    ∷ tests tied_book (2 ∷ 0 ∷ 0 ∷ 0 ∷ []) (Err BadValue)
    ∷ reads_data tied_book (to_bits 4 0b1001) (replicate 2 7) 0 (to_bits 2 0b11)
    ∷ reads_data tied_book (to_bits 4 0b1000) (replicate 2 7) 0 (to_bits 2 0b00)
    ∷ reads_data tied_book (to_bits 4 0b1001) (replicate 3 7) 7 (replicate 3 7)
    ∷ reads_data tied_book (0 ∷ 0 ∷ 0 ∷ 3 ∷ []) (replicate 2 7) 9 (replicate 2 7)
    ∷ []

-- a record made and read; status 5 and a spare bit are 11; a field too large and a data byte over 1 are 9; a wrong length and k not 32 are 7
unfoldable pub record_rows : List Row
record_rows =
    makes held held_bits
    ∷ reads held_bits (some held)
    ∷ reads (to_bits 32 0b000101) none
    ∷ reads (to_bits 32 0b10100) none
    ∷ reads (to_bits 32 0b1) none
    ∷ reads (to_bits 32 0b10) none
    ∷ makes_in record_book held (replicate 32 7) 0 held_bits
    ∷ makes_in record_book (hook 64 0 0 Passed) (replicate 32 7) 9 (replicate 32 7)
    ∷ makes_in record_book (hook 0 1048576 0 Passed) (replicate 32 7) 9 (replicate 32 7)
    ∷ makes_in record_book (hook 0 0 2 Condemned) (replicate 32 7) 9 (replicate 32 7)
    ∷ makes_in record_book held (replicate 31 7) 7 (replicate 31 7)
    ∷ makes_in tied_book (hook 64 0 0 Passed) (replicate 2 7) 7 (replicate 2 7)
    ∷ reads_in record_book held_bits 0 held
    ∷ reads_in record_book (to_bits 32 0b10100) 11 blank
    ∷ reads_in record_book (to_bits 32 0b1) 11 blank
    ∷ reads_in record_book (replicate 31 0 ++ 2 ∷ []) 9 blank
    ∷ reads_in record_book (replicate 33 2) 7 blank
    ∷ []

-- 8 before 7 before 9; each lent length exact or at least as asked; what a run leaves in each buffer, past the stated size too
unfoldable pub lent_rows : List Row
lent_rows =
    refuses (asks (flat_book 0 0 0 0) 2 8 0 (replicate 4 (pos 0))) flat_room 0
    ∷ refuses (asks (flat_book 0 0 0 0) 2 8 0 (replicate 4 (pos 0))) (room 5 4 320 64 9) 7
    ∷ refuses (asks (flat_book 0 0 0 0) 2 8 0 (replicate 4 (pos 0))) (room 4 3 320 64 9) 7
    ∷ refuses (asks (flat_book 0 0 0 0) 2 8 0 (replicate 4 (pos 0))) (room 4 4 319 64 9) 7
    ∷ refuses (asks (flat_book 0 0 0 0) 2 8 0 (replicate 4 (pos 0))) (room 4 4 320 63 9) 7
    ∷ refuses (asks (flat_book 0 0 0 0) 2 8 0 (replicate 4 (pos 0))) (flat_walk 8 9 9) 7
    ∷ refuses (asks (flat_book 0 0 0 0) 2 8 0 (replicate 4 (pos 0))) (flat_walk 9 8 9) 7
    ∷ refuses (asks (flat_book 0 0 0 0) 2 8 0 (replicate 4 (pos 0))) (flat_walk 9 9 8) 7
    ∷ refuses (asks (flat_book 0 0 0 0) 2 8 0 (replicate 5 (pos 0))) flat_room 7
    ∷ refuses (asks (flat_book 0 0 0 0) 2 8 0 (replicate 4 (neg_ℤ (pos 2048)))) flat_room 9
    ∷ refuses (asks (flat_book 0 0 0 0) 2 8 0 (replicate 4 (neg_ℤ (pos 2047)))) flat_room 0
    ∷ refuses (asks (flat_book 0 0 0 0) 2 8 0 (replicate 4 (pos 2048))) (room 4 3 320 64 9) 7
    ∷ refuses (asks (flat_book 0 0 0 0) 33 8 0 (replicate 4 (pos 2048))) (room 4 3 320 64 9) 8
    ∷ refuses (asks (flat_book 0 0 0 0) 0 8 0 (replicate 4 (pos 0))) flat_room 8
    ∷ refuses (asks (flat_book 0 0 0 0) 2 257 0 (replicate 4 (pos 0))) flat_room 8
    ∷ refuses (asks (flat_book 0 0 0 0) 2 8 1048577 (replicate 4 (pos 0))) flat_room 8
    ∷ refuses (asks (flat_book 0 0 0 0) 2 8 1048576 (replicate 4 (pos 0))) flat_room 0
    ∷ leaves (hook_run 1 8 401) (room 16 10 513 258 14)
    (record {
      word = replicate 16 7;
      bits = replicate 10 7;
      numbers = replicate 512 (pos 0) ++ pos 7 ∷ [];
      bytes = replicate 256 0 ++ 7 ∷ 7 ∷ [];
      walk_path = replicate 4 (pos 0) ++ replicate 10 (pos 7);
      walk_blocks = pos 0 ∷ pos 1 ∷ pos 2 ∷ pos 3 ∷ replicate 10 (pos 7);
      walk_score = pos 0 ∷ pos 47 ∷ neg_ℤ (pos 242) ∷ neg_ℤ (pos 346) ∷ replicate 10 (pos 7);
    })
    ∷ leaves (hook_run 4 1 100) hook_room hook_room
    ∷ []

-- the hook call: the record of the word; 10; 11 for status 5; k not 32 is 7, after 8
unfoldable pub hook_rows : List Row
hook_rows =
    hooks (asks record_book 1 4 0 (plainly held_word)) record_room (gave (counts 17 0 15 0) held_word held_bits) held
    ∷ hooks (asks repeat_book 1 4 49 (pos 50 ∷ drop 1 (plainly held_word) ++ plainly held_word)) repeat_room (kept_back 10 (counts 18 0 15 50) repeat_room) blank
    ∷ hooks (asks record_book 1 4 0 (plainly (to_bits 32 0b0111_0000_1011_1100_1011_1100_1011_1100))) record_room (kept_back 11 (counts 17 0 15 0) record_room) blank
    ∷ hooks (hook_run 4 8 100) hook_room (kept_back 7 no_counts hook_room) blank
    ∷ hooks (hook_run 4 1 100) hook_room (kept_back 8 no_counts hook_room) blank
    ∷ []

-- calls in other manners: step records too few, as many as asked, more; counts and record at a wrong size; 8 before that 7, and that 7 before 9
unfoldable pub manner : Reads → Beside ℕ → Beside ℕ → Beside ℕ → Manner
manner r s n h = record { reads = r; steps = s; counts = n; hook = h }

unfoldable pub manner_rows : List Row
manner_rows =
    answers (manner Data (Some 12) None None) (hook_run 4 8 100) hook_room 7
    ∷ answers (manner Data (Some 13) None None) (hook_run 4 8 100) hook_room 0
    ∷ answers (manner Data (Some 14) None None) (hook_run 4 8 100) hook_room 0
    ∷ answers (manner Data (Some 12) None None) (hook_run 4 1 100) hook_room 8
    ∷ answers (manner Data (Some 12) None None) (asks hook_book 4 8 0 (replicate 15 (pos 2047) ++ pos 2048 ∷ [])) hook_room 7
    ∷ answers (manner Data (Some 13) None None) (asks hook_book 4 8 0 (replicate 15 (pos 2047) ++ pos 2048 ∷ [])) hook_room 9
    ∷ answers (manner Data None (Some 3) None) (hook_run 4 8 100) hook_room 7
    ∷ answers (manner Data None (Some 4) None) (hook_run 4 8 100) hook_room 0
    ∷ answers (manner Data None (Some 5) None) (hook_run 4 8 100) hook_room 7
    ∷ answers (manner Record None (Some 4) (Some 3)) (asks record_book 1 4 0 (plainly held_word)) record_room 7
    ∷ answers (manner Record None (Some 4) (Some 4)) (asks record_book 1 4 0 (plainly held_word)) record_room 0
    ∷ answers (manner Record None (Some 4) (Some 5)) (asks record_book 1 4 0 (plainly held_word)) record_room 7
    ∷ []

-- the whole table
unfoldable pub table : List (List Row)
table =
    marked
    ∷ marked_runs
    ∷ queue_rows
    ∷ clean_rows
    ∷ good_books
    ∷ truncated_books
    ∷ unknown_commands
    ∷ misplaced_books
    ∷ out_of_range_books
    ∷ too_many_tied_or_free
    ∷ first_faults
    ∷ codec_rows
    ∷ record_rows
    ∷ lent_rows
    ∷ hook_rows
    ∷ manner_rows
    ∷ []
