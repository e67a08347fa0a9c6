-- Document 01's number of a decoding call's answer, by the tests of its refusal table in the table's order: the book's fault, then 8, 7, 9, 10 and, where a record is
-- read, 11; 0 where all pass. proofs/Numbers shows that the answers of specs/Calls have these numbers. Assumes nothing.
use Rattle.std.specs.Prelude.{◌&&◌, List, ℕ}
use Rattle.codebook.specs.Refusals.{unless_number}
use Rattle.codebook.specs.Book.{Book}
use Rattle.codebook.specs.Loading.{load, number_by, book_shape}
use Rattle.settings.specs.Settings.{settings_ok}
use Rattle.codec.specs.Numbers.{readable}
use Rattle.queue.specs.Queue.{Final, End}
use Rattle.machine.specs.declared.Reads.{Reads}
use Rattle.machine.specs.declared.Reads.TheVariants.{Data, Record}
use Rattle.machine.specs.declared.Manner.{Manner}
use Rattle.machine.specs.Machine.{run_of}
use Rattle.machine.specs.Calls.{Input, Lent, lengths_of, lengths_ok, beside_ok, holds, values_ok, readied, end_of, final_in, within}

-- how the machine's run ends in a call with book B, and the final word that it finds, with its data and its discrepancy
unfoldable pub final_end : Manner → Book → Input → End Final
final_end k B c = let ys = readied k c in end_of B ys (run_of B c.settings.visits c.settings.paths ys).end

unfoldable pub final_word : Manner → Book → Input → Final
final_word k B c = final_in (final_end k B c)

-- 11 where a record is read and the data hold none
unfoldable pub record_number : Reads → List ℕ → ℕ
record_number Data ds = 0
record_number Record ds = unless_number (readable ds) 11 0

-- with book B: 8 unless the settings are in range; 7 unless k is 32 for a record and the lent lengths are right; 9 unless the values are in range; 10 unless a final
-- word is found whose discrepancy is at most the limit; 11 unless its data hold a record that is to be read
unfoldable pub number_tests : Manner → Input → Lent → Book → ℕ
number_tests k c l B =
    let x = book_shape B in
    let s = c.settings in
    unless_number (settings_ok s) 8
    (unless_number (holds k.reads x && lengths_ok x s (lengths_of c l) && beside_ok k x s) 7
    (unless_number (values_ok c.values) 9
    (unless_number (within s.limit (final_end k B c)) 10
    (record_number k.reads (final_word k B c).bits))))

-- the number of a call: the book's where it does not load, else that of the first test that fails
unfoldable pub call_number : Manner → Input → Lent → ℕ
call_number k c l = number_by (load c.book) (number_tests k c l)
