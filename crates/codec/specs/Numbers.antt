-- The number of each call's answer: document 01's refusals by the tests of its table in the table's order, the book's fault, then 7, 9, 11; 0 where all pass; and 255 for a test's no,
-- for which document 01 has no number.
-- proofs/Numbers shows that the answers of specs/Calls have these numbers. Assumes nothing.
use Rattle.std.specs.Prelude.{Bool, true, false, ◌&&◌, List, ℕ, leb, eqb, Result, Ok, Err}
use Rattle.codebook.specs.declared.Refusal.{Refusal}
use Rattle.codebook.specs.Refusals.{refusal_number, unless_number}
use Rattle.codebook.specs.Loading.{load, number_by}
use Rattle.codec.specs.declared.HookRecord.{HookRecord}
use Rattle.codec.specs.Code.{in_code}
use Rattle.codec.specs.Record.{record_fits, field_at}
use Rattle.codec.specs.Calls.{are_bits, word_fits, data_fits, holds_record}

-- the number of a test's answer: 0 in the code, 255 not in the code, which is no refusal; else the refusal's
abbrev pub tested_number : Result Bool Refusal → ℕ
tested_number (Ok true) = 0
tested_number (Ok false) = 255
tested_number (Err r) = refusal_number r

-- encode, data ds into the word c: 7 unless both have the book's lengths, 9 unless the data are bits
unfoldable pub encode_number : List ℕ → List ℕ → List ℕ → ℕ
encode_number book ds c = number_by (load book) (λ B. unless_number (data_fits B ds && word_fits B c) 7 (unless_number (are_bits ds) 9 0))

-- test, of the word c: 7 unless it has the book's length, 9 unless it is of bits, 255 unless it is in the code
unfoldable pub test_number : List ℕ → List ℕ → ℕ
test_number book c = number_by (load book) (λ B. unless_number (word_fits B c) 7 (unless_number (are_bits c) 9 (unless_number (in_code B c) 255 0)))

-- read data, of the word c into the data ds: 7 unless both have the book's lengths, 9 unless the word is of bits
unfoldable pub read_data_number : List ℕ → List ℕ → List ℕ → ℕ
read_data_number book c ds = number_by (load book) (λ B. unless_number (word_fits B c && data_fits B ds) 7 (unless_number (are_bits c) 9 0))

-- make record, of h into the data ds: 7 unless k and their length are 32, 9 unless each field fits its bits
unfoldable pub make_record_number : List ℕ → HookRecord → List ℕ → ℕ
make_record_number book h ds = number_by (load book) (λ B. unless_number (holds_record B ds) 7 (unless_number (record_fits h) 9 0))

-- whether data hold a record: the status is at most 4, and the spare bits are 0
unfoldable pub readable : List ℕ → Bool
readable ds = leb (field_at ds 27 3) 4 && eqb (field_at ds 30 2) 0

-- read record, of the data ds: 7 unless k and their length are 32, 9 unless they are bits, 11 unless they hold a record
unfoldable pub read_record_number : List ℕ → List ℕ → ℕ
read_record_number book ds = number_by (load book) (λ B. unless_number (holds_record B ds) 7 (unless_number (are_bits ds) 9 (unless_number (readable ds) 11 0)))
