-- Demands 2 and 3, each in full, of what the calls answer by definition. That the code answers just that is in its contracts: encode, test, read data, make record and read record
-- in coding/src, the decoding calls in decoder/src (`Decodes`). proofs/Demands.antt proves both. Assumes nothing.
use Rattle.std.specs.Prelude.{◌≡◌, List, ◌↔◌, ℕ, ◌^◌, ◌<◌, length, ℤ, T, true, Ok}
use Rattle.laws.specs.Lists.{All}
use Rattle.polar.specs.Bits.{Bit}
use Rattle.codebook.specs.Book.{Book, free_count}
use Rattle.codebook.specs.Loading.{loaded, load}
use Rattle.codec.specs.declared.HookRecord.{HookRecord}
use Rattle.codec.specs.Code.{encode, in_code, read_data}
use Rattle.codec.specs.Calls.{wrote, encode_call, test_call, read_data_call, make_record_call, read_record_call}
use Rattle.machine.specs.declared.Manner.{Manner}
use Rattle.machine.specs.Calls.{Input, Lent, call_by, call_of, end_of, final_in}
use Rattle.machine.specs.Machine.{run_of}
use Rattle.runs.specs.Runs.{Exact}
use Rattle.runs.specs.Handed.{Handed}
use Rattle.reader.specs.Arrays.{Arrays}
use Rattle.reader.specs.Agree.{Agree}
use Rattle.attempts.specs.Reading.{reader_run}
use Rattle.attempts.specs.WholeRun.{WholeRun}

-- ---- demand 2: the code

-- Of a book that loads, encoding and reading data are each the reverse of the other on the code, and the code is what encoding makes.
pub record Reverse (B : Book) : Type 0 where
  -- data that are encoded are in the code, and are read back
  pub member : (ds : List ℕ) → length ds ≡ free_count B.kinds → All Bit ds → T (in_code B (encode B ds))
  pub back : (ds : List ℕ) → length ds ≡ free_count B.kinds → All Bit ds → read_data B (encode B ds) ≡ ds
  -- a word is in the code exactly when its data encode to it
  pub exactly : (c : List ℕ) → length c ≡ 2 ^ B.m → All Bit c → T (in_code B c) ↔ (encode B (read_data B c) ≡ c)

-- So it is of the calls, whatever the book's bytes are and whatever is lent to them.
pub record CallsReverse (book : List ℕ) : Type 0 where
  -- what is encoded tests as in the code, and is read back
  pub tested : (ds c : List ℕ) → (encode_call book ds c).outcome ≡ Ok tt → test_call book (encode_call book ds c).buffer ≡ Ok true
  pub read : (ds c old : List ℕ) → (encode_call book ds c).outcome ≡ Ok tt → length old ≡ length ds → read_data_call book (encode_call book ds c).buffer old ≡ wrote ds
  -- the data of a word that tests as in the code encode to it
  pub encoded : (c old word : List ℕ) → test_call book c ≡ Ok true → (read_data_call book c old).outcome ≡ Ok tt → length word ≡ length c →
      encode_call book (read_data_call book c old).buffer word ≡ wrote c
  -- a record that is made is read back, and one that is read is made again
  pub record-read : (h : HookRecord) (old : List ℕ) → (make_record_call book h old).outcome ≡ Ok tt → read_record_call book (make_record_call book h old).buffer ≡ Ok h
  pub record-made : (ds old : List ℕ) (h : HookRecord) → read_record_call book ds ≡ Ok h → length old ≡ length ds → make_record_call book h old ≡ wrote ds

-- ---- demand 2: the decoded word

-- The machine's final word is in the code, its data are its own and its discrepancy is exact (`Exact`), for every book that loads, L from 1, every D and all values; and every decoding
-- call hands it out exactly when the verdicts allow (`Handed`), for every manner and input and whatever is lent.
pub record Demand2 : Type 0 where
  pub reverse : (bytes : List ℕ) (B : Book) → load bytes ≡ loaded B → Reverse B
  pub calls : (book : List ℕ) → CallsReverse book
  pub exact : (bytes : List ℕ) (B : Book) → load bytes ≡ loaded B → (L D : ℕ) (ys : List ℤ) → 0 < L → length ys ≡ 2 ^ B.m → Exact B ys (final_in (end_of B ys (run_of B L D ys).end))
  pub handed : (k : Manner) (c : Input) (l : Lent) → Handed k c l (call_of k c l).answer (call_of k c l).lent

-- ---- demand 3

-- The reader's run and the plain machine's are the same run (`Agree`), for every book that loads, L from 1, every D, all values, and whatever the arrays hold beside them. So a call by
-- the reader's run, on whatever memory it is lent, is document 01's call by the machine's run; and what such a call counts and leaves as its walk is the reader's own (`WholeRun`).
pub record Demand3 : Type 0 where
  pub runs : (bytes : List ℕ) (B : Book) → load bytes ≡ loaded B → (L D : ℕ) (ys : List ℤ) (A : Arrays) → 0 < L → length ys ≡ 2 ^ B.m → A.vals B.m 1 ≡ ys → Agree B L D ys A
  pub calls : (k : Manner) (c : Input) (l : Lent) → call_by reader_run k c l ≡ call_of k c l
  pub whole : (k : Manner) (c : Input) (l : Lent) → WholeRun k c l (call_by reader_run k c l).answer.counts (call_by reader_run k c l).lent
