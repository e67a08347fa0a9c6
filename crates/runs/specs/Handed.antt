-- Demand 2 of a decoding call: a word that is handed out is in the code, with its own data and its exact discrepancy, and it is handed out exactly when
-- that is within the limit and, where a record is read, the data hold one. Said of the answer and of the lent buffers afterwards, for every manner and every input:
-- proofs/Handed.antt. Assumes nothing.
use Rattle.std.specs.Prelude.{◌≡◌, List, ◌↔◌, ℕ, ◌^◌, ◌≤◌, ◌<◌, length, T, Ok, Err}
use Rattle.std.proofs.Math.Option.{none, some}
use Rattle.laws.specs.Lists.{All}
use Rattle.polar.specs.Bits.{Bit}
use Rattle.polar.specs.Soft.{discrepancy}
use Rattle.codebook.specs.declared.Refusal.TheVariants.{AboveLimit, Unreadable}
use Rattle.codebook.specs.Book.{Book}
use Rattle.codebook.specs.Loading.{loaded, load}
use Rattle.codec.specs.declared.HookRecord.{HookRecord}
use Rattle.codec.specs.Code.{in_code, read_data}
use Rattle.codec.specs.Record.{no_record, read_record}
use Rattle.machine.specs.declared.Reads.{Reads}
use Rattle.machine.specs.declared.Reads.TheVariants.{Data, Record}
use Rattle.machine.specs.declared.Manner.{Manner}
use Rattle.machine.specs.declared.Counts.{Counts}
use Rattle.machine.specs.declared.HookDecoded.{HookDecoded}
use Rattle.machine.specs.Calls.{Input, Lent, barred, readied}
use Rattle.machine.specs.Numbers.{final_word}

-- ---- the run of a call

-- the call makes a run with book B
pub record Made (k : Manner) (c : Input) (l : Lent) (B : Book) : Type 0 where
  -- the book's bytes load as B
  pub loads : load c.book ≡ loaded B
  -- nothing bars the call
  pub unbarred : barred k B c l ≡ none

-- ---- the record

-- what is to be read of these data can be: a record, where one is read
unfoldable pub Readable : Reads → List ℕ → Type 0
Readable Data ds = Unit {0}
Readable Record ds = (h : HookRecord) × (read_record ds ≡ some h)

-- a record is to be read of these data, and they hold none
unfoldable pub Unread : Reads → List ℕ → Type 0
Unread Data ds = ⊥
Unread Record ds = read_record ds ≡ none

-- the record that is answered with these data: theirs, where one is read, else zeros, passed
unfoldable pub RecordIs : Reads → List ℕ → HookRecord → Type 0
RecordIs Data ds h = h ≡ no_record
RecordIs Record ds h = read_record ds ≡ some h

-- ---- after a run

-- A word handed out with book B: what the lent buffers hold, and the discrepancy that is counted.
pub record HandedOut (k : Manner) (B : Book) (c : Input) (counts : Counts) (after : Lent) : Type 0 where
  -- the word left is the machine's final word
  pub final : after.word ≡ (final_word k B c).word
  -- it has length n
  pub size : length after.word ≡ 2 ^ B.m
  -- it is bits
  pub bits : All Bit after.word
  -- it is in the code
  pub member : T (in_code B after.word)
  -- the data left are the word's own
  pub databits : after.bits ≡ read_data B after.word
  -- the discrepancy counted is the word's own, from the values that the run is made from
  pub exact : counts.discrepancy ≡ discrepancy after.word (readied k c)
  -- and at most the limit
  pub within : counts.discrepancy ≤ c.settings.limit

-- No word handed out, after a run with book B.
pub record Withheld (k : Manner) (B : Book) (c : Input) (l : Lent) (counts : Counts) (after : Lent) : Type 0 where
  -- the word's buffer is as it was
  pub word : after.word ≡ l.word
  -- and the data's
  pub databits : after.bits ≡ l.bits
  -- the discrepancy counted is that of the machine's final word
  pub counted : counts.discrepancy ≡ (final_word k B c).discrepancy
  -- and that word's own, from the values that the run is made from
  pub exact : counts.discrepancy ≡ discrepancy (final_word k B c).word (readied k c)

-- ---- the call

-- Of its answer and of the buffers afterwards; a plain call's answer has a record of zeros.
pub record Handed (k : Manner) (c : Input) (l : Lent) (answer : HookDecoded) (after : Lent) : Type 0 where
  -- done: a run was made, and its word is handed out, with the record of its data where one is read
  pub done : answer.outcome ≡ Ok tt →
      (B : Book) × Made k c l B × HandedOut k B c answer.counts after × RecordIs k.reads after.bits answer.hook
  -- 10: a run was made, its word is above the limit and not handed out
  pub above : answer.outcome ≡ Err AboveLimit →
      (B : Book) × Made k c l B × Withheld k B c l answer.counts after × (c.settings.limit < answer.counts.discrepancy)
  -- 11: a run was made, its word is within the limit, its data hold no record to be read, and it is not handed out
  pub unreadable : answer.outcome ≡ Err Unreadable →
      (B : Book) × Made k c l B × Withheld k B c l answer.counts after × (answer.counts.discrepancy ≤ c.settings.limit)
      × Unread k.reads (final_word k B c).bits
  -- a run that is made is done exactly when its discrepancy is within the limit and its data hold what is to be read
  pub exactly-done : (B : Book) → Made k c l B →
      (answer.outcome ≡ Ok tt) ↔ (((final_word k B c).discrepancy ≤ c.settings.limit) × Readable k.reads (final_word k B c).bits)
  -- in 10 exactly when it is above the limit
  pub exactly-above : (B : Book) → Made k c l B → (answer.outcome ≡ Err AboveLimit) ↔ (c.settings.limit < (final_word k B c).discrepancy)
  -- and in 11 exactly when it is within the limit but its data hold no record to be read
  pub exactly-unreadable : (B : Book) → Made k c l B →
      (answer.outcome ≡ Err Unreadable) ↔ (((final_word k B c).discrepancy ≤ c.settings.limit) × Unread k.reads (final_word k B c).bits)
