-- What encode, test, read data, make record and read record answer, and the buffer that each is lent: document 01, "Refusal table".
-- Every call takes the book's bytes; its faults 1 to 6 come first, then 7, 9 and 11. Assumes nothing.
use Rattle.std.specs.List.{list_all}
use Rattle.std.specs.Prelude.{Bool, cond, ◌&&◌, List, ℕ, ◌^◌, length, leb, eqb, Result, Ok, Err}
use Rattle.std.proofs.Math.Option.{Option, none, some}
use Rattle.codebook.specs.declared.Refusal.{Refusal}
use Rattle.codebook.specs.declared.Refusal.TheVariants.{Mismatch, BadValue, Unreadable}
use Rattle.codebook.specs.Book.{Book, free_count}
use Rattle.codebook.specs.Loading.{Load, refused, loaded, load}
use Rattle.codec.specs.declared.HookRecord.{HookRecord}
use Rattle.codec.specs.Code.{encode, in_code, read_data}
use Rattle.codec.specs.Record.{no_record, record_fits, record_bits, read_record}

-- every entry is 0 or 1
unfoldable pub are_bits : List ℕ → Bool
are_bits = list_all (λ b. leb b 1)

-- whether a word and data have the book's lengths, and whether a book's data hold a record in a buffer of this length
unfoldable pub word_fits : Book → List ℕ → Bool
word_fits B c = eqb (length c) (2 ^ B.m)

unfoldable pub data_fits : Book → List ℕ → Bool
data_fits B ds = eqb (length ds) (free_count B.kinds)

-- a record needs k = 32
abbrev pub holds32 : Book → Bool
holds32 B = eqb (free_count B.kinds) 32

unfoldable pub holds_record : Book → List ℕ → Bool
holds_record B ds = holds32 B && data_fits B ds

-- a call that writes one buffer: its outcome, and what the buffer then holds
pub record Wrote : Type 0 where
  pub outcome : Result (Unit {0}) Refusal
  pub buffer : List ℕ

-- the buffer is written on success alone
unfoldable pub kept : Refusal → List ℕ → Wrote
kept r buffer = record { outcome = Err r; buffer = buffer }

unfoldable pub wrote : List ℕ → Wrote
wrote bits = record { outcome = Ok tt; buffer = bits }

-- encode: data ds, into the lent word c
unfoldable pub encode_with : Load → List ℕ → List ℕ → Wrote
encode_with (refused r) ds c = kept r c
encode_with (loaded B) ds c =
    let word = wrote (encode B ds) in
    cond (data_fits B ds && word_fits B c) (cond (are_bits ds) word (kept BadValue c)) (kept Mismatch c)

unfoldable pub encode_call : List ℕ → List ℕ → List ℕ → Wrote
encode_call book ds c = encode_with (load book) ds c

-- test: whether the word c is in the code; one outside it is no refusal
unfoldable pub test_with : Load → List ℕ → Result Bool Refusal
test_with (refused r) c = Err r
test_with (loaded B) c = cond (word_fits B c) (cond (are_bits c) (Ok (in_code B c)) (Err BadValue)) (Err Mismatch)

unfoldable pub test_call : List ℕ → List ℕ → Result Bool Refusal
test_call book c = test_with (load book) c

-- read data: of the word c, into the lent data ds
unfoldable pub read_data_with : Load → List ℕ → List ℕ → Wrote
read_data_with (refused r) c ds = kept r ds
read_data_with (loaded B) c ds =
    let bits = wrote (read_data B c) in
    cond (word_fits B c && data_fits B ds) (cond (are_bits c) bits (kept BadValue ds)) (kept Mismatch ds)

unfoldable pub read_data_call : List ℕ → List ℕ → List ℕ → Wrote
read_data_call book c ds = read_data_with (load book) c ds

-- make record: of h, into the lent data ds
unfoldable pub make_record_with : Load → HookRecord → List ℕ → Wrote
make_record_with (refused r) h ds = kept r ds
make_record_with (loaded B) h ds =
    let bits = wrote (record_bits h) in
    cond (holds_record B ds) (cond (record_fits h) bits (kept BadValue ds)) (kept Mismatch ds)

unfoldable pub make_record_call : List ℕ → HookRecord → List ℕ → Wrote
make_record_call book h ds = make_record_with (load book) h ds

-- read record: of the data ds
unfoldable pub record_read : Option HookRecord → Result HookRecord Refusal
record_read none = Err Unreadable
record_read (some h) = Ok h

unfoldable pub read_record_with : Load → List ℕ → Result HookRecord Refusal
read_record_with (refused r) ds = Err r
read_record_with (loaded B) ds =
    cond (holds_record B ds) (cond (are_bits ds) (record_read (read_record ds)) (Err BadValue)) (Err Mismatch)

unfoldable pub read_record_call : List ℕ → List ℕ → Result HookRecord Refusal
read_record_call book ds = read_record_with (load book) ds

-- the record that goes with a reading's answer: zeros, passed, where it is refused
unfoldable pub hook_read : Result HookRecord Refusal → HookRecord
hook_read (Ok h) = h
hook_read (Err r) = no_record
