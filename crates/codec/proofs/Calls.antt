-- The calls that encode, test and read data, and those that make and read a record, are each the reverse of the other, on the bytes of every
-- book: a loaded book is within the limits, and proofs/Answers.antt, Reverse.antt and Record.antt say the rest. Assumes nothing.
use mathlib.Core.Path.{◌≡◌, refl, ap, ◌∙◌}
use mathlib.Core.List.{List}
use Prim.Native.Nat.{ℕ}
use Rattle.std.specs.Prelude.{true, Ok}
use lib.ListN.{length}
use Rattle.codebook.specs.declared.Refusal.{Refusal}
use Rattle.codebook.specs.Book.{Book}
use Rattle.codebook.specs.Limits.{Valid}
use Rattle.codebook.specs.Loading.{Load, refused, loaded, load}
use Rattle.codebook.proofs.Loaded.{loaded-valid}
use Rattle.codec.specs.declared.HookRecord.{HookRecord}
use Rattle.codec.specs.Code.{encode, read_data}
use Rattle.codec.specs.Record.{record_bits, read_record}
use Rattle.codec.specs.Calls.{Wrote, kept, wrote, record_read}
use Rattle.codec.specs.Calls.{encode_with, test_with, read_data_with, make_record_with, read_record_with}
use Rattle.codec.specs.Calls.{encode_call, test_call, read_data_call, make_record_call, read_record_call}
use Rattle.codec.proofs.Reverse.{read-encode, encode-in, in-encode, encode-word, read-data}
use Rattle.codec.proofs.Record.{record-bits, read_made, made-read}
use Rattle.codec.proofs.Answers.{IsDone, not-said, hook-out}
use Rattle.codec.proofs.Answers.{encode-done, encode-wrote, test-yes, test_in, read_done, read-wrote, make-done, make-wrote, record-done, record-read}

-- what holds of every refusal and of every book within the limits holds of the loading of any bytes
pub by-load : (P : Load → Type 0) → ((r : Refusal) → P (refused r)) → ((B : Book) → Valid B → P (loaded B)) → (book : List ℕ) → P (load book)
by-load P f g book = go (load book) refl
  where
    go : (l : Load) → load book ≡ l → P l
    go (refused r) e = f r
    go (loaded B) e = g B (loaded-valid book B e)

-- ---- encode, test, read data

pub test-of-encode : (book ds c : List ℕ) → (encode_call book ds c).outcome ≡ Ok tt → test_call book (encode_call book ds c).buffer ≡ Ok true
unfolding encode_call test_call encode_with kept wrote
test-of-encode book ds c = by-load P (λ r e. absurd (not-said r e)) one book
  where
    P : Load → Type 0
    P l = IsDone (encode_with l ds c) → test_with l (encode_with l ds c).buffer ≡ Ok true

    one : (B : Book) → Valid B → P (loaded B)
    one B ok e =
        let (d, w, h) = encode-done B ds c e in
        let (x, y) = encode-word B ds ok h in
        ap (λ (a : Wrote). test_with (loaded B) a.buffer) (encode-wrote B ds c d w h) ∙ test_in B (encode B ds) x y (encode-in B ds ok d h)

pub read-of-encode : (book ds c old : List ℕ) → (encode_call book ds c).outcome ≡ Ok tt → length old ≡ length ds →
    read_data_call book (encode_call book ds c).buffer old ≡ wrote ds
unfolding encode_call read_data_call encode_with kept wrote
read-of-encode book ds c old = by-load P (λ r e _. absurd (not-said r e)) one book
  where
    P : Load → Type 0
    P l = IsDone (encode_with l ds c) → length old ≡ length ds → read_data_with l (encode_with l ds c).buffer old ≡ wrote ds

    one : (B : Book) → Valid B → P (loaded B)
    one B ok e l =
        let (d, w, h) = encode-done B ds c e in
        let (x, y) = encode-word B ds ok h in
        ap (λ (a : Wrote). read_data_with (loaded B) a.buffer old) (encode-wrote B ds c d w h)
        ∙ read-wrote B (encode B ds) old x (l ∙ d) y
        ∙ ap wrote (read-encode B ds ok d h)

pub encode-of-read : (book c old word : List ℕ) → test_call book c ≡ Ok true → (read_data_call book c old).outcome ≡ Ok tt → length word ≡ length c →
    encode_call book (read_data_call book c old).buffer word ≡ wrote c
unfolding encode_call test_call read_data_call test_with kept wrote
encode-of-read book c old word = by-load P (λ r t _ _. absurd (not-said r t)) one book
  where
    P : Load → Type 0
    P l =
        test_with l c ≡ Ok true → IsDone (read_data_with l c old) → length word ≡ length c → encode_with l (read_data_with l c old).buffer word ≡ wrote c

    one : (B : Book) → Valid B → P (loaded B)
    one B ok t e l =
        let (w, h, i) = test-yes B c t in
        let (_, d, _) = read_done B c old e in
        let (x, y) = read-data B c ok w h in
        ap (λ (a : Wrote). encode_with (loaded B) a.buffer word) (read-wrote B c old w d h)
        ∙ encode-wrote B (read_data B c) word x (l ∙ w) y
        ∙ ap wrote (in-encode B c ok w h i)

-- ---- make record, read record

pub read-of-make : (book : List ℕ) (h : HookRecord) (old : List ℕ) → (make_record_call book h old).outcome ≡ Ok tt →
    read_record_call book (make_record_call book h old).buffer ≡ Ok h
unfolding make_record_call read_record_call make_record_with kept wrote record_read
read-of-make book h old = by-load P (λ r e. absurd (not-said r e)) one book
  where
    P : Load → Type 0
    P l = IsDone (make_record_with l h old) → read_record_with l (make_record_with l h old).buffer ≡ Ok h

    one : (B : Book) → Valid B → P (loaded B)
    one B ok e =
        let (f, d, t) = make-done B h old e in
        let (x, y) = record-bits h in
        ap (λ (a : Wrote). read_record_with (loaded B) a.buffer) (make-wrote B h old f d t)
        ∙ record-read B (record_bits h) f x y
        ∙ ap record_read (read_made h t)

pub make-of-read : (book ds old : List ℕ) (h : HookRecord) → read_record_call book ds ≡ Ok h → length old ≡ length ds →
    make_record_call book h old ≡ wrote ds
unfolding make_record_call read_record_call read_record_with
make-of-read book ds old h = by-load P (λ r e _. absurd (not-said r e)) one book
  where
    P : Load → Type 0
    P l = read_record_with l ds ≡ Ok h → length old ≡ length ds → make_record_with l h old ≡ wrote ds

    one : (B : Book) → Valid B → P (loaded B)
    one B ok e l =
        let (f, d, b, a) = record-done B ds e in
        let (p, t) = made-read ds h d b (hook-out (read_record ds) a) in
        make-wrote B h old f (l ∙ d) t ∙ ap wrote p
