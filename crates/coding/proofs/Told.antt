-- What loading tells the calls: by its outcome a refusal or a book, with the book's sizes, and the tables of its kinds. And what
-- each call answers by its tests. Assumes nothing.
use mathlib.Core.Path.{◌≡◌, refl, sym, ap, ◌∙◌, subst}
use mathlib.Core.Bool.{Bool, true, false}
use mathlib.Core.List.{List}
use Prim.Native.Nat.{ℕ, ◌^◌, ◌≤◌}
use native.Mathlib.Omega.{arith}
use lib.ListN.{length, get_or, take, replicate}
use lib.Seq.{take_at, length-take-le}
use lib.Pow.{pow_mono}
use borrow.Author.Tests.{eq-eqb, ne_eqb}
use Rattle.std.specs.Prelude.{Result, Ok, Err, IsErrAnd}
use Rattle.std.proofs.lemmas.Result.{err_from_is_err_and}
use Rattle.laws.specs.Lists.{All, tab, over}
use Rattle.laws.proofs.Tells.{tells-eq, both, fails}
use Rattle.laws.proofs.Lists.{over-get_d, length-tab, get_d-tab}
use Rattle.polar.specs.Bits.{Bit}
use Rattle.codebook.specs.declared.Refusal.{Refusal}
use Rattle.codebook.specs.declared.Refusal.TheVariants.{Mismatch, BadValue}
use Rattle.codebook.specs.declared.Shape.{Shape}
use Rattle.codebook.specs.Refusals.{outcome_number}
use Rattle.codebook.specs.Book.{Book, free_count}
use Rattle.codebook.specs.Limits.{Valid}
use Rattle.codebook.specs.Loading.{Load, refused, loaded, load, shape_of, book_shape}
use Rattle.codebook.specs.declared.Tables.{Tables}
use Rattle.codebook.specs.Tables.{kind_codes, tie_set, tables_of, overlaid, loaded_up_to, Filled}
use Rattle.codebook.proofs.Loaded.{loaded-valid}
use Rattle.codebook.proofs.Codes.{codes-length}
use Rattle.codec.specs.declared.HookRecord.{HookRecord}
use Rattle.codec.specs.Code.{encode, in_code, read_data}
use Rattle.codec.specs.Record.{record_fits, record_bits, read_record}
use Rattle.codec.specs.Tabled.{Tabled}
use Rattle.codec.specs.Calls.{are_bits, word_fits, data_fits, holds_record, Wrote, kept, wrote, record_read}
use Rattle.codec.specs.Calls.{encode_with, test_with, read_data_with, make_record_with, read_record_with}
use Rattle.codec.specs.Calls.{encode_call, test_call, read_data_call, make_record_call, read_record_call}
use Rattle.codec.specs.Numbers.{tested_number, test_number, read_record_number}
use Rattle.codec.specs.Testing.{TestedExactly}
use Rattle.codec.proofs.Answers.{bits_out}
use Rattle.codec.proofs.Numbers.{test-number, read-record-number}
use Rattle.codec.proofs.Testing.{tested-exactly}

-- ---- what loading comes to

-- a book is loaded, and has these sizes
pub record Known (book : List ℕ) (m n k : ℕ) : Type 0 where
  pub is : Book
  pub loads : load book ≡ loaded is
  pub height : m ≡ is.m
  pub size : n ≡ 2 ^ is.m
  pub free : k ≡ free_count is.kinds
  pub valid : Valid is

-- n is at most 512
pub known_small : {book : List ℕ} {m n k : ℕ} → Known book m n k → n ≤ 512
known_small K =
    let small : 2 ^ K.is.m ≤ 2 ^ 9 = pow_mono {j = 9} K.valid.high in
    omega (arith, K.size)

module _ (book : List ℕ) where
  pub shape-refused : (r : Refusal) → Err r ≡ shape_of (load book) → load book ≡ refused r
  unfolding shape_of
  shape-refused r = go (load book)
    where
      go : (l : Load) → Err r ≡ shape_of l → l ≡ refused r
      go (refused s) p = let z : s ≡ r = cc in ap refused z
      go (loaded B) p = cc

  pub shape-known : (x : Shape) → Ok x ≡ shape_of (load book) → Known book x.m x.n x.k
  unfolding shape_of
  shape-known x = go (load book) refl
    where
      go : (l : Load) → load book ≡ l → Ok x ≡ shape_of l → Known book x.m x.n x.k
      go (refused s) p e = cc
      go (loaded B) p e =
          let f : x ≡ book_shape B = cc in
          record { is = B; loads = p; height = ap (λ (y : Shape). y.m) f; size = ap (λ (y : Shape). y.n) f; free = ap (λ (y : Shape). y.k) f; valid = loaded-valid book B p }

  -- the tables hold a loaded book's kinds
  pub load-tabled : (B : Book) (old new : Tables) → load book ≡ loaded B → Filled (load book) (loaded_up_to book) old new → Tabled B.kinds new.kinds new.terms
  unfolding Filled overlaid tables_of
  load-tabled B old new e f =
      let ok : Valid B = loaded-valid book B e in
      let n : length B.kinds ≡ 2 ^ B.m = ok.indices in
      let g : new ≡ overlaid (tables_of B) old = rw e at f in
      let small : 2 ^ B.m ≤ 2 ^ 9 = pow_mono {j = 9} ok.high in
      let ties : ℕ → ℕ = tie_set 0 B.kinds in
      record {
        coded =
            record {
              size = omega arith;
              codes = ap (λ (t : Tables). take (length B.kinds) t.kinds) g ∙ unfold over in take_at (kind_codes 0 B.kinds) _ (length B.kinds) (codes-length 0 B.kinds);
            };
        sets = λ i h.
            ap (λ (t : Tables). get_or t.terms i 0) g
            ∙ over-get_d (tab (2 ^ B.m) ties) old.terms i 0 (omega (arith, length-tab (2 ^ B.m) ties))
            ∙ get_d-tab (2 ^ B.m) ties i 0 (omega arith);
        few = ok.ties;
        ok = ok.kinds;
      }

-- ---- tests

-- a part of 512 zeros
pub zeros-part : (n : ℕ) → n ≤ 512 → n ≡ length (take n (replicate {A = ℕ} 512 0))
zeros-part n h = sym (length-take-le n (replicate 512 0) h)

pub are-bits : (bs : List ℕ) → are_bits bs ≡ true → All Bit bs
are-bits bs e = bits_out bs (rw e tt)

-- a refusal that is handed on
pub handed : {A : Type 0} (o : Result A Refusal) {r : Refusal} → IsErrAnd o (λ y. y ≡ r) → o ≡ Err r
handed o h = let p = err_from_is_err_and o h in p.1 ∙ ap Err p.2

-- an answer and a buffer that are the definition's, and the answer's number
pub told : {w : Wrote} {n : ℕ} (o : Result (Unit {0}) Refusal) (b : List ℕ) → outcome_number w.outcome ≡ n → w ≡ record { outcome = o; buffer = b } →
    ((o ≡ w.outcome) × (b ≡ w.buffer)) × (outcome_number o ≡ n)
told o b k e =
    let p = sym (ap (λ (w : Wrote). w.outcome) e) in
    ((p, sym (ap (λ (w : Wrote). w.buffer) e)), ap outcome_number p ∙ k)

-- a test's answer that is the definition's: its number, and what it means by encoding
pub test-told : (book c : List ℕ) {t : Result Bool Refusal} → t ≡ test_call book c → (t ≡ test_call book c) × ((tested_number t ≡ test_number book c) × TestedExactly book c t)
test-told book c e = (e, (ap tested_number e ∙ test-number book c, subst (TestedExactly book c) (sym e) (tested-exactly book c)))

-- a record that is read as the definition says, and the answer's number
pub record-told : (book ds : List ℕ) {r : Result HookRecord Refusal} → r ≡ read_record_call book ds →
    (r ≡ read_record_call book ds) × (outcome_number r ≡ read_record_number book ds)
record-told book ds e = (e, ap outcome_number e ∙ read-record-number book ds)

-- ---- what each call answers

module _ (book ds c : List ℕ) where
  pub encode-refused : (r : Refusal) → load book ≡ refused r → encode_call book ds c ≡ record { outcome = Err r; buffer = c }
  unfolding encode_call encode_with kept
  encode-refused r e = rw e refl

  pub read-refused : (r : Refusal) → load book ≡ refused r → read_data_call book c ds ≡ record { outcome = Err r; buffer = ds }
  unfolding read_data_call read_data_with kept
  read-refused r e = rw e refl

  module _ (B : Book) (e : load book ≡ loaded B) where
    pub encode-mismatch : ((length ds ≡ free_count B.kinds) × (length c ≡ 2 ^ B.m) → ⊥) → encode_call book ds c ≡ record { outcome = Err Mismatch; buffer = c }
    unfolding encode_call encode_with kept data_fits word_fits
    encode-mismatch f = rw (e, ← fails (both (tells-eq (length ds) (free_count B.kinds)) (tells-eq (length c) (2 ^ B.m))) f) refl

    pub read-mismatch : ((length c ≡ 2 ^ B.m) × (length ds ≡ free_count B.kinds) → ⊥) → read_data_call book c ds ≡ record { outcome = Err Mismatch; buffer = ds }
    unfolding read_data_call read_data_with kept data_fits word_fits
    read-mismatch f = rw (e, ← fails (both (tells-eq (length c) (2 ^ B.m)) (tells-eq (length ds) (free_count B.kinds))) f) refl

    module _ (k : length ds ≡ free_count B.kinds) (n : length c ≡ 2 ^ B.m) where
      pub encode-bad : are_bits ds ≡ false → encode_call book ds c ≡ record { outcome = Err BadValue; buffer = c }
      unfolding encode_call encode_with kept data_fits word_fits
      encode-bad h = rw (e, eq-eqb (length ds) (free_count B.kinds) k, eq-eqb (length c) (2 ^ B.m) n, h) refl

      pub encode-good : are_bits ds ≡ true → encode_call book ds c ≡ record { outcome = Ok tt; buffer = encode B ds }
      unfolding encode_call encode_with wrote data_fits word_fits
      encode-good h = rw (e, eq-eqb (length ds) (free_count B.kinds) k, eq-eqb (length c) (2 ^ B.m) n, h) refl

      pub read-bad : are_bits c ≡ false → read_data_call book c ds ≡ record { outcome = Err BadValue; buffer = ds }
      unfolding read_data_call read_data_with kept data_fits word_fits
      read-bad h = rw (e, eq-eqb (length ds) (free_count B.kinds) k, eq-eqb (length c) (2 ^ B.m) n, h) refl

      pub read-good : are_bits c ≡ true → read_data_call book c ds ≡ record { outcome = Ok tt; buffer = read_data B c }
      unfolding read_data_call read_data_with wrote data_fits word_fits
      read-good h = rw (e, eq-eqb (length ds) (free_count B.kinds) k, eq-eqb (length c) (2 ^ B.m) n, h) refl

module _ (book c : List ℕ) where
  pub test-refused : (r : Refusal) → load book ≡ refused r → Err r ≡ test_call book c
  unfolding test_call test_with
  test-refused r e = rw e refl

  module _ (B : Book) (e : load book ≡ loaded B) where
    pub test-mismatch : (length c ≡ 2 ^ B.m → ⊥) → Err Mismatch ≡ test_call book c
    unfolding test_call test_with word_fits
    test-mismatch f = rw (e, ne_eqb (length c) (2 ^ B.m) f) refl

    module _ (f : length c ≡ 2 ^ B.m) where
      pub test-bad : are_bits c ≡ false → Err BadValue ≡ test_call book c
      unfolding test_call test_with word_fits
      test-bad g = rw (e, eq-eqb (length c) (2 ^ B.m) f, g) refl

      pub test_good : are_bits c ≡ true → Ok (in_code B c) ≡ test_call book c
      unfolding test_call test_with word_fits
      test_good g = rw (e, eq-eqb (length c) (2 ^ B.m) f, g) refl

module _ (book ds : List ℕ) where
  pub make-refused : (h : HookRecord) (r : Refusal) → load book ≡ refused r → make_record_call book h ds ≡ record { outcome = Err r; buffer = ds }
  unfolding make_record_call make_record_with kept
  make-refused h r e = rw e refl

  pub record-refused : (r : Refusal) → load book ≡ refused r → Err r ≡ read_record_call book ds
  unfolding read_record_call read_record_with
  record-refused r e = rw e refl

  module _ (B : Book) (e : load book ≡ loaded B) where
    holds-not : ((free_count B.kinds ≡ 32) × (length ds ≡ 32) → ⊥) → false ≡ holds_record B ds
    unfolding holds_record data_fits
    holds-not f = fails (both (tells-eq (free_count B.kinds) 32) (tells-eq (length ds) (free_count B.kinds))) (λ p. f (p.0, p.1 ∙ p.0))

    pub make-mismatch : (h : HookRecord) → ((free_count B.kinds ≡ 32) × (length ds ≡ 32) → ⊥) → make_record_call book h ds ≡ record { outcome = Err Mismatch; buffer = ds }
    unfolding make_record_call make_record_with kept
    make-mismatch h f = rw (e, ← holds-not f) refl

    pub record-mismatch : ((free_count B.kinds ≡ 32) × (length ds ≡ 32) → ⊥) → Err Mismatch ≡ read_record_call book ds
    unfolding read_record_call read_record_with
    record-mismatch f = rw (e, ← holds-not f) refl

    module _ (k : free_count B.kinds ≡ 32) (n : length ds ≡ 32) where
      holds : holds_record B ds ≡ true
      unfolding holds_record data_fits
      holds = rw (eq-eqb (free_count B.kinds) 32 k, eq-eqb (length ds) (free_count B.kinds) (n ∙ sym k)) refl

      pub make-bad : (h : HookRecord) → record_fits h ≡ false → make_record_call book h ds ≡ record { outcome = Err BadValue; buffer = ds }
      unfolding make_record_call make_record_with kept
      make-bad h g = rw (e, holds, g) refl

      pub make-good : (h : HookRecord) → record_fits h ≡ true → make_record_call book h ds ≡ record { outcome = Ok tt; buffer = record_bits h }
      unfolding make_record_call make_record_with wrote
      make-good h g = rw (e, holds, g) refl

      pub record-bad : are_bits ds ≡ false → Err BadValue ≡ read_record_call book ds
      unfolding read_record_call read_record_with
      record-bad h = rw (e, holds, h) refl

      pub record-good : are_bits ds ≡ true → record_read (read_record ds) ≡ read_record_call book ds
      unfolding read_record_call read_record_with
      record-good h = rw (e, holds, h) refl
