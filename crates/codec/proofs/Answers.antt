-- The calls on a loaded book: for each, its arguments fit where it is done, and where they fit it answers what the code or the record says.
-- By cases on its tests. Assumes nothing.
use mathlib.Core.Path.{◌≡◌, refl, sym, ◌∙◌}
use mathlib.Core.Bool.{Bool, true, false, ◌&&◌}
use mathlib.Core.List.{List, [], ◌∷◌}
use mathlib.Core.Option.{Option, none, some}
use Prim.Native.Nat.{ℕ, ◌^◌}
use Rattle.std.specs.Prelude.{Result, Ok, Err}
use native.Mathlib.Omega.{arith}
use lib.ListN.{length}
use lib.Dec.{T, leb, eqb, leb→le, le→leb, eqb→eq}
use Rattle.laws.specs.Lists.{All}
use Rattle.laws.proofs.Tests.{and_in, and_left, and_right, eq→eqb, both-in, both_out}
use Rattle.polar.specs.Bits.{Bit}
use Rattle.codebook.specs.declared.Refusal.{Refusal}
use Rattle.codebook.specs.declared.Refusal.TheVariants.{Mismatch, BadValue, Unreadable}
use Rattle.codebook.specs.Book.{Book, free_count}
use Rattle.codebook.specs.Loading.{loaded}
use Rattle.codec.specs.declared.HookRecord.{HookRecord}
use Rattle.codec.specs.Code.{encode, in_code, read_data}
use Rattle.codec.specs.Record.{record_fits, record_bits, read_record}
use Rattle.codec.specs.Calls.{are_bits, word_fits, data_fits, holds_record, Wrote, kept, wrote, record_read}
use Rattle.codec.specs.Calls.{encode_with, test_with, read_data_with, make_record_with, read_record_with}

-- ---- tests

pub bits_in : (bs : List ℕ) → All Bit bs → T (are_bits bs)
unfolding are_bits All
bits_in [] h = tt
bits_in (b ∷ bs) h = and_in (leb b 1) (are_bits bs) (le→leb b 1 (omega (arith, h.0))) (bits_in bs h.1)

pub bits_out : (bs : List ℕ) → T (are_bits bs) → All Bit bs
unfolding are_bits All
bits_out [] t = tt
bits_out (b ∷ bs) t = (omega (arith, leb→le b 1 (and_left (leb b 1) (are_bits bs) t)), bits_out bs (and_right (leb b 1) (are_bits bs) t))

-- a call that writes is done
abbrev pub IsDone : Wrote → Type 0
IsDone w = w.outcome ≡ Ok tt

-- what is refused answers nothing
pub not-said : {A : Type 0} {x : A} (r : Refusal) → Err r ≡ Ok x → ⊥
not-said r e = cc

answer-in : (b : Bool) → T b → ◌≡◌ {A = Result Bool Refusal} (Ok b) (Ok true)
answer-in true t = refl
answer-in false t = absurd t

answer-out : (b : Bool) → ◌≡◌ {A = Result Bool Refusal} (Ok b) (Ok true) → T b
answer-out true e = tt
answer-out false e = cc

answer-no : (b : Bool) → (T b → ⊥) → ◌≡◌ {A = Result Bool Refusal} (Ok b) (Ok false)
answer-no true f = absurd (f tt)
answer-no false f = refl

-- a record that is read is the record of the bits
pub hook-out : (o : Option HookRecord) {h : HookRecord} → record_read o ≡ Ok h → o ≡ some h
unfolding record_read
hook-out none e = absurd (not-said Unreadable e)
hook-out (some h) e = cc

-- ---- lengths

module _ (B : Book) where
  word_in : (c : List ℕ) → length c ≡ 2 ^ B.m → T (word_fits B c)
  unfolding word_fits
  word_in c e = eq→eqb e

  word_out : (c : List ℕ) → T (word_fits B c) → length c ≡ 2 ^ B.m
  unfolding word_fits
  word_out c t = eqb→eq (length c) (2 ^ B.m) t

  data-in : (ds : List ℕ) → length ds ≡ free_count B.kinds → T (data_fits B ds)
  unfolding data_fits
  data-in ds e = eq→eqb e

  data-out : (ds : List ℕ) → T (data_fits B ds) → length ds ≡ free_count B.kinds
  unfolding data_fits
  data-out ds t = eqb→eq (length ds) (free_count B.kinds) t

  holds-in : (ds : List ℕ) → free_count B.kinds ≡ 32 → length ds ≡ 32 → T (holds_record B ds)
  unfolding holds_record
  holds-in ds f d = and_in (eqb (free_count B.kinds) 32) (data_fits B ds) (eq→eqb f) (data-in ds (d ∙ sym f))

  holds-out : (ds : List ℕ) → T (holds_record B ds) → (free_count B.kinds ≡ 32) × (length ds ≡ 32)
  unfolding holds_record
  holds-out ds t =
      let f : free_count B.kinds ≡ 32 = eqb→eq _ _ (and_left (eqb (free_count B.kinds) 32) (data_fits B ds) t) in
      (f, data-out ds (and_right (eqb (free_count B.kinds) 32) (data_fits B ds) t) ∙ f)

  -- ---- encode

  pub encode-done : (ds c : List ℕ) → (encode_with (loaded B) ds c).outcome ≡ Ok tt →
      (length ds ≡ free_count B.kinds) × (length c ≡ 2 ^ B.m) × All Bit ds
  unfolding encode_with kept
  encode-done ds c e =
      let (s, t, _) = both_out IsDone (data_fits B ds && word_fits B c) (are_bits ds) (not-said BadValue) (not-said Mismatch) e in
      (data-out ds (and_left (data_fits B ds) (word_fits B c) s), word_out c (and_right (data_fits B ds) (word_fits B c) s), bits_out ds t)

  pub encode-wrote : (ds c : List ℕ) → length ds ≡ free_count B.kinds → length c ≡ 2 ^ B.m → All Bit ds →
      encode_with (loaded B) ds c ≡ wrote (encode B ds)
  unfolding encode_with
  encode-wrote ds c d w h =
      both-in (data_fits B ds && word_fits B c) (are_bits ds) _ _ (and_in (data_fits B ds) (word_fits B c) (data-in ds d) (word_in c w)) (bits_in ds h)

  -- ---- test

  pub test-yes : (c : List ℕ) → test_with (loaded B) c ≡ Ok true → (length c ≡ 2 ^ B.m) × All Bit c × T (in_code B c)
  unfolding test_with
  test-yes c e =
      let (s, t, a) = both_out (λ (r : Result Bool Refusal). r ≡ Ok true) (word_fits B c) (are_bits c) (not-said BadValue) (not-said Mismatch) e in
      (word_out c s, bits_out c t, answer-out (in_code B c) a)

  pub test_in : (c : List ℕ) → length c ≡ 2 ^ B.m → All Bit c → T (in_code B c) → test_with (loaded B) c ≡ Ok true
  unfolding test_with
  test_in c w h t = both-in (word_fits B c) (are_bits c) _ _ (word_in c w) (bits_in c h) ∙ answer-in (in_code B c) t

  pub test-no : (c : List ℕ) → test_with (loaded B) c ≡ Ok false → (length c ≡ 2 ^ B.m) × All Bit c
  unfolding test_with
  test-no c e =
      let (s, t, _) = both_out (λ (r : Result Bool Refusal). r ≡ Ok false) (word_fits B c) (are_bits c) (not-said BadValue) (not-said Mismatch) e in
      (word_out c s, bits_out c t)

  pub test-out : (c : List ℕ) → length c ≡ 2 ^ B.m → All Bit c → (T (in_code B c) → ⊥) → test_with (loaded B) c ≡ Ok false
  unfolding test_with
  test-out c w h f = both-in (word_fits B c) (are_bits c) _ _ (word_in c w) (bits_in c h) ∙ answer-no (in_code B c) f

  -- ---- read data

  pub read_done : (c ds : List ℕ) → (read_data_with (loaded B) c ds).outcome ≡ Ok tt →
      (length c ≡ 2 ^ B.m) × (length ds ≡ free_count B.kinds) × All Bit c
  unfolding read_data_with kept
  read_done c ds e =
      let (s, t, _) = both_out IsDone (word_fits B c && data_fits B ds) (are_bits c) (not-said BadValue) (not-said Mismatch) e in
      (word_out c (and_left (word_fits B c) (data_fits B ds) s), data-out ds (and_right (word_fits B c) (data_fits B ds) s), bits_out c t)

  pub read-wrote : (c ds : List ℕ) → length c ≡ 2 ^ B.m → length ds ≡ free_count B.kinds → All Bit c →
      read_data_with (loaded B) c ds ≡ wrote (read_data B c)
  unfolding read_data_with
  read-wrote c ds w d h =
      both-in (word_fits B c && data_fits B ds) (are_bits c) _ _ (and_in (word_fits B c) (data_fits B ds) (word_in c w) (data-in ds d)) (bits_in c h)

  -- ---- make record

  pub make-done : (h : HookRecord) (ds : List ℕ) → (make_record_with (loaded B) h ds).outcome ≡ Ok tt →
      (free_count B.kinds ≡ 32) × (length ds ≡ 32) × T (record_fits h)
  unfolding make_record_with kept
  make-done h ds e =
      let (s, t, _) = both_out IsDone (holds_record B ds) (record_fits h) (not-said BadValue) (not-said Mismatch) e in
      let (f, d) = holds-out ds s in
      (f, d, t)

  pub make-wrote : (h : HookRecord) (ds : List ℕ) → free_count B.kinds ≡ 32 → length ds ≡ 32 → T (record_fits h) →
      make_record_with (loaded B) h ds ≡ wrote (record_bits h)
  unfolding make_record_with
  make-wrote h ds f d t = both-in (holds_record B ds) (record_fits h) _ _ (holds-in ds f d) t

  -- ---- read record

  pub record-done : (ds : List ℕ) {h : HookRecord} → read_record_with (loaded B) ds ≡ Ok h →
      (free_count B.kinds ≡ 32) × (length ds ≡ 32) × All Bit ds × (record_read (read_record ds) ≡ Ok h)
  unfolding read_record_with
  record-done ds {h} e =
      let (s, t, a) = both_out (λ (r : Result HookRecord Refusal). r ≡ Ok h) (holds_record B ds) (are_bits ds) (not-said BadValue) (not-said Mismatch) e in
      let (f, d) = holds-out ds s in
      (f, d, bits_out ds t, a)

  pub record-read : (ds : List ℕ) → free_count B.kinds ≡ 32 → length ds ≡ 32 → All Bit ds → read_record_with (loaded B) ds ≡ record_read (read_record ds)
  unfolding read_record_with
  record-read ds f d h = both-in (holds_record B ds) (are_bits ds) _ _ (holds-in ds f d) (bits_in ds h)
