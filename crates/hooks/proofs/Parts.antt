-- Fields of bits written and read, one bit more each time: what the loops of src/fields.rt do in one turn, and the calls of src/hook.rt. Assumes nothing.
use mathlib.Core.Path.{◌≡◌, refl, sym, ap, ap₂, ◌∙◌}
use mathlib.Core.List.{List, [], ◌∷◌, ◌++◌, append_assoc, append-nil}
use Prim.Native.Nat.{ℕ, zero, suc, ◌+◌, ◌*◌, ◌/◌, ◌%◌, ◌^◌, ◌-◌, ◌≤◌, ◌<◌}
use native.Mathlib.Nat.{two-pow-succ}
use native.Mathlib.Numerals.{add-one}
use native.Mathlib.Omega.{arith}
use lib.ListN.{length, get_or, take, drop, set}
use lib.Seq.{drop-cons, take-suc, take-suc-set, take_at, drop_at, length-take-le}
use borrow.Rule.Slice.PartMut.{mid_of, put_mid}
use borrow.Author.Tests.{eq-eqb, ne_eqb}
use Rattle.std.specs.Prelude.{Ok, Err}
use Rattle.laws.specs.Lists.{All}
use Rattle.laws.proofs.Lists.{all_take, all_drop}
use Rattle.polar.specs.Bits.{Bit, to_bits, from_bits}
use Rattle.codebook.specs.declared.Refusal.TheVariants.{Unreadable}
use Rattle.codec.specs.declared.Status.{Status}
use Rattle.codec.specs.declared.UnknownStatus.{UnknownStatus}
use Rattle.codec.specs.Record.{status_given, field_at, record_with, read_record}
use Rattle.codec.specs.Calls.{record_read}
use Rattle.codec.proofs.Record.{status-none, status-some}
use Rattle.polar.proofs.Bits.{to_bits-length}

-- ---- a field's bits

-- the bit that l more follow
to_at : (w x i l : ℕ) → i + suc l ≡ w → get_or (to_bits w x) i 0 ≡ x / 2 ^ l % 2
unfolding to_bits
to_at zero x i l e = absurd (omega arith)
to_at (suc w) x zero l e = let k : w ≡ l = omega arith in ap (λ n. x / 2 ^ n % 2) k
to_at (suc w) x (suc i) l e = to_at w x i l (omega arith)

-- one more is written
pub to_more : (bs : List ℕ) (w x i : ℕ) → w ≡ length bs → i < length bs → take i bs ≡ take i (to_bits w x) →
    take (i + 1) (set bs i (x / 2 ^ (w - 1 - i) % 2)) ≡ take (i + 1) (to_bits w x)
to_more bs w x i e h q =
    rw (add-one i, take-suc-set bs i (x / 2 ^ (w - 1 - i) % 2) h, take-suc (to_bits w x) i 0 (omega (arith, to_bits-length w x)))
    (ap₂ (λ l b. l ++ b ∷ []) q (sym (to_at w x i (w - 1 - i) (omega arith))))

-- one more is read
pub from_more : (bs : List ℕ) (x i b : ℕ) → i < length bs → b ≡ get_or bs i 0 → from_bits (2 * x + b) (drop (i + 1) bs) ≡ from_bits x (drop i bs)
unfolding from_bits
from_more bs x i b h e = rw (e, add-one i, drop-cons bs i 0 h) refl

pub digits_lt : (x b i : ℕ) → x < 2 ^ i → b < 2 → 2 * x + b < 2 ^ (i + 1)
digits_lt x b i h k = rw add-one (omega (arith, two-pow-succ i))

-- ---- fields one after the other

module _ (done rest : List ℕ) (at k x : ℕ) where
  -- one more is written behind those that fill the start
  pub put_next : {l new : List ℕ} → length done ≡ at → k ≤ length rest → l ≡ done ++ rest → new ≡ to_bits (length (mid_of at k l)) x →
      put_mid at k l new ≡ done ++ to_bits k x ++ drop k rest
  put_next {l} {new} e h q n =
      let r : drop at l ≡ rest = ap (drop at) q ∙ drop_at done rest at e in
      let f : new ≡ to_bits k x = n ∙ ap (λ i. to_bits i x) (ap (λ r. length (take k r)) r ∙ length-take-le k rest h) in
      ap₂ ◌++◌ (ap (take at) q ∙ take_at done rest at e) (ap₂ (λ y z. y ++ drop k z) f r) ∙ sym (append_assoc done (to_bits k x) (drop k rest))

-- and they fill it
pub put_all : (done rest : List ℕ) {l : List ℕ} → l ≡ done ++ rest → length rest ≡ 0 → l ≡ done
put_all done [] q h = q ∙ append-nil done
put_all done (x ∷ rest) q h = absurd (omega arith)

-- ---- the record of 32 bits

-- a part of bits is of bits
pub part_bits : (ds : List ℕ) (i w : ℕ) → All Bit ds → All Bit (take w (drop i ds))
part_bits ds i w h = all_take Bit w (drop i ds) (all_drop Bit i ds h)

module _ (ds : List ℕ) (n : ℕ) (e : n ≡ field_at ds 27 3) where
  pub no-status : {u : UnknownStatus} → Err u ≡ status_given n → Err Unreadable ≡ record_read (read_record ds)
  unfolding read_record record_with record_read
  no-status q = rw (← e, status-none n q) refl

  module _ (s : Status) (q : Ok s ≡ status_given n) where
    pub not-spare : (field_at ds 30 2 ≡ 0 → ⊥) → Err Unreadable ≡ record_read (read_record ds)
    unfolding read_record record_with record_read
    not-spare f = rw (← e, status-some n q, ne_eqb (field_at ds 30 2) 0 f) refl

    pub read : field_at ds 30 2 ≡ 0 → Ok (record { plant = field_at ds 0 6; carcass = field_at ds 6 20; side = field_at ds 26 1; status = s }) ≡ record_read (read_record ds)
    unfolding read_record record_with record_read
    read f = rw (← e, status-some n q, eq-eqb (field_at ds 30 2) 0 f) refl
