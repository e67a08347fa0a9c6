-- A record that fits is read again from its 32 bits, and 32 bits from which a record is read are that record's, which fits: field by field,
-- by the laws of proofs/Digits.antt. Assumes nothing.
use mathlib.Core.Path.{◌≡◌, refl, sym, ap, ap₂, ◌∙◌, subst}
use mathlib.Core.Bool.{Bool, true, false, cond, ◌&&◌}
use mathlib.Core.List.{List, [], ◌∷◌, ◌++◌}
use mathlib.Core.Option.{Option, none, some}
use Prim.Native.Nat.{ℕ, zero, suc, ◌+◌, ◌^◌, ◌≤◌, ◌<◌}
use native.Mathlib.Omega.{arith}
use lib.ListN.{length, take, drop, length-append, length-take, length-drop, take-append-drop}
use lib.Seq.{take_at, drop_at, drop-drop, take_all}
use lib.Dec.{T, eqb, ltb, ltb→lt, lt→ltb, lit<}
use borrow.Author.Tests.{eqb-true}
use Rattle.std.specs.Prelude.{Ok, Err}
use Rattle.laws.specs.Lists.{All}
use Rattle.laws.proofs.Lists.{all_take, all_drop, all_append}
use Rattle.laws.proofs.Tests.{and_in, and_left, and_right}
use Rattle.polar.specs.Bits.{Bit, to_bits, from_bits}
use Rattle.polar.proofs.Bits.{to_bits-bits, to_bits-length}
use Rattle.codec.specs.declared.Status.{Status}
use Rattle.codec.specs.declared.Status.TheVariants.{Passed, HeldForLaboratory, HeldForVeterinarian, HeldForOwner, Condemned}
use Rattle.codec.specs.declared.HookRecord.{HookRecord}
use Rattle.codec.specs.declared.UnknownStatus.{UnknownStatus}
use Rattle.codec.specs.Record.{status_number, status_of, known_status, status_given, no_record, record_fits, record_bits, field_at, record_with, read_record}
use Rattle.codec.proofs.Digits.{from-to, from-lt, to-bits}

-- ---- a status and its number

status-again : (s : Status) → status_of (status_number s) ≡ some s
unfolding status_of status_number
status-again Passed = refl
status-again HeldForLaboratory = refl
status-again HeldForVeterinarian = refl
status-again HeldForOwner = refl
status-again Condemned = refl

status-fits : (s : Status) → status_number s < 2 ^ 3
unfolding status_number
status-fits Passed = lit< tt
status-fits HeldForLaboratory = lit< tt
status-fits HeldForVeterinarian = lit< tt
status-fits HeldForOwner = lit< tt
status-fits Condemned = lit< tt

number-again : (n : ℕ) (s : Status) → status_of n ≡ some s → status_number s ≡ n
unfolding status_of status_number
number-again zero s e = let p : Passed ≡ s = cc in ap status_number (sym p)
number-again (suc zero) s e = let p : HeldForLaboratory ≡ s = cc in ap status_number (sym p)
number-again (suc (suc zero)) s e = let p : HeldForVeterinarian ≡ s = cc in ap status_number (sym p)
number-again (suc (suc (suc zero))) s e = let p : HeldForOwner ≡ s = cc in ap status_number (sym p)
number-again (suc (suc (suc (suc zero)))) s e = let p : Condemned ≡ s = cc in ap status_number (sym p)
number-again (suc (suc (suc (suc (suc n))))) s e = cc

-- a number's status, by the answer for it
module _ (n : ℕ) where
  pub status-none : {u : UnknownStatus} → Err u ≡ status_given n → status_of n ≡ none
  unfolding status_given known_status
  status-none = go (status_of n)
    where
      go : (o : Option Status) {u : UnknownStatus} → Err u ≡ known_status n o → o ≡ none
      go none e = refl
      go (some s) e = cc

  pub status-some : {s : Status} → Ok s ≡ status_given n → status_of n ≡ some s
  unfolding status_given known_status
  status-some = go (status_of n)
    where
      go : (o : Option Status) {s : Status} → Ok s ≡ known_status n o → o ≡ some s
      go none e = cc
      go (some t) e = cc

-- the default record is that of a refusal
pub default-none : {h : HookRecord} → (h.plant ≡ 0) × ((h.carcass ≡ 0) × ((h.side ≡ 0) × (h.status ≡ Passed))) → h ≡ no_record
unfolding no_record
default-none (p, (c, (s, t))) = λ i. record { plant = p i; carcass = c i; side = s i; status = t i }

-- ---- whether a record fits, field by field

module _ (h : HookRecord) where
  fits_out : T (record_fits h) → (h.plant < 2 ^ 6) × (h.carcass < 2 ^ 20) × (h.side < 2)
  unfolding record_fits
  fits_out t =
      let p : Bool = ltb h.plant (2 ^ 6) in
      let c : Bool = ltb h.carcass (2 ^ 20) in
      let s : Bool = ltb h.side 2 in
      let pc : T (p && c) = and_left (p && c) s t in
      (ltb→lt _ _ (and_left p c pc), ltb→lt _ _ (and_right p c pc), ltb→lt _ _ (and_right (p && c) s t))

  fits_in : h.plant < 2 ^ 6 → h.carcass < 2 ^ 20 → h.side < 2 → T (record_fits h)
  unfolding record_fits
  fits_in i j k =
      let p : Bool = ltb h.plant (2 ^ 6) in
      let c : Bool = ltb h.carcass (2 ^ 20) in
      and_in (p && c) (ltb h.side 2) (and_in p c (lt→ltb _ _ i) (lt→ltb _ _ j)) (lt→ltb _ _ k)

-- ---- from a record to its bits

-- the record that 32 bits hold, with this status
held : List ℕ → Status → HookRecord
held ds s = record { plant = field_at ds 0 6; carcass = field_at ds 6 20; side = field_at ds 26 1; status = s }

-- the first field, and the fields after it
field-here : (w x : ℕ) (rest : List ℕ) → x < 2 ^ w → field_at (to_bits w x ++ rest) 0 w ≡ x
unfolding field_at
field-here w x rest h = ap (from_bits 0) (take_at (to_bits w x) rest w (to_bits-length w x)) ∙ from-to w x h

field_next : (v y : ℕ) (rest : List ℕ) (i w : ℕ) → field_at (to_bits v y ++ rest) (v + i) w ≡ field_at rest i w
unfolding field_at
field_next v y rest i w =
    ap (λ l. from_bits 0 (take w l)) (sym (drop-drop i v (to_bits v y ++ rest)) ∙ ap (drop i) (drop_at (to_bits v y) rest v (to_bits-length v y)))

pub record-bits : (h : HookRecord) → (length (record_bits h) ≡ 32) × All Bit (record_bits h)
unfolding record_bits
record-bits h = (simp (length-append, to_bits-length), before 6 _ _ (before 20 _ _ (before 1 _ _ (before 3 _ (0 ∷ 0 ∷ []) zeros))))
  where
    zeros : All Bit (0 ∷ 0 ∷ [])
    zeros = unfold All in (lit< tt, (lit< tt, tt))

    before : (w x : ℕ) (rest : List ℕ) → All Bit rest → All Bit (to_bits w x ++ rest)
    before w x rest k = all_append Bit (to_bits w x) rest (to_bits-bits w x) k

-- each field of a record that fits is read again, and so are the spare zeros
pub read_made : (h : HookRecord) → T (record_fits h) → read_record (record_bits h) ≡ some h
unfolding record_bits read_record record_with held
read_made h t =
    let (i, j, k) = fits_out h t in
    let ds : List ℕ = record_bits h in
    let p : field_at ds 0 6 ≡ h.plant = field-here 6 _ _ i in
    let c : field_at ds 6 20 ≡ h.carcass = field_next 6 _ _ 0 20 ∙ field-here 20 _ _ j in
    let s : field_at ds 26 1 ≡ h.side = field_next 6 _ _ 20 1 ∙ field_next 20 _ _ 0 1 ∙ field-here 1 _ _ k in
    ap (λ n. record_with ds (status_of n)) status
    ∙ ap (record_with ds) (status-again h.status)
    ∙ ap (λ n. cond (eqb n 0) (some (held ds h.status)) none) spare
    ∙ (λ i. some (record { plant = p i; carcass = c i; side = s i; status = h.status }))
  where
    status : field_at (record_bits h) 27 3 ≡ status_number h.status
    status = field_next 6 _ _ 21 3 ∙ field_next 20 _ _ 1 3 ∙ field_next 1 _ _ 0 3 ∙ field-here 3 _ _ (status-fits h.status)

    spare : field_at (record_bits h) 30 2 ≡ 0
    spare = field_next 6 _ _ 24 2 ∙ field_next 20 _ _ 4 2 ∙ field_next 1 _ _ 3 2 ∙ field_next 3 _ _ 0 2 ∙ unfold field_at from_bits in refl

-- ---- from bits to the record

-- the w bits from bit i on
module _ (ds : List ℕ) (i w : ℕ) (h : All Bit ds) (l : i + w ≤ length ds) where
  part_length : length (take w (drop i ds)) ≡ w
  part_length = omega (arith, length-take w (drop i ds), length-drop i ds)

  part-bits : All Bit (take w (drop i ds))
  part-bits = all_take Bit w (drop i ds) (all_drop Bit i ds h)

  field_lt : field_at ds i w < 2 ^ w
  unfolding field_at
  field_lt = subst (λ (n : ℕ). field_at ds i w < 2 ^ n) part_length (from-lt (take w (drop i ds)) part-bits)

  field-bits : to_bits w (field_at ds i w) ≡ take w (drop i ds)
  unfolding field_at
  field-bits = to-bits w (take w (drop i ds)) part_length part-bits

  -- the field's bits before the bits after it
  field-before : (rest : List ℕ) → rest ≡ drop (i + w) ds → to_bits w (field_at ds i w) ++ rest ≡ drop i ds
  field-before rest e = ap₂ ◌++◌ field-bits (e ∙ sym (drop-drop w i ds)) ∙ take-append-drop w (drop i ds)

-- the record that the bits hold has these bits, and fits
module _ (ds : List ℕ) (s : Status) (l : length ds ≡ 32) (k : All Bit ds) where
  held-bits : status_of (field_at ds 27 3) ≡ some s → field_at ds 30 2 ≡ 0 → record_bits (held ds s) ≡ ds
  unfolding held record_bits
  held-bits p z =
      field-before ds 0 6 k (omega arith) _
      (field-before ds 6 20 k (omega arith) _
      (field-before ds 26 1 k (omega arith) _
      (ap (λ n. to_bits 3 n ++ 0 ∷ 0 ∷ []) (number-again (field_at ds 27 3) s p) ∙ field-before ds 27 3 k (omega arith) _ spare)))
    where
      spare : 0 ∷ 0 ∷ [] ≡ drop 30 ds
      spare =
          unfold to_bits in ap (to_bits 2) (sym z) ∙ field-bits ds 30 2 k (omega arith) ∙ take_all 2 (drop 30 ds) (omega (arith, length-drop 30 ds))

  held_fits : T (record_fits (held ds s))
  unfolding held
  held_fits = fits_in (held ds s) (field_lt ds 0 6 k (omega arith)) (field_lt ds 6 20 k (omega arith)) (field_lt ds 26 1 k (omega arith))

-- what is read is that record, with the status and the spare zeros that the bits have
pub made-read : (ds : List ℕ) (h : HookRecord) → length ds ≡ 32 → All Bit ds → read_record ds ≡ some h → (record_bits h ≡ ds) × T (record_fits h)
unfolding read_record record_with held
made-read ds h l k e = go (status_of (field_at ds 27 3)) refl e
  where
    Made : HookRecord → Type 0
    Made x = (record_bits x ≡ ds) × T (record_fits x)

    test : (s : Status) → status_of (field_at ds 27 3) ≡ some s → (b : Bool) → eqb (field_at ds 30 2) 0 ≡ b →
        cond b (some (held ds s)) none ≡ some h → Made h
    test s p true z q = let r : held ds s ≡ h = cc in subst Made r (held-bits ds s l k p (eqb-true (field_at ds 30 2) 0 z), held_fits ds s l k)
    test s p false z q = let c : ◌≡◌ {A = ℕ} 0 1 = cc in absurd (omega arith)

    go : (o : Option Status) → status_of (field_at ds 27 3) ≡ o → record_with ds o ≡ some h → Made h
    go none p q = let c : ◌≡◌ {A = ℕ} 0 1 = cc in absurd (omega arith)
    go (some s) p q = test s p (eqb (field_at ds 30 2) 0) refl q
