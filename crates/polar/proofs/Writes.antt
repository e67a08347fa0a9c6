-- What the loops within the lent workspace leave. Such a loop goes up and writes a new list over a part; after i turns the workspace is the old
-- one with the new list's first i elements pasted in, and what is read next is as it was (`Clear`). The same for stores one after the other.
-- Assumes nothing.
use mathlib.Core.Path.{◌≡◌, refl, sym, ap, ap₂, ◌∙◌, subst}
use mathlib.Core.List.{List, [], ◌∷◌, ◌++◌}
use mathlib.Core.Logic.{inl, ⊎_elim}
use Prim.Native.Nat.{ℕ, zero, suc, ◌+◌, ◌≤◌, ◌<◌}
use native.Mathlib.Nat.{not-suc-le-zero, le_of_suc-le-suc, add-zero}
use native.Mathlib.Numerals.{add-one}
use native.Mathlib.Omega.{arith}
use lib.ListN.{length, get_or, set, take, drop, length-take, length-drop}
use lib.Seq.{get_or-take, get_or-drop, take_all, paste, paste-zero}
use lib.Bits.{bit_xor}
use lib.IntN.{ℤ, pos, nat_abs}
use mir.Facts.{to_z-of_z}
use Rattle.laws.specs.Lists.{All}
use Rattle.laws.proofs.Lists.{all-at, all_take, all_drop, get_d_zip, paste-next, get_d-paste-before, get_d-paste-after}
use Rattle.laws.proofs.Sets.{one-xor}
use Rattle.laws.proofs.Signed.{back, abs-fits}
use Rattle.polar.specs.Bits.{Bit, ◌⊕◌, add_bits}
use Rattle.polar.specs.Soft.{Q, P, Qs, Ps}
use Rattle.polar.specs.Layers.{part, over_at, Clear, Within}
use Rattle.polar.proofs.Bits.{add-length}
use Rattle.polar.proofs.Soft.{Qs-length, Ps-length}

-- ---- a part

module _ {A : Type 0} (at n : ℕ) (l : List A) where
  pub part_length : at + n ≤ length l → length (part at n l) ≡ n
  unfolding part
  part_length h = length-take n (drop at l) ∙ omega (arith, length-drop at l)

  pub part_at : (z : A) (i : ℕ) → i < n → get_or (part at n l) i z ≡ get_or l (at + i) z
  unfolding part
  part_at z i h = get_or-take n (drop at l) i z h ∙ get_or-drop at l i z

  -- what holds of the part holds of its elements in the list
  part-all : (P : A → Type 0) (z : A) → at + n ≤ length l → All P (part at n l) → (i : ℕ) → i < n → P (get_or l (at + i) z)
  part-all P z h a i b = subst P (part_at z i b) (all-at P (part at n l) i z (omega (arith, part_length h)) a)

  -- the halves of a part of 2n elements
  abbrev pub first : List A
  first = take n (part at (n + n) l)

  abbrev pub last : List A
  last = drop n (part at (n + n) l)

module _ {A : Type 0} (at n : ℕ) (l : List A) (h : at + (n + n) ≤ length l) where
  first-length : length (first at n l) ≡ n
  first-length = length-take n (part at (n + n) l) ∙ omega (arith, part_length at (n + n) l h)

  last-length : length (last at n l) ≡ n
  last-length = length-drop n (part at (n + n) l) ∙ omega (arith, part_length at (n + n) l h)

  first-at : (z : A) (i : ℕ) → i < n → get_or (first at n l) i z ≡ get_or l (at + i) z
  first-at z i b = get_or-take n (part at (n + n) l) i z b ∙ part_at at (n + n) l z i (omega arith)

  last-at : (z : A) (i : ℕ) → i < n → get_or (last at n l) i z ≡ get_or l (at + (n + i)) z
  last-at z i b = get_or-drop n (part at (n + n) l) i z ∙ part_at at (n + n) l z (n + i) (omega arith)

-- ---- the workspace w after i turns, and what it is at the end

module _ {A : Type 0} {from k to n : ℕ} {l : List A} (new : List A) (c : Clear from k to n l) (e : length new ≡ n) where
  -- an element that this turn or a later one reads is as it was
  pub unread : (z : A) {w : List A} (i j : ℕ) → w ≡ paste l to new i → i ≤ n → i ≤ j → j < k → get_or w (from + j) z ≡ get_or l (from + j) z
  unread z i j q h g b =
      let r = c.room in
      ap (λ x. get_or x (from + j) z) q
      ∙ ⊎_elim
      (λ a. get_d-paste-after l new to z i (from + j) (omega arith) (omega arith) (omega arith))
      (λ a. get_d-paste-before l new to z i (from + j) (omega arith) (omega arith))
      c.ahead

  pub next : (z : A) {w : List A} {v : A} (i : ℕ) → w ≡ paste l to new i → i < n → v ≡ get_or new i z → set w (to + i) v ≡ paste l to new (i + 1)
  next z i q h ev = let r = c.room in paste-next l new to z i q (omega arith) (omega arith) ev

  pub written : {w : List A} (i : ℕ) → w ≡ paste l to new i → i ≤ n → n ≤ i → w ≡ over_at to new l
  unfolding over_at
  written i q h g =
      let f : i ≡ length new = omega arith in
      q ∙ ap₂ (λ x m. take to l ++ x ++ drop (to + m) l) (take_all i new (omega arith)) f

-- a value that is read is as it was, and small
pub read-value : {from k to n : ℕ} {l : List ℤ} (new : List ℤ) (c : Clear from k to n l) (e : length new ≡ n) → All (Within 1048064) (part from k l) →
    {w : List ℤ} (i j : ℕ) → w ≡ paste l to new i → i ≤ n → i ≤ j → j < k →
    (back (get_or w (from + j) (pos 0)) ≡ get_or l (from + j) (pos 0)) × (nat_abs (get_or l (from + j) (pos 0)) ≤ 1048064)
read-value {from} {k} {l} new c e a {w} i j q h g b =
    let small : nat_abs (get_or l (from + j) (pos 0)) ≤ 1048064 = part-all from k l (Within 1048064) (pos 0) c.source a j b in
    let same : get_or w (from + j) (pos 0) ≡ get_or l (from + j) (pos 0) = unread new c e (pos 0) i j q h g b in
    (to_z-of_z (abs-fits (get_or w (from + j) (pos 0)) (omega (arith, ap nat_abs same))) ∙ same, small)

-- ---- values by Q and by P

Qs-at : (xs ys : List ℤ) (i : ℕ) (z : ℤ) → i < length xs → i < length ys → get_or (Qs xs ys) i z ≡ Q (get_or xs i z) (get_or ys i z)
unfolding Qs
Qs-at xs ys i z h k = get_d_zip Q xs ys i z z z h k

Ps-at : (vs : List ℕ) (xs ys : List ℤ) (i : ℕ) (z : ℤ) → i < length vs → i < length xs → i < length ys →
    get_or (Ps vs xs ys) i z ≡ P (get_or vs i 0) (get_or xs i z) (get_or ys i z)
unfolding Ps
Ps-at [] xs ys i z g h k = absurd (not-suc-le-zero g)
Ps-at (v ∷ vs) [] ys i z g h k = absurd (not-suc-le-zero h)
Ps-at (v ∷ vs) (x ∷ xs) [] i z g h k = absurd (not-suc-le-zero k)
Ps-at (v ∷ vs) (x ∷ xs) (y ∷ ys) zero z g h k = refl
Ps-at (v ∷ vs) (x ∷ xs) (y ∷ ys) (suc i) z g h k = Ps-at vs xs ys i z (le_of_suc-le-suc g) (le_of_suc-le-suc h) (le_of_suc-le-suc k)

-- what a step writes from the 2n elements at `from`
module _ (from n : ℕ) (l : List ℤ) (h : from + (n + n) ≤ length l) where
  lower-q-length : length (Qs (first from n l) (last from n l)) ≡ n
  lower-q-length = Qs-length (first from n l) (last from n l) (first-length from n l h ∙ sym (last-length from n l h)) ∙ first-length from n l h

  lower-q-at : (i : ℕ) → i < n → get_or (Qs (first from n l) (last from n l)) i (pos 0) ≡ Q (get_or l (from + i) (pos 0)) (get_or l (from + (n + i)) (pos 0))
  lower-q-at i b =
      Qs-at (first from n l) (last from n l) i (pos 0) (omega (arith, first-length from n l h)) (omega (arith, last-length from n l h))
      ∙ ap₂ Q (first-at from n l h (pos 0) i b) (last-at from n l h (pos 0) i b)

  module _ (sums : ℕ) (bs : List ℕ) (g : sums + n ≤ length bs) where
    lower-p-length : length (Ps (part sums n bs) (first from n l) (last from n l)) ≡ n
    lower-p-length =
        Ps-length (part sums n bs) (first from n l) (last from n l)
        (part_length sums n bs g ∙ sym (first-length from n l h)) (first-length from n l h ∙ sym (last-length from n l h))
        ∙ part_length sums n bs g

    lower-p-at : (i : ℕ) → i < n →
        get_or (Ps (part sums n bs) (first from n l) (last from n l)) i (pos 0) ≡ P (get_or bs (sums + i) 0) (get_or l (from + i) (pos 0)) (get_or l (from + (n + i)) (pos 0))
    lower-p-at i b =
        Ps-at (part sums n bs) (first from n l) (last from n l) i (pos 0)
        (omega (arith, part_length sums n bs g)) (omega (arith, first-length from n l h)) (omega (arith, last-length from n l h))
        ∙ ap (λ v. P v (get_or (first from n l) i (pos 0)) (get_or (last from n l) i (pos 0))) (part_at sums n bs 0 i b)
        ∙ ap₂ (P (get_or bs (sums + i) 0)) (first-at from n l h (pos 0) i b) (last-at from n l h (pos 0) i b)

-- one turn that writes by Q or by P, and all of them: what it reads is as it was, and small
module _ {from to n : ℕ} {l : List ℤ} (c : Clear from (n + n) to n l) (a : All (Within 1048064) (part from (n + n) l)) where
  module _ (new : List ℤ) (e : length new ≡ n) {w : List ℤ} (i : ℕ) (q : w ≡ paste l to new i) (h : i < n) where
    low : (back (get_or w (from + i) (pos 0)) ≡ get_or l (from + i) (pos 0)) × (nat_abs (get_or l (from + i) (pos 0)) ≤ 1048064)
    low = read-value new c e a i i q (omega arith) (omega arith) (omega arith)

    high : (back (get_or w (from + (n + i)) (pos 0)) ≡ get_or l (from + (n + i)) (pos 0)) × (nat_abs (get_or l (from + (n + i)) (pos 0)) ≤ 1048064)
    high = read-value new c e a i (n + i) q (omega arith) (omega arith) (omega arith)

  abbrev qs : List ℤ
  qs = Qs (first from n l) (last from n l)

  qs-length : length qs ≡ n
  qs-length = lower-q-length from n l c.source

  pub q-small : {w : List ℤ} (i : ℕ) → w ≡ paste l to qs i → i < n →
      (nat_abs (back (get_or w (from + i) (pos 0))) < 2147483648) × (nat_abs (back (get_or w (from + (n + i)) (pos 0))) < 2147483648)
  q-small i q h =
      let x = low qs qs-length i q h in
      let y = high qs qs-length i q h in
      (omega (arith, ap nat_abs x.0, x.1), omega (arith, ap nat_abs y.0, y.1))

  pub q-next : {w : List ℤ} {v : ℤ} (i : ℕ) → w ≡ paste l to qs i → i < n →
      v ≡ Q (back (get_or w (from + i) (pos 0))) (back (get_or w (from + (n + i)) (pos 0))) → set w (to + i) v ≡ paste l to qs (i + 1)
  q-next i q h f =
      next qs c qs-length (pos 0) i q h
      (f ∙ ap₂ Q (low qs qs-length i q h).0 (high qs qs-length i q h).0 ∙ sym (lower-q-at from n l c.source i h))

  pub q-written : {w : List ℤ} (i : ℕ) → w ≡ paste l to qs i → i ≤ n → n ≤ i → w ≡ over_at to qs l
  q-written i q h g = written qs c qs-length i q h g

  module _ (sums : ℕ) (bs : List ℕ) (r : sums + n ≤ length bs) where
    abbrev ps : List ℤ
    ps = Ps (part sums n bs) (first from n l) (last from n l)

    ps-length : length ps ≡ n
    ps-length = lower-p-length from n l c.source sums bs r

    pub p-small : {w : List ℤ} (i : ℕ) → w ≡ paste l to ps i → i < n →
        nat_abs (back (get_or w (from + i) (pos 0))) + nat_abs (back (get_or w (from + (n + i)) (pos 0))) < 2147483648
    p-small i q h =
        let x = low ps ps-length i q h in
        let y = high ps ps-length i q h in
        omega (arith, ap nat_abs x.0, ap nat_abs y.0, x.1, y.1)

    pub p-next : {w : List ℤ} {v : ℤ} (i : ℕ) → w ≡ paste l to ps i → i < n →
        v ≡ P (get_or bs (sums + i) 0) (back (get_or w (from + i) (pos 0))) (back (get_or w (from + (n + i)) (pos 0))) →
        set w (to + i) v ≡ paste l to ps (i + 1)
    p-next i q h f =
        next ps c ps-length (pos 0) i q h
        (f ∙ ap₂ (P (get_or bs (sums + i) 0)) (low ps ps-length i q h).0 (high ps ps-length i q h).0
        ∙ sym (lower-p-at from n l c.source sums bs r i h))

    pub p-written : {w : List ℤ} (i : ℕ) → w ≡ paste l to ps i → i ≤ n → n ≤ i → w ≡ over_at to ps l
    p-written i q h g = written ps c ps-length i q h g

-- ---- sums of words

-- what is written from the words at `low` and `high`
module _ (low high n : ℕ) (l : List ℕ) (h : low + n ≤ length l) (g : high + n ≤ length l) where
  pub add-sums-length : length (add_bits (part low n l) (part high n l)) ≡ n
  add-sums-length = add-length (part low n l) (part high n l) (part_length low n l h ∙ sym (part_length high n l g)) ∙ part_length low n l h

  add-sums-at : All Bit (part low n l) → All Bit (part high n l) → (i : ℕ) → i < n →
      bit_xor (get_or l (low + i) 0) (get_or l (high + i) 0) ≡ get_or (add_bits (part low n l) (part high n l)) i 0
  unfolding add_bits
  add-sums-at a b i j =
      one-xor (get_or l (low + i) 0) (get_or l (high + i) 0) (part-all low n l Bit 0 h a i j) (part-all high n l Bit 0 g b i j)
      ∙ ap₂ ◌⊕◌ (sym (part_at low n l 0 i j)) (sym (part_at high n l 0 i j))
      ∙ sym (get_d_zip ◌⊕◌ (part low n l) (part high n l) i 0 0 0 (omega (arith, part_length low n l h)) (omega (arith, part_length high n l g)))

-- one more sum, and all of them
module _ {low high to n : ℕ} {l : List ℕ} (c : Clear low n to n l) (d : Clear high n to n l) (a : All Bit (part low n l)) (b : All Bit (part high n l)) where
  abbrev sums : List ℕ
  sums = add_bits (part low n l) (part high n l)

  sums-length : length sums ≡ n
  sums-length = add-sums-length low high n l c.source d.source

  pub sums_next : {w : List ℕ} (i : ℕ) → w ≡ paste l to sums i → i < n →
      set w (to + i) (bit_xor (get_or w (low + i) 0) (get_or w (high + i) 0)) ≡ paste l to sums (i + 1)
  sums_next i q h =
      next sums c sums-length 0 i q h
      (ap₂ bit_xor (unread sums c sums-length 0 i i q (omega arith) (omega arith) h) (unread sums d sums-length 0 i i q (omega arith) (omega arith) h)
      ∙ add-sums-at low high n l c.source d.source a b i h)

  pub sums-written : {w : List ℕ} (i : ℕ) → w ≡ paste l to sums i → i ≤ n → n ≤ i → w ≡ over_at to sums l
  sums-written i q h g = written sums c sums-length i q h g

-- ---- the last half of a run of 2h bits added to its first

module _ (at h : ℕ) (l : List ℕ) where
  -- the list after i sums
  unfoldable pub summed : ℕ → List ℕ
  summed zero = l
  summed (suc zero) = set l at (bit_xor (get_or l at 0) (get_or l (at + h) 0))
  summed (suc (suc i)) =
      set (summed (suc i)) (at + suc i) (bit_xor (get_or (summed (suc i)) (at + suc i) 0) (get_or (summed (suc i)) (at + h + suc i) 0))

  module _ (room : at + (h + h) ≤ length l) (bits : All Bit l) where
    -- what adding the words asks
    pub run-clear : Clear at h at h l × (Clear (at + h) h at h l × (All Bit (part at h l) × All Bit (part (at + h) h l)))
    run-clear = (
      record { source = omega arith; room = omega arith; ahead = inl (omega arith) },
      (record { source = omega arith; room = omega arith; ahead = inl (omega arith) }, (bits_of at, bits_of (at + h))),
    )
      where
        bits_of : (from : ℕ) → All Bit (part from h l)
        bits_of from = unfold part in all_take Bit h (drop from l) (all_drop Bit from l bits)

    abbrev run-sums : List ℕ
    run-sums = add_bits (part at h l) (part (at + h) h l)

    run-next : {w : List ℕ} (i : ℕ) → w ≡ paste l at run-sums i → i < h →
        set w (at + i) (bit_xor (get_or w (at + i) 0) (get_or w (at + h + i) 0)) ≡ paste l at run-sums (i + 1)
    run-next i q b = sums_next run-clear.0 run-clear.1.0 run-clear.1.1.0 run-clear.1.1.1 i q b

    summed-first : (i : ℕ) → i ≤ h → summed i ≡ paste l at run-sums i
    unfolding summed
    summed-first zero b = paste-zero l at run-sums
    summed-first (suc zero) b = simp add-zero at (run-next 0 (paste-zero l at run-sums) b)
    summed-first (suc (suc i)) b = run-next (suc i) (summed-first (suc i) (omega arith)) b ∙ ap (paste l at run-sums) (add-one (suc i))

    pub summed-all : (i : ℕ) → i ≡ h → summed i ≡ over_at at run-sums l
    summed-all i e =
        sums-written run-clear.0 run-clear.1.0 run-clear.1.1.0 run-clear.1.1.1 i (summed-first i (omega arith)) (omega arith) (omega arith)
