-- The codes of kinds and the sets of ties, as kinds are put last or the last tie changes. A set of ties stays below the bit of the next tie,
-- so the last tie's bit is a set's highest. By induction on the kinds. Assumes nothing.
use mathlib.Core.Path.{◌≡◌, refl, sym, ap, ◌∙◌}
use mathlib.Core.Bool.{Bool, false, cond, ◌||◌, or-false, or_assoc}
use mathlib.Core.List.{List, [], ◌∷◌, ◌++◌}
use Prim.Native.Nat.{ℕ, zero, suc, ◌+◌, ◌-◌, ◌^◌, ◌≤◌, ◌<◌}
use native.Mathlib.Nat.{two-pow-succ, add-suc, suc-add, add-zero, zero-add, one-mul}
use native.Mathlib.Omega.{arith}
use lib.ListN.{length, get_or, take, drop, set, replicate, length-append, drop_of_length-le}
use lib.Seq.{split_at, set_split, get_or_at}
use lib.Bits.{bit_or, or_shifted_r}
use lib.Dec.{eqb}
use borrow.Author.Tests.{ne_eqb}
use Rattle.laws.proofs.Tests.{cond-case}
use Rattle.std.specs.Prelude.{count_by}
use Rattle.std.proofs.lemmas.List.Sums.{sum_by-cons}
use Rattle.codebook.specs.Book.{Kind, free, frozen, tied, tied_count, free_count}
use Rattle.codebook.specs.Loading.{member, terms_of, last_terms}
use Rattle.codebook.specs.Tables.{kind_codes, tie_set}
use Rattle.codebook.specs.Progress.{kind_of}
use Rattle.codebook.proofs.Indices.{tied-append}

-- ---- codes

pub codes-length : (t : ℕ) (ks : List Kind) → length (kind_codes t ks) ≡ length ks
unfolding kind_codes
codes-length t [] = refl
codes-length t (free ∷ ks) = ap suc (codes-length t ks)
codes-length t (frozen ∷ ks) = ap suc (codes-length t ks)
codes-length t (tied ts ∷ ks) = ap suc (codes-length (suc t) ks)

pub codes-append : (t : ℕ) (ks ls : List Kind) → kind_codes t (ks ++ ls) ≡ kind_codes t ks ++ kind_codes (t + tied_count ks) ls
unfolding kind_codes tied_count
codes-append t [] ls = rw add-zero
codes-append t (free ∷ ks) ls = ap (λ l. 0 ∷ l) (codes-append t ks ls)
codes-append t (frozen ∷ ks) ls = ap (λ l. 1 ∷ l) (codes-append t ks ls)
codes-append t (tied ts ∷ ks) ls = rw (codes-append (suc t) ks ls, suc-add t (tied_count ks), add-suc t (tied_count ks))

pub codes-run : (t n code : ℕ) → code < 2 → kind_codes t (replicate n (kind_of code)) ≡ replicate n code
unfolding kind_codes kind_of
codes-run t zero code h = refl
codes-run t (suc n) zero h = ap (λ l. 0 ∷ l) (codes-run t n zero h)
codes-run t (suc n) (suc zero) h = ap (λ l. 1 ∷ l) (codes-run t n (suc zero) h)
codes-run t (suc n) (suc (suc code)) h = absurd (omega arith)

-- one code more is counted where it is that of a free index
counted : (c : ℕ) (cs : List ℕ) → count_by (λ x. eqb x 0) (c ∷ cs) ≡ cond (eqb c 0) 1 0 + count_by (λ x. eqb x 0) cs
counted c cs = sum_by-cons (λ x. cond (eqb x 0) 1 0) c cs

codes-free : (t n : ℕ) (ks : List Kind) → count_by (λ c. eqb c 0) (take n (kind_codes t ks)) ≡ free_count (take n ks)
unfolding kind_codes free_count
codes-free t zero ks = refl
codes-free t (suc n) [] = refl
codes-free t (suc n) (free ∷ ks) = omega (arith, counted 0 (take n (kind_codes t ks)), codes-free t n ks)
codes-free t (suc n) (frozen ∷ ks) = omega (arith, counted 1 (take n (kind_codes t ks)), codes-free t n ks)
codes-free t (suc n) (tied ts ∷ ks) =
    let other : eqb (2 + t) 0 ≡ false = ne_eqb (2 + t) 0 (omega arith) in
    omega (arith, rw other at (counted (2 + t) (take n (kind_codes (suc t) ks))), codes-free (suc t) n ks)

-- the free codes of a part are the free kinds of it
pub codes-part : (t a n : ℕ) (ks : List Kind) → count_by (λ c. eqb c 0) (take n (drop a (kind_codes t ks))) ≡ free_count (take n (drop a ks))
unfolding kind_codes
codes-part t zero n ks = codes-free t n ks
codes-part t (suc a) n [] = codes-free t n []
codes-part t (suc a) n (free ∷ ks) = codes-part t a n ks
codes-part t (suc a) n (frozen ∷ ks) = codes-part t a n ks
codes-part t (suc a) n (tied ts ∷ ks) = codes-part (suc t) a n ks

-- ---- sets of ties

pub set-append : (t : ℕ) (ks ls : List Kind) (i : ℕ) → tie_set t (ks ++ ls) i ≡ tie_set t ks i + tie_set (t + tied_count ks) ls i
unfolding tie_set tied_count
set-append t [] ls i = rw (add-zero, zero-add)
set-append t (free ∷ ks) ls i = set-append t ks ls i
set-append t (frozen ∷ ks) ls i = set-append t ks ls i
set-append t (tied ts ∷ ks) ls i = rw (set-append (suc t) ks ls i, suc-add t (tied_count ks), add-suc t (tied_count ks)) (omega arith)

pub set-run : (t n code i : ℕ) → tie_set t (replicate n (kind_of code)) i ≡ 0
unfolding tie_set kind_of
set-run t zero code i = refl
set-run t (suc n) zero i = set-run t n zero i
set-run t (suc n) (suc code) i = set-run t n (suc code) i

pub tied-run : (n code : ℕ) → tied_count (replicate n (kind_of code)) ≡ 0
unfolding tied_count kind_of
tied-run zero code = refl
tied-run (suc n) zero = tied-run n zero
tied-run (suc n) (suc code) = tied-run n (suc code)

set_room : (t : ℕ) (ks : List Kind) (i : ℕ) → tie_set t ks i + 2 ^ t ≤ 2 ^ (t + tied_count ks)
unfolding tie_set tied_count
set_room t [] i = rw add-zero (omega arith)
set_room t (free ∷ ks) i = set_room t ks i
set_room t (frozen ∷ ks) i = set_room t ks i
set_room t (tied ts ∷ ks) i =
    let d = two-pow-succ t in
    let r = rw suc-add at (set_room (suc t) ks i) in
    cond-case (λ (x : ℕ). x + tie_set (suc t) ks i + 2 ^ t ≤ 2 ^ (t + suc (tied_count ks))) (member i ts)
    (λ _. rw add-suc (omega arith))
    (λ _. rw add-suc (omega arith))

-- below the bit of the next tie
pub set_below : (ks : List Kind) (i : ℕ) → tie_set 0 ks i < 2 ^ (tied_count ks)
set_below ks i = omega (arith, rw zero-add at (set_room 0 ks i))

-- a tie put last
pub set-tie : (ks : List Kind) (ts : List ℕ) (i : ℕ) → tie_set 0 (ks ++ tied ts ∷ []) i ≡ tie_set 0 ks i + cond (member i ts) (2 ^ (tied_count ks)) 0
unfolding tie_set
set-tie ks ts i = set-append 0 ks (tied ts ∷ []) i ∙ rw (zero-add, add-zero)

pub codes-tie : (ks : List Kind) (ts : List ℕ) → kind_codes 0 (ks ++ tied ts ∷ []) ≡ kind_codes 0 ks ++ (2 + tied_count ks) ∷ []
unfolding kind_codes
codes-tie ks ts = codes-append 0 ks (tied ts ∷ []) ∙ rw zero-add

-- a bit above a set, put into it
pub bit_in : (x t : ℕ) → x < 2 ^ t → bit_or x (2 ^ t) ≡ x + 2 ^ t
bit_in x t h = omega (arith, rw one-mul at (or_shifted_r 1 t x h))

-- ---- members

pub member-last : (x : ℕ) (ts : List ℕ) (i : ℕ) → member x (ts ++ i ∷ []) ≡ member x ts || eqb x i
unfolding member
member-last x [] i = or-false (eqb x i)
member-last x (y ∷ ts) i = ap (λ (b : Bool). eqb x y || b) (member-last x ts i) ∙ sym (or_assoc (eqb x y) (member x ts) (eqb x i))

-- ---- the last kind

pub last_some : (ks : List Kind) (ts : List ℕ) → get_or ks (length ks - 1) free ≡ tied ts → 0 < length ks
last_some [] ts e = let z : ◌≡◌ {A = ℕ} 0 1 = cc in omega arith
last_some (k ∷ ks) ts e = omega arith

-- kinds whose last one is this
pub kinds-last : (ks : List Kind) (ts : List ℕ) → get_or ks (length ks - 1) free ≡ tied ts → ks ≡ take (length ks - 1) ks ++ tied ts ∷ []
kinds-last ks ts e =
    let l = last_some ks ts e in
    split_at ks (length ks - 1) free (omega arith)
    ∙ rw (e, drop_of_length-le ks {i = suc (length ks - 1)} (omega arith))

-- kinds with a tie put last
pub last-tie : (ks : List Kind) (ts : List ℕ) → get_or (ks ++ tied ts ∷ []) (length (ks ++ tied ts ∷ []) - 1) free ≡ tied (last_terms (ks ++ tied ts ∷ []))
unfolding last_terms terms_of
last-tie ks ts =
    rw (get_or_at ks (tied ts) [] free (length (ks ++ tied ts ∷ []) - 1) (omega (arith, length-append ks (tied ts ∷ []))))

-- another tie in the place of the last kind
pub last_set : (ks : List Kind) (k : Kind) → 0 < length ks → set ks (length ks - 1) k ≡ take (length ks - 1) ks ++ k ∷ []
last_set ks k h = rw (set_split ks (length ks - 1) k (omega arith), drop_of_length-le ks {i = suc (length ks - 1)} (omega arith))

pub tied-tie : (ks : List Kind) (ts : List ℕ) → tied_count (ks ++ tied ts ∷ []) ≡ suc (tied_count ks)
unfolding tied_count
tied-tie ks ts = omega (arith, tied-append ks (tied ts ∷ []))
