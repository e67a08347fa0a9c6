-- The limits on kinds, and how many are tied, as index commands change the kinds: more kinds at the end, or one more term in a tie. By
-- induction on the kinds. Assumes nothing.
use mathlib.Core.Path.{◌≡◌, refl, sym, subst, ◌∙◌}
use mathlib.Core.Bool.{not, ◌||◌}
use mathlib.Core.List.{List, [], ◌∷◌, ◌++◌}
use mathlib.Core.Logic.{◌≢◌}
use Prim.Native.Nat.{ℕ, zero, suc, ◌+◌, ◌-◌, ◌<◌}
use native.Mathlib.Nat.{add-zero, zero-add}
use native.Mathlib.Omega.{arith}
use lib.ListN.{length, get_or, take, drop, set, replicate, length-append}
use lib.Dec.{T, eqb, eqb_refl, T_not, not_T}
use Rattle.laws.specs.Lists.{All, Distinct}
use Rattle.laws.proofs.Tests.{or_left, or_right}
use Rattle.laws.proofs.Lists.{all_append}
use Rattle.codebook.specs.Book.{Kind, free, frozen, tied, tied_count}
use Rattle.codebook.specs.Loading.{terms_of, member}
use Rattle.codebook.specs.Limits.{TieOk, KindOk, KindsOk}

-- ---- the limits

-- kinds ls from index n on, after kinds ks that end before n
pub kinds-append : (i n : ℕ) (ks ls : List Kind) → i + length ks ≡ n → KindsOk i ks → KindsOk n ls → KindsOk i (ks ++ ls)
unfolding KindsOk
kinds-append i n [] ls e h k = subst (λ (x : ℕ). KindsOk x ls) (omega arith) k
kinds-append i n (x ∷ ks) ls e h k = (h.0, kinds-append (suc i) n ks ls (omega arith) h.1 k)

pub kinds-replicate : (i n : ℕ) (k : Kind) → ((i : ℕ) → KindOk i k) → KindsOk i (replicate n k)
unfolding KindsOk
kinds-replicate i zero k h = tt
kinds-replicate i (suc n) k h = (h i, kinds-replicate (suc i) n k h)

pub kinds-set : (i : ℕ) (ks : List Kind) (n : ℕ) (k : Kind) → KindOk (i + n) k → KindsOk i ks → KindsOk i (set ks n k)
unfolding KindsOk
kinds-set i [] n k o h = tt
kinds-set i (x ∷ ks) zero k o h = (subst (λ (y : ℕ). KindOk y k) (add-zero i) o, h.1)
kinds-set i (x ∷ ks) (suc n) k o h = (h.0, kinds-set (suc i) ks n k (subst (λ (y : ℕ). KindOk y k) (omega arith) o) h.1)

pub kinds-take : (i n : ℕ) (ks : List Kind) → KindsOk i ks → KindsOk i (take n ks)
unfolding KindsOk
kinds-take i zero ks h = tt
kinds-take i (suc n) [] h = tt
kinds-take i (suc n) (x ∷ ks) h = (h.0, kinds-take (suc i) n ks h.1)

kinds-drop : (i n : ℕ) (ks : List Kind) → KindsOk i ks → KindsOk (i + n) (drop n ks)
unfolding KindsOk
kinds-drop i zero ks h = subst (λ (x : ℕ). KindsOk x ks) (sym (add-zero i)) h
kinds-drop i (suc n) [] h = tt
kinds-drop i (suc n) (x ∷ ks) h = subst (λ (y : ℕ). KindsOk y (drop n ks)) (omega arith) (kinds-drop (suc i) n ks h.1)

-- those of n indices from s on
pub kinds-part : (s n : ℕ) (ks : List Kind) → KindsOk 0 ks → KindsOk s (take n (drop s ks))
kinds-part s n ks h = kinds-take s n (drop s ks) (subst (λ (i : ℕ). KindsOk i (drop s ks)) (zero-add s) (kinds-drop 0 s ks h))

-- also past the end, where the kind is taken to be free
pub kind_at : (i : ℕ) (ks : List Kind) (n : ℕ) → KindsOk i ks → KindOk (i + n) (get_or ks n free)
unfolding KindsOk KindOk
kind_at i [] n h = tt
kind_at i (x ∷ ks) zero h = subst (λ (y : ℕ). KindOk y x) (sym (add-zero i)) h.0
kind_at i (x ∷ ks) (suc n) h = subst (λ (y : ℕ). KindOk y (get_or ks n free)) (omega arith) (kind_at (suc i) ks n h.1)

-- ---- one more term

-- the kind is a tie
unfoldable pub Tied : Kind → Type 0
Tied free = ⊥
Tied frozen = ⊥
Tied (tied ts) = Unit {0}

-- the last of the kinds is
unfoldable pub LastTied : List Kind → Type 0
LastTied ks = Tied (get_or ks (length ks - 1) free)

-- a number that is no member, put last, leaves the members distinct
distinct-last : (x : ℕ) (ys : List ℕ) → Distinct ys → T (not (member x ys)) → Distinct (ys ++ x ∷ [])
unfolding Distinct member All
distinct-last x [] d h = (tt, tt)
distinct-last x (y ∷ ys) d h =
    let here = eqb x y in
    let later = member x ys in
    let other : y ≢ x = λ e. T_not (here || later) h (or_left here later (subst (λ (z : ℕ). T (eqb x z)) (sym e) (eqb_refl x))) in
    let rest = not_T later (λ t. T_not (here || later) h (or_right here later t)) in
    (all_append (λ (z : ℕ). y ≢ z) ys (x ∷ []) d.0 (other, tt), distinct-last x ys d.1 rest)

-- one more term in a tie
pub term-ok : (i t : ℕ) (k : Kind) → Tied k → KindOk i k → t < i → T (not (member t (terms_of k))) → TieOk i (terms_of k ++ t ∷ [])
unfolding Tied KindOk terms_of All
term-ok i t free y o l n = absurd y
term-ok i t frozen y o l n = absurd y
term-ok i t (tied ts) y o l n =
    record {
      some = simp length-append (omega arith);
      earlier = all_append (λ (x : ℕ). x < i) ts (t ∷ []) o.earlier (l, tt);
      once = distinct-last t ts o.once n;
    }

-- ---- how many are tied

pub tied-append : (ks ls : List Kind) → tied_count (ks ++ ls) ≡ tied_count ks + tied_count ls
unfolding tied_count
tied-append [] ls = omega arith
tied-append (free ∷ ks) ls = tied-append ks ls
tied-append (frozen ∷ ks) ls = tied-append ks ls
tied-append (tied ts ∷ ks) ls = omega (arith, tied-append ks ls)

-- none, of a kind that adds nothing to the count
pub tied-replicate : (n : ℕ) (k : Kind) → ((ls : List Kind) → tied_count (k ∷ ls) ≡ tied_count ls) → tied_count (replicate n k) ≡ 0
unfolding tied_count
tied-replicate zero k e = refl
tied-replicate (suc n) k e = e (replicate n k) ∙ tied-replicate n k e

-- a tie in place of a tie
pub tied-set : (ks : List Kind) (n : ℕ) (ts : List ℕ) → Tied (get_or ks n free) → tied_count (set ks n (tied ts)) ≡ tied_count ks
unfolding tied_count Tied
tied-set [] n ts h = refl
tied-set (free ∷ ks) zero ts h = absurd h
tied-set (frozen ∷ ks) zero ts h = absurd h
tied-set (tied us ∷ ks) zero ts h = refl
tied-set (free ∷ ks) (suc n) ts h = tied-set ks n ts h
tied-set (frozen ∷ ks) (suc n) ts h = tied-set ks n ts h
tied-set (tied us ∷ ks) (suc n) ts h = omega (arith, tied-set ks n ts h)
