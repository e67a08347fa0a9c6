-- Filling keeps the bits before it and follows the kinds; the data are the free bits of what is filled; and bits that obey their kinds are
-- the filling of their free bits. Each by induction on the kinds, the bits before them growing by one. Assumes nothing.
use mathlib.Core.Path.{◌≡◌, refl, sym, ap, ap₂, ◌∙◌}
use mathlib.Core.Bool.{Bool, true, false, ◌&&◌}
use mathlib.Core.List.{List, [], ◌∷◌, ◌++◌}
use Prim.Native.Nat.{ℕ, suc, ◌+◌, ◌≤◌, ◌<◌}
use native.Mathlib.Nat.{add-zero}
use native.Mathlib.Omega.{arith}
use lib.ListN.{length, get_or, take, drop, take-append-drop}
use lib.Seq.{take-length, take_all, take-take, take-suc, take-append_seam, drop-append_seam, append_snoc, get_or-append_seam, get_or-take}
use lib.Dec.{T, eqb, eqb→eq}
use Rattle.laws.specs.Lists.{All}
use Rattle.laws.proofs.Lists.{all_append, length-snoc}
use Rattle.laws.proofs.Tests.{and_in, and_left, and_right, eq→eqb}
use Rattle.polar.specs.Bits.{Bit, ◌⊕◌}
use Rattle.polar.proofs.Bits.{mod-bit}
use Rattle.codebook.specs.Book.{Kind, free, frozen, tied, free_count}
use Rattle.codebook.specs.Limits.{KindOk, KindsOk, TieOk}
use Rattle.codec.specs.Code.{parity, fill, free_bits, obeys, obeys_all}

-- ---- sums of named bits

pub parity-bit : (u ts : List ℕ) → Bit (parity u ts)
unfolding parity
parity-bit u [] = omega arith
parity-bit u (t ∷ ts) = mod-bit (get_or u t 0 + parity u ts)

-- the sum goes by the bits before i alone, if all named indices lie below i
pub parity-front : (i : ℕ) (u v ts : List ℕ) → All (λ (t : ℕ). t < i) ts → take i u ≡ take i v → parity u ts ≡ parity v ts
unfolding parity All
parity-front i u v [] h e = refl
parity-front i u v (t ∷ ts) h e =
    ap₂ ◌⊕◌ (sym (get_or-take i u t 0 h.0) ∙ ap (λ l. get_or l t 0) e ∙ get_or-take i v t 0 h.0) (parity-front i u v ts h.1 e)

-- ---- going on by bits

-- x goes on from u by n bits
pub record After (u : List ℕ) (n : ℕ) (x : List ℕ) : Type 0 where
  pub front : take (length u) x ≡ u
  pub size : length x ≡ length u + n
  pub bits : All Bit x

-- the first of the n bits, counted among them or before them
after_more : (u x : List ℕ) (b n : ℕ) → After (u ++ b ∷ []) n x → After u (suc n) x
after_more u x b n a =
    let l : length (u ++ b ∷ []) ≡ suc (length u) = length-snoc u b in
    record {
      front = sym (take-take (length u) (length (u ++ b ∷ [])) x (omega arith)) ∙ ap (take (length u)) a.front ∙ take-append_seam u (b ∷ []);
      size = omega arith;
      bits = a.bits;
    }

after_less : (u x : List ℕ) (b n : ℕ) → After u (suc n) x → get_or x (length u) 0 ≡ b → After (u ++ b ∷ []) n x
after_less u x b n a e =
    let l : length (u ++ b ∷ []) ≡ suc (length u) = length-snoc u b in
    record {
      front = ap (λ k. take k x) l ∙ take-suc x (length u) 0 (omega arith) ∙ ap₂ (λ (v : List ℕ) (c : ℕ). v ++ c ∷ []) a.front e;
      size = omega arith;
      bits = a.bits;
    }

-- that bit, and the bits from it on
after-split : (u x : List ℕ) (b n : ℕ) → After (u ++ b ∷ []) n x → x ≡ u ++ b ∷ drop (length (u ++ b ∷ [])) x
after-split u x b n a =
    let k : ℕ = length (u ++ b ∷ []) in
    sym (take-append-drop k x) ∙ ap (λ l. l ++ drop k x) a.front ∙ append_snoc u b (drop k x)

after-at : (u x : List ℕ) (b n : ℕ) → After (u ++ b ∷ []) n x → get_or x (length u) 0 ≡ b
after-at u x b n a = ap (λ l. get_or l (length u) 0) (after-split u x b n a) ∙ get_or-append_seam u b (drop (length (u ++ b ∷ [])) x) 0

after-drop : (u x : List ℕ) (b n : ℕ) → After (u ++ b ∷ []) n x → drop (length u) x ≡ b ∷ drop (length (u ++ b ∷ [])) x
after-drop u x b n a = ap (drop (length u)) (after-split u x b n a) ∙ drop-append_seam u (b ∷ drop (length (u ++ b ∷ [])) x)

-- a tie's sum over x is that over u
after-parity : (u x ts : List ℕ) (n : ℕ) → After u n x → TieOk (length u) ts → parity x ts ≡ parity u ts
after-parity u x ts n a h = parity-front (length u) x u ts h.earlier (a.front ∙ sym (take-length u))

-- ---- filling

snoc-bits : (u : List ℕ) (b : ℕ) → All Bit u → Bit b → All Bit (u ++ b ∷ [])
unfolding All
snoc-bits u b h k = all_append Bit u (b ∷ []) h (k, tt)

pub fill-after : (u : List ℕ) (ks : List Kind) (ds : List ℕ) → All Bit u → All Bit ds → After u (length ks) (fill u ks ds)
unfolding fill All
fill-after u [] ds h k = record { front = take-length u; size = sym (add-zero (length u)); bits = h }
fill-after u (free ∷ ks) [] h k = after_more u _ 0 (length ks) (fill-after (u ++ 0 ∷ []) ks [] (snoc-bits u 0 h (omega arith)) k)
fill-after u (free ∷ ks) (d ∷ ds) h k = after_more u _ d (length ks) (fill-after (u ++ d ∷ []) ks ds (snoc-bits u d h k.0) k.1)
fill-after u (frozen ∷ ks) ds h k = after_more u _ 0 (length ks) (fill-after (u ++ 0 ∷ []) ks ds (snoc-bits u 0 h (omega arith)) k)
fill-after u (tied ts ∷ ks) ds h k =
    let b : ℕ = parity u ts in
    after_more u _ b (length ks) (fill-after (u ++ b ∷ []) ks ds (snoc-bits u b h (parity-bit u ts)) k)

-- with one bit more before them, the rest of the kinds start at the next index
rest_ok : (u : List ℕ) (b : ℕ) (ks : List Kind) → KindsOk (suc (length u)) ks → KindsOk (length (u ++ b ∷ [])) ks
rest_ok u b ks o = rw (length-snoc u b) o

obeys-more : (u x : List ℕ) (b : ℕ) (k : Kind) (ks : List Kind) → T (obeys x (length u) k) → T (obeys_all x (length (u ++ b ∷ [])) ks) →
    T (obeys_all x (length u) (k ∷ ks))
unfolding obeys_all
obeys-more u x b k ks s t = and_in (obeys x (length u) k) (obeys_all x (suc (length u)) ks) s (rw (length-snoc u b) at t)

obeys-less : (u x : List ℕ) (b : ℕ) (k : Kind) (ks : List Kind) → T (obeys_all x (length u) (k ∷ ks)) → T (obeys_all x (length (u ++ b ∷ [])) ks)
unfolding obeys_all
obeys-less u x b k ks t = rw (length-snoc u b) (and_right (obeys x (length u) k) (obeys_all x (suc (length u)) ks) t)

obeys-first : (u x : List ℕ) (k : Kind) (ks : List Kind) → T (obeys_all x (length u) (k ∷ ks)) → T (obeys x (length u) k)
unfolding obeys_all
obeys-first u x k ks t = and_left (obeys x (length u) k) (obeys_all x (suc (length u)) ks) t

-- what is filled obeys the kinds
pub fill-obeys : (u : List ℕ) (ks : List Kind) (ds : List ℕ) → All Bit u → All Bit ds → KindsOk (length u) ks →
    T (obeys_all (fill u ks ds) (length u) ks)
unfolding fill obeys KindsOk KindOk All
fill-obeys u [] ds h k o = unfold obeys_all in tt
fill-obeys u (free ∷ ks) [] h k o =
    obeys-more u _ 0 free ks tt (fill-obeys (u ++ 0 ∷ []) ks [] (snoc-bits u 0 h (omega arith)) k (rest_ok u 0 ks o.1))
fill-obeys u (free ∷ ks) (d ∷ ds) h k o =
    obeys-more u _ d free ks tt (fill-obeys (u ++ d ∷ []) ks ds (snoc-bits u d h k.0) k.1 (rest_ok u d ks o.1))
fill-obeys u (frozen ∷ ks) ds h k o =
    let s : All Bit (u ++ 0 ∷ []) = snoc-bits u 0 h (omega arith) in
    let x : List ℕ = fill (u ++ 0 ∷ []) ks ds in
    let e : get_or x (length u) 0 ≡ 0 = after-at u x 0 (length ks) (fill-after (u ++ 0 ∷ []) ks ds s k) in
    obeys-more u x 0 frozen ks (eq→eqb e) (fill-obeys (u ++ 0 ∷ []) ks ds s k (rest_ok u 0 ks o.1))
fill-obeys u (tied ts ∷ ks) ds h k o =
    let b : ℕ = parity u ts in
    let s : All Bit (u ++ b ∷ []) = snoc-bits u b h (parity-bit u ts) in
    let x : List ℕ = fill (u ++ b ∷ []) ks ds in
    let a : After (u ++ b ∷ []) (length ks) x = fill-after (u ++ b ∷ []) ks ds s k in
    let e : parity x ts ≡ b = after-parity u x ts (suc (length ks)) (after_more u x b (length ks) a) o.0 in
    obeys-more u x b (tied ts) ks (eq→eqb (after-at u x b (length ks) a ∙ sym e)) (fill-obeys (u ++ b ∷ []) ks ds s k (rest_ok u b ks o.1))

-- the data are the free bits of what is filled
pub fill-free : (u : List ℕ) (ks : List Kind) (ds : List ℕ) → All Bit u → All Bit ds → length ds ≡ free_count ks →
    free_bits ks (drop (length u) (fill u ks ds)) ≡ ds
unfolding fill free_bits free_count All
fill-free u [] [] h k e = refl
fill-free u [] (d ∷ ds) h k e = absurd (omega arith)
fill-free u (free ∷ ks) [] h k e = absurd (omega arith)
fill-free u (free ∷ ks) (d ∷ ds) h k e =
    let s : All Bit (u ++ d ∷ []) = snoc-bits u d h k.0 in
    let r : free_bits ks (drop (length (u ++ d ∷ [])) (fill (u ++ d ∷ []) ks ds)) ≡ ds = fill-free (u ++ d ∷ []) ks ds s k.1 (omega arith) in
    rw (after-drop u _ d (length ks) (fill-after (u ++ d ∷ []) ks ds s k.1)) (ap (λ l. d ∷ l) r)
fill-free u (frozen ∷ ks) ds h k e =
    let s : All Bit (u ++ 0 ∷ []) = snoc-bits u 0 h (omega arith) in
    rw (after-drop u _ 0 (length ks) (fill-after (u ++ 0 ∷ []) ks ds s k)) (fill-free (u ++ 0 ∷ []) ks ds s k e)
fill-free u (tied ts ∷ ks) ds h k e =
    let b : ℕ = parity u ts in
    let s : All Bit (u ++ b ∷ []) = snoc-bits u b h (parity-bit u ts) in
    rw (after-drop u _ b (length ks) (fill-after (u ++ b ∷ []) ks ds s k)) (fill-free (u ++ b ∷ []) ks ds s k e)

-- bits that obey the kinds are the filling of their free bits
pub obeys-fill : (u : List ℕ) (ks : List Kind) (x : List ℕ) → After u (length ks) x → KindsOk (length u) ks → T (obeys_all x (length u) ks) →
    fill u ks (free_bits ks (drop (length u) x)) ≡ x
unfolding fill free_bits obeys KindsOk KindOk
obeys-fill u [] x a o t = sym a.front ∙ take_all (length u) x (omega arith)
obeys-fill u (free ∷ ks) x a o t =
    let b : ℕ = get_or x (length u) 0 in
    let r : After (u ++ b ∷ []) (length ks) x = after_less u x b (length ks) a refl in
    rw (after-drop u x b (length ks) r) (obeys-fill (u ++ b ∷ []) ks x r (rest_ok u b ks o.1) (obeys-less u x b free ks t))
obeys-fill u (frozen ∷ ks) x a o t =
    let e : get_or x (length u) 0 ≡ 0 = eqb→eq _ _ (obeys-first u x frozen ks t) in
    let r : After (u ++ 0 ∷ []) (length ks) x = after_less u x 0 (length ks) a e in
    rw (after-drop u x 0 (length ks) r) (obeys-fill (u ++ 0 ∷ []) ks x r (rest_ok u 0 ks o.1) (obeys-less u x 0 frozen ks t))
obeys-fill u (tied ts ∷ ks) x a o t =
    let b : ℕ = parity u ts in
    let e : get_or x (length u) 0 ≡ parity x ts = eqb→eq _ _ (obeys-first u x (tied ts) ks t) in
    let r : After (u ++ b ∷ []) (length ks) x = after_less u x b (length ks) a (e ∙ after-parity u x ts _ a o.0) in
    rw (after-drop u x b (length ks) r) (obeys-fill (u ++ b ∷ []) ks x r (rest_ok u b ks o.1) (obeys-less u x b (tied ts) ks t))

-- ---- obeying, kind by kind

pub obeys-append : (u : List ℕ) (i : ℕ) (ks ls : List Kind) → obeys_all u i (ks ++ ls) ≡ (obeys_all u i ks && obeys_all u (i + length ks) ls)
unfolding obeys_all
obeys-append u i [] ls = ap (λ n. obeys_all u n ls) (sym (add-zero i))
obeys-append u i (k ∷ ks) ls =
    let n : suc i + length ks ≡ i + suc (length ks) = omega arith in
    ap (λ b. obeys u i k && b) (obeys-append u (suc i) ks ls ∙ ap (λ x. obeys_all u (suc i) ks && obeys_all u x ls) n)
    ∙ and_assoc (obeys u i k) (obeys_all u (suc i) ks) (obeys_all u (i + suc (length ks)) ls)
  where
    and_assoc : (a b c : Bool) → (a && (b && c)) ≡ (a && b && c)
    and_assoc true b c = refl
    and_assoc false b c = refl

-- it goes by the bits up to the last of the kinds alone
pub obeys-front : (t i : ℕ) (u v : List ℕ) (ks : List Kind) → i + length ks ≤ t → KindsOk i ks → take t u ≡ take t v → obeys_all u i ks ≡ obeys_all v i ks
unfolding obeys_all obeys KindsOk KindOk
obeys-front t i u v [] h o e = refl
obeys-front t i u v (k ∷ ks) h o e = ap₂ ◌&&◌ (one k o.0) (obeys-front t (suc i) u v ks (omega arith) o.1 e)
  where
    bit : get_or u i 0 ≡ get_or v i 0
    bit = sym (get_or-take t u i 0 (omega arith)) ∙ ap (λ l. get_or l i 0) e ∙ get_or-take t v i 0 (omega arith)

    less : take i u ≡ take i v
    less = sym (take-take i t u (omega arith)) ∙ ap (take i) e ∙ take-take i t v (omega arith)

    one : (k : Kind) → KindOk i k → obeys u i k ≡ obeys v i k
    one free o = refl
    one frozen o = ap (λ b. eqb b 0) bit
    one (tied ts) o = ap₂ eqb bit (parity-front i u v ts o.earlier less)

-- ---- free bits

pub free-length : (ks : List Kind) (u : List ℕ) → length u ≡ length ks → length (free_bits ks u) ≡ free_count ks
unfolding free_bits free_count
free-length [] u e = refl
free-length (k ∷ ks) [] e = absurd (omega arith)
free-length (free ∷ ks) (b ∷ u) e = ap suc (free-length ks u (omega arith))
free-length (frozen ∷ ks) (b ∷ u) e = free-length ks u (omega arith)
free-length (tied ts ∷ ks) (b ∷ u) e = free-length ks u (omega arith)

pub free-bits : (ks : List Kind) (u : List ℕ) → All Bit u → All Bit (free_bits ks u)
unfolding free_bits All
free-bits [] u h = tt
free-bits (k ∷ ks) [] h = tt
free-bits (free ∷ ks) (b ∷ u) h = (h.0, free-bits ks u h.1)
free-bits (frozen ∷ ks) (b ∷ u) h = free-bits ks u h.1
free-bits (tied ts ∷ ks) (b ∷ u) h = free-bits ks u h.1
