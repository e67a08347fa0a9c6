-- What one turn of the loops of the crate filling does: by the code of its index, which says the index's kind, a bit is filled, tested or read.
-- Assumes nothing.
use mathlib.Core.Path.{◌≡◌, refl, sym, ap, ap₂, ◌∙◌, subst}
use mathlib.Core.Bool.{true, false, cond, ◌&&◌}
use mathlib.Core.List.{List, [], ◌∷◌, ◌++◌, append-nil}
use Prim.Native.Nat.{ℕ, zero, suc, ◌+◌, ◌-◌, ◌/◌, ◌%◌, ◌^◌, ◌≤◌, ◌<◌}
use native.Mathlib.Nat.{le_of_suc-le-suc, zero-add, add-zero}
use native.Mathlib.Numerals.{add-one}
use native.Mathlib.Omega.{arith}
use lib.ListN.{length, get_or, set, take, drop, length-set, drop_of_length-le}
use lib.Seq.{drop-cons, take_all, take-take, take-suc, take-suc-set, length-take-le, append_snoc, get_or-take}
use lib.Dec.{eqb, ltb}
use borrow.Author.Tests.{lt-ltb, le-ltb, eq-eqb, ne_eqb}
use Rattle.laws.specs.Lists.{All}
use Rattle.laws.proofs.Lists.{all-at, length-snoc}
use Rattle.laws.proofs.Tests.{cond-case}
use Rattle.polar.specs.Bits.{Bit}
use Rattle.polar.proofs.Bits.{mod-bit}
use Rattle.codebook.specs.Book.{Kind, free, frozen, tied, free_count, tied_count}
use Rattle.codebook.specs.Limits.{KindOk, KindsOk}
use Rattle.codebook.specs.Tables.{kind_codes, tie_set}
use Rattle.codec.specs.Code.{parity, fill, free_bits, obeys, obeys_all}
use Rattle.codec.specs.Tabled.{Coded, Tabled, forced, absorbed}
use Rattle.codec.proofs.Fill.{parity-front}
use Rattle.codec.proofs.TieSets.{tie_terms, tie_parities, tie-parities-none, parity-of, parities-next}

-- ---- the code of an index

-- what the code c says of a kind, after s ties: a tied one is the t-th
unfoldable pub CodeOf : ℕ → List Kind → ℕ → Kind → ℕ → Type 0
CodeOf s ks t free c = c ≡ 0
CodeOf s ks t frozen c = c ≡ 1
CodeOf s ks t (tied ts) c = (c ≡ 2 + (s + t)) × (t < tied_count ks) × (tie_terms ks t ≡ ts)

-- behind one kind more
module _ (s : ℕ) (ks : List Kind) (t c : ℕ) where
  past-free : (k : Kind) → CodeOf s ks t k c → CodeOf s (free ∷ ks) t k c
  unfolding CodeOf tied_count tie_terms
  past-free free h = h
  past-free frozen h = h
  past-free (tied ts) h = h

  past-frozen : (k : Kind) → CodeOf s ks t k c → CodeOf s (frozen ∷ ks) t k c
  unfolding CodeOf tied_count tie_terms
  past-frozen free h = h
  past-frozen frozen h = h
  past-frozen (tied ts) h = h

  past-tied : (us : List ℕ) (k : Kind) → CodeOf (suc s) ks t k c → CodeOf s (tied us ∷ ks) (suc t) k c
  unfolding CodeOf tied_count tie_terms
  past-tied us free h = h
  past-tied us frozen h = h
  past-tied us (tied ts) (e, l, q) = (omega arith, omega arith, q)

-- a tied index is that of as many ties as come before it
pub code_at : (s : ℕ) (ks : List Kind) (i : ℕ) → i < length ks → CodeOf s ks (tied_count (take i ks)) (get_or ks i frozen) (get_or (kind_codes s ks) i 0)
unfolding kind_codes tied_count
code_at s [] i h = absurd (omega arith)
code_at s (free ∷ ks) zero h = unfold CodeOf in refl
code_at s (frozen ∷ ks) zero h = unfold CodeOf in refl
code_at s (tied ts ∷ ks) zero h = unfold CodeOf tie_terms in (omega arith, omega arith, refl)
code_at s (free ∷ ks) (suc i) h = past-free s ks _ _ (get_or ks i frozen) (code_at s ks i (le_of_suc-le-suc h))
code_at s (frozen ∷ ks) (suc i) h = past-frozen s ks _ _ (get_or ks i frozen) (code_at s ks i (le_of_suc-le-suc h))
code_at s (tied ts ∷ ks) (suc i) h = past-tied s ks _ _ ts (get_or ks i frozen) (code_at (suc s) ks i (le_of_suc-le-suc h))

kind_at : (s : ℕ) (ks : List Kind) (i : ℕ) → i < length ks → KindsOk s ks → KindOk (s + i) (get_or ks i frozen)
unfolding KindsOk
kind_at s [] i h o = absurd (omega arith)
kind_at s (k ∷ ks) zero h o = subst (λ n. KindOk n k) (sym (add-zero s)) o.0
kind_at s (k ∷ ks) (suc i) h o =
    let e : suc s + i ≡ s + suc i = omega arith in
    subst (λ n. KindOk n (get_or ks i frozen)) e (kind_at (suc s) ks i (le_of_suc-le-suc h) o.1)

-- by the kind of index i: the table's code says it
module _ {ks : List Kind} {kinds : List ℕ} (c : Coded ks kinds) (i : ℕ) (h : i < length ks) where
  code_here : CodeOf 0 ks (tied_count (take i ks)) (get_or ks i frozen) (get_or kinds i 0)
  code_here = subst (CodeOf 0 ks (tied_count (take i ks)) (get_or ks i frozen)) (sym (ap (λ l. get_or l i 0) c.codes) ∙ get_or-take (length ks) kinds i 0 h) (code_at 0 ks i h)

  by_kind : (P : List Kind → Type 0) → ((k : Kind) → get_or ks i frozen ≡ k → CodeOf 0 ks (tied_count (take i ks)) k (get_or kinds i 0) → P (k ∷ drop (i + 1) ks)) → P (drop i ks)
  by_kind P f =
      let e : get_or ks i frozen ∷ drop (i + 1) ks ≡ drop i ks = ap (λ n. get_or ks i frozen ∷ drop n ks) (add-one i) ∙ sym (drop-cons ks i frozen h) in
      subst P e (f (get_or ks i frozen) refl code_here)

  -- code 0 is that of a free index
  free-here : get_or kinds i 0 ≡ 0 → free ∷ drop (i + 1) ks ≡ drop i ks
  unfolding CodeOf
  free-here z = by_kind (λ l. free ∷ drop (i + 1) ks ≡ l) go
    where
      go : (k : Kind) → get_or ks i frozen ≡ k → CodeOf 0 ks (tied_count (take i ks)) k (get_or kinds i 0) → free ∷ drop (i + 1) ks ≡ k ∷ drop (i + 1) ks
      go free q e = refl
      go frozen q e = absurd (omega arith)
      go (tied ts) q (e, _, _) = absurd (omega arith)

pub code_lt : {ks : List Kind} {kinds terms : List ℕ} → Tabled ks kinds terms → (i : ℕ) → i < length ks → get_or kinds i 0 < 34
unfolding CodeOf
code_lt {ks} {kinds} T i h = by_kind T.coded i h (λ l. get_or kinds i 0 < 34) go
  where
    go : (k : Kind) → get_or ks i frozen ≡ k → CodeOf 0 ks (tied_count (take i ks)) k (get_or kinds i 0) → get_or kinds i 0 < 34
    go free q e = omega arith
    go frozen q e = omega arith
    go (tied ts) q (e, l, p) = let f = T.few in omega arith

-- ---- the bit that an index must have

forced-frozen : (code x : ℕ) → code ≡ 1 → forced code x ≡ 0
unfolding forced
forced-frozen code x e = ap (λ b. cond b 0 (x / 2 ^ (code - 2) % 2)) (lt-ltb code 2 (omega arith))

forced-tied : (ks : List Kind) (u : List ℕ) (code t : ℕ) → code ≡ 2 + (0 + t) → t < 32 → forced code (tie_parities ks u) ≡ parity u (tie_terms ks t)
unfolding forced
forced-tied ks u code t e h =
    let d : code - 2 ≡ t = omega arith in
    ap (λ b. cond b 0 (tie_parities ks u / 2 ^ (code - 2) % 2)) (le-ltb code 2 (omega arith)) ∙ ap (λ n. tie_parities ks u / 2 ^ n % 2) d ∙ parity-of ks u t h

forced-bit : (code x : ℕ) → Bit (forced code x)
unfolding forced
forced-bit code x = cond-case Bit (ltb code 2) (λ _. omega arith) (λ _. mod-bit (x / 2 ^ (code - 2)))

-- ---- filling

-- u, the bits before index i, goes on to the whole; x is the set of its parities, and the data from `next` on fill the free indices left
pub record PartFilled (ks : List Kind) (ds u : List ℕ) (i next x : ℕ) : Type 0 where
  pub size : length u ≡ i
  pub rest : fill u (drop i ks) (drop next ds) ≡ fill [] ks ds
  pub left : next + free_count (drop i ks) ≡ length ds
  pub parities : x ≡ tie_parities ks u

pub fill_start : (ks : List Kind) (ds : List ℕ) → free_count ks ≡ length ds → PartFilled ks ds [] 0 0 0
fill_start ks ds e = record { size = refl; rest = refl; left = omega arith; parities = tie-parities-none ks }

pub fill_end : {ks : List Kind} {ds u : List ℕ} {i next x : ℕ} → PartFilled ks ds u i next x → length ks ≤ i → u ≡ fill [] ks ds
unfolding fill
fill_end {ks} {ds} {u} {i} {next} f h = ap (λ l. fill u l (drop next ds)) (sym (drop_of_length-le ks h)) ∙ f.rest

module _ {ks : List Kind} {kinds terms : List ℕ} (T : Tabled ks kinds terms) where
  -- the parities take one bit more
  absorb : (u : List ℕ) {i x : ℕ} (b : ℕ) → length u ≡ i → i < length ks → x ≡ tie_parities ks u → Bit b → absorbed x b (get_or terms i 0) ≡ tie_parities ks (u ++ b ∷ [])
  absorb u {i} {x} b s h e k =
      ap₂ (λ p n. absorbed p b n) e (T.sets i h ∙ ap (tie_set 0 ks) (sym s)) ∙ parities-next ks u b T.few T.ok k

  module _ {ds u : List ℕ} {i next x : ℕ} (f : PartFilled ks ds u i next x) (h : i < length ks) where
    -- a free index takes the next data bit
    pub fill-free-room : get_or kinds i 0 ≡ 0 → next < length ds
    unfolding free_count
    fill-free-room z = omega (arith, f.left, ap free_count (free-here T.coded i h z))

    pub fill-free : get_or kinds i 0 ≡ 0 → All Bit ds → PartFilled ks ds (u ++ get_or ds next 0 ∷ []) (i + 1) (next + 1) (absorbed x (get_or ds next 0) (get_or terms i 0))
    unfolding free_count fill
    fill-free z k =
        let r = fill-free-room z in
        let b : ℕ = get_or ds next 0 in
        let d : b ∷ drop (next + 1) ds ≡ drop next ds = ap (λ n. b ∷ drop n ds) (add-one next) ∙ sym (drop-cons ds next 0 r) in
        let e = free-here T.coded i h z in
        record {
          size = omega (arith, f.size, length-snoc u b);
          rest = ap₂ (fill u) e d ∙ f.rest;
          left = omega (arith, f.left, ap free_count e);
          parities = absorb u b f.size h f.parities (all-at Bit ds next 0 r k);
        }

    -- another index takes the bit that it must have
    pub fill-forced : (get_or kinds i 0 ≡ 0 → ⊥) → PartFilled ks ds (u ++ forced (get_or kinds i 0) x ∷ []) (i + 1) next (absorbed x (forced (get_or kinds i 0) x) (get_or terms i 0))
    unfolding CodeOf free_count fill
    fill-forced z =
        let b : ℕ = forced (get_or kinds i 0) x in
        let p = by_kind T.coded i h (λ l. fill u l (drop next ds) ≡ fill [] ks ds → next + free_count l ≡ length ds → Next) go f.rest f.left in
        record { size = omega (arith, f.size, length-snoc u b); rest = p.0; left = p.1; parities = absorb u b f.size h f.parities (forced-bit (get_or kinds i 0) x) }
      where
        Next : Type 0
        Next = (fill (u ++ forced (get_or kinds i 0) x ∷ []) (drop (i + 1) ks) (drop next ds) ≡ fill [] ks ds) × (next + free_count (drop (i + 1) ks) ≡ length ds)

        go : (k : Kind) → get_or ks i frozen ≡ k → CodeOf 0 ks (tied_count (take i ks)) k (get_or kinds i 0) → fill u (k ∷ drop (i + 1) ks) (drop next ds) ≡ fill [] ks ds →
            next + free_count (k ∷ drop (i + 1) ks) ≡ length ds → Next
        go free q e p l = absurd (z e)
        go frozen q e p l = (ap (λ b. fill (u ++ b ∷ []) (drop (i + 1) ks) (drop next ds)) (forced-frozen (get_or kinds i 0) x e) ∙ p, l)
        go (tied ts) q (e, m, o) p l =
            let w = T.few in
            let v : forced (get_or kinds i 0) x ≡ parity u ts = ap (forced (get_or kinds i 0)) f.parities ∙ forced-tied ks u (get_or kinds i 0) _ e (omega arith) ∙ ap (parity u) o in
            (ap (λ b. fill (u ++ b ∷ []) (drop (i + 1) ks) (drop next ds)) v ∙ p, l)

-- ---- testing

-- whether u obeys goes by the indices from i on; x is the set of the parities before
pub record Obeying (ks : List Kind) (u : List ℕ) (i x : ℕ) : Type 0 where
  pub rest : obeys_all u i (drop i ks) ≡ obeys_all u 0 ks
  pub parities : x ≡ tie_parities ks (take i u)

pub obey-start : (ks : List Kind) (u : List ℕ) → Obeying ks u 0 0
obey-start ks u = record { rest = refl; parities = tie-parities-none ks }

pub obey-end : {ks : List Kind} {u : List ℕ} {i x : ℕ} → Obeying ks u i x → length ks ≤ i → true ≡ obeys_all u 0 ks
unfolding obeys_all
obey-end {ks} {u} {i} o h = ap (obeys_all u i) (sym (drop_of_length-le ks h)) ∙ o.rest

module _ {ks : List Kind} {kinds terms : List ℕ} (T : Tabled ks kinds terms) {u : List ℕ} {i x : ℕ} (o : Obeying ks u i x) (h : i < length ks) (w : length ks ≡ length u) where
  obey-next : All Bit u → obeys_all u (i + 1) (drop (i + 1) ks) ≡ obeys_all u i (drop i ks) → Obeying ks u (i + 1) (absorbed x (get_or u i 0) (get_or terms i 0))
  obey-next k e =
      record {
        rest = e ∙ o.rest;
        parities = absorb T (take i u) (get_or u i 0) (length-take-le i u (omega arith)) h o.parities (all-at Bit u i 0 (omega arith) k)
            ∙ ap (tie_parities ks) (sym (ap (λ n. take n u) (add-one i) ∙ take-suc u i 0 (omega arith)));
      }

  pub obey-free : get_or kinds i 0 ≡ 0 → All Bit u → Obeying ks u (i + 1) (absorbed x (get_or u i 0) (get_or terms i 0))
  unfolding obeys_all obeys
  obey-free z k = obey-next k (ap (λ n. obeys_all u n (drop (i + 1) ks)) (add-one i) ∙ ap (obeys_all u i) (free-here T.coded i h z))

  -- at another index the bit that it must have is asked
  obey-forced : (get_or kinds i 0 ≡ 0 → ⊥) → obeys_all u i (drop i ks) ≡ (eqb (get_or u i 0) (forced (get_or kinds i 0) x) && obeys_all u (i + 1) (drop (i + 1) ks))
  unfolding CodeOf KindOk obeys_all obeys
  obey-forced z = by_kind T.coded i h (λ l. obeys_all u i l ≡ (eqb (get_or u i 0) (forced (get_or kinds i 0) x) && obeys_all u (i + 1) (drop (i + 1) ks))) go
    where
      both : (b c : ℕ) → b ≡ c → (eqb (get_or u i 0) b && obeys_all u (suc i) (drop (i + 1) ks)) ≡ (eqb (get_or u i 0) c && obeys_all u (i + 1) (drop (i + 1) ks))
      both b c e = ap₂ (λ d n. eqb (get_or u i 0) d && obeys_all u n (drop (i + 1) ks)) e (sym (add-one i))

      go : (k : Kind) → get_or ks i frozen ≡ k → CodeOf 0 ks (tied_count (take i ks)) k (get_or kinds i 0) →
          obeys_all u i (k ∷ drop (i + 1) ks) ≡ (eqb (get_or u i 0) (forced (get_or kinds i 0) x) && obeys_all u (i + 1) (drop (i + 1) ks))
      go free q e = absurd (z e)
      go frozen q e = both 0 (forced (get_or kinds i 0) x) (sym (forced-frozen (get_or kinds i 0) x e))
      go (tied ts) q (e, m, p) =
          let f = T.few in
          let ok : KindOk i (tied ts) = subst (KindOk i) q (rw (zero-add i) at (kind_at 0 ks i h T.ok)) in
          let same : take i u ≡ take i (take i u) = sym (take-take i i u (omega arith)) in
          let v : forced (get_or kinds i 0) x ≡ parity (take i u) ts = ap (forced (get_or kinds i 0)) o.parities ∙ forced-tied ks (take i u) (get_or kinds i 0) _ e (omega arith) ∙ ap (parity (take i u)) p in
          both (parity u ts) (forced (get_or kinds i 0) x) (parity-front i u (take i u) ts ok.earlier same ∙ sym v)

  pub obey-right : (get_or kinds i 0 ≡ 0 → ⊥) → get_or u i 0 ≡ forced (get_or kinds i 0) x → All Bit u → Obeying ks u (i + 1) (absorbed x (get_or u i 0) (get_or terms i 0))
  obey-right z e k = obey-next k (sym (obey-forced z ∙ ap (λ b. b && obeys_all u (i + 1) (drop (i + 1) ks)) (eq-eqb (get_or u i 0) (forced (get_or kinds i 0) x) e)))

  pub obey-wrong : (get_or kinds i 0 ≡ 0 → ⊥) → (get_or u i 0 ≡ forced (get_or kinds i 0) x → ⊥) → false ≡ obeys_all u 0 ks
  obey-wrong z e = sym (obey-forced z ∙ ap (λ b. b && obeys_all u (i + 1) (drop (i + 1) ks)) (ne_eqb (get_or u i 0) (forced (get_or kinds i 0) x) e)) ∙ o.rest

-- ---- reading the data

-- the first data bits are written: those at the free indices from i on are left
pub record Reading (ks : List Kind) (u ds : List ℕ) (i next : ℕ) : Type 0 where
  pub rest : take next ds ++ free_bits (drop i ks) (drop i u) ≡ free_bits ks u
  pub left : next + free_count (drop i ks) ≡ length ds

pub read-end : {ks : List Kind} {u ds : List ℕ} {i next : ℕ} → Reading ks u ds i next → length ks ≤ i → ds ≡ free_bits ks u
unfolding free_bits free_count
read-end {ks} {u} {ds} {i} {next} r h =
    let d : drop i ks ≡ [] = drop_of_length-le ks h in
    let n : length ds ≤ next = omega (arith, r.left, ap free_count d) in
    sym (take_all next ds n) ∙ sym (append-nil (take next ds)) ∙ ap (λ l. take next ds ++ free_bits l (drop i u)) (sym d) ∙ r.rest

module _ {ks : List Kind} {kinds : List ℕ} (C : Coded ks kinds) {u ds : List ℕ} {i next : ℕ} (r : Reading ks u ds i next) (h : i < length ks) (w : length ks ≡ length u) where
  bit-here : get_or u i 0 ∷ drop (i + 1) u ≡ drop i u
  bit-here = ap (λ n. get_or u i 0 ∷ drop n u) (add-one i) ∙ sym (drop-cons u i 0 (omega arith))

  -- the bit at a free index is written
  pub read-room : get_or kinds i 0 ≡ 0 → next < length ds
  unfolding free_count
  read-room z = omega (arith, r.left, ap free_count (free-here C i h z))

  pub read-free : get_or kinds i 0 ≡ 0 → Reading ks u (set ds next (get_or u i 0)) (i + 1) (next + 1)
  unfolding free_count free_bits
  read-free z =
      let b : ℕ = get_or u i 0 in
      let more : List ℕ = free_bits (drop (i + 1) ks) (drop (i + 1) u) in
      let e = free-here C i h z in
      record {
        rest =
            ap (λ x. x ++ more) (ap (λ n. take n (set ds next b)) (add-one next) ∙ take-suc-set ds next b (read-room z))
            ∙ append_snoc (take next ds) b more
            ∙ ap₂ (λ l x. take next ds ++ free_bits l x) e bit-here
            ∙ r.rest;
        left = omega (arith, r.left, ap free_count e, length-set ds next b);
      }

  -- the bit at another is passed over
  pub read-other : (get_or kinds i 0 ≡ 0 → ⊥) → Reading ks u ds (i + 1) next
  unfolding CodeOf free_count free_bits
  read-other z = by_kind C i h (λ l. take next ds ++ free_bits l (drop i u) ≡ free_bits ks u → next + free_count l ≡ length ds → Reading ks u ds (i + 1) next) go r.rest r.left
    where
      go : (k : Kind) → get_or ks i frozen ≡ k → CodeOf 0 ks (tied_count (take i ks)) k (get_or kinds i 0) → take next ds ++ free_bits (k ∷ drop (i + 1) ks) (drop i u) ≡ free_bits ks u →
          next + free_count (k ∷ drop (i + 1) ks) ≡ length ds → Reading ks u ds (i + 1) next
      go free q e p l = absurd (z e)
      go frozen q e p l = record { rest = ap (λ x. take next ds ++ free_bits (frozen ∷ drop (i + 1) ks) x) bit-here ∙ p; left = l }
      go (tied ts) q e p l = record { rest = ap (λ x. take next ds ++ free_bits (tied ts ∷ drop (i + 1) ks) x) bit-here ∙ p; left = l }
