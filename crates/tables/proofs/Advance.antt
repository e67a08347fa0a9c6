-- The entries one index later, by the code of the index: what a direction more, leaving and following each make of the short tables spans what
-- `later` says. By the entries before. Assumes nothing.
use mathlib.Core.Path.{◌≡◌, refl, sym, ap, ap₂, ◌∙◌, subst}
use mathlib.Core.List.{List}
use mathlib.Core.Logic.{◌⊎◌, inl, inr}
use Prim.Native.Nat.{ℕ, zero, suc, ◌+◌, ◌*◌, ◌/◌, ◌%◌, ◌^◌, ◌≤◌, ◌<◌}
use native.Mathlib.Nat.{two-pow-succ}
use native.Mathlib.Numerals.{add-one}
use native.Mathlib.Omega.{arith}
use lib.Bits.{bit_xor}
use lib.ListN.{length, get_or, set}
use lib.Pow.{pow_mono}
use lib.Seq.{get_or-set_same}
use Rattle.laws.proofs.Tests.{lt-or}
use Rattle.outer.specs.Search.{row_of, Entry, put, later, grown, settings, entry, spread, Spans}
use Rattle.tables.proofs.Spread.{spread-more, spread-tie}

-- ---- how many

pub grown-free : (c n : ℕ) → c ≡ 0 → grown c n ≡ n + n
unfolding grown
grown-free c n e = ap (λ x. grown x n) e

pub grown-other : (c n : ℕ) → (c ≡ 0 → ⊥) → grown c n ≡ n
unfolding grown
grown-other zero n h = absurd (h refl)
grown-other (suc c) n h = refl

grown-le : (c n : ℕ) → n ≤ grown c n
unfolding grown
grown-le zero n = omega arith
grown-le (suc c) n = omega arith

pub settings-le : (kinds : List ℕ) (start i n : ℕ) → i ≤ n → settings kinds start i ≤ settings kinds start n
unfolding settings
settings-le kinds start i zero h = let e : i ≡ 0 = omega arith in rw e (omega arith)
settings-le kinds start i (suc n) h = go (lt-or i (suc n)) (settings-le kinds start i n)
  where
    go : (i < suc n) ⊎ (suc n ≤ i) → (i ≤ n → settings kinds start i ≤ settings kinds start n) → settings kinds start i ≤ settings kinds start (suc n)
    go (inl l) ih = omega (arith, ih (omega arith), grown-le (get_or kinds (start + n) 0) (settings kinds start n))
    go (inr l) ih = let e : i ≡ suc n = omega arith in rw e (omega arith)

-- at most 256 settings have at most 8 free indices
pub few-free : (f : ℕ) → 2 ^ f ≤ 256 → f ≤ 8
few-free f h = go (lt-or 8 f)
  where
    go : (8 < f) ⊎ (f ≤ 8) → f ≤ 8
    go (inl l) =
        let p : 2 ^ 9 ≤ 2 ^ f = pow_mono l in
        absurd (omega arith)
    go (inr l) = l

pub free-room : (c f : ℕ) → c ≡ 0 → grown c (2 ^ f) ≤ 256 → f < 8
free-room c f e h = few-free (suc f) (omega (arith, two-pow-succ f, grown-free c (2 ^ f) e))

pub other-room : (c f : ℕ) → (c ≡ 0 → ⊥) → grown c (2 ^ f) ≤ 256 → f ≤ 8
other-room c f e h = few-free f (omega (arith, grown-other c (2 ^ f) e))

-- ---- which

-- before the first index
pub spans-first : (words sets kinds terms : List ℕ) (start p : ℕ) → length words ≡ 9 → length sets ≡ 9 → Spans (set words 0 0) (set sets 0 p) 0 (entry kinds terms start p 0)
unfolding Spans spread entry
spans-first words sets kinds terms start p h g w = (get_or-set_same words 0 0 0 (omega arith), get_or-set_same sets 0 p 0 (omega arith))

module _ (words sets : List ℕ) (n : ℕ) (e : ℕ → Entry) (h : Spans words sets n e) (row ties : ℕ) where
  pub zero-spans : (c : ℕ) → c ≡ 1 → Spans words sets n (later c row ties e)
  unfolding later
  zero-spans c q = subst (λ (x : ℕ). Spans words sets n (later x row ties e)) (sym q) h

  pub free-spans : (c : ℕ) → c ≡ 0 → n + 1 < length words → n + 1 < length sets → Spans (set words (n + 1) row) (set sets (n + 1) ties) (n + 1) (later c row ties e)
  unfolding Spans later put
  free-spans c q f g =
      subst (λ (x : ℕ). Spans (set words (n + 1) row) (set sets (n + 1) ties) (n + 1) (later x row ties e)) (sym q)
      (λ w.
      let b = h (w / 2) in
      (spread-more words row n w f ∙ ap (λ x. bit_xor x (row * (w % 2))) b.0, spread-more sets ties n w g ∙ ap (λ x. bit_xor x (ties * (w % 2))) b.1))

  pub tie-spans : (new new' : List ℕ) (c t : ℕ) → c ≡ suc (suc t) → ((k : ℕ) → k < n + 1 → (get_or new k 0 ≡ bit_xor (get_or words k 0) (row * (get_or sets k 0 / 2 ^ t % 2))) × (get_or new' k 0 ≡ bit_xor (get_or sets k 0) (ties * (get_or sets k 0 / 2 ^ t % 2))))
      → Spans new new' n (later c row ties e)
  unfolding Spans later put
  tie-spans new new' c t q f =
      subst (λ (x : ℕ). Spans new new' n (later x row ties e)) (sym q)
      (λ w.
      let b = h w in (
        spread-tie words sets new row t n w (λ k l. (f k (omega arith)).0) ∙ ap₂ (λ x y. bit_xor x (row * (y / 2 ^ t % 2))) b.0 b.1,
        spread-tie sets sets new' ties t n w (λ k l. (f k (omega arith)).1) ∙ ap (λ y. bit_xor y (ties * (y / 2 ^ t % 2))) b.1,
      ))

-- the entries of one index more
pub entry_more : (words sets : List ℕ) (n : ℕ) (kinds terms : List ℕ) (start p i row : ℕ) → row ≡ row_of i
    → Spans words sets n (later (get_or kinds (start + i) 0) row (get_or terms (start + i) 0) (entry kinds terms start p i)) → Spans words sets n (entry kinds terms start p (i + 1))
unfolding Spans entry
entry_more words sets n kinds terms start p i row q h =
    rw (add-one i) (subst (λ (x : ℕ). Spans words sets n (later (get_or kinds (start + i) 0) x (get_or terms (start + i) 0) (entry kinds terms start p i))) q h)
