-- The loader's numbers and tables stand for what is loaded, also after an index command: the kinds' codes are extended, and a tie or a term
-- puts the tie's bit into one set. Index commands come before any block, so the blocks' tables stay. Assumes nothing.
use mathlib.Core.Path.{◌≡◌, refl, sym, ap, ◌∙◌}
use mathlib.Core.Bool.{Bool, true, false, cond, or-false}
use mathlib.Core.List.{List, [], ◌∷◌, ◌++◌}
use mathlib.Core.Logic.{◌≢◌, ◌⊎◌, inl, inr}
use Prim.Native.Nat.{ℕ, suc, ◌+◌, ◌-◌, ◌^◌, ◌≤◌, ◌<◌}
use native.Mathlib.Nat.{add-zero}
use native.Mathlib.Omega.{arith}
use lib.ListN.{length, get_or, take, drop, set, replicate, length-append, length-replicate, length-set}
use lib.Bits.{bit_or}
use lib.Dec.{T, eqb}
use borrow.Author.Tests.{eq-eqb, ne_eqb}
use Rattle.laws.specs.Lists.{tab, over}
use Rattle.laws.proofs.Tests.{lt-or, T_true}
use Rattle.laws.proofs.Lists.{length_none, tab-replicate, length-tab, get_d-tab, tab-same, set-tab, over-set, over-get_d}
use Rattle.codebook.specs.declared.Progress.{Progress}
use Rattle.codebook.specs.declared.Command.TheVariants.{Length, Tie, Term}
use Rattle.codebook.specs.Book.{Kind, free, tied, free_count, tied_count, start_of}
use Rattle.codebook.specs.Loading.{Loading, total, last_terms, member, grown, next}
use Rattle.codebook.specs.declared.Tables.{Tables}
use Rattle.codebook.specs.Tables.{kind_codes, tie_set}
use Rattle.codebook.specs.Progress.{Begun, CountsLoaded, HoldsLoaded, kind_of}
use Rattle.codebook.proofs.Codes.{codes-length, codes-append, codes-run, codes-tie, set-append, set-run, set_below, set-tie, tied-run, bit_in, member-last, kinds-last, last_some, last-tie, last_set, tied-tie}
use Rattle.codebook.proofs.Indices.{tied-append}
use Rattle.codebook.proofs.Placing.{over-put}
use Rattle.obeying.proofs.Over.{over-fill}

-- no index yet
pub counts-none : (p : Progress) (m n : ℕ) → Begun m n p → n ≡ cond (eqb m 0) 0 (2 ^ m) → CountsLoaded p (record { m = m; kinds = []; ties = 0; tying = false; blocks = []; covered = 0 })
unfolding total tied_count start_of free_count
counts-none p m n b e =
    record {
      m = b.m;
      n = b.n ∙ e;
      filled = b.filled;
      ties = b.ties;
      counted = refl;
      tying = b.tying;
      last = λ y. absurd y;
      fresh = λ y. absurd y;
      blocks = b.blocks;
      covered = b.covered;
      start = refl;
      free = b.free;
      order = λ l. absurd (omega arith);
    }

-- an index command leaves the length and what is counted of blocks
pub record Kept (p q : Progress) : Type 0 where
  pub m : q.m ≡ p.m
  pub n : q.n ≡ p.n
  pub free : q.free ≡ p.free
  pub blocks : q.blocks ≡ p.blocks
  pub covered : q.covered ≡ p.covered

module _ (p : Progress) (t old : Tables) (s : Loading) (h : HoldsLoaded p t old s) where
  -- before all indices are filled there is no block
  unfilled : p.filled < p.n → length s.blocks ≡ 0
  unfilled l = go (lt-or 0 (length s.blocks))
    where
      go : (0 < length s.blocks) ⊎ (length s.blocks ≤ 0) → length s.blocks ≡ 0
      go (inl b) = absurd (omega (arith, h.counts.order b, h.counts.filled, h.counts.n))
      go (inr b) = omega arith

  -- and no index in one
  uncovered : length s.blocks ≡ 0 → s.covered ≡ 0
  unfolding start_of
  uncovered e = sym (rw e at h.counts.start)

  -- other kinds, before any block
  index-holds : (q : Progress) (ks : List Kind) (count : ℕ) (last : Bool) (kinds terms : List ℕ)
      → length s.blocks ≡ 0
      → Kept p q → q.filled ≡ length ks → q.ties ≡ count → tied_count ks ≡ count → q.tying ≡ last
      → (T last → get_or ks (length ks - 1) free ≡ tied (last_terms ks))
      → kinds ≡ over (kind_codes 0 ks) old.kinds → terms ≡ over (tab (total s) (tie_set 0 ks)) old.terms
      → HoldsLoaded q (record t { kinds = kinds; terms = terms }) old
      (record { m = s.m; kinds = ks; ties = count; tying = last; blocks = s.blocks; covered = s.covered })
  unfolding total free_count
  index-holds q ks count last kinds terms none k ef et ec el form ek eu =
      let c = h.counts in
      let u = uncovered none in
      record {
        counts = record {
          m = k.m ∙ c.m;
          n = k.n ∙ c.n;
          filled = ef;
          ties = et;
          counted = ec;
          tying = el;
          last = form;
          fresh = λ _. none;
          blocks = k.blocks ∙ c.blocks;
          covered = k.covered ∙ c.covered;
          start = c.start;
          free = k.free ∙ c.free ∙ rw u;
          order = λ b. absurd (omega arith);
        };
        kinds = ek;
        terms = eu;
        heights = h.heights;
        starts = h.starts;
        biases = h.biases;
      }

  -- ---- the length

  pub begin-holds : (q : Progress) (m n : ℕ) (part : List ℕ) → p.m ≡ 0 → 2 ≤ m → n ≡ 2 ^ m → n ≤ length t.terms
      → Begun m n q → part ≡ replicate (length (take n t.terms)) 0
      → HoldsLoaded q (record t { terms = part ++ drop n t.terms }) old (next s (Length m))
  unfolding next total over tab kind_codes tie_set tied_count start_of free_count
  begin-holds q m n part none low size room b f =
      let c = h.counts in
      let z : s.m ≡ 0 = sym c.m ∙ none in
      let before : p.n ≡ 0 = c.n ∙ rw z in
      let ks : s.kinds ≡ [] = length_none s.kinds (omega (arith, c.filled, p.within)) in
      let bs : s.blocks ≡ [] = length_none s.blocks (omega (arith, c.blocks, p.room, p.reach)) in
      let all : cond (eqb m 0) 0 (2 ^ m) ≡ n = rw (ne_eqb m 0 (omega arith)) (sym size) in
      record {
        counts = counts-none q m n b (sym all);
        kinds = rw ks at h.kinds;
        terms =
            over-fill [] old.terms t.terms part 0 0 n (rw z at h.terms) refl (omega arith) f
            ∙ ap (λ l. over l old.terms) (sym (tab-replicate n (tie_set 0 []) 0 (λ _. refl)) ∙ ap (λ (k : ℕ). tab k (tie_set 0 [])) (sym all));
        heights = rw bs at h.heights;
        starts = rw bs at h.starts;
        biases = rw bs at h.biases;
      }

  -- ---- a run of free or zero indices

  pub run_holds : (q : Progress) (count code k : ℕ) (part : List ℕ) → code < 2 → p.filled < p.n → k ≡ count → p.filled + k ≤ length t.kinds
      → Kept p q → q.filled ≡ p.filled + count → q.ties ≡ p.ties → q.tying ≡ false
      → part ≡ replicate (length (take k (drop p.filled t.kinds))) code
      → HoldsLoaded q (record t { kinds = take p.filled t.kinds ++ (part ++ drop k (drop p.filled t.kinds)) }) old (grown s (replicate count (kind_of code)))
  unfolding grown
  run_holds q count code k part small l size room kept ef et ey f =
      let c = h.counts in
      let more = replicate count (kind_of code) in
      let codes : kind_codes 0 (s.kinds ++ more) ≡ kind_codes 0 s.kinds ++ replicate k code = rw (codes-append 0 s.kinds more, codes-run (0 + tied_count s.kinds) count code small, size) in
      index-holds q (s.kinds ++ more) s.ties false _ t.terms (unfilled l) kept
      (omega (arith, length-append s.kinds more, length-replicate count (kind_of code), c.filled))
      (et ∙ c.ties)
      (omega (arith, tied-append s.kinds more, tied-run count code, c.counted))
      ey
      (λ b. absurd b)
      (rw codes (over-fill (kind_codes 0 s.kinds) old.kinds t.kinds part code p.filled k h.kinds (codes-length 0 s.kinds ∙ sym c.filled) room f))
      (h.terms ∙ ap (λ l. over l old.terms) (tab-same _ _ _ (λ i _. sym (set-append 0 s.kinds more i ∙ omega (arith, set-run (0 + tied_count s.kinds) count code i)))))

  -- ---- ties

  -- one value of a set is changed
  sets-change : (g : ℕ → ℕ) (i v : ℕ) → i < p.n → v ≡ g i → ((k : ℕ) → k ≢ i → tie_set 0 s.kinds k ≡ g k) → set t.terms i v ≡ over (tab (total s) g) old.terms
  sets-change g i v l e other =
      let b : i < length (tab (total s) (tie_set 0 s.kinds)) = omega (arith, length-tab (total s) (tie_set 0 s.kinds), h.counts.n) in
      ap (λ l. set l i v) h.terms ∙ over-set (tab (total s) (tie_set 0 s.kinds)) old.terms i v b
      ∙ ap (λ l. over l old.terms) (set-tab (total s) (tie_set 0 s.kinds) g i v (omega (arith, h.counts.n)) e (λ k _ ne. other k ne))

  -- the set of an index
  pub set-at-index : (i : ℕ) → i < p.n → get_or t.terms i 0 ≡ tie_set 0 s.kinds i
  set-at-index i l =
      let b : i < length (tab (total s) (tie_set 0 s.kinds)) = omega (arith, length-tab (total s) (tie_set 0 s.kinds), h.counts.n) in
      ap (λ l. get_or l i 0) h.terms ∙ over-get_d (tab (total s) (tie_set 0 s.kinds)) old.terms i 0 b
      ∙ get_d-tab (total s) (tie_set 0 s.kinds) i 0 (omega (arith, h.counts.n))

  pub tie-holds : (q : Progress) (i : ℕ) → p.filled < p.n → i < p.filled → p.filled < length t.kinds
      → Kept p q → q.filled ≡ p.filled + 1 → q.ties ≡ p.ties + 1 → q.tying ≡ true
      → HoldsLoaded q (record t { kinds = set t.kinds p.filled (2 + p.ties); terms = set t.terms i (bit_or (get_or t.terms i 0) (2 ^ p.ties)) }) old (next s (Tie i))
  unfolding next member
  tie-holds q i l earlier room k ef et ey =
      let c = h.counts in
      let kind = tied (i ∷ []) in
      index-holds q (s.kinds ++ kind ∷ []) (suc s.ties) true _ _ (unfilled l) k
      (omega (arith, length-append s.kinds (kind ∷ []), c.filled))
      (omega (arith, c.ties))
      (omega (arith, tied-tie s.kinds (i ∷ []), c.counted))
      ey
      (λ _. last-tie s.kinds (i ∷ []))
      (over-put (kind_codes 0 s.kinds) old.kinds t.kinds (2 + p.ties) p.filled h.kinds (codes-length 0 s.kinds ∙ sym c.filled) room
      ∙ ap (λ l. over l old.kinds) (rw (codes-tie s.kinds (i ∷ []), c.ties, c.counted)))
      (sets-change (tie_set 0 (s.kinds ++ kind ∷ [])) i _ (omega arith)
      (rw (set-at-index i (omega arith), set-tie s.kinds (i ∷ []) i, c.ties, ← c.counted, eq-eqb i i refl) (bit_in (tie_set 0 s.kinds i) (tied_count s.kinds) (set_below s.kinds i)))
      (λ x ne. rw (set-tie s.kinds (i ∷ []) x, ne_eqb x i ne) (omega arith)))

  -- ---- terms

  module _ (y : T s.tying) where
    -- the kinds before the last, and the last one's terms
    abbrev ls : List Kind
    ls = take (length s.kinds - 1) s.kinds

    abbrev ts : List ℕ
    ts = last_terms s.kinds

    form : s.kinds ≡ ls ++ tied ts ∷ []
    form = kinds-last s.kinds ts (h.counts.last y)

    -- the last tie's number
    place : p.ties - 1 ≡ tied_count ls
    place = omega (arith, h.counts.ties, h.counts.counted, ap tied_count form, tied-tie ls ts)

    set-form : (x : ℕ) → tie_set 0 s.kinds x ≡ tie_set 0 ls x + cond (member x ts) (2 ^ (tied_count ls)) 0
    set-form x = ap (λ l. tie_set 0 l x) form ∙ set-tie ls ts x

    -- an index's set holds the last tie's bit where the tie names it
    pub named : (i : ℕ) → i < p.n → 2 ^ (p.ties - 1) ≤ get_or t.terms i 0 → member i ts ≡ true
    named i l b = go (member i ts) refl
      where
        go : (m : Bool) → member i ts ≡ m → member i ts ≡ true
        go true e = e
        go false e = absurd (omega (arith, rw e at (set-form i), set-at-index i l, set_below ls i, rw place at b))

    pub unnamed : (i : ℕ) → i < p.n → get_or t.terms i 0 < 2 ^ (p.ties - 1) → member i ts ≡ false
    unnamed i l b = go (member i ts) refl
      where
        go : (m : Bool) → member i ts ≡ m → member i ts ≡ false
        go true e = absurd (omega (arith, rw e at (set-form i), set-at-index i l, rw place at b))
        go false e = e

    pub term-holds : (i : ℕ) → i < p.n → member i ts ≡ false
        → HoldsLoaded p (record t { terms = set t.terms i (bit_or (get_or t.terms i 0) (2 ^ (p.ties - 1))) }) old (next s (Term i))
    unfolding next
    term-holds i l fresh =
        let c = h.counts in
        let us = ts ++ i ∷ [] in
        let after = last_set s.kinds (tied us) (last_some s.kinds ts (c.last y)) in
        index-holds p (set s.kinds (length s.kinds - 1) (tied us)) s.ties true t.kinds _ (c.fresh y)
        (record { m = refl; n = refl; free = refl; blocks = refl; covered = refl })
        (c.filled ∙ sym (length-set s.kinds (length s.kinds - 1) (tied us)))
        c.ties
        (omega (arith, ap tied_count after, tied-tie ls us, ap tied_count form, tied-tie ls ts, c.counted))
        (c.tying ∙ T_true s.tying y)
        (λ _. rw after (last-tie ls us))
        (h.kinds ∙ ap (λ l. over (kind_codes 0 l) old.kinds) form ∙ rw (after, codes-tie ls ts, codes-tie ls us))
        (sets-change (tie_set 0 (set s.kinds (length s.kinds - 1) (tied us))) i _ l
        (rw (set-at-index i l, after, set-tie ls us i, set-form i, member-last i ts i, fresh, place, eq-eqb i i refl, add-zero) (bit_in (tie_set 0 ls i) (tied_count ls) (set_below ls i)))
        (λ x ne. rw (after, set-form x, set-tie ls us x, member-last x ts i, ne_eqb x i ne, or-false)))
