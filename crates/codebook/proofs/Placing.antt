-- The loader's numbers and tables stand for what is loaded, also after a block command: each of the blocks' tables has one entry more.
-- Assumes nothing.
use mathlib.Core.Path.{◌≡◌, sym, ap, ◌∙◌}
use mathlib.Core.Bool.{false}
use mathlib.Core.List.{List, [], ◌∷◌, ◌++◌, map, map-append}
use Prim.Native.Nat.{ℕ, zero, suc, ◌+◌, ◌^◌, ◌≤◌, ◌<◌, zero-le}
use native.Mathlib.Numerals.{add-one}
use native.Mathlib.Omega.{arith}
use lib.ListN.{length, take, drop, set, length-append, length-drop, length-map}
use lib.Seq.{take-add, take-append-le, drop-append-le}
use lib.IntN.{ℤ}
use lib.Dec.{eqb}
use Rattle.std.specs.Prelude.{count_by}
use Rattle.laws.specs.Lists.{tab, over}
use Rattle.laws.proofs.Lists.{length-tab, tab-last, over_last}
use Rattle.codebook.specs.declared.Progress.{Progress}
use Rattle.codebook.specs.declared.Command.TheVariants.{Block as NextBlock}
use Rattle.codebook.specs.Book.{Kind, free, frozen, tied, Block, free_count, start_of}
use Rattle.codebook.specs.Loading.{Loading, total, next}
use Rattle.codebook.specs.declared.Tables.{Tables}
use Rattle.codebook.specs.Tables.{kind_codes}
use Rattle.codebook.specs.Progress.{HoldsLoaded}
use Rattle.codebook.proofs.Codes.{codes-length, codes-part}
use Rattle.codebook.proofs.Blocks.{start-append, start-last}

-- ---- free kinds

pub free-append : (ks ls : List Kind) → free_count (ks ++ ls) ≡ free_count ks + free_count ls
unfolding free_count
free-append [] ls = omega arith
free-append (free ∷ ks) ls = omega (arith, free-append ks ls)
free-append (frozen ∷ ks) ls = free-append ks ls
free-append (tied ts ∷ ks) ls = free-append ks ls

pub free-le : (n : ℕ) (ks : List Kind) → free_count (take n ks) ≤ n
unfolding free_count
free-le zero ks = zero-le
free-le (suc n) [] = zero-le
free-le (suc n) (free ∷ ks) = omega (arith, free-le n ks)
free-le (suc n) (frozen ∷ ks) = omega (arith, free-le n ks)
free-le (suc n) (tied ts ∷ ks) = omega (arith, free-le n ks)

-- ---- tables written over others

-- a value written behind what is written over the start of a table
pub over-put : {A : Type 0} (xs old t : List A) (v : A) (n : ℕ) → t ≡ over xs old → length xs ≡ n → n < length t → set t n v ≡ over (xs ++ v ∷ []) old
unfolding over
over-put xs old t v n e l h =
    let room : n < length old = omega (arith, ap length e, length-append xs (drop (length xs) old), length-drop (length xs) old) in
    rw e (over_last xs old v n l room)

-- ---- one block more

module _ (p : Progress) (t old : Tables) (s : Loading) (h : HoldsLoaded p t old s) (j : ℕ) (bias : ℤ) where
  abbrev x : Block
  x = record { j = j; bias = bias }

  -- the free codes of its part of the kinds' table
  pub block-free : (n : ℕ) → n ≡ 2 ^ j → p.filled ≡ p.n → p.covered + n ≤ p.n → count_by (λ c. eqb c 0) (take n (drop p.covered t.kinds)) ≡ free_count (take (2 ^ j) (drop s.covered s.kinds))
  unfolding over
  block-free n e full room =
      let c = h.counts in
      let l = codes-length 0 s.kinds in
      let after = drop (length (kind_codes 0 s.kinds)) old.kinds in
      rw (h.kinds, c.covered, drop-append-le s.covered (kind_codes 0 s.kinds) after (omega (arith, l, c.filled, c.covered)), take-append-le n (drop s.covered (kind_codes 0 s.kinds)) after (rw length-drop (omega (arith, l, c.filled, c.covered))), ← e)
      (codes-part 0 s.covered n s.kinds)

  -- what a block's entries in the tables of blocks come to
  pub block-holds : (q : Progress) → length s.kinds ≡ total s → p.blocks < length t.heights → p.blocks < length t.starts → p.blocks < length t.biases
      → q.m ≡ p.m → q.n ≡ p.n → q.filled ≡ p.filled → q.ties ≡ p.ties → q.tying ≡ false
      → q.free ≡ p.free + free_count (take (2 ^ j) (drop s.covered s.kinds)) → q.blocks ≡ p.blocks + 1 → q.covered ≡ p.covered + 2 ^ j
      → HoldsLoaded q (record t { heights = set t.heights p.blocks j; starts = set t.starts p.blocks p.covered; biases = set t.biases p.blocks bias }) old (next s (NextBlock j bias))
  unfolding next total
  block-holds q all lh ls lb em en ef et ey e eb ec =
      let c = h.counts in
      let bs = s.blocks in
      let more : length (bs ++ x ∷ []) ≡ suc (length bs) = length-append bs (x ∷ []) ∙ add-one (length bs) in
      record {
        counts = record {
          m = em ∙ c.m;
          n = en ∙ c.n;
          filled = ef ∙ c.filled;
          ties = et ∙ c.ties;
          counted = c.counted;
          tying = ey;
          last = λ b. absurd b;
          fresh = λ b. absurd b;
          blocks = omega (arith, more, c.blocks);
          covered = omega (arith, c.covered);
          start = start-last bs x ∙ ap (λ (a : ℕ). a + 2 ^ j) c.start;
          free = omega (arith, c.free, ap free_count (take-add s.covered (2 ^ j) s.kinds), free-append (take s.covered s.kinds) (take (2 ^ j) (drop s.covered s.kinds)));
          order = λ _. all;
        };
        kinds = h.kinds;
        terms = h.terms;
        heights =
            over-put (map (λ (y : Block). y.j) bs) old.heights t.heights j p.blocks h.heights (length-map bs (λ (y : Block). y.j) ∙ sym c.blocks) lh
            ∙ ap (λ l. over l old.heights) (sym (map-append (λ (y : Block). y.j) bs (x ∷ [])));
        starts =
            over-put (tab (length bs) (start_of bs)) old.starts t.starts p.covered p.blocks h.starts (length-tab (length bs) (start_of bs) ∙ sym c.blocks) ls
            ∙ ap (λ l. over l old.starts) (rw more (sym (tab-last (length bs) (start_of bs) (start_of (bs ++ x ∷ [])) p.covered (λ i l. sym (start-append bs (x ∷ []) i (omega arith))) (start-append bs (x ∷ []) (length bs) (omega arith) ∙ c.start ∙ sym c.covered))));
        biases =
            over-put (map (λ (y : Block). y.bias) bs) old.biases t.biases bias p.blocks h.biases (length-map bs (λ (y : Block). y.bias) ∙ sym c.blocks) lb
            ∙ ap (λ l. over l old.biases) (sym (map-append (λ (y : Block). y.bias) bs (x ∷ [])));
      }
