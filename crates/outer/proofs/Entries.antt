-- The entries of the tables are the block's words: after i indices, entry w has the number of the word of setting w so far, zeros after it, and
-- the set of the parities after it. By induction on i, one bit more each time. Assumes nothing.
use mathlib.Core.Path.{◌≡◌, refl, sym, ap, ap₂, ◌∙◌, subst}
use mathlib.Core.List.{List, [], ◌∷◌, ◌++◌, append-nil}
use Prim.Native.Nat.{ℕ, zero, suc, ◌+◌, ◌-◌, ◌*◌, ◌/◌, ◌%◌, ◌^◌, ◌≤◌, ◌<◌}
use native.Mathlib.Nat.{add-zero, mul-zero, two-pow-succ}
use native.Mathlib.Omega.{arith}
use lib.Bits.{bit_xor, xor_zero_r}
use lib.ListN.{length, get_or, take, drop, replicate, length-append}
use lib.Pow.{shr-shr, pow_mono}
use lib.Seq.{length-take-le, take-suc, take_all, get_or-take, get_or-drop}
use Rattle.laws.specs.Lists.{All}
use Rattle.laws.proofs.Lists.{all_append}
use Rattle.polar.specs.Bits.{Bit, number, to_bits}
use Rattle.polar.specs.Transform.{transform}
use Rattle.polar.proofs.Bits.{mod-bit, to_bits-length}
use Rattle.codebook.specs.Book.{Book, Kind, free, frozen, tied, free_count, tied_count, start_of, block_at, kinds_of}
use Rattle.codebook.specs.Limits.{Valid}
use Rattle.codebook.specs.Tables.{kind_codes, tie_set}
use Rattle.codebook.proofs.Placing.{free-append}
use Rattle.codec.specs.Ties.{Parities, absorb, Filling, push, fill_from, fill_block}
use Rattle.outer.specs.Search.{row_of, Entry, put, later, grown, settings, entry, Walkable}
use Rattle.outer.specs.Blocks.{parity_set, Bits, BlockTabled}
use Rattle.outer.proofs.Blocks.{placed}
use Rattle.outer.proofs.Numbers.{word, word_none, word_more}
use Rattle.outer.proofs.Parities.{ties-before, code_free, code-zero, code-tied, own-bit, set_more, absorb-bits}

-- ---- settings bit by bit

to-snoc : (f w : ℕ) → to_bits (suc f) w ≡ to_bits f (w / 2) ++ w % 2 ∷ []
unfolding to_bits
to-snoc zero w = let e : w / 2 ^ 0 % 2 ≡ w % 2 = omega arith in ap (λ (d : ℕ). d ∷ []) e
to-snoc (suc f) w =
    let e : w / 2 ^ suc f ≡ w / 2 / 2 ^ f = ap (λ n. w / 2 ^ n) (omega arith) ∙ sym (shr-shr w 1 f) in
    ap₂ (λ (d : ℕ) (l : List ℕ). d ∷ l) (ap (λ n. n % 2) e) (to-snoc f w)

-- ---- a block filled index by index

-- the bits of f and then those of g, which goes on from it
abbrev joined : Filling → Filling → Filling
joined f g = record { bits = f.bits ++ g.bits; parities = g.parities }

module _ (B : Book) where
  on : (x : Parities) (k : ℕ) (ks ms : List Kind) (ds more : List ℕ) →
      joined (fill_from B x (suc k) ks ds) (fill_from B (fill_from B x (suc k) ks ds).parities (suc k + length ks) ms more)
      ≡ joined (fill_from B x (suc k) ks ds) (fill_from B (fill_from B x (suc k) ks ds).parities (k + suc (length ks)) ms more)
  on x k ks ms ds more =
      let e : suc k + length ks ≡ k + suc (length ks) = omega arith in
      ap (λ i. joined (fill_from B x (suc k) ks ds) (fill_from B (fill_from B x (suc k) ks ds).parities i ms more)) e

  fill-append : (x : Parities) (k : ℕ) (ks ms : List Kind) (ds more : List ℕ) → length ds ≡ free_count ks →
      fill_from B x k (ks ++ ms) (ds ++ more) ≡ joined (fill_from B x k ks ds) (fill_from B (fill_from B x k ks ds).parities (k + length ks) ms more)
  unfolding fill_from push free_count
  fill-append x k [] ms [] more e = ap (λ i. fill_from B x i ms more) (sym (add-zero k))
  fill-append x k [] ms (d ∷ ds) more e = absurd (omega arith)
  fill-append x k (free ∷ ks) ms [] more e = absurd (omega arith)
  fill-append x k (free ∷ ks) ms (d ∷ ds) more e =
      ap (push d) (fill-append (absorb B k d x) (suc k) ks ms ds more (omega arith) ∙ on (absorb B k d x) k ks ms ds more)
  fill-append x k (frozen ∷ ks) ms ds more e =
      ap (push 0) (fill-append (absorb B k 0 x) (suc k) ks ms ds more e ∙ on (absorb B k 0 x) k ks ms ds more)
  fill-append x k (tied ts ∷ ks) ms ds more e =
      ap (push (x k)) (fill-append (absorb B k (x k) x) (suc k) ks ms ds more e ∙ on (absorb B k (x k) x) k ks ms ds more)

  -- f with bit d at index i after it
  abbrev after : Filling → ℕ → ℕ → Filling
  after f i d = record { bits = f.bits ++ d ∷ []; parities = absorb B i d f.parities }

  module _ (x : Parities) (k : ℕ) (ks : List Kind) where
    -- setting w of these kinds
    abbrev made : ℕ → Filling
    made w = fill_from B x k ks (to_bits (free_count ks) w)

    abbrev longer : Kind → ℕ → Filling
    longer m w = fill_from B x k (ks ++ m ∷ []) (to_bits (free_count (ks ++ m ∷ [])) w)

    longer-free : (w : ℕ) → longer free w ≡ after (made (w / 2)) (k + length ks) (w % 2)
    unfolding fill_from push free_count
    longer-free w =
        let e : free_count (ks ++ free ∷ []) ≡ suc (free_count ks) = free-append ks (free ∷ []) ∙ omega arith in
        ap (λ n. fill_from B x k (ks ++ free ∷ []) (to_bits n w)) e
        ∙ ap (fill_from B x k (ks ++ free ∷ [])) (to-snoc (free_count ks) w)
        ∙ fill-append x k ks (free ∷ []) (to_bits (free_count ks) (w / 2)) (w % 2 ∷ []) (to_bits-length (free_count ks) (w / 2))

    longer-other : (m : Kind) → free_count (m ∷ []) ≡ 0 → (w : ℕ) → longer m w ≡ joined (made w) (fill_from B (made w).parities (k + length ks) (m ∷ []) [])
    longer-other m z w =
        let e : free_count (ks ++ m ∷ []) ≡ free_count ks = free-append ks (m ∷ []) ∙ omega arith in
        ap (λ n. fill_from B x k (ks ++ m ∷ []) (to_bits n w)) e
        ∙ ap (fill_from B x k (ks ++ m ∷ [])) (sym (append-nil (to_bits (free_count ks) w)))
        ∙ fill-append x k ks (m ∷ []) (to_bits (free_count ks) w) [] (to_bits-length (free_count ks) w)

    longer-zero : (w : ℕ) → longer frozen w ≡ after (made w) (k + length ks) 0
    unfolding fill_from push free_count
    longer-zero w = longer-other frozen refl w

    longer-tied : (ts : List ℕ) (w : ℕ) → longer (tied ts) w ≡ after (made w) (k + length ks) ((made w).parities (k + length ks))
    unfolding fill_from push free_count
    longer-tied ts w = longer-other (tied ts) refl w

-- ---- entries

abbrev mk : ℕ → ℕ → Entry
mk n s = record { word = n; set = s }

put-zero : (row ties : ℕ) (e : Entry) → e ≡ put row ties 0 e
unfolding put
put-zero row ties e = sym (ap₂ mk (ap (bit_xor e.word) (mul-zero row) ∙ xor_zero_r e.word) (ap (bit_xor e.set) (mul-zero ties) ∙ xor_zero_r e.set))

module _ (B : Book) (j : ℕ) where
  -- the entry of a filling, zeros after its bits
  abbrev entry_of : Filling → Entry
  entry_of f = mk (word j f.bits) (parity_set B f.parities)

  record Good (n : ℕ) (f : Filling) : Type 0 where
    size : length f.bits ≡ n
    bits : All Bit f.bits
    marks : Bits f.parities

  module _ (n i d : ℕ) (f : Filling) (g : Good n f) (h : Bit d) where
    after-good : Good (suc n) (after B f i d)
    unfolding All
    after-good =
        record {
          size = length-append f.bits (d ∷ []) ∙ omega (arith, g.size);
          bits = all_append Bit f.bits (d ∷ []) g.bits (h, tt);
          marks = absorb-bits B i d f.parities;
        }

    put-after : Valid B → j ≤ 5 → n < 2 ^ j → put (row_of n) (tie_set 0 B.kinds i) d (entry_of f) ≡ entry_of (after B f i d)
    unfolding put
    put-after ok low l =
        ap₂ mk
        (ap (λ k. bit_xor (word j f.bits) (row_of k * d)) (sym g.size) ∙ word_more j f.bits low (omega (arith, g.size)) g.bits d h)
        (set_more B f.parities g.marks ok.kinds i d h)

module _ (B : Book) (b : ℕ) (kinds terms : List ℕ) (start j : ℕ) (o : BlockTabled B b kinds terms start j) where
  kb : List Kind
  kb = kinds_of B b

  low : j ≤ 5
  low = omega (arith, (o.valid.blocks b o.inside).short, o.height)

  kb-size : length kb ≡ 2 ^ j
  unfolding kb
  kb-size = (placed B o.valid b o.inside).size ∙ ap (λ n. 2 ^ n) (sym o.height)

  inside : (n : ℕ) → n < 2 ^ j → start + n < length B.kinds
  inside n h =
      omega (arith, o.valid.indices, (o.valid.blocks b o.inside).within, o.first, ap (λ k. 2 ^ k) o.height)

  kind_at : (n : ℕ) → n < 2 ^ j → get_or kb n frozen ≡ get_or B.kinds (start + n) frozen
  unfolding kb kinds_of
  kind_at n h =
      get_or-take (2 ^ (block_at B b).j) (drop (start_of B.blocks b) B.kinds) n frozen (omega (arith, ap (λ k. 2 ^ k) o.height))
      ∙ get_or-drop (start_of B.blocks b) B.kinds n frozen
      ∙ ap (λ k. get_or B.kinds (k + n) frozen) (sym o.first)

  code : (n : ℕ) → n < 2 ^ j → get_or kinds (start + n) 0 ≡ get_or (kind_codes 0 B.kinds) (start + n) 0
  code n h =
      sym (get_or-take (length B.kinds) kinds (start + n) 0 (inside n h)) ∙ ap (λ (l : List ℕ). get_or l (start + n) 0) o.tabled.coded.codes

  take_more : (n : ℕ) (m : Kind) → n < 2 ^ j → get_or kb n frozen ≡ m → take (suc n) kb ≡ take n kb ++ m ∷ []
  take_more n m h e = take-suc kb n frozen (omega (arith, kb-size)) ∙ ap (λ (k : Kind). take n kb ++ k ∷ []) e

  module _ (x : Parities) (hx : Bits x) where
    abbrev block : ℕ → ℕ → Filling
    block n w = made B x start (take n kb) w

    record At (n : ℕ) : Type 0 where
      count : settings kinds start n ≡ 2 ^ free_count (take n kb)
      good : (w : ℕ) → Good B j n (block n w)
      holds : (w : ℕ) → entry kinds terms start (parity_set B x) n w ≡ entry_of B j (block n w)

    at-start : At 0
    unfolding settings entry free_count fill_from All
    at-start =
        record {
          count = refl;
          good = λ w. record { size = refl; bits = tt; marks = hx };
          holds = λ w. ap (λ n. mk n (parity_set B x)) (sym (word_none j low));
        }

    module _ (n : ℕ) (h : n < 2 ^ j) (a : At n) where
      i : ℕ
      i = start + n

      -- setting w has bit d w at this index after setting p w of the indices before it
      at_next : (p d : ℕ → ℕ) → settings kinds start (suc n) ≡ 2 ^ free_count (take (suc n) kb) → ((w : ℕ) → Bit (d w)) → ((w : ℕ) → block (suc n) w ≡ after B (block n (p w)) i (d w))
          → ((w : ℕ) → entry kinds terms start (parity_set B x) (suc n) w ≡ put (row_of n) (tie_set 0 B.kinds i) (d w) (entry kinds terms start (parity_set B x) n (p w))) → At (suc n)
      at_next p d c hd e f =
          record {
            count = c;
            good = λ w. subst (Good B j (suc n)) (sym (e w)) (after-good B j n i (d w) (block n (p w)) (a.good (p w)) (hd w));
            holds = λ w.
                f w ∙ ap (put (row_of n) (tie_set 0 B.kinds i) (d w)) (a.holds (p w))
                ∙ put-after B j n i (d w) (block n (p w)) (a.good (p w)) (hd w) o.valid low h
                ∙ ap (entry_of B j) (sym (e w));
          }

      -- the filling one index longer
      block_more : (m : Kind) → get_or kb n frozen ≡ m → (w : ℕ) → block (suc n) w ≡ longer B x start (take n kb) m w
      block_more m e w = ap (λ (l : List Kind). fill_from B x start l (to_bits (free_count l) w)) (take_more n m h e)

      here : start + length (take n kb) ≡ i
      unfolding i
      here = ap (λ k. start + k) (length-take-le n kb (omega (arith, kb-size)))

      free_more : (m : Kind) → get_or kb n frozen ≡ m → free_count (take (suc n) kb) ≡ free_count (take n kb) + free_count (m ∷ [])
      free_more m e = ap free_count (take_more n m h e) ∙ free-append (take n kb) (m ∷ [])

      -- the entries one index later, by the tables
      entry-later : (c w : ℕ) → get_or kinds i 0 ≡ c → entry kinds terms start (parity_set B x) (suc n) w ≡ later c (row_of n) (tie_set 0 B.kinds i) (entry kinds terms start (parity_set B x) n) w
      unfolding entry i
      entry-later c w e = ap₂ (λ k t. later k (row_of n) t (entry kinds terms start (parity_set B x) n) w) e (o.tabled.sets (start + n) (inside n h))

      count-later : (c : ℕ) → get_or kinds i 0 ≡ c → settings kinds start (suc n) ≡ grown c (2 ^ free_count (take n kb))
      unfolding settings i
      count-later c e = ap₂ grown e a.count

      at_more : (m : Kind) → get_or kb n frozen ≡ m → At (suc n)
      unfolding later grown free_count i
      at_more free e =
          let c : get_or kinds i 0 ≡ 0 = code n h ∙ code_free 0 B.kinds (start + n) (inside n h) (sym (kind_at n h) ∙ e) in
          let f : free_count (take (suc n) kb) ≡ suc (free_count (take n kb)) = free_more free e ∙ omega arith in
          at_next (λ w. w / 2) (λ w. w % 2)
          (count-later 0 c ∙ sym (two-pow-succ (free_count (take n kb))) ∙ ap (λ k. 2 ^ k) (sym f))
          (λ w. mod-bit w)
          (λ w. block_more free e w ∙ longer-free B x start (take n kb) w ∙ ap (λ k. after B (block n (w / 2)) k (w % 2)) here)
          (λ w. entry-later 0 w c)
      at_more frozen e =
          let c : get_or kinds i 0 ≡ 1 = code n h ∙ code-zero 0 B.kinds (start + n) (inside n h) (sym (kind_at n h) ∙ e) in
          let f : free_count (take (suc n) kb) ≡ free_count (take n kb) = free_more frozen e ∙ omega arith in
          at_next (λ w. w) (λ w. 0)
          (count-later 1 c ∙ ap (λ k. 2 ^ k) (sym f))
          (λ w. omega arith)
          (λ w. block_more frozen e w ∙ longer-zero B x start (take n kb) w ∙ ap (λ k. after B (block n w) k 0) here)
          (λ w. entry-later 1 w c ∙ put-zero (row_of n) (tie_set 0 B.kinds i) (entry kinds terms start (parity_set B x) n w))
      at_more (tied ts) e =
          let q : get_or B.kinds i frozen ≡ tied ts = sym (kind_at n h) ∙ e in
          let t : ℕ = tied_count (take i B.kinds) in
          let c : get_or kinds i 0 ≡ suc (suc (0 + t)) = code n h ∙ code-tied 0 B.kinds (start + n) (inside n h) ts q in
          let f : free_count (take (suc n) kb) ≡ free_count (take n kb) = free_more (tied ts) e ∙ omega arith in
          let z : 0 + t ≡ t = omega arith in
          let d : ℕ → ℕ = λ w. (block n w).parities i in
          let own : (w : ℕ) → (entry kinds terms start (parity_set B x) n w).set / 2 ^ (0 + t) % 2 ≡ d w = λ w.
          ap₂ (λ (s k : ℕ). s / 2 ^ k % 2) (ap (λ (y : Entry). y.set) (a.holds w)) z ∙ own-bit B (block n w).parities (a.good w).marks i ts q in
          at_next (λ w. w) d
          (count-later (suc (suc (0 + t))) c ∙ ap (λ k. 2 ^ k) (sym f))
          (λ w. (a.good w).marks i)
          (λ w. block_more (tied ts) e w ∙ longer-tied B x start (take n kb) ts w ∙ ap (λ k. after B (block n w) k ((block n w).parities k)) here)
          (λ w. entry-later (suc (suc (0 + t))) w c ∙ ap (λ k. put (row_of n) (tie_set 0 B.kinds i) k (entry kinds terms start (parity_set B x) n w)) (own w))

    at : (n : ℕ) → n ≤ 2 ^ j → At n
    at zero h = at-start
    at (suc n) h = at_more n h (at n (omega arith)) (get_or kb n frozen) refl

    -- ---- the whole block

    filled : (w : ℕ) → block (2 ^ j) w ≡ fill_block B x b w
    unfolding fill_block kb
    filled w =
        ap₂ (λ (k : ℕ) (l : List Kind). fill_from B x k l (to_bits (free_count l) w)) o.first (take_all (2 ^ j) (kinds_of B b) (omega (arith, kb-size)))

    pub block_size : (w : ℕ) → length (fill_block B x b w).bits ≡ 2 ^ j
    block_size w = ap (λ (f : Filling). length f.bits) (sym (filled w)) ∙ ((at (2 ^ j) (omega arith)).good w).size

    pub block-bits : (w : ℕ) → All Bit (fill_block B x b w).bits
    block-bits w = subst (λ (f : Filling). All Bit f.bits) (filled w) ((at (2 ^ j) (omega arith)).good w).bits

    pub block-entry : (w : ℕ) → entry kinds terms start (parity_set B x) (2 ^ j) w ≡ record { word = number (transform j (fill_block B x b w).bits); set = parity_set B (fill_block B x b w).parities }
    block-entry w =
        let l : List ℕ = (fill_block B x b w).bits in
        let z : 2 ^ j - length l ≡ 0 = omega (arith, block_size w) in
        (at (2 ^ j) (omega arith)).holds w
        ∙ ap (entry_of B j) (filled w)
        ∙ ap (λ (u : List ℕ). mk (number (transform j u)) (parity_set B (fill_block B x b w).parities)) (ap (λ n. l ++ replicate n 0) z ∙ append-nil l)

    pub block-settings : settings kinds start (2 ^ j) ≡ 2 ^ free_count (kinds_of B b)
    unfolding kb
    block-settings = (at (2 ^ j) (omega arith)).count ∙ ap (λ (l : List Kind). 2 ^ free_count l) (take_all (2 ^ j) (kinds_of B b) (omega (arith, kb-size)))

  pub block-low : j ≤ 5
  block-low = low

  code_lt : (n : ℕ) → n < 2 ^ j → (m : Kind) → get_or B.kinds (start + n) frozen ≡ m → get_or kinds (start + n) 0 < 34
  code_lt n h free e = omega (arith, code n h, code_free 0 B.kinds (start + n) (inside n h) e)
  code_lt n h frozen e = omega (arith, code n h, code-zero 0 B.kinds (start + n) (inside n h) e)
  code_lt n h (tied ts) e = omega (arith, code n h, code-tied 0 B.kinds (start + n) (inside n h) ts e, ties-before B.kinds (start + n) ts e, o.valid.ties)

  -- the tables of a book can be walked over any of its blocks: what a caller of the search shows
  pub block-walkable : Walkable kinds start (2 ^ j)
  block-walkable =
      let short : 2 ^ j ≤ 2 ^ 5 = pow_mono low in
      let room : 2 ^ B.m ≤ 2 ^ 9 = pow_mono o.valid.high in
      let light : 2 ^ free_count (kinds_of B b) ≤ 2 ^ 8 = pow_mono (o.valid.blocks b o.inside).light in
      record {
        short = omega arith;
        within = omega (arith, (o.valid.blocks b o.inside).within, o.first, ap (λ k. 2 ^ k) o.height);
        codes = λ i h. code_lt i h (get_or B.kinds (start + i) frozen) refl;
        few = omega (arith, block-settings (λ i. 0) (λ i. omega arith));
      }
