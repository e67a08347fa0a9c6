-- The search's answer is the word that specs/Words.antt defines: entries are words, keys order settings as `nearer` orders their words, and a
-- bound is a test. Assumes nothing.
use mathlib.Core.Path.{◌≡◌, refl, sym, ap, ap₂, ◌∙◌, subst}
use mathlib.Core.Bool.{Bool, true, ◌&&◌, ◌||◌}
use mathlib.Core.List.{List}
use mathlib.Core.Option.{Option, none, some}
use Prim.Native.Nat.{ℕ, ◌+◌, ◌^◌, ◌≤◌, ◌<◌}
use native.Mathlib.Decide.{dec_lt}
use native.Mathlib.Omega.{arith}
use lib.IntN.{ℤ}
use lib.ListN.{length}
use lib.Dec.{ltb, leb, eqb}
use lib.Pow.{pow_mono}
use borrow.Author.Tests.{lt-ltb, le-ltb, le-leb, lt-leb, eq-eqb, ne_eqb}
use Rattle.laws.specs.Lists.{All}
use Rattle.laws.specs.Pairs.{MayPair}
use Rattle.polar.specs.Bits.{Bit, number}
use Rattle.polar.specs.Transform.{transform}
use Rattle.polar.specs.Soft.{discrepancy}
use Rattle.polar.proofs.Transform.{transform-length, transform-bits}
use Rattle.codebook.specs.Book.{Book, free_count, kinds_of}
use Rattle.codec.specs.Ties.{Parities, fill_block}
use Rattle.outer.specs.declared.Candidate.{Candidate}
use Rattle.outer.specs.Words.{Word, word_of, nearer, nearest_with, nearest, next_after}
use Rattle.outer.specs.Blocks.{parity_set, Bits, BlockTabled, candidate_of}
use Rattle.outer.specs.Search.{Entry, entry, cost_of, key_of, tried, lesser, least_from, answer, setting_key, found, found_pair}
use Rattle.outer.proofs.Words.{first-pair}
use Rattle.outer.proofs.Numbers.{number_lt}
use Rattle.outer.proofs.Sums.{discrepancy-number}
use Rattle.outer.proofs.Entries.{block_size, block-bits, block-entry, block-settings, block-low}

-- ---- keys

key-order : (c n c' n' : ℕ) → n < 4294967296 → n' < 4294967296 → ltb (key_of c n) (key_of c' n') ≡ (ltb c c' || eqb c c' && ltb n n')
unfolding key_of
key-order c n c' n' h k = go (dec_lt c c') (dec_lt c' c) (dec_lt n n')
  where
    go : Dec (c < c') → Dec (c' < c) → Dec (n < n') → ltb (key_of c n) (key_of c' n') ≡ (ltb c c' || eqb c c' && ltb n n')
    go (yes l) b d = rw (lt-ltb c c' l) (lt-ltb (key_of c n) (key_of c' n') (omega arith))
    go (no l) (yes b) d = rw (le-ltb c c' (omega arith), ne_eqb c c' (λ e. omega arith)) (le-ltb (key_of c n) (key_of c' n') (omega arith))
    go (no l) (no b) (yes d) = rw (le-ltb c c' (omega arith), eq-eqb c c' (omega arith), lt-ltb n n' d) (lt-ltb (key_of c n) (key_of c' n') (omega arith))
    go (no l) (no b) (no d) = rw (le-ltb c c' (omega arith), eq-eqb c c' (omega arith), le-ltb n n' (omega arith)) (le-ltb (key_of c n) (key_of c' n') (omega arith))

-- a bound one above a key
above : (a b : ℕ) → leb (a + 1) b ≡ ltb a b
above a b = go (dec_lt a b)
  where
    go : Dec (a < b) → leb (a + 1) b ≡ ltb a b
    go (yes l) = le-leb (a + 1) b (omega arith) ∙ sym (lt-ltb a b l)
    go (no l) = lt-leb (a + 1) b (omega arith) ∙ sym (le-ltb a b (omega arith))

-- ---- the words of a block

module _ (B : Book) (b : ℕ) (kinds terms : List ℕ) (start j : ℕ) (o : BlockTabled B b kinds terms start j) (x : Parities) (hx : Bits x) (vs : List ℤ) (lv : length vs ≡ 2 ^ j) where
  e : ℕ → Entry
  e = entry kinds terms start (parity_set B x) (2 ^ j)

  W : ℕ → Word
  W = word_of B vs x b

  entry-word : (w : ℕ) → (e w).word ≡ (W w).number
  unfolding e W word_of
  entry-word w = ap (λ (y : Entry). y.word) (block-entry B b kinds terms start j o x hx w) ∙ ap (λ k. number (transform k (fill_block B x b w).bits)) o.height

  entry_set : (w : ℕ) → (e w).set ≡ parity_set B (W w).parities
  unfolding e W word_of
  entry_set w = ap (λ (y : Entry). y.set) (block-entry B b kinds terms start j o x hx w)

  module _ (w : ℕ) where
    c : List ℕ
    c = transform j (fill_block B x b w).bits

    c-bits : All Bit c
    unfolding c
    c-bits = transform-bits j (fill_block B x b w).bits (block-bits B b kinds terms start j o x hx w)

    c-size : length c ≡ 2 ^ j
    unfolding c
    c-size = transform-length j (fill_block B x b w).bits (block_size B b kinds terms start j o x hx w)

    entry-cost : cost_of (e w).word vs ≡ (W w).cost
    unfolding c W word_of
    entry-cost =
        ap (λ n. cost_of n vs) (entry-word w ∙ ap (λ k. number (transform k (fill_block B x b w).bits)) (sym o.height))
        ∙ sym (discrepancy-number c vs (c-size ∙ sym lv) c-bits)
        ∙ ap (λ k. discrepancy (transform k (fill_block B x b w).bits) vs) o.height

    word_lt : (W w).number < 4294967296
    unfolding c W word_of
    word_lt =
        let short : 2 ^ j ≤ 2 ^ 5 = pow_mono (block-low B b kinds terms start j o) in
        let size : length c ≤ 32 = omega (arith, c-size) in
        let q : 2 ^ length c ≤ 2 ^ 32 = pow_mono size in
        omega (arith, number_lt c c-bits, ap (λ k. number (transform k (fill_block B x b w).bits)) o.height)

    entry_key : setting_key e vs w ≡ key_of (W w).cost (W w).number
    unfolding setting_key
    entry_key = ap₂ key_of entry-cost (entry-word w)

  -- ---- what is found

  Same : ℕ → Word → Type 0
  Same w y = y ≡ W w

  order_same : (w w' : ℕ) (y y' : Word) → Same w y → Same w' y' → lesser (setting_key e vs) w w' ≡ nearer y y'
  unfolding Same lesser nearer
  order_same w w' y y' p q =
      rw (p, q) (ap₂ ltb (entry_key w) (entry_key w') ∙ key-order (W w).cost (W w).number (W w').cost (W w').number (word_lt w) (word_lt w'))

  answered : (s : Option ℕ) (r : Option Word) → MayPair Same s r → answer e vs s ≡ candidate_of B r
  unfolding MayPair Same answer candidate_of W word_of
  answered none none p = refl
  answered none (some y) p = absurd p
  answered (some w) none p = absurd p
  answered (some w) (some y) p = rw (entry-cost w, entry_set w, entry-word w) (ap (λ (z : Word). candidate_of B (some z)) (sym p))

  -- the setting found, and the word
  paired : (test : Word → Bool) (bound : ℕ) → ((w : ℕ) → leb bound (setting_key e vs w) ≡ test (W w))
      → MayPair Same (least_from (setting_key e vs) bound (2 ^ free_count (kinds_of B b))) (nearest_with test B vs x b)
  unfolding least_from nearest_with tried Same W
  paired test bound t =
      first-pair Same (lesser (setting_key e vs)) nearer (λ w. leb bound (setting_key e vs w)) test order_same (λ w y p. t w ∙ ap test (sym p)) tried W (λ w. refl) (2 ^ free_count (kinds_of B b))

  found-with : (test : Word → Bool) (bound : ℕ) → ((w : ℕ) → leb bound (setting_key e vs w) ≡ test (W w)) → found kinds terms start (parity_set B x) (2 ^ j) vs bound ≡ candidate_of B (nearest_with test B vs x b)
  unfolding found e
  found-with test bound t =
      ap (λ n. answer e vs (least_from (setting_key e vs) bound n)) (block-settings B b kinds terms start j o x hx)
      ∙ answered (least_from (setting_key e vs) bound (2 ^ free_count (kinds_of B b))) (nearest_with test B vs x b) (paired test bound t)

  pub found-nearest : found kinds terms start (parity_set B x) (2 ^ j) vs 0 ≡ candidate_of B (nearest B vs x b)
  unfolding nearest
  found-nearest = found-with (λ _. true) 0 (λ w. le-leb 0 (setting_key e vs w) (omega arith))

  -- the keys above a word's are those of the words after it
  after_test : (own : Word) → own.number < 4294967296 → (w : ℕ) → leb (key_of own.cost own.number + 1) (setting_key e vs w) ≡ nearer own (W w)
  unfolding nearer
  after_test own l w =
      above (key_of own.cost own.number) (setting_key e vs w) ∙ ap (ltb (key_of own.cost own.number)) (entry_key w)
      ∙ key-order own.cost own.number (W w).cost (W w).number l (word_lt w)

  pub found-next : (own : Word) → own.number < 4294967296 → found kinds terms start (parity_set B x) (2 ^ j) vs (key_of own.cost own.number + 1) ≡ candidate_of B (next_after own B vs x b)
  unfolding next_after
  found-next own l = found-with (nearer own) (key_of own.cost own.number + 1) (after_test own l)

  -- ---- the next after what is found

  module _ (test : Word → Bool) (bound : ℕ) (t : (w : ℕ) → leb bound (setting_key e vs w) ≡ test (W w)) (y : Word) (q : nearest_with test B vs x b ≡ some y) where
    -- its number
    with-lt : y.number < 4294967296
    unfolding Same MayPair
    with-lt = go (least_from (setting_key e vs) bound (2 ^ free_count (kinds_of B b))) (subst (MayPair Same (least_from (setting_key e vs) bound (2 ^ free_count (kinds_of B b)))) q (paired test bound t))
      where
        go : (s : Option ℕ) → MayPair Same s (some y) → y.number < 4294967296
        go none p = absurd p
        go (some v) p = omega (arith, word_lt v, ap (λ (z : Word). z.number) p)

    after-with : let c = found kinds terms start (parity_set B x) (2 ^ j) vs bound in
        found kinds terms start (parity_set B x) (2 ^ j) vs (key_of c.cost c.number + 1) ≡ candidate_of B (next_after y B vs x b)
    unfolding candidate_of
    after-with =
        let first : found kinds terms start (parity_set B x) (2 ^ j) vs bound ≡ candidate_of B (some y) = found-with test bound t ∙ ap (candidate_of B) q in
        ap (λ (c : Candidate). found kinds terms start (parity_set B x) (2 ^ j) vs (key_of c.cost c.number + 1)) first ∙ found-next y with-lt

  pub found-second : (w : Word) → nearest B vs x b ≡ some w → (found_pair kinds terms start (parity_set B x) (2 ^ j) vs).second ≡ candidate_of B (next_after w B vs x b)
  unfolding found_pair nearest
  found-second w q = after-with (λ _. true) 0 (λ v. le-leb 0 (setting_key e vs v) (omega arith)) w q

  pub found_after : (own : Word) → own.number < 4294967296 → (w : Word) → next_after own B vs x b ≡ some w →
      let c = found kinds terms start (parity_set B x) (2 ^ j) vs (key_of own.cost own.number + 1) in
      found kinds terms start (parity_set B x) (2 ^ j) vs (key_of c.cost c.number + 1) ≡ candidate_of B (next_after w B vs x b)
  unfolding next_after
  found_after own l w q = after-with (nearer own) (key_of own.cost own.number + 1) (after_test own l) w q
