-- The words of a block as the reader finds them, by the values of the block's node and the parities, match the machine's, by penalties of bits:
-- setting by setting they have one sum and one number, so both choose the same. By the block law. Assumes nothing.
use mathlib.Core.Path.{◌≡◌, refl, sym, ap, ap₂, ◌∙◌, subst}
use mathlib.Core.Bool.{Bool, true, false, cond, not, ◌&&◌, ◌||◌}
use mathlib.Core.List.{List}
use mathlib.Core.Option.{Option, none, some}
use Prim.Native.Nat.{ℕ, zero, suc, ◌+◌, ◌-◌, ◌^◌, ◌<◌}
use native.Mathlib.Decide.{dec_lt}
use native.Mathlib.Omega.{arith}
use lib.ListN.{length, take, drop}
use lib.Seq.{take_all}
use lib.IntN.{ℤ, pos, neg_ℤ}
use lib.Dec.{ltb, eqb}
use borrow.Author.Tests.{lt-ltb, le-ltb, eq-eqb, ne_eqb}
use Rattle.laws.specs.Lists.{All}
use Rattle.laws.specs.Pairs.{MayPair}
use Rattle.laws.proofs.Integers.{neg-lt_z}
use Rattle.polar.specs.Bits.{Bit, number}
use Rattle.polar.specs.Transform.{transform}
use Rattle.polar.specs.Soft.{discrepancy}
use Rattle.polar.specs.Value.{costs}
use Rattle.polar.specs.Node.{node}
use Rattle.polar.proofs.Bits.{to_bits-bits}
use Rattle.polar.proofs.Value.{penalties-costs, Same}
use Rattle.polar.proofs.Node.{block-costs, node-same}
use Rattle.codebook.specs.Book.{Book, free_count, start_of, block_at, kinds_of}
use Rattle.codec.specs.Ties.{parities_of, filled, fill_block}
use Rattle.codec.proofs.Fill.{After, fill-after}
use Rattle.codec.proofs.Ties.{filled-drop, filled-parities}
use Rattle.machine.specs.Choice.{choose, first_of}
use Rattle.machine.specs.Words as M
use Rattle.machine.specs.Words.{Ranked, rank, setting}
use Rattle.outer.specs.Words as R
use Rattle.outer.specs.Words.{Word, word_of}
use Rattle.outer.proofs.Blocks.{Placed}

-- ---- one order

-- neither below the other, or equal
level : (a b : ℕ) (r : Bool) → (ltb a b || not (ltb b a) && r) ≡ (ltb a b || eqb a b && r)
level a b r = go (dec_lt a b) (dec_lt b a)
  where
    go : Dec (a < b) → Dec (b < a) → (ltb a b || not (ltb b a) && r) ≡ (ltb a b || eqb a b && r)
    go (yes l) k = rw (lt-ltb a b l)
    go (no l) (yes k) = rw (lt-ltb b a k, ne_eqb a b (λ e. omega arith))
    go (no l) (no k) = rw (le-ltb b a (omega arith), eq-eqb a b (omega arith))

-- ---- the first in one order and the first in another

module _ {A B : Type 0} (P : A → B → Type 0) (ahead : A → A → Bool) (ahead' : B → B → Bool) (test : A → Bool) (test' : B → Bool) where
  -- where orders and tests agree on what is related, what is found is related
  pub first-pair : ((x x' : A) (y y' : B) → P x y → P x' y' → ahead x x' ≡ ahead' y y') → ((x : A) (y : B) → P x y → test x ≡ test' y) →
      (f : ℕ → A) (g : ℕ → B) →
      ((w : ℕ) → P (f w) (g w)) → (n : ℕ) → MayPair P (first_of ahead test f n) (first_of ahead' test' g n)
  unfolding first_of MayPair choose
  first-pair o t f g h zero = tt
  first-pair o t f g h (suc n) =
      rw (t (f n) (g n) (h n)) (go (test' (g n)) (first_of ahead test f n) (first_of ahead' test' g n) (first-pair o t f g h n))
    where
      pick : (b : Bool) (x : A) (y : B) → P x y → P (cond b (f n) x) (cond b (g n) y)
      pick true x y k = h n
      pick false x y k = k

      go : (b : Bool) (c : Option A) (c' : Option B) → MayPair P c c' → MayPair P (choose ahead b (f n) c) (choose ahead' b (g n) c')
      go true none none k = h n
      go true none (some y) k = absurd k
      go true (some x) none k = absurd k
      go true (some x) (some y) k = rw (o (f n) x (g n) y (h n) k) (pick (ahead' (g n) y) x y k)
      go false c c' k = k

-- ---- words of block b after the bits u

module _ (B : Book) (ys : List ℤ) (u : List ℕ) (b : ℕ) where
  -- the machine's word x and the reader's word y are one
  pub record Matches (x : Ranked) (y : Word) : Type 0 where
    pub bits : x.bits ≡ filled B u b y.setting
    pub parities : y.parities ≡ parities_of B x.bits
    pub cost : y.cost ≡ costs B.m ys x.bits (start_of B.blocks b) (2 ^ (block_at B b).j)
    pub sum : x.sum ≡ neg_ℤ (pos y.cost)
    pub number : y.number ≡ x.word

  pub nearer-matches : (x x' : Ranked) (y y' : Word) → Matches x y → Matches x' y' → M.nearer x x' ≡ R.nearer y y'
  unfolding M.nearer R.nearer
  nearer-matches x x' y y' h k =
      rw (h.sum, k.sum, neg-lt_z y.cost y'.cost, neg-lt_z y'.cost y.cost, h.number, k.number) (level y.cost y'.cost _)

  module _ (o : Placed B b) (ly : length ys ≡ 2 ^ B.m) (lu : length u ≡ start_of B.blocks b) (bu : All Bit u) where
    pub filled-after : (w : ℕ) → After u (2 ^ (block_at B b).j) (filled B u b w)
    filled-after w = subst (λ (n : ℕ). After u n (filled B u b w)) o.size (fill-after u (kinds_of B b) _ bu (to_bits-bits _ w))

    module _ (vs : List ℤ) (hv : vs ≡ node (B.m - (block_at B b).j) B.m ys u (start_of B.blocks b)) where
      pub setting-matches : (w : ℕ) → Matches (setting B ys u b w) (word_of B vs (parities_of B u) b w)
      unfolding setting word_of rank
      setting-matches w =
          let j : ℕ = (block_at B b).j in
          let m : ℕ = B.m in
          let s : ℕ = start_of B.blocks b in
          let x : List ℕ = filled B u b w in
          let a : After u (2 ^ j) x = filled-after w in
          let d : (fill_block B (parities_of B u) b w).bits ≡ drop s x = sym (filled-drop B u b w lu) in
          let same : Same s u x = take_all s u (omega arith) ∙ sym a.front ∙ ap (λ n. take n x) lu in
          let c : discrepancy (transform j (fill_block B (parities_of B u) b w).bits) vs ≡ costs m ys x s (2 ^ j) =
          ap₂ (λ (z : List ℕ) (v : List ℤ). discrepancy (transform j z) v) d (hv ∙ node-same (m - j) m ys u x s same)
          ∙ sym (block-costs (m - j) j m ys x s o.small o.starts ly (a.size ∙ ap (λ n. n + 2 ^ j) lu) a.bits) in
          record {
            bits = refl;
            parities = sym (filled-parities B u b w lu);
            cost = c;
            sum = penalties-costs m ys x s (2 ^ j) ∙ ap (λ n. neg_ℤ (pos n)) (sym c);
            number = ap (λ z. number (transform j z)) d;
          }

      -- so the first words are, by tests that agree
      pub nearest-matches : (test : Ranked → Bool) (test' : Word → Bool) → ((x : Ranked) (y : Word) → Matches x y → test x ≡ test' y) →
          MayPair Matches (M.nearest_with test B ys u b) (R.nearest_with test' B vs (parities_of B u) b)
      unfolding M.nearest_with R.nearest_with
      nearest-matches test test' e =
          first-pair Matches M.nearer R.nearer test test' nearer-matches e (setting B ys u b) (word_of B vs (parities_of B u) b) setting-matches
          (2 ^ free_count (kinds_of B b))
