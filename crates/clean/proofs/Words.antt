-- The words of a block after the right bits, as the machine finds them: the nearest is the right one, which adds nothing to R; the next one lowers R; and there is
-- a next one exactly where the block holds a free index. By what the words cost (outer/proofs/Shown). Assumes nothing.
use mathlib.Core.Path.{◌≡◌, refl, sym, ap, ap₂, ◌∙◌, subst}
use mathlib.Core.Bool.{true, not, ◌&&◌}
use mathlib.Core.List.{List}
use mathlib.Core.Logic.{◌≢◌}
use mathlib.Core.Option.{Option, none, some}
use Prim.Native.Nat.{ℕ, zero, suc, ◌+◌, ◌^◌, ◌≤◌, ◌<◌}
use native.Mathlib.Nat.{zero-add, lt_irrefl}
use native.Mathlib.Decide.{ℕ_discrete}
use native.Mathlib.Omega.{arith}
use lib.ListN.{length, take}
use lib.Seq.{take-take, length-take-le}
use lib.Pow.{pow_mono}
use lib.IntN.{ℤ, pos, negsuc, neg_ℤ}
use lib.Signed.{lt_z}
use lib.Dec.{T, ltb, ltb→lt}
use Rattle.laws.specs.Lists.{May}
use Rattle.laws.proofs.Tests.{and_right, or_case}
use Rattle.laws.proofs.Lists.{all_take}
use Rattle.laws.proofs.Pairs.{paired-length}
use Rattle.laws.proofs.Integers.{lt_z-irrefl}
use Rattle.polar.specs.Bits.{Bit}
use Rattle.polar.specs.Transform.{transform}
use Rattle.polar.specs.Shown.{Shows}
use Rattle.polar.specs.Value.{costs, R}
use Rattle.polar.proofs.Transform.{transform-length}
use Rattle.polar.proofs.Value.{R-costs, costs-add, costs-same, Same}
use Rattle.codebook.specs.Book.{Book, free_count, start_of, block_at, kinds_of}
use Rattle.codebook.specs.Limits.{Valid}
use Rattle.codec.specs.Ties.{parities_of}
use Rattle.codec.proofs.Fill.{After}
use Rattle.machine.specs.Choice.{first_of}
use Rattle.machine.specs.Words.{Ranked, nearer, rank, setting, nearest_with, nearest, next_after}
use Rattle.runs.proofs.Choice.{Found, first-may, first_found, first-is}
use Rattle.outer.specs.Words.{Word, word_of}
use Rattle.outer.proofs.Blocks.{Placed, placed}
use Rattle.outer.proofs.Words.{Matches, filled-after, setting-matches}
use Rattle.outer.proofs.Shown.{Right, up_to, block_values, before-length, right_setting, right-among, right-filled, right-cost, other-cost}

-- no word stands before itself
nearer-irrefl : (x : Ranked) → T (nearer x x) → ⊥
unfolding nearer
nearer-irrefl x t =
    or_case (lt_z x.sum x.sum) (not (lt_z x.sum x.sum) && ltb x.word x.word) t (lt_z-irrefl x.sum)
    (λ _ k. lt_irrefl x.word (ltb→lt x.word x.word (and_right (not (lt_z x.sum x.sum)) (ltb x.word x.word) k)))

module _ (B : Book) (ok : Valid B) (ys : List ℤ) (u : List ℕ) (r : Right B ys u) where
  size : length ys ≡ 2 ^ B.m
  size = sym (paired-length Shows (transform B.m u) ys r.shown) ∙ transform-length B.m u r.size

  module _ (b : ℕ) (l : b < length B.blocks) where
    abbrev s : ℕ
    s = start_of B.blocks b

    abbrev n : ℕ
    n = 2 ^ (block_at B b).j

    abbrev k : ℕ
    k = free_count (kinds_of B b)

    abbrev right : ℕ
    right = right_setting B ok ys u r b l

    -- the word of a setting, as the machine has it and by its cost
    abbrev ranked : ℕ → Ranked
    ranked w = setting B ys (up_to B u b) b w

    abbrev word : ℕ → Word
    word w = word_of B (block_values B ok ys u r b l) (parities_of B (up_to B u b)) b w

    place : Placed B b
    place = placed B ok b l

    matches : (w : ℕ) → Matches B ys (up_to B u b) b (ranked w) (word w)
    matches w = setting-matches B ys (up_to B u b) b place size (before-length B ok ys u r b l) (all_take Bit s u r.bits) (block_values B ok ys u r b l) refl w

    -- ---- the nearest word

    right-sum : (ranked right).sum ≡ pos 0
    right-sum = (matches right).sum ∙ ap (λ c. neg_ℤ (pos c)) (right-cost B ok ys u r b l)

    other-sum : (w : ℕ) → w < 2 ^ k → w ≢ right → (c : ℕ) × ((ranked w).sum ≡ negsuc c)
    other-sum w h q = go (word w).cost (other-cost B ok ys u r b l w h q) (matches w).sum
      where
        go : (c : ℕ) → 1 ≤ c → (ranked w).sum ≡ neg_ℤ (pos c) → (c : ℕ) × ((ranked w).sum ≡ negsuc c)
        go zero i e = absurd (omega arith)
        go (suc c) i e = (c, e)

    right-first : (w : ℕ) → w < 2 ^ k → w ≢ right → T (nearer (ranked right) (ranked w)) × T (not (nearer (ranked w) (ranked right)))
    unfolding nearer
    right-first w h q = let (c, e) = other-sum w h q in rw (right-sum, e) (tt, tt)

    pub nearest-right : nearest B ys (up_to B u b) b ≡ some (ranked right)
    unfolding nearest nearest_with
    nearest-right = first-is nearer (λ _. true) ranked (2 ^ k) right (right-among B ok ys u r b l) tt (λ w h q _. right-first w h q)

    pub right-bits : (ranked right).bits ≡ up_to B u (suc b)
    unfolding setting rank
    right-bits = right-filled B ok ys u r b l

    -- ---- the bits with a word in the block

    word_after : (w : ℕ) → After (up_to B u b) n (ranked w).bits
    unfolding setting rank
    word_after w = filled-after B ys (up_to B u b) b place size (before-length B ok ys u r b l) (all_take Bit s u r.bits) w

    word-front : (w : ℕ) → Same s (ranked w).bits u
    word-front w = ap (λ i. take i (ranked w).bits) (sym (before-length B ok ys u r b l)) ∙ (word_after w).front

    word-length : (w : ℕ) → length (ranked w).bits ≡ s + n
    word-length w = (word_after w).size ∙ ap (λ i. i + n) (before-length B ok ys u r b l)

    -- they cost what the word costs, where those before cost nothing
    word-costs : costs B.m ys u 0 s ≡ 0 → (w : ℕ) → costs B.m ys (ranked w).bits 0 (s + n) ≡ (word w).cost
    word-costs z w =
        let x : List ℕ = (ranked w).bits in
        let front : costs B.m ys x 0 s ≡ 0 = costs-same B.m ys x u 0 s s (omega arith) (word-front w) ∙ z in
        costs-add B.m ys x 0 s n ∙ ap₂ ◌+◌ front (ap (λ i. costs B.m ys x i n) (zero-add s) ∙ sym (matches w).cost) ∙ zero-add (word w).cost

  -- ---- the right bits cost nothing

  right-costs : (b : ℕ) → b ≤ length B.blocks → costs B.m ys u 0 (start_of B.blocks b) ≡ 0
  unfolding start_of costs
  right-costs zero h = refl
  right-costs (suc b) h =
      let t : ℕ = start_of B.blocks b + 2 ^ (block_at B b).j in
      let x : List ℕ = (ranked b h (right b h)).bits in
      let e : Same t u x = sym (ap (take t) (right-bits b h ∙ ap (λ i. take i u) (place b h).next) ∙ take-take t t u (omega arith)) in
      ap (costs B.m ys u 0) (place b h).next ∙ costs-same B.m ys u x 0 t t (omega arith) e ∙ word-costs b h (right-costs b (omega arith)) (right b h) ∙ right-cost B ok ys u r b h

  start-within : (b : ℕ) → b ≤ length B.blocks → start_of B.blocks b ≤ 2 ^ B.m
  unfolding start_of
  start-within zero h = omega arith
  start-within (suc b) h = omega (arith, (place b h).next, (ok.blocks b h).within)

  pub right-R : (b : ℕ) → b ≤ length B.blocks → R B.m ys (up_to B u b) ≡ pos 0
  right-R b h =
      let t : ℕ = start_of B.blocks b in
      let e : length (up_to B u b) ≡ t = length-take-le t u (omega (arith, r.size, start-within b h)) in
      R-costs B.m ys (up_to B u b) ∙ ap (λ i. neg_ℤ (pos (costs B.m ys (up_to B u b) 0 i))) e
      ∙ ap (λ i. neg_ℤ (pos i)) (costs-same B.m ys (up_to B u b) u 0 t t (omega arith) (take-take t t u (omega arith)) ∙ right-costs b h)

  -- ---- the next word

  module _ (b : ℕ) (l : b < length B.blocks) where
    next-is : next_after B ys (up_to B u (suc b)) b ≡ first_of nearer (nearer (ranked b l (right b l))) (ranked b l) (2 ^ k b l)
    unfolding next_after nearest_with setting rank
    next-is =
        ap₂ (λ (x v : List ℕ). first_of nearer (nearer (rank B ys b x)) (setting B ys v b) (2 ^ k b l)) (sym (right-bits b l))
        (take-take (s b l) (start_of B.blocks (suc b)) u (omega (arith, (place b l).next)))

    -- it lowers R
    abbrev pub Costly : Ranked → Type 0
    Costly x = (c : ℕ) × (R B.m ys x.bits ≡ negsuc c)

    word-R : (w : ℕ) → R B.m ys (ranked b l w).bits ≡ (ranked b l w).sum
    word-R w =
        R-costs B.m ys (ranked b l w).bits
        ∙ ap (λ i. neg_ℤ (pos i)) (ap (costs B.m ys (ranked b l w).bits 0) (word-length b l w) ∙ word-costs b l (right-costs b (omega arith)) w)
        ∙ sym (matches b l w).sum

    pub next-costly : May Costly (next_after B ys (up_to B u (suc b)) b)
    next-costly =
        subst (May Costly) (sym next-is)
        (first-may nearer (nearer (ranked b l (right b l))) (ranked b l) Costly (2 ^ k b l) (λ w h t. go w h t (ℕ_discrete w (right b l))))
      where
        go : (w : ℕ) → w < 2 ^ k b l → T (nearer (ranked b l (right b l)) (ranked b l w)) → Dec (w ≡ right b l) → Costly (ranked b l w)
        go w h t (yes e) = absurd (nearer-irrefl (ranked b l w) (subst (λ (i : ℕ). T (nearer (ranked b l i) (ranked b l w))) (sym e) t))
        go w h t (no q) = let (c, e) = other-sum b l w h q in (c, word-R w ∙ e)

    -- there is one with a free index
    pub next-found : 0 < k b l → Found (next_after B ys (up_to B u (suc b)) b)
    next-found h = subst Found (sym next-is) (go (ℕ_discrete 0 (right b l)))
      where
        two : 2 ≤ 2 ^ k b l
        two = pow_mono h

        go : Dec (0 ≡ right b l) → Found (first_of nearer (nearer (ranked b l (right b l))) (ranked b l) (2 ^ k b l))
        go (yes e) = first_found nearer (nearer (ranked b l (right b l))) (ranked b l) (2 ^ k b l) 1 two (right-first b l 1 two (λ q. omega arith)).0
        go (no q) = first_found nearer (nearer (ranked b l (right b l))) (ranked b l) (2 ^ k b l) 0 (omega (arith, two)) (right-first b l 0 (omega (arith, two)) q).0

    -- and none without
    pub next-none : k b l ≡ 0 → next_after B ys (up_to B u (suc b)) b ≡ none
    unfolding May
    next-none h = next-is ∙ go (first_of nearer (nearer (ranked b l (right b l))) (ranked b l) (2 ^ k b l)) (first-may nearer (nearer (ranked b l (right b l))) (ranked b l) (λ _. ⊥) (2 ^ k b l) each)
      where
        each : (w : ℕ) → w < 2 ^ k b l → T (nearer (ranked b l (right b l)) (ranked b l w)) → ⊥
        each w i t =
            let one : 2 ^ k b l ≡ 1 = ap (λ e. 2 ^ e) h in
            let same : w ≡ right b l = omega (arith, right-among B ok ys u r b l) in
            nearer-irrefl (ranked b l w) (subst (λ (v : ℕ). T (nearer (ranked b l v) (ranked b l w))) (sym same) t)

        go : (o : Option Ranked) → May (λ _. ⊥) o → o ≡ none
        go none m = refl
        go (some x) m = absurd m
