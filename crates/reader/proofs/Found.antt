-- The words that the reader finds: each is the word of its setting; the next block always has a nearest word; and
-- with a word found the path's total stays within range. A word found matches the machine's, so that the total is the costs of the machine's
-- bits. Assumes nothing.
use mathlib.Core.Path.{◌≡◌, refl, sym, ap, ◌∙◌, subst}
use mathlib.Core.Bool.{Bool}
use mathlib.Core.List.{List, ◌∷◌}
use mathlib.Core.Option.{Option, none, some}
use Prim.Native.Nat.{ℕ, suc, ◌+◌, ◌^◌, ◌≤◌, ◌<◌}
use native.Mathlib.Nat.{zero-add}
use native.Mathlib.Omega.{arith}
use lib.ListN.{length, take}
use lib.Seq.{take_all, take-take, length-take-le}
use lib.Pow.{pow_mono}
use lib.IntN.{ℤ}
use Rattle.laws.specs.Lists.{All, May}
use Rattle.laws.specs.Pairs.{MayPair}
use Rattle.laws.proofs.Lists.{all_take}
use Rattle.polar.specs.Bits.{Bit, number}
use Rattle.polar.specs.Transform.{transform}
use Rattle.polar.specs.Layers.{Within}
use Rattle.polar.specs.Value.{costs}
use Rattle.polar.proofs.Value.{costs-add, costs-same, Same}
use Rattle.polar.proofs.Ranges.{costs-le}
use Rattle.codebook.specs.Book.{Book, free_count, start_of, block_at, kinds_of}
use Rattle.codebook.specs.Limits.{Valid}
use Rattle.codec.specs.Ties.{Parities, fill_block}
use Rattle.codec.proofs.Fill.{After}
use Rattle.codec.proofs.Ties.{filled-take}
use Rattle.machine.specs.Words as MW
use Rattle.machine.specs.Words.{Ranked}
use Rattle.runs.proofs.Choice.{Found, first-may}
use Rattle.runs.proofs.Steps.{nearest-found}
use Rattle.outer.specs.Words.{Word, word_of, nearer, nearest_with, nearest, next_after}
use Rattle.outer.proofs.Blocks.{placed}
use Rattle.outer.proofs.Words.{Matches, filled-after}
use Rattle.reader.specs.Arrays.{Arrays, vals_of}
use Rattle.reader.specs.Paths.{Path, own_word, ids_of, view_of}
use Rattle.reader.specs.Reader.{Cut, copy, next_view}
use Rattle.reader.specs.Reached.{Good, Inv, HoldsBits, Reached}
use Rattle.reader.proofs.Good.{holds_frame, PathSized, sized}
use Rattle.reader.proofs.Step.{next-matches, near-matches}
use Rattle.reader.proofs.Fit.{copy-sees}
use Rattle.reader.proofs.Reached.{Headed, reached-headed}

-- ---- a word found is the word of its setting

module _ (test : Word → Bool) (B : Book) (vs : List ℤ) (x : Parities) (b : ℕ) (y : Word) (e : nearest_with test B vs x b ≡ some y) where
  pub word_made : y ≡ word_of B vs x b y.setting
  unfolding nearest_with word_of May
  word_made = subst (May Made) e (first-may nearer test (word_of B vs x b) Made (2 ^ free_count (kinds_of B b)) (λ w _ _. refl))
    where
      Made : Word → Type 0
      Made z = z ≡ word_of B vs x b z.setting

  pub made-number : y.number ≡ number (transform (block_at B b).j (fill_block B x b y.setting).bits)
  unfolding word_of
  made-number = ap (λ (z : Word). z.number) word_made

-- of the two words that the reader asks for
module _ (B : Book) (vs : List ℤ) (x : Parities) (b : ℕ) (y : Word) where
  pub nearest-number : nearest B vs x b ≡ some y → y.number ≡ number (transform (block_at B b).j (fill_block B x b y.setting).bits)
  unfolding nearest
  nearest-number e = made-number _ B vs x b y e

  pub next-number : (own : Word) → next_after own B vs x b ≡ some y →
      y.number ≡ number (transform (block_at B b).j (fill_block B x b y.setting).bits)
  unfolding next_after
  next-number own e = made-number _ B vs x b y e

-- the next block of p has a nearest word, at what p sees of it among others, and the total with that word is within range
abbrev pub MoveFound : Book → List (ℕ → ℕ) → Arrays → Path → Type 0
MoveFound B others A p =
    (y : Word) × (nearest B (vals_of (next_view B others A p p.blocks) (block_at B p.blocks).j) p.parities p.blocks ≡ some y)
    × ((p.spent + p.cost) + y.cost ≤ 1048064)

-- what is paired with an element is one
pair-some : {A B : Type 0} (P : A → B → Type 0) (o : Option A) (y : B) → MayPair P o (some y) → (x : A) × P x y
unfolding MayPair
pair-some P none y k = absurd k
pair-some P (some x) y k = (x, k)

module _ (B : Book) (ys : List ℤ) (ok : Valid B) (ly : length ys ≡ 2 ^ B.m) (within : All (Within 2047) ys) where
  -- ---- the total with a word found

  -- the word y, the machine's x, in block b after the bits z
  word_total : (z : List ℕ) (b : ℕ) (x : Ranked) (y : Word) (spent : ℕ) → b < length B.blocks → length z ≡ start_of B.blocks b → All Bit z →
      Matches B ys z b x y → spent ≡ costs B.m ys z 0 (start_of B.blocks b) → spent + y.cost ≤ 1048064
  word_total z b x y spent l lz bz k e =
      let m : ℕ = B.m in
      let s : ℕ = start_of B.blocks b in
      let n : ℕ = 2 ^ (block_at B b).j in
      let u : List ℕ = x.bits in
      let a : After z n u = subst (After z n) (sym k.bits) (filled-after B ys z b (placed B ok b l) ly lz bz y.setting) in
      let size : length u ≡ s + n = a.size ∙ ap (λ i. i + n) lz in
      let alike : Same s z u = take_all s z (omega arith) ∙ sym (filled-take B z b y.setting lz) ∙ ap (take s) (sym k.bits) in
      let front : spent ≡ costs m ys u 0 s = e ∙ costs-same m ys z u 0 s s (omega arith) alike in
      let all : costs m ys u 0 (length u) ≡ costs m ys u 0 s + costs m ys u s n =
      ap (costs m ys u 0) size ∙ costs-add m ys u 0 s n ∙ ap (λ i. costs m ys u 0 s + costs m ys u i n) (zero-add s) in
      let top : 2 ^ m ≤ 2 ^ 9 = pow_mono ok.high in
      let inside : length u ≤ 2 ^ m = omega (arith, (ok.blocks b l).within) in
      omega (arith, k.cost, costs-le m 2047 ys u ly inside a.bits within)

  -- step 2: the copy's
  pub copy-total : (D : ℕ) (A : Arrays) (p : Path) (ps : List Path) (b : ℕ) → Reached B ys D A (p ∷ ps) → p.blocks ≡ suc b → b < length B.blocks →
      (y : Word) → next_after (own_word B p b) B (vals_of (view_of A p) (block_at B b).j) p.earlier b ≡ some y → p.spent + y.cost ≤ 1048064
  unfolding Inv
  copy-total D A p ps b r q l y e =
      let h : Headed B ys A p ps = reached-headed B ys D A p ps r in
      let u : List ℕ = h.path.bits in
      let s : ℕ = start_of B.blocks b in
      let g : Good B ys (view_of A p) u p b = subst (Inv B ys (view_of A p) u p) q h.stands.holds.inv in
      let z : List ℕ = take s u in
      let lz : length z ≡ s = length-take-le s u (omega (arith, g.size)) in
      let spent : p.spent ≡ costs B.m ys z 0 s =
      g.spent ∙ costs-same B.m ys u z 0 s s (omega arith) (sym (take-take s s u (omega arith))) in
      let pairs : MayPair (Matches B ys z b) (MW.next_after B ys u b) (some y) =
      subst (MayPair (Matches B ys z b) (MW.next_after B ys u b)) e (next-matches B ys ok ly A u p b h.stands.holds.parities g) in
      let (x, k) = pair-some (Matches B ys z b) (MW.next_after B ys u b) y pairs in
      word_total z b x y p.spent l lz (all_take Bit s u g.bits) k spent

  -- ---- step 3: the next block has a nearest word

  pub holds-found : (others : List (ℕ → ℕ)) (A : Arrays) (u : List ℕ) (p : Path) → HoldsBits B ys A u p → p.blocks < length B.blocks →
      MoveFound B others A p
  holds-found others A u p h l =
      go (MW.nearest B ys u b) _ (nearest-found B ys u b) (near-matches B ys ok ly A u p others h l) refl
    where
      b : ℕ
      b = p.blocks

      now : PathSized B ys u p b
      now = sized B ys (view_of A p) u p ok b h.inv

      found : Option Word
      found = nearest B (vals_of (next_view B others A p b) (block_at B b).j) p.parities b

      go : (o : Option Ranked) (o' : Option Word) → Found o → MayPair (Matches B ys u b) o o' → found ≡ o' → MoveFound B others A p
      go none o' f k e = absurd (unfold Found in f)
      go (some x) none f k e = absurd (unfold MayPair in k)
      go (some x) (some y) f k e = (
        y,
        e,
        word_total u b x y (p.spent + p.cost) l now.size now.bits (unfold MayPair in k) (now.total ∙ ap (costs B.m ys u 0) now.size),
      )

  module _ (D : ℕ) (A : Arrays) (p : Path) (ps : List Path) (r : Reached B ys D A (p ∷ ps)) (l : p.blocks < length B.blocks) where
    -- of a state that the run reaches, after its step 2
    pub move-found-copied : (n : ℕ) → let c = copy B D A p ps n p.blocks in MoveFound B (ids_of c.queue) c.arrays p
    move-found-copied n =
        let h : Headed B ys A p ps = reached-headed B ys D A p ps r in
        let c : Cut = copy B D A p ps n p.blocks in
        let u : List ℕ = h.path.bits in
        holds-found (ids_of c.queue) c.arrays u p (holds_frame B ys A c.arrays u p (copy-sees B D A p ps n p.blocks) h.stands.holds) l
