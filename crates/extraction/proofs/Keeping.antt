-- The word kept for a path that is moved: the second of the two words found, which is the next after its own in the block that it entered. The first
-- is the path's own; the next word after one goes by its cost and number alone. The words kept for the others are as they were, and the others see what
-- they saw. Assumes nothing.
use mathlib.Core.Path.{◌≡◌, refl, sym, ap, ap₂, ◌∙◌, subst}
use mathlib.Core.Bool.{◌&&◌, ◌||◌}
use mathlib.Core.List.{List, map}
use mathlib.Core.Logic.{◌≢◌}
use mathlib.Core.Option.{Option}
use Prim.Native.Nat.{ℕ, ◌<◌}
use native.Mathlib.Omega.{arith}
use lib.Dec.{ltb, eqb}
use lib.IntN.{ℤ}
use Rattle.laws.specs.Lists.{All, Distinct}
use Rattle.laws.proofs.Lists.{all-front}
use Rattle.codebook.specs.Book.{Book, block_at}
use Rattle.codec.specs.Ties.{Parities}
use Rattle.queue.specs.Queue.{insert}
use Rattle.outer.specs.declared.Candidate.{Candidate}
use Rattle.outer.specs.Words.{Word, nearer, nearest_with, next_after}
use Rattle.outer.specs.Blocks.{candidate_of}
use Rattle.reader.specs.Arrays.{vals_of}
use Rattle.reader.specs.Paths.{Path, key_of, last_word, own_word, ids_of}
use Rattle.reader.specs.Reader.{move_with, move}
use Rattle.reader.proofs.Found.{nearest-number}
use Rattle.reader.proofs.Step.{next-kept}
use Rattle.order.specs.Entries.{key_at, slot_at, Packed}
use Rattle.standing.specs.Seen.{Memory}
use Rattle.std.specs.Prelude.{Some}
use lib.ListN.{length, set}
use Rattle.words.specs.declared.Block.{Block}
use Rattle.words.specs.Kept.{Table, Keeps, KeptFor, Kepts}
use Rattle.words.proofs.Kepts.{one_kept, keeps_set, kepts-other, kepts-frame, kepts-insert}
use Rattle.extraction.specs.Extraction.{Thirding}
use Rattle.extraction.proofs.Moves.{view, moved}

-- the next word after one goes by its cost and number
same_next : (v w : Word) (B : Book) (vs : List ℤ) (x : Parities) (b : ℕ) → v.cost ≡ w.cost → v.number ≡ w.number → next_after v B vs x b ≡ next_after w B vs x b
unfolding next_after nearer
same_next v w B vs x b p q = ap₂ (λ (k n : ℕ). nearest_with (λ (y : Word). ltb k y.cost || eqb k y.cost && ltb n y.number) B vs x b) p q

module _ {m D N : ℕ} {x : Memory} {e : ℕ} {es vs kinds terms : List ℕ} {last at : Block} {kept : Table} (c : Thirding m D N x e es vs kinds terms last at kept) where
  abbrev book : Book
  book = c.moving.hand.book

  abbrev path : Path
  path = c.moving.hand.taken

  abbrev rest : List Path
  rest = c.moving.hand.rest

  -- the block entered, and its values
  abbrev b : ℕ
  b = path.blocks

  abbrev values : List ℤ
  values = vals_of (view c) (block_at book b).j

  -- the path's own word is the nearest
  own-number : c.word.number ≡ (own_word book (moved c) b).number
  unfolding own_word last_word
  own-number = nearest-number book values path.parities b c.word c.found

  module _ {second : Candidate} (is : second ≡ candidate_of book (next_after c.word book values path.parities b)) where
    -- the second word found is the next after it
    second_is : second ≡ candidate_of book (next_after (own_word book (moved c) b) book values path.parities b)
    unfolding own_word
    second_is = is ∙ ap (candidate_of book) (same_next c.word (own_word book (moved c) b) book values path.parities b refl own-number)

    -- kept for the entry d that the path is queued with, and the others' words
    pub third-kept : {d : ℕ} → Packed d (key_of book (moved c)) (slot_at e) → slot_at e < length kept →
        let k = move book c.moving.hand.arrays path rest in
        let new = set kept (slot_at e) (Some second) in
        Kepts book k.arrays new (insert key_at d es) (insert (key_of book) k.path rest)
    unfolding move move_with All Distinct
    third-kept {d} packed low =
        let A = c.moving.hand.arrays in
        let new = set kept (slot_at e) (Some second) in
        let slots : List ℕ = map slot_at es in
        let apart : All (λ (s : ℕ). slot_at e ≢ s) slots = all-front (λ (s : ℕ). slot_at e ≢ s) slots vs c.moving.hand.stands.apart.0 in
        let own : KeptFor book (view c).arrays new d (moved c) =
        record {
          key = packed.key;
          next = λ a q.
              let same : b ≡ a = omega arith in
              let Next : ℕ → Type 0 = λ i. Keeps new (slot_at d) (candidate_of book (next_after (own_word book (moved c) i) book (vals_of (view c) (block_at book i).j) path.parities i)) in
              subst Next same (rw packed.slot (keeps_set kept low (λ w f. let s : second ≡ w = cc in sym s ∙ second_is)));
        } in
        let Ends : Option Word → Type 0 = λ o. let k = move_with A path (view c) o in Kepts book k.arrays new (insert key_at d es) (insert (key_of book) k.path rest) in
        subst Ends (sym c.found)
        (kepts-insert book new (view c).arrays d (moved c) es rest own
        (kepts-frame book new A (view c).arrays es rest (next-kept book (ids_of rest) A path b) (kepts-other book A (one_kept (slot_at e) kept (Some second)) es rest apart c.known)))
