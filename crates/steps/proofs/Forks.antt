-- A copy with another word of the last block: what its entry and its row hold, and what memory stands for once it shares the arrays of the path in
-- hand, has one of its own where its word will go, and is queued. Each is a law of crates/standing for that change of memory; the reader's own cut
-- of the queue leaves it whole, since there is room. And the next word after its own, where that is known, is the one to keep for it: the copy sees
-- the values that the search went by. Assumes nothing.
use mathlib.Core.Path.{◌≡◌, refl, sym, ap, ap₂, ◌∙◌, subst, subst₂}
use mathlib.Core.Bool.{Bool, true, false}
use Rattle.std.specs.Prelude.{Some}
use Rattle.std.specs.Bool.{then_some}
use mathlib.Core.List.{List, [], ◌∷◌, map}
use mathlib.Core.Logic.{◌≢◌}
use mathlib.Core.Option.{Option, some}
use Prim.Native.Nat.{ℕ, zero, suc, ◌+◌, ◌-◌, ◌^◌, ◌≤◌, ◌<◌}
use native.Mathlib.Omega.{arith}
use lib.ListN.{length}
use lib.Seq.{take_all}
use lib.Pow.{pow_pos, pow_mono}
use lib.IntN.{ℤ, pos, neg_ℤ, ◌-ℤ◌}
use Rattle.polar.specs.Bits.{number}
use Rattle.polar.specs.Layers.{Within}
use Rattle.codebook.specs.Book.{Book, start_of, block_at}
use Rattle.codebook.specs.Book as K
use Rattle.laws.specs.Lists.{All, Distinct}
use Rattle.laws.proofs.Lists.{all-front}
use Rattle.queue.specs.Queue.{room_for, insert}
use Rattle.outer.specs.declared.Candidate.{Candidate}
use Rattle.outer.specs.declared.Next.{Next}
use Rattle.outer.specs.Words.{Word, next_after}
use Rattle.outer.specs.Blocks.{candidate_of}
use Rattle.outer.proofs.Blocks.{start-less}
use Rattle.reader.specs.Arrays.{Arrays, View, vals_of, claim}
use Rattle.reader.specs.Paths.{Path, score_of, key_of, last_word, own_word, place, ids_of, view_of}
use Rattle.reader.specs.Reader.{copy_with}
use Rattle.reader.proofs.Arrays.{Kept, claim-kept, claim-own}
use Rattle.reader.proofs.Descent.{place-most}
use Rattle.order.specs.Entries.{key_at, slot_at, Packed}
use Rattle.sharing.specs.Sharing.{Held, id_at, held_at, Copied, MoreBy}
use Rattle.standing.specs.Seen.{Memory, memory, HasArrays, Enough, Lent, Seen, Viewed, StepSeen, IdsOnly}
use Rattle.standing.specs.Standing.{cell, spent_at, earlier_at, Row, Stands, with_ids, PutRow, Made}
use Rattle.standing.proofs.Slots.{distinct-forward}
use Rattle.standing.proofs.Sizes.{slot-low, slots_apart}
use Rattle.standing.proofs.Taken.{taken-row}
use Rattle.standing.proofs.Leaving.{stands-held, stands-few}
use Rattle.standing.proofs.Views.{stands-seen, stands-view}
use Rattle.standing.proofs.Places.{stands-insert-second}
use Rattle.standing.proofs.Written.{stands-share}
use Rattle.views.specs.Steps.{Claimable}
use Rattle.words.specs.declared.Block.{Block}
use Rattle.words.specs.Kept.{Table, Keeps, OneKept, next_of, KeptFor, Kepts}
use Rattle.words.proofs.Kepts.{kepts-other, kepts-frame, kepts-insert}
use Rattle.steps.specs.Steps.{Forking}

-- memory that has the rows and the arrays is lent as well
pub lent-on : {m D N : ℕ} {x y : Memory} → Lent m D N x → length y.rows ≡ length x.rows → HasArrays m N y → Lent m D N y
lent-on l size has = record { few = l.few; rows = omega (arith, l.rows, size); has = has; enough = l.enough }

-- it has the arrays whatever its rows are
pub has-held : {m N : ℕ} {x : Memory} {holders' : List ℕ} (rows' : List ℕ) → HasArrays m N x → Held holders' → HasArrays m N (memory rows' holders' x.numbers x.bytes)
unfolding memory
has-held rows' has held = record { deep = has.deep; many = has.many; held = held; numbers = has.numbers; bytes = has.bytes }

-- a block has an index at least, so that no book has more than 512
start-count : (bs : List K.Block) (b : ℕ) → b ≤ length bs → b ≤ start_of bs b
unfolding start_of
start-count bs zero h = omega arith
start-count [] (suc b) h = absurd (omega arith)
start-count (x ∷ bs) (suc b) h = omega (arith, start-count bs b (omega arith), pow_pos x.j)

module _ {m D N : ℕ} {x : Memory} {e t : ℕ} {es vs : List ℕ} {last : Block} {found : Next} {b : ℕ}
    (c : Forking m D N x e t es vs last found b) where
  -- the book, the path in hand, and the row of its slot
  abbrev book : Book
  book = c.hand.book

  abbrev path : Path
  path = c.hand.taken

  row : Row book x.rows (slot_at e) path
  row = taken-row c.hand.stands

  pub fork-blocks : suc b < 1024
  fork-blocks =
      let l : b < length book.blocks = c.own.block.within in
      let top : 2 ^ book.m ≤ 2 ^ 9 = pow_mono c.valid.high in
      omega (arith, start-count book.blocks b (omega arith), start-less book c.valid b l)

  -- ---- the word that may be kept for it

  -- the values of the block that it is made from, and the next after the copy's word
  abbrev values : List ℤ
  values = vals_of (view_of c.hand.arrays path) (block_at book b).j

  abbrev after : Option Word
  after = next_after c.word book values path.earlier b

  -- where one is kept, it is that word
  pub fork-known : (w : Candidate) → then_some found.known found.second ≡ Some w → w ≡ candidate_of book after
  fork-known w = go found.known refl
    where
      go : (known : Bool) → found.known ≡ known → then_some known found.second ≡ Some w → w ≡ candidate_of book after
      go true k q = let same : found.second ≡ w = cc in sym same ∙ c.is.second k c.word refl
      go false k q = cc

  -- ---- the entry

  cost-is : found.first.cost ≡ c.word.cost
  unfolding candidate_of
  cost-is = ap (λ (y : Candidate). y.cost) c.is.first

  pub fork-total : cell x.rows (slot_at e) spent_at + found.first.cost ≤ 1048064
  fork-total = omega (arith, row.spent, cost-is, c.total)

  pub fork-bias : Within 1048576 last.bias
  fork-bias = rw c.own.block.bias (c.valid.blocks b c.own.block.within).bias

  -- the copy, before it takes an array of its own
  abbrev pub made : ℕ → Path
  made n =
      record {
        number = n;
        blocks = suc b;
        spent = path.spent;
        cost = c.word.cost;
        setting = c.word.setting;
        earlier = path.earlier;
        parities = c.word.parities;
        ids = path.ids;
      }

  -- the code's score is the copy's, so that the entry is
  pub fork-entry : {slot spent blocks n d : ℕ} {s : ℤ} → slot ≡ slot_at e → spent ≡ cell x.rows slot spent_at → blocks ≡ suc b →
      s ≡ neg_ℤ (pos (spent + found.first.cost)) -ℤ last.bias → Packed d (record { score = s; blocks = blocks; number = n }) t → Packed d (key_of book (made n)) t
  unfolding key_of score_of
  fork-entry {slot} {spent} {blocks} {n} {d} {s} at is q score packed =
      let total : spent + found.first.cost ≡ path.spent + c.word.cost = omega (arith, is, ap (λ (i : ℕ). cell x.rows i spent_at) at, row.spent, cost-is) in
      let same : s ≡ score_of book (made n) (suc b) = score ∙ ap₂ (λ (k : ℕ) (z : ℤ). neg_ℤ (pos k) -ℤ z) total c.own.block.bias in
      subst₂ (λ (z : ℤ) (k : ℕ). Packed d (record { score = z; blocks = k; number = n }) t) same q packed

  -- memory stands for the copy in front, once its row is written
  abbrev pub Written : ℕ → ℕ → Memory → Type 0
  Written n d y = Stands book D N y (d ∷ e ∷ es) vs c.hand.arrays (made n ∷ path ∷ c.hand.rest)

  -- the copy is number n, and its entry d; the arrays are enough
  module _ (enough : Enough D N) (n : ℕ) {d : ℕ} (packed : Packed d (key_of book (made n)) t) where
    word-is : (k : ℕ) → suc b ≡ suc k → found.first.number ≡ number (last_word book (made n) k)
    unfolding candidate_of last_word
    word-is k q =
        let same : b ≡ k = omega arith in
        ap (λ (y : Candidate). y.number) c.is.first ∙ c.made ∙ ap (λ (i : ℕ). number (last_word book (made n) i)) same

    -- what its entry and its row hold
    fork-made : Made book (made n) d t (cell x.rows (slot_at e) spent_at) found.first.cost found.first.number (cell x.rows (slot_at e) earlier_at) found.first.parities
    unfolding candidate_of
    fork-made =
        record {
          entry = packed;
          spent = row.spent;
          cost = cost-is;
          word = word-is;
          earlier = row.earlier;
          parities = ap (λ (y : Candidate). y.parities) c.is.first;
        }

    -- ---- the row written

    pub fork-written : {slot spent earlier : ℕ} {rows₁ rows₂ : List ℕ} (holders' : List ℕ) → slot ≡ slot_at e → spent ≡ cell x.rows slot spent_at →
        earlier ≡ cell x.rows slot earlier_at → Lent m D N x → Copied m slot t x.rows rows₁ → MoreBy (m + 1) x.rows slot x.holders holders' →
        PutRow t rows₁ rows₂ spent found.first.cost found.first.number earlier found.first.parities →
        Written n d (memory rows₂ holders' x.numbers x.bytes)
    fork-written {slot} {spent} {earlier} {rows₁} {rows₂} holders' at spent-is earlier-is l copied more put =
        let copied' : Copied book.m (slot_at e) t x.rows rows₁ = subst₂ (λ (k i : ℕ). Copied k i t x.rows rows₁) (sym c.hand.deep) at copied in
        let more' : MoreBy (book.m + 1) x.rows (slot_at e) x.holders holders' =
        subst₂ (λ (k i : ℕ). MoreBy (k + 1) x.rows i x.holders holders') (sym c.hand.deep) at more in
        let here : (f : ℕ) → cell x.rows slot f ≡ cell x.rows (slot_at e) f = λ f. ap (λ (i : ℕ). cell x.rows i f) at in
        let Put : ℕ → ℕ → Type 0 = λ p r. PutRow t rows₁ rows₂ p found.first.cost found.first.number r found.first.parities in
        let put' : Put (cell x.rows (slot_at e) spent_at) (cell x.rows (slot_at e) earlier_at) = subst₂ Put (spent-is ∙ here spent_at) (earlier-is ∙ here earlier_at) put in
        stands-share holders' c.hand.stands c.valid.high l.has.many copied' more' put' fork-made refl

    -- what the copy sees, in slot s of a memory for books of depth k
    abbrev Sees : ℕ → ℕ → Memory → Type 0
    Sees k s y = Seen k N s y (path.ids ∷ ids_of c.hand.rest) (view_of c.hand.arrays path)

    fork-seen : {y : Memory} → Written n d y → Sees m t y
    fork-seen {y} st = subst (λ (k : ℕ). Sees k t y) c.hand.deep (subst (λ (s : ℕ). Sees book.m s y) packed.slot (stands-seen st enough))

    -- the block's own values are there
    fork-claimable : Claimable last.height last.place (view_of c.hand.arrays path)
    unfolding Claimable
    fork-claimable q =
        let o = c.own.block in
        c.own.fit.has last.place (omega (arith, o.height)) (omega (arith, o.word, place-most book c.valid b o.within))

    pub fork-viewed : {y : Memory} → Written n d y → Viewed m N t y (Claimable last.height last.place)
    fork-viewed st = record { others = _; view = _; seen = fork-seen st; met = fork-claimable }

    -- ---- once it has an array of its own, and is queued

    -- what it sees then, among the paths qs, for a block of height j with its word at height h
    abbrev claimed : List Path → ℕ → ℕ → View
    claimed qs j h = claim (path.ids ∷ ids_of qs) j h (view_of c.hand.arrays path)

    abbrev Taken : Memory → List Path → ℕ → ℕ → Type 0
    Taken z qs j h =
        let v = claimed qs j h in
        Stands book D N z (e ∷ insert key_at d es) vs v.arrays (path ∷ insert (key_of book) (with_ids (made n) v.ids) qs)

    taken : {y z : Memory} → Written n d y → IdsOnly m t y.rows z.rows →
        StepSeen m N t y z (Claimable last.height last.place) (λ others v. claim others last.height last.place v) →
        Taken z c.hand.rest last.height last.place
    unfolding StepSeen
    taken {y} {z} st only turned =
        let v : View = claimed c.hand.rest last.height last.place in
        let others : List (ℕ → ℕ) = path.ids ∷ ids_of c.hand.rest in
        let see : Seen m N (slot_at d) z others v = rw packed.slot (turned _ _ (fork-seen st) fork-claimable) in
        let there : IdsOnly m (slot_at d) y.rows z.rows = rw packed.slot only in
        stands-insert-second (stands-view st c.valid.high
        (subst (λ (k : ℕ). Seen k N (slot_at d) z others v) (sym c.hand.deep) see)
        (subst (λ (k : ℕ). IdsOnly k (slot_at d) y.rows z.rows) (sym c.hand.deep) there))

    pub fork-queued : {y z : Memory} → Written n d y → IdsOnly m t y.rows z.rows →
        StepSeen m N t y z (Claimable last.height last.place) (λ others v. claim others last.height last.place v) →
        let k = copy_with book D c.hand.arrays path b c.hand.rest n (some c.word) in
        Stands book D N z (e ∷ insert key_at d es) vs k.arrays (path ∷ k.queue)
    unfolding copy_with with_ids room_for
    fork-queued {z} st only turned =
        let o = c.own.block in
        let room : c.hand.rest ≡ room_for D c.hand.rest = sym (take_all (D - 2) c.hand.rest (omega (arith, c.room))) in
        subst (λ (qs : List Path). Taken z qs (block_at book b).j (place book b)) room
        (subst (λ (j : ℕ). Taken z c.hand.rest j (place book b)) o.height
        (subst (λ (h : ℕ). Taken z c.hand.rest last.height h) o.word (taken st only turned)))

    -- ---- the word kept for it

    -- its own word is the one it is made with
    own_is : (ids : ℕ → ℕ) → c.word ≡ own_word book (with_ids (made n) ids) b
    unfolding own_word last_word with_ids
    own_is ids = ap (λ (k : ℕ). record { setting = c.word.setting; parities = c.word.parities; cost = c.word.cost; number = k }) c.made

    -- the values go along where they would be lost, so that its next word is the same
    after_is : (qs : List Path) → let v = claimed qs (block_at book b).j (place book b) in after ≡ next_of book v.arrays (with_ids (made n) v.ids) b
    unfolding with_ids
    after_is qs =
        let v : View = claimed qs (block_at book b).j (place book b) in
        ap₂ (λ (w : Word) (l : List ℤ). next_after w book l path.earlier b) (own_is v.ids) (sym (claim-own (path.ids ∷ ids_of qs) (place book b) (view_of c.hand.arrays path) (block_at book b).j))

    -- the word that is kept for it, if one is, is its next; those of the others are as they were
    pub fork-kepts : {old new : Table} → OneKept t old new → Keeps new t (candidate_of book after) → Kepts book c.hand.arrays old es c.hand.rest →
        let k = copy_with book D c.hand.arrays path b c.hand.rest n (some c.word) in
        Kepts book k.arrays new (insert key_at d es) k.queue
    unfolding copy_with room_for key_of score_of All Distinct with_ids
    fork-kepts {old} {new} one keeps kept =
        let A : Arrays = c.hand.arrays in
        let qs : List Path = c.hand.rest in
        let room : qs ≡ room_for D qs = sym (take_all (D - 2) qs (omega (arith, c.room))) in
        let slots : List ℕ = map slot_at (e ∷ es) in
        let apart : All (λ (s : ℕ). t ≢ s) slots = all-front (λ (s : ℕ). t ≢ s) slots vs (distinct-forward slots t vs c.hand.stands.apart).0 in
        let v : View = claimed qs (block_at book b).j (place book b) in
        let same : Kept (path.ids ∷ ids_of qs) A v.arrays = claim-kept (path.ids ∷ ids_of qs) (place book b) (view_of A path) (block_at book b).j in
        let Next : ℕ → ℕ → Type 0 = λ s k. Keeps new s (candidate_of book (next_of book v.arrays (with_ids (made n) v.ids) k)) in
        let own : KeptFor book v.arrays new d (with_ids (made n) v.ids) =
        record {
          key = packed.key;
          next = λ k q.
              let same_block : b ≡ k = omega arith in
              subst (Next (slot_at d)) same_block (subst (λ (s : ℕ). Next s b) (sym packed.slot) (subst (λ (o : Option Word). Keeps new t (candidate_of book o)) (after_is qs) keeps));
        } in
        subst (λ (ps : List Path). let w = claimed ps (block_at book b).j (place book b) in Kepts book w.arrays new (insert key_at d es) (insert (key_of book) (with_ids (made n) w.ids) ps)) room
        (kepts-insert book new v.arrays d (with_ids (made n) v.ids) es qs own (kepts-frame book new A v.arrays es qs same.1 (kepts-other book A one es qs apart.1 kept)))

  -- ---- what sharing needs

  pub fork-shareable : Lent m D N x → (h : ℕ) → h ≤ m →
      let id = id_at x.rows (slot_at e) h in (id ≤ 256) × (held_at x.holders h id < 65535)
  fork-shareable l h k =
      let low : h ≤ book.m = omega (arith, c.hand.deep) in
      let held = stands-held [] e es [] path c.hand.rest refl c.hand.stands h low in
      let few = stands-few [] e es [] path c.hand.rest refl c.hand.stands h low in
      (omega (arith, held.0, l.has.many), omega (arith, few, l.few))

  pub fork-slot : slot_at e < D
  fork-slot = slot-low c.hand.stands

  pub fork-apart : (slot_at e ≡ t → ⊥) × (t < D)
  fork-apart = slots_apart c.hand.stands

  pub fork-place : last.place ≤ m
  fork-place = let o = c.own.block in omega (arith, o.word, place-most book c.valid b o.within, c.hand.deep)
