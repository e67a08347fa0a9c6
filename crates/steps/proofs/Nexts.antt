-- Step 2 for the path in hand: what the search of its last block's next word needs and answers; and, where there is one, that the queue cut to D - 2
-- paths leaves what the copy needs, and that the copy made then is the reader's. The queue is cut before the reader cuts it, so that it has room
-- already. Assumes nothing.
use mathlib.Core.Path.{◌≡◌, refl, sym, ap, ap₂, ◌∙◌, subst}
use mathlib.Core.Bool.{true, false}
use mathlib.Core.List.{List, ◌∷◌}
use mathlib.Core.Option.{Option, none, some}
use Prim.Native.Nat.{ℕ, suc, ◌+◌, ◌-◌, ◌^◌, ◌≤◌, ◌<◌}
use native.Mathlib.Omega.{arith}
use lib.IntN.{ℤ}
use lib.ListN.{length, take, drop, length-map, length-append, take-append-drop}
use lib.Seq.{take-take}
use Rattle.laws.specs.Lists.{All}
use Rattle.laws.specs.Pairs.{Paired}
use Rattle.laws.proofs.Pairs.{paired-take}
use Rattle.polar.specs.Layers.{part, Within}
use Rattle.codebook.specs.Book.{Book, block_at}
use Rattle.queue.specs.Queue.{numbers, room_for, crowded_out}
use Rattle.runs.proofs.Order.{insert-length}
use Rattle.outer.specs.declared.Candidate.{Candidate}
use Rattle.outer.specs.declared.Next.{Next}
use Rattle.outer.specs.Search.{Searchable}
use Rattle.outer.specs.Words.{Word, next_after}
use Rattle.outer.specs.Blocks.{Bits, BlockTabled, candidate_of, Nexts}
use Rattle.outer.proofs.Entries.{block-low, block-walkable}
use Rattle.reader.specs.Arrays.{vals_of}
use Rattle.reader.specs.Paths.{Path, key_of, own_word, view_of}
use Rattle.reader.specs.Reader.{copy_with, copy}
use Rattle.reader.proofs.Descent.{place-own, place-most}
use Rattle.reader.proofs.Found.{next-number}
use Rattle.order.specs.Entries.{slot_at}
use Rattle.sharing.specs.Sharing.{id_at, HasIds}
use Rattle.heights.specs.Workspace.{spot, Id, Parts}
use Rattle.heights.proofs.Spots.{spot-room}
use Rattle.standing.specs.Seen.{Memory, Lent}
use Rattle.standing.specs.Standing.{cell, cost_at, Row, Stands}
use Rattle.standing.proofs.Sizes.{stands-length}
use Rattle.standing.proofs.Taken.{taken-row}
use Rattle.words.specs.declared.Block.{Block}
use Rattle.words.specs.Kept.{Table, Keeps, Kepts}
use Rattle.steps.specs.Steps.{Forking, Copying, CopiedTo}

-- ---- a word as the search answers it

pub some_word : (B : Book) (o : Option Word) (r : Candidate) → r ≡ candidate_of B o → r.some ≡ true → (y : Word) × (o ≡ some y)
unfolding candidate_of
some_word B none r e t = let z : ◌≡◌ {A = ℕ} 0 1 = cc in absurd (omega arith)
some_word B (some y) r e t = (y, refl)

none-word : (B : Book) (o : Option Word) (r : Candidate) → r ≡ candidate_of B o → r.some ≡ false → o ≡ none
unfolding candidate_of
none-word B none r e t = refl
none-word B (some y) r e t = let z : ◌≡◌ {A = ℕ} 0 1 = cc in absurd (omega arith)

module _ {m D N : ℕ} {x : Memory} {e : ℕ} {es vs kinds terms : List ℕ} {last : Block} {kept : Table} {b : ℕ}
    (c : Copying m D N x e es vs kinds terms last kept b) where
  -- the book, the path in hand, and the paths queued
  abbrev book : Book
  book = c.hand.book

  abbrev path : Path
  path = c.hand.taken

  abbrev rest : List Path
  rest = c.hand.rest

  -- the values that it sees of its last block, and the next word, as the reader finds it
  abbrev pub seen : List ℤ
  seen = vals_of (view_of c.hand.arrays path) (block_at book b).j

  abbrev next : Option Word
  next = next_after (own_word book path b) book seen path.earlier b

  -- ---- what the search needs

  copy-tabled : BlockTabled book b kinds terms last.start last.height
  copy-tabled =
      let o = c.own.block in
      record { valid = c.booked.valid; inside = o.within; tabled = c.booked.tabled; first = o.start; height = o.height }

  row : Row book x.rows (slot_at e) path
  row = taken-row c.hand.stands

  low : last.height ≤ book.m
  low =
      let o = c.own.block in
      omega (arith, o.height, place-own book c.booked.valid b o.within, place-most book c.booked.valid b o.within)

  pub copy-low : last.height ≤ m
  copy-low = omega (arith, low, c.hand.deep)

  -- the id in the row, and the values of its array
  id-is : id_at x.rows (slot_at e) last.height ≡ path.ids last.height
  unfolding HasIds
  id-is = row.ids last.height low

  id-ok : Id N (path.ids last.height)
  unfolding All
  id-ok = record { some = c.own.fit.has last.height (omega (arith, c.own.block.height)) low; most = c.hand.stands.housed.0 last.height low }

  pub copy-id : N ≤ 256 → Id 256 (id_at x.rows (slot_at e) last.height)
  copy-id top = record { some = omega (arith, id-is, id-ok.some); most = omega (arith, id-is, id-ok.most) }

  values-are : part (spot m (id_at x.rows (slot_at e) last.height) last.height) (2 ^ last.height) x.numbers
      ≡ vals_of (view_of c.hand.arrays path) (block_at book b).j
  unfolding Parts
  values-are =
      let h : ℕ = last.height in
      ap₂ (λ (k i : ℕ). part (spot k i h) (2 ^ h) x.numbers) (sym c.hand.deep) id-is
      ∙ c.hand.stands.vals h (path.ids h) low id-ok
      ∙ ap (λ (k : ℕ). vals_of (view_of c.hand.arrays path) k) c.own.block.height

  pub copy-searchable : Lent m D N x → Searchable x.numbers (spot m (id_at x.rows (slot_at e) last.height) last.height) kinds last.start last.height
  copy-searchable l =
      record {
        low = block-low book b kinds terms last.start last.height copy-tabled;
        walk = block-walkable book b kinds terms last.start last.height copy-tabled;
        within = subst (λ (i : ℕ). spot m i last.height + 2 ^ last.height ≤ length x.numbers) (sym id-is) (spot-room copy-low id-ok x.numbers l.has.numbers);
        small = subst (All (Within 1048064)) (sym values-are) c.own.fit.own;
      }

  pub copy-cost : cell x.rows (slot_at e) cost_at < 4294967295
  copy-cost = omega (arith, row.cost, c.own.fit.total)

  -- ---- what it answers

  -- the answer `found`, at the block's values vs
  abbrev pub Answers : Next → List ℤ → Type 0
  Answers found vs = Nexts book vs path.earlier b (next_after (own_word book path b) book vs path.earlier b) found

  pub copy-found : {found : Next} →
      ((B : Book) (k : ℕ) (p : Path) → BlockTabled B k kinds terms last.start last.height → Bits p.earlier → Row B x.rows (slot_at e) p → p.blocks ≡ suc k →
      (let vs = part (spot m (id_at x.rows (slot_at e) last.height) last.height) (2 ^ last.height) x.numbers in
      let after = next_after (own_word B p k) B vs p.earlier k in
      Keeps kept (slot_at e) (candidate_of B after) → Nexts B vs p.earlier k after found)) →
      Answers found seen
  unfolding Paired
  copy-found {found} q =
      let Found : List ℤ → Type 0 = λ vs. Keeps kept (slot_at e) (candidate_of book (next_after (own_word book path b) book vs path.earlier b)) → Answers found vs in
      subst Found values-are (q book b path copy-tabled c.own.fit.earlier row c.own.blocks) (c.known.0.next b c.own.blocks)

  -- ---- the words kept, of the paths queued

  -- where the queue is cut
  pub copy-kept : Kepts book c.hand.arrays kept (room_for D es) (room_for D rest)
  unfolding Paired room_for
  copy-kept = paired-take _ (D - 2) es rest c.known.1

  -- as many are queued as there are entries
  rest-length : length es ≡ length rest
  rest-length = omega (arith, stands-length c.hand.stands)

  -- no next word: nothing changes
  pub copy-none : {found : Candidate} (n crowded : ℕ) → found ≡ candidate_of book next → found.some ≡ false →
      CopiedTo book D N e path (copy book D c.hand.arrays path rest n (suc b)) crowded (length es) n crowded x es vs kept
  unfolding copy copy_with Paired
  copy-none n crowded is not-one =
      subst (λ (o : Option Word). CopiedTo book D N e path (copy_with book D c.hand.arrays path b rest n o) crowded (length es) n crowded x es vs kept) (sym (none-word book next _ is not-one))
      (rest-length, refl, omega arith, c.hand.stands, c.known.1)

  -- ---- a next word, the queue cut

  -- so many are left, and t is the first vacant slot
  module _ {found : Next} (is : Answers found seen) (there : found.first.some ≡ true) {y : Memory} {left t : ℕ} {qs ws : List ℕ}
      (count : left ≡ length (room_for D rest)) (room : left + 2 ≤ D)
      (st : Stands book D N y (e ∷ qs) (t ∷ ws) c.hand.arrays (path ∷ room_for D rest)) where
    word : Word
    word = (some_word book next found.first is.first there).0

    word-is : next ≡ some word
    unfolding word
    word-is = (some_word book next found.first is.first there).1

    -- what the copy needs
    pub copy-fork : Forking m D N y e t qs ws last found b
    copy-fork =
        record {
          hand = record { book = book; arrays = c.hand.arrays; taken = path; rest = room_for D rest; deep = c.hand.deep; stands = st };
          valid = c.booked.valid;
          own = record { blocks = c.own.blocks; block = c.own.block; fit = c.own.fit };
          word = word;
          is = subst (λ (o : Option Word). Nexts book seen path.earlier b o found) word-is is;
          made = next-number book seen path.earlier b word (own_word book path b) word-is;
          total = c.total word word-is;
          room = omega (arith, count, room);
        }

    -- the paths crowded out
    crowded-is : length es - left ≡ length (numbers (key_of book) (crowded_out D rest))
    unfolding numbers room_for crowded_out
    crowded-is =
        omega (
          arith,
          rest-length,
          count,
          length-map (drop (D - 2) rest) (λ (p : Path). (key_of book p).number),
          ap length (take-append-drop (D - 2) rest),
          length-append (take (D - 2) rest) (drop (D - 2) rest),
        )

    -- the copy, as made among those left, is the reader's
    pub copy_done : (n crowded : ℕ) (kept' : Table) {z : Memory} {qs' : List ℕ} → qs ≡ room_for D es →
        (let o = copy-fork in
        let k = copy_with o.hand.book D o.hand.arrays o.hand.taken b o.hand.rest n (some o.word) in
        Stands o.hand.book D N z (e ∷ qs') ws k.arrays (o.hand.taken ∷ k.queue)
        × (Kepts o.hand.book o.hand.arrays kept qs o.hand.rest → Kepts o.hand.book k.arrays kept' qs' k.queue)) →
        CopiedTo book D N e path (copy book D c.hand.arrays path rest n (suc b)) crowded (suc left) (suc n) (crowded + (length es - left)) z qs' ws kept'
    unfolding copy copy_with room_for copy-fork
    copy_done n crowded kept' {z} {qs'} cut h =
        let twice : room_for D (room_for D rest) ≡ room_for D rest = take-take (D - 2) (D - 2) rest (omega arith) in
        let words = h.1 (subst (λ (l : List ℕ). Kepts book c.hand.arrays kept l (room_for D rest)) (sym cut) copy-kept) in
        subst (λ (o : Option Word). CopiedTo book D N e path (copy_with book D c.hand.arrays path b rest n o) crowded (suc left) (suc n) (crowded + (length es - left)) z qs' ws kept') (sym word-is)
        (ap suc count ∙ sym (insert-length (key_of book) _ (room_for D rest)), refl, omega (arith, crowded-is), rw twice at h.0, rw twice at words)
