-- Step 3 for the path in hand, once the values of its next block are there: what the search of that block's nearest word needs and answers; and
-- that the path's row and entry, written anew with that word, and the entry put into the queue's order, are the reader's move. Assumes nothing.
use mathlib.Core.Path.{◌≡◌, refl, sym, ap, ap₂, ◌∙◌, subst}
use mathlib.Core.List.{List, ◌∷◌}
use mathlib.Core.Option.{Option, some}
use Prim.Native.Nat.{ℕ, zero, suc, ◌+◌, ◌^◌, ◌≤◌, ◌<◌}
use native.Mathlib.Omega.{arith}
use lib.ListN.{length}
use lib.IntN.{ℤ, pos, neg_ℤ, ◌-ℤ◌}
use Rattle.laws.specs.Lists.{All}
use Rattle.polar.specs.Bits.{number}
use Rattle.polar.specs.Layers.{part, Within}
use Rattle.codebook.specs.Book.{Book, block_at}
use Rattle.queue.specs.Queue.{Key, insert}
use Rattle.outer.specs.declared.Candidate.{Candidate}
use Rattle.outer.specs.Search.{Searchable}
use Rattle.outer.specs.Words.{Word, nearest, next_after}
use Rattle.outer.specs.Blocks.{parity_set, Bits, BlockTabled, candidate_of}
use Rattle.outer.proofs.Entries.{block-low, block-walkable}
use Rattle.reader.specs.Arrays.{Arrays, View, vals_of}
use Rattle.codec.specs.Ties.{Parities}
use Rattle.reader.specs.Paths.{Path, score_of, key_of, last_word, ids_of}
use Rattle.reader.specs.Reader.{next_view, move_with, move}
use Rattle.reader.specs.Fit.{FitFor}
use Rattle.reader.proofs.Descent.{place-own, place-most}
use Rattle.reader.proofs.Found.{nearest-number}
use Rattle.reader.proofs.Next.{next-ready}
use Rattle.order.specs.Entries.{key_at, slot_at, Packed}
use Rattle.sharing.specs.Sharing.{id_at, HasIds}
use Rattle.heights.specs.Workspace.{spot, Id, Parts}
use Rattle.heights.proofs.Spots.{spot-room}
use Rattle.standing.specs.Seen.{Memory, memory, Lent}
use Rattle.standing.specs.Standing.{cell, spent_at, cost_at, parities_at, Row, Stands, with_ids, PutRow, Made}
use Rattle.standing.proofs.Taken.{taken-row, taken-key, taken-blocks}
use Rattle.standing.proofs.Places.{stands-insert}
use Rattle.standing.proofs.Written.{stands-put}
use Rattle.words.specs.Kept.{Table}
use Rattle.words.specs.declared.Block.{Block}
use Rattle.extraction.specs.Extraction.{Thirding}
use Rattle.extraction.proofs.Counts.{blocks-few}

-- a path that is fit has parities that are bits
fit-parities : (B : Book) (A : Arrays) (p : Path) (b : ℕ) → FitFor B A p b → Bits p.parities
unfolding FitFor
fit-parities B A p zero f = f.parities
fit-parities B A p (suc b) f = f.parities

module _ {m D N : ℕ} {x : Memory} {e : ℕ} {es vs kinds terms : List ℕ} {last at : Block} {kept : Table} (c : Thirding m D N x e es vs kinds terms last at kept) where
  abbrev book : Book
  book = c.moving.hand.book

  abbrev path : Path
  path = c.moving.hand.taken

  abbrev rest : List Path
  rest = c.moving.hand.rest

  -- what it sees then
  abbrev pub view : View
  view = next_view book (ids_of rest) c.moving.hand.arrays path path.blocks

  -- the path with the nearest word of its next block
  abbrev pub moved : Path
  moved =
      record {
        number = path.number;
        blocks = suc path.blocks;
        spent = path.spent + path.cost;
        cost = c.word.cost;
        setting = c.word.setting;
        earlier = path.parities;
        parities = c.word.parities;
        ids = view.ids;
      }

  abbrev height : ℕ
  height = (block_at book path.blocks).j

  third-tabled : BlockTabled book path.blocks kinds terms at.start at.height
  third-tabled =
      let o = c.moving.next in
      record { valid = c.booked.valid; inside = o.within; tabled = c.booked.tabled; first = o.start; height = o.height }

  third-parities : Bits path.parities
  third-parities = fit-parities book c.moving.hand.arrays path path.blocks c.moving.fit

  pub third-bias : Within 1048576 at.bias
  third-bias = rw c.moving.next.bias (c.booked.valid.blocks path.blocks c.moving.next.within).bias

  pub third-blocks : (key_at e).blocks < 512
  third-blocks = omega (arith, taken-blocks c.moving.hand.stands, c.moving.next.within, blocks-few book c.booked.valid)

  low : at.height ≤ book.m
  low =
      let o = c.moving.next in
      let ok = c.booked.valid in
      omega (arith, o.height, place-own book ok path.blocks o.within, place-most book ok path.blocks o.within)

  pub third-low : at.height ≤ m
  third-low = omega (arith, low, c.moving.hand.deep)

  -- the values of the block are there, within range
  ready : (1 ≤ view.ids height) × All (Within 1048064) (vals_of view height)
  ready = next-ready book c.booked.valid c.moving.hand.arrays path (ids_of rest) c.moving.next.within c.moving.fit

  -- ---- memory once they are

  module _ {y : Memory} (st : Stands book D N y (e ∷ es) vs view.arrays (with_ids path view.ids ∷ rest)) where
    row : Row book y.rows (slot_at e) (with_ids path view.ids)
    row = taken-row st

    -- the cells read
    pub third-spent : cell y.rows (slot_at e) spent_at ≡ path.spent
    unfolding with_ids
    third-spent = row.spent

    pub third-cost : cell y.rows (slot_at e) cost_at ≡ path.cost
    unfolding with_ids
    third-cost = row.cost

    third-set : cell y.rows (slot_at e) parities_at ≡ parity_set book path.parities
    unfolding with_ids
    third-set = row.parities

    id-is : id_at y.rows (slot_at e) at.height ≡ view.ids at.height
    unfolding HasIds with_ids
    id-is = row.ids at.height low

    id-ok : Id N (view.ids at.height)
    unfolding All with_ids
    id-ok =
        record {
          some = subst (λ (h : ℕ). 1 ≤ view.ids h) (sym c.moving.next.height) ready.0;
          most = st.housed.0 at.height low;
        }

    pub third-id : N ≤ 256 → Id 256 (id_at y.rows (slot_at e) at.height)
    third-id top = record { some = omega (arith, id-is, id-ok.some); most = omega (arith, id-is, id-ok.most) }

    values-are : part (spot m (id_at y.rows (slot_at e) at.height) at.height) (2 ^ at.height) y.numbers ≡ vals_of view height
    unfolding Parts
    values-are =
        let h : ℕ = at.height in
        ap₂ (λ (k i : ℕ). part (spot k i h) (2 ^ h) y.numbers) (sym c.moving.hand.deep) id-is
        ∙ st.vals h (view.ids h) low id-ok
        ∙ ap (λ (k : ℕ). vals_of view k) c.moving.next.height

    pub third-searchable : Lent m D N y → Searchable y.numbers (spot m (id_at y.rows (slot_at e) at.height) at.height) kinds at.start at.height
    third-searchable l =
        record {
          low = block-low book path.blocks kinds terms at.start at.height third-tabled;
          walk = block-walkable book path.blocks kinds terms at.start at.height third-tabled;
          within = subst (λ (i : ℕ). spot m i at.height + 2 ^ at.height ≤ length y.numbers) (sym id-is) (spot-room third-low id-ok y.numbers l.has.numbers);
          small = subst (All (Within 1048064)) (sym values-are) ready.1;
        }

    -- ---- the words found

    -- the next after the nearest
    third-second : {second : Candidate} →
        (let ws = part (spot m (id_at y.rows (slot_at e) at.height) at.height) (2 ^ at.height) y.numbers in
        (w : Word) → nearest book ws path.parities path.blocks ≡ some w → second ≡ candidate_of book (next_after w book ws path.parities path.blocks)) →
        second ≡ candidate_of book (next_after c.word book (vals_of view height) path.parities path.blocks)
    third-second {second} h =
        subst (λ ws. (w : Word) → nearest book ws path.parities path.blocks ≡ some w → second ≡ candidate_of book (next_after w book ws path.parities path.blocks))
        values-are h c.word c.found

    -- both words of a search in slot s, the path's
    pub third-words : {s : ℕ} → s ≡ slot_at e → {first second : Candidate} →
        ((B : Book) (b : ℕ) (set : Parities) → BlockTabled B b kinds terms at.start at.height → Bits set → cell y.rows s parities_at ≡ parity_set B set →
        let ws = part (spot m (id_at y.rows s at.height) at.height) (2 ^ at.height) y.numbers in
        (first ≡ candidate_of B (nearest B ws set b)) × ((w : Word) → nearest B ws set b ≡ some w → second ≡ candidate_of B (next_after w B ws set b))) →
        (first ≡ candidate_of book (nearest book (part (spot m (id_at y.rows (slot_at e) at.height) at.height) (2 ^ at.height) y.numbers) path.parities path.blocks))
        × (second ≡ candidate_of book (next_after c.word book (vals_of view height) path.parities path.blocks))
    third-words q f =
        let both = rw q at (f book path.blocks path.parities third-tabled third-parities (rw q third-set)) in
        (both.0, third-second both.1)

    module _ {found : Candidate}
        (is : found ≡ candidate_of book (nearest book (part (spot m (id_at y.rows (slot_at e) at.height) at.height) (2 ^ at.height) y.numbers) path.parities path.blocks)) where
      third-found : found ≡ candidate_of book (some c.word)
      third-found =
          is ∙ ap (λ vs. candidate_of book (nearest book vs path.parities path.blocks)) values-are
          ∙ ap (candidate_of book) c.found

      cost-is : found.cost ≡ c.word.cost
      unfolding candidate_of
      cost-is = ap (λ (w : Candidate). w.cost) third-found

      pub third-total : cell y.rows (slot_at e) spent_at + cell y.rows (slot_at e) cost_at + found.cost ≤ 1048064
      third-total = omega (arith, third-spent, third-cost, cost-is, c.total)

      word-is : (k : ℕ) → suc path.blocks ≡ suc k → found.number ≡ number (last_word book moved k)
      unfolding candidate_of last_word
      word-is k q =
          let same : path.blocks ≡ k = omega arith in
          ap (λ (w : Candidate). w.number) third-found
          ∙ nearest-number book (vals_of view height) path.parities path.blocks c.word c.found
          ∙ ap (λ (i : ℕ). number (last_word book moved i)) same

      -- its key is the entry's with one block more and the new score
      key-is : {s : ℤ} → s ≡ neg_ℤ (pos (cell y.rows (slot_at e) spent_at + cell y.rows (slot_at e) cost_at + found.cost)) -ℤ at.bias →
          ◌≡◌ {A = Key} (record { score = s; blocks = (key_at e).blocks + 1; number = (key_at e).number }) (key_of book moved)
      unfolding key_of score_of
      key-is {s} q =
          let total : cell y.rows (slot_at e) spent_at + cell y.rows (slot_at e) cost_at + found.cost ≡ path.spent + path.cost + c.word.cost =
          omega (arith, third-spent, third-cost, cost-is) in
          let score : s ≡ score_of book moved (suc path.blocks) = q ∙ ap₂ (λ (k : ℕ) (z : ℤ). neg_ℤ (pos k) -ℤ z) total c.moving.next.bias in
          let blocks : (key_at e).blocks + 1 ≡ suc path.blocks = omega (arith, taken-blocks c.moving.hand.stands) in
          let own : (key_at e).number ≡ path.number = ap (λ (k : Key). k.number) (taken-key c.moving.hand.stands) in
          λ i. record { score = score i; blocks = blocks i; number = own i }

      -- what its entry and its row hold
      third-made : {d : ℕ} → Packed d (key_of book moved) (slot_at e) →
          Made book moved d (slot_at e) (cell y.rows (slot_at e) spent_at + cell y.rows (slot_at e) cost_at) found.cost found.number (cell y.rows (slot_at e) parities_at) found.parities
      unfolding candidate_of
      third-made packed =
          record {
            entry = packed;
            spent = ap₂ (λ (a b : ℕ). a + b) third-spent third-cost;
            cost = cost-is;
            word = word-is;
            earlier = third-set;
            parities = ap (λ (w : Candidate). w.parities) third-found;
          }

      -- ---- the row written, and the entry queued

      pub third-packed : {d : ℕ} {s : ℤ} → s ≡ neg_ℤ (pos (cell y.rows (slot_at e) spent_at + cell y.rows (slot_at e) cost_at + found.cost)) -ℤ at.bias →
          Packed d (record { score = s; blocks = (key_at e).blocks + 1; number = (key_at e).number }) (slot_at e) → Packed d (key_of book moved) (slot_at e)
      third-packed {d} score packed = subst (λ (k : Key). Packed d k (slot_at e)) (key-is score) packed

      pub third-queued : {d : ℕ} {rows' : List ℕ} → Packed d (key_of book moved) (slot_at e) →
          PutRow (slot_at e) y.rows rows' (cell y.rows (slot_at e) spent_at + cell y.rows (slot_at e) cost_at) found.cost found.number (cell y.rows (slot_at e) parities_at) found.parities →
          let k = move book c.moving.hand.arrays path rest in
          Stands book D N (memory rows' y.holders y.numbers y.bytes) (insert key_at d es) vs k.arrays (insert (key_of book) k.path rest)
      unfolding move move_with with_ids
      third-queued {d} {rows'} packed put =
          let Ends : Option Word → Type 0 = λ o.
          let k = move_with c.moving.hand.arrays path view o in
          Stands book D N (memory rows' y.holders y.numbers y.bytes) (insert key_at d es) vs k.arrays (insert (key_of book) k.path rest) in
          subst Ends (sym c.found) (stands-insert (stands-put st c.booked.valid.high put (third-made packed) refl))
