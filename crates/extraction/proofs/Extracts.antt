-- One extraction at a moment of a run: the path in hand is fit for its copy, and after it for its next block, which has a nearest word; the totals are within range; step 4 finds what
-- the reader's finds; and what the three steps leave is the reader's extraction. Assumes nothing.
use mathlib.Core.Path.{◌≡◌, refl, sym, ap, ◌∙◌, subst}
use mathlib.Core.List.{List}
use Prim.Native.Nat.{ℕ, suc, ◌+◌, ◌≤◌, ◌<◌}
use native.Mathlib.Omega.{arith}
use lib.ListN.{length, get_or, length-map, length-set}
use Rattle.codebook.specs.Book.{Book}
use Rattle.queue.specs.Queue.{insert, staying, outrun_by, numbers, visit}
use Rattle.reader.specs.Arrays.{Arrays}
use Rattle.reader.specs.Paths.{Path, key_of, ids_of}
use Rattle.reader.specs.Reader.{Cut, copy, Moved, move, Extracted, extract}
use Rattle.reader.specs.Moments.{RunMoment, copy_at, moved_at, queued_at}
use Rattle.reader.proofs.Fit.{fit-copied}
use Rattle.reader.proofs.Found.{MoveFound}
use Rattle.reader.proofs.During.{during-fit, during-move}
use Rattle.order.specs.Entries.{key_at, queue_of}
use Rattle.standing.specs.Seen.{Memory}
use Rattle.standing.specs.Standing.{Stands}
use Rattle.standing.proofs.Taken.{taken-blocks}
use Rattle.words.specs.declared.Block.{Block}
use Rattle.words.specs.Kept.{Table, Kepts}
use Rattle.words.proofs.Kepts.{kepts-staying}
use Rattle.steps.specs.Steps.{CopiedTo}
use Rattle.advance.specs.Outruns.{Outrunning}
use Rattle.extraction.specs.Extraction.{moment_in, Seconding, Thirding, Extracting}
use Rattle.extraction.proofs.Counts.{blocks-few}

-- a visit counted leaves as many counts
pub visit-length : (visits : List ℕ) (b : ℕ) → length (visit visits b) ≡ length visits
unfolding visit
visit-length visits b = length-set visits b (suc (get_or visits b 0))

module _ {m L D N k n : ℕ} {x : Memory} {e : ℕ} {es vs kinds terms : List ℕ} {last at : Block} {kept : Table} {counts : List ℕ} (c : Extracting m L D N k n x e es vs kinds terms last at kept counts) where
  abbrev book : Book
  book = c.hand.book

  abbrev arrays : Arrays
  arrays = c.hand.arrays

  abbrev path : Path
  path = c.hand.taken

  abbrev rest : List Path
  rest = c.hand.rest

  pub extract-blocks : (key_at e).blocks < 512
  extract-blocks = omega (arith, taken-blocks c.hand.stands, c.next.within, blocks-few book c.booked.valid)

  -- ---- step 2

  -- the path has a next block
  extract-more : path.blocks ≡ length book.blocks → ⊥
  extract-more q = omega (arith, c.next.within, q)

  pub extract-seconding : Seconding m L D N k n x e es vs kinds terms last kept
  extract-seconding =
      record {
        hand = c.hand;
        booked = c.booked;
        visits = c.visits;
        moment = c.moment;
        more = extract-more;
        last-is = c.last-is;
        known = c.known;
      }

  -- the copy; the crowded before and after; and the memory that stands for it
  module _ (two : 2 ≤ D) (before : ℕ) (kept' : Table) {queued n' crowded : ℕ} {y : Memory} {qs ws : List ℕ}
      (done : let o = extract-seconding in
      let k = copy o.hand.book D o.hand.arrays o.hand.taken o.hand.rest n o.hand.taken.blocks in
      CopiedTo o.hand.book D N e o.hand.taken k before queued n' crowded y qs ws kept') where
    abbrev second : Cut
    second = copy book D arrays path rest n path.blocks

    -- ---- step 3

    pub extract-thirding : Thirding m D N y e qs ws kinds terms last at kept'
    unfolding extract-seconding
    extract-thirding =
        let ok = c.booked.valid in
        let found : MoveFound book (ids_of second.queue) second.arrays path = during-move ok c.moment two c.next.within n in
        record {
          moving =
              record {
                hand = record { book = book; arrays = second.arrays; taken = path; rest = second.queue; deep = c.hand.deep; stands = done.3 };
                valid = ok;
                next = c.next;
                last-is = c.last-is;
                fit = fit-copied book D arrays path rest n path.blocks (during-fit ok c.moment two);
              };
          known = done.4;
          booked = c.booked;
          word = found.0;
          found = found.1;
          total = found.2;
        }

    -- the memory and the words kept then, with the entries qs' queued
    abbrev pub MovedTo : Memory → List ℕ → Table → Type 0
    MovedTo z qs' words =
        let h = extract-thirding.moving.hand in
        let k = move h.book h.arrays h.taken h.rest in
        Stands h.book D N z qs' ws k.arrays (insert (key_of h.book) k.path h.rest)
        × Kepts h.book k.arrays words qs' (insert (key_of h.book) k.path h.rest)

    -- the queue is one longer
    pub extract-moved : (z : Memory) (order : List ℕ) (words : Table) (queued : ℕ) → MovedTo z (queue_of order (suc queued)) words → MovedTo z (queue_of order (queued + 1)) words
    extract-moved z order words queued = subst (λ (i : ℕ). MovedTo z (queue_of order i) words) (omega arith)

    module _ {z : Memory} {qs' : List ℕ} (words : Table) (moved : MovedTo z qs' words) where
      abbrev third : Moved
      third = move book second.arrays path second.queue

      -- ---- step 4

      pub extract-outrunning : (k' : ℕ) → k' ≡ k → (b : ℕ) → b ≡ (key_at e).blocks → Outrunning m L D N k' b z qs' ws counts
      unfolding extract-thirding queued_at moved_at copy_at
      extract-outrunning k' d b q =
          let same : path.blocks ≡ b = sym (q ∙ taken-blocks c.hand.stands) in
          record {
            queued =
                record { book = book; arrays = third.arrays; paths = insert (key_of book) third.path second.queue; deep = c.hand.deep; stands = moved.0 };
            valid = c.booked.valid;
            here = moment_in c.hand n c.visits;
            at = subst (λ i. RunMoment book L D i (moment_in c.hand n c.visits)) (sym d) c.moment;
            more = extract-more;
            block = same;
            paths = refl;
            visited = subst (λ i. get_or (visit c.visits i) i 0 ≡ get_or (visit counts i) i 0) same c.visited;
          }

      -- what the extraction has to come to
      abbrev Comes : List ℕ → ℕ → ℕ → ℕ → Memory → List ℕ → List ℕ → Extracted → Type 0
      Comes visits left gone outrun w es' vs' k =
          (left ≡ length k.state.queue) × (n' ≡ k.state.next) × (visits ≡ k.state.visits)
          × (crowded ≡ before + length k.step.crowded) × (outrun ≡ gone + length k.step.outrun)
          × Stands book D N w es' vs' k.state.arrays k.state.queue × Kepts book k.state.arrays words es' k.state.queue

      pub extract-done : (gone b : ℕ) {left outrun : ℕ} {w : Memory} {es' vs' : List ℕ} (q : b ≡ (key_at e).blocks) (k' : ℕ) (d : k' ≡ k) → es' ≡ staying key_at L b (visit counts b) qs' →
          (let o = (extract-outrunning k' d b q).queued in
          let stay = staying (key_of o.book) L b (visit counts b) o.paths in
          (left ≡ length stay) × (outrun ≡ gone + length (outrun_by (key_of o.book) L b (visit counts b) o.paths))
          × Stands o.book D N w es' vs' o.arrays stay) →
          Comes (visit counts b) left gone outrun w es' vs' (extract book L D arrays path rest n counts)
      unfolding extract extract-seconding extract-thirding extract-outrunning numbers
      extract-done gone b {left} {outrun} {w} {es'} {vs'} q k' d stayed h =
          let o = (extract-outrunning k' d b q).queued in
          let same : b ≡ path.blocks = q ∙ taken-blocks c.hand.stands in
          let Left : ℕ → Type 0 = λ i.
          let stay = staying (key_of book) L i (visit counts i) o.paths in
          (left ≡ length stay) × (outrun ≡ gone + length (outrun_by (key_of book) L i (visit counts i) o.paths))
          × Stands book D N w es' vs' third.arrays stay in
          let k : Left path.blocks = subst Left same h in
          let own : es' ≡ staying key_at L path.blocks (visit counts path.blocks) qs' = stayed ∙ ap (λ i. staying key_at L i (visit counts i) qs') same in
          let kepts = kepts-staying book words third.arrays L path.blocks (visit counts path.blocks) qs' o.paths moved.1 in
          let behind : List Path = outrun_by (key_of book) L path.blocks (visit counts path.blocks) o.paths in (
            k.0,
            done.1,
            ap (visit counts) same,
            done.2,
            omega (arith, k.1, length-map behind (λ (p : Path). (key_of book p).number)),
            k.2,
            rw own kepts,
          )
