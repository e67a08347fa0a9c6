-- What the entries of a queue lose is what the reader's queue loses: memory that stands for paths has their numbers in its entries. Assumes nothing.
use mathlib.Core.Path.{◌≡◌, sym, ap, ◌∙◌, subst₂}
use mathlib.Core.Bool.{cond}
use mathlib.Core.List.{List}
use Prim.Native.Nat.{ℕ}
use lib.Dec.{eqb}
use Rattle.laws.specs.Removes.{Removes}
use Rattle.codebook.specs.Book.{Book}
use Rattle.queue.specs.Queue.{ahead, staying, numbers, visit}
use Rattle.reader.specs.Arrays.{Arrays}
use Rattle.reader.specs.Paths.{Path, key_of}
use Rattle.reader.specs.Reader as R
use Rattle.reader.specs.Moments.{step_at, copy_at, moved_at, queued_at, extract_at}
use Rattle.reader.proofs.Queue.{numbers-paired}
use Rattle.reader.proofs.During.{during-removed}
use Rattle.order.specs.Entries.{key_at}
use Rattle.standing.specs.Seen.{Memory}
use Rattle.standing.specs.Standing.{EntryOf, Stands}
use Rattle.advance.specs.Outruns.{Outrunning}

-- the numbers that entries hold are those of the paths that memory stands for
pub stands-numbers : {B : Book} {D N : ℕ} {x : Memory} {es vs : List ℕ} {A : Arrays} {ps : List Path} → Stands B D N x es vs A ps → numbers key_at es ≡ numbers (key_of B) ps
stands-numbers {B} {x = x} {es = es} {ps = ps} s = numbers-paired key_at (key_of B) (EntryOf B x.rows) (λ d p h. h.key) es ps s.queue

-- ---- step 4

module _ {m L D N k b : ℕ} {x : Memory} {es vs visits : List ℕ} (c : Outrunning m L D N k b x es vs visits) where
  abbrev B : Book
  B = c.queued.book

  -- what stays
  left_is : (extract_at B L D c.here).state.queue ≡ staying (key_of B) L b (visit visits b) c.queued.paths
  unfolding extract_at R.extract queued_at moved_at copy_at staying
  left_is =
      ap (λ i. staying (key_of B) L i (visit c.here.state.visits i) (queued_at B D c.here)) c.block
      ∙ ap (λ v. cond (eqb v L) (ahead (key_of B) b (queued_at B D c.here)) (queued_at B D c.here)) c.visited
      ∙ ap (λ ps. staying (key_of B) L b (visit visits b) ps) c.paths

  -- entries with the numbers of what stays lack what the step gives as outrun
  pub outruns : (es' : List ℕ) → numbers key_at es' ≡ numbers (key_of B) (staying (key_of B) L b (visit visits b) c.queued.paths) →
      Removes (step_at B L D c.here).outrun (numbers key_at es) (numbers key_at es')
  outruns es' q =
      subst₂ (λ (old new : List ℕ). Removes (step_at B L D c.here).outrun old new) (ap (numbers (key_of B)) c.paths ∙ sym (stands-numbers c.queued.stands))
      (ap (numbers (key_of B)) left_is ∙ sym q) (during-removed c.valid c.at c.more).outrun
