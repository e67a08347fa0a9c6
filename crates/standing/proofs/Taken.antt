-- The path in hand, off the memory that stands for it: its entry has its key, and its slot's row holds the rest of it. Assumes nothing.
use mathlib.Core.Path.{◌≡◌, ap}
use mathlib.Core.List.{List, ◌∷◌}
use Prim.Native.Nat.{ℕ}
use Rattle.laws.specs.Pairs.{Paired}
use Rattle.codebook.specs.Book.{Book}
use Rattle.queue.specs.Queue.{Key}
use Rattle.reader.specs.Arrays.{Arrays}
use Rattle.reader.specs.Paths.{Path, key_of}
use Rattle.order.specs.Entries.{key_at, slot_at}
use Rattle.standing.specs.Seen.{Memory}
use Rattle.standing.specs.Standing.{Row, Stands}

module _ {B : Book} {D N : ℕ} {x : Memory} {e : ℕ} {es vs : List ℕ} {A : Arrays} {p : Path} {ps : List Path} (st : Stands B D N x (e ∷ es) vs A (p ∷ ps)) where
  pub taken-row : Row B x.rows (slot_at e) p
  unfolding Paired
  taken-row = st.queue.0.row

  pub taken-key : key_at e ≡ key_of B p
  unfolding Paired
  taken-key = st.queue.0.key

  pub taken-blocks : (key_at e).blocks ≡ p.blocks
  unfolding key_of
  taken-blocks = ap (λ (k : Key). k.blocks) taken-key
