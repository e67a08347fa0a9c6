-- How many paths and slots there are: a path for each entry, and D entries and vacant slots together, each slot once. By
-- induction on the queue. Assumes nothing.
use mathlib.Core.Path.{◌≡◌}
use mathlib.Core.List.{List, ◌∷◌, map}
use mathlib.Core.Logic.{◌≢◌}
use Prim.Native.Nat.{ℕ, suc, ◌+◌, ◌<◌}
use native.Mathlib.Omega.{arith}
use lib.ListN.{length}
use Rattle.laws.specs.Lists.{All, Distinct}
use Rattle.laws.proofs.Pairs.{paired-length}
use Rattle.codebook.specs.Book.{Book}
use Rattle.reader.specs.Arrays.{Arrays}
use Rattle.reader.specs.Paths.{Path}
use Rattle.order.specs.Entries.{slot_at}
use Rattle.standing.specs.Seen.{Memory}
use Rattle.standing.specs.Standing.{EntryOf, Stands}
use Rattle.standing.proofs.Slots.{all-forward}

pub stands-length : {B : Book} {D N : ℕ} {x : Memory} {es vs : List ℕ} {A : Arrays} {ps : List Path} → Stands B D N x es vs A ps → length es ≡ length ps
stands-length {B} {x} {es} {ps} st = paired-length (EntryOf B x.rows) es ps st.queue

-- with a path in hand, the others are fewer than D, and D - 1 slots are another's or vacant
pub stands-room : {B : Book} {D N : ℕ} {x : Memory} {e : ℕ} {es vs : List ℕ} {A : Arrays} {p : Path} {ps : List Path} → Stands B D N x (e ∷ es) vs A (p ∷ ps) →
    (length ps < D) × (suc (length es + length vs) ≡ D)
stands-room st = (omega (arith, stands-length st), omega arith)

-- the slot of the path in hand is one of the first D
pub slot-low : {B : Book} {D N : ℕ} {x : Memory} {e : ℕ} {es vs : List ℕ} {A : Arrays} {ps : List Path} → Stands B D N x (e ∷ es) vs A ps → slot_at e < D
unfolding All
slot-low st = st.slots.0

-- a vacant slot is another, and one of the first D
pub slots_apart : {B : Book} {D N : ℕ} {x : Memory} {e t : ℕ} {es vs : List ℕ} {A : Arrays} {ps : List Path} → Stands B D N x (e ∷ es) (t ∷ vs) A ps →
    (slot_at e ≡ t → ⊥) × (t < D)
unfolding All Distinct
slots_apart {e} {t} {es} {vs} st = ((all-forward (λ (s : ℕ). slot_at e ≢ s) (map slot_at es) t vs st.apart.0).0, st.vacant.0)
