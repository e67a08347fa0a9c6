-- The rows of the table after a change to one slot's: those of the other slots hold what they held, since a row has 16 cells of its own; and the row
-- written holds the path that it was written for. Assumes nothing.
use mathlib.Core.Path.{◌≡◌, ◌∙◌}
use mathlib.Core.List.{List, [], ◌∷◌, map}
use mathlib.Core.Logic.{◌⊎◌, inl, inr, ◌≢◌}
use Prim.Native.Nat.{ℕ, ◌+◌, ◌*◌, ◌≤◌, ◌<◌}
use native.Mathlib.Omega.{arith}
use lib.ListN.{get_or}
use Rattle.laws.specs.Lists.{All}
use Rattle.laws.proofs.Tests.{lt-or}
use Rattle.laws.specs.Pairs.{Paired}
use Rattle.codebook.specs.Book.{Book}
use Rattle.reader.specs.Paths.{Path}
use Rattle.order.specs.Entries.{slot_at}
use Rattle.sharing.specs.Sharing.{id_at, HasIds, Copied}
use Rattle.standing.specs.Seen.{IdsOnly}
use Rattle.standing.specs.Standing.{cell, spent_at, cost_at, word_at, earlier_at, parities_at, Row, EntryOf, PutRow, Made}

-- ---- the other slots

-- every row but that of slot s is as it was
abbrev pub Others : ℕ → List ℕ → List ℕ → Type 0
Others s old new = (t f : ℕ) → s ≢ t → f < 16 → cell new t f ≡ cell old t f

-- what lies before the row of slot s, and what lies behind it, is as it was
others : (s : ℕ) (old new : List ℕ) → ((k : ℕ) → k < s * 16 → get_or new k 0 ≡ get_or old k 0) → ((k : ℕ) → s * 16 + 15 < k → get_or new k 0 ≡ get_or old k 0) →
    Others s old new
unfolding cell
others s old new a b t f n l = go (lt-or t s) (lt-or s t)
  where
    go : (t < s) ⊎ (s ≤ t) → (s < t) ⊎ (t ≤ s) → get_or new (t * 16 + f) 0 ≡ get_or old (t * 16 + f) 0
    go (inl j) k = a (t * 16 + f) (omega arith)
    go (inr j) (inl k) = b (t * 16 + f) (omega arith)
    go (inr j) (inr k) = absurd (n (omega arith))

pub ids-others : {m s : ℕ} {old new : List ℕ} → m ≤ 9 → IdsOnly m s old new → Others s old new
ids-others {m} {s} {old} {new} deep c = others s old new c.before (λ k l. c.after k (omega arith))

pub copied-others : (m s c : ℕ) (old new : List ℕ) → m ≤ 9 → Copied m s c old new → Others c old new
unfolding Copied
copied-others m s c old new deep h = others c old new h.1 (λ k l. h.2 k (omega arith))

pub put-others : {s : ℕ} {old new : List ℕ} {a b c d e : ℕ} → PutRow s old new a b c d e → Others s old new
put-others {s} {old} {new} h = others s old new (λ k l. h.before k (omega arith)) (λ k l. h.after k (omega arith))

-- ---- the paths in other slots

module _ (B : Book) (deep : B.m ≤ 9) (s : ℕ) (old new : List ℕ) (same : Others s old new) where
  row_other : (t : ℕ) (p : Path) → s ≢ t → Row B old t p → Row B new t p
  unfolding HasIds id_at cell
  row_other t p n r =
      record {
        ids = λ h l. same t h n (omega arith) ∙ r.ids h l;
        spent = same t spent_at n (omega arith) ∙ r.spent;
        cost = same t cost_at n (omega arith) ∙ r.cost;
        word = λ b e. same t word_at n (omega arith) ∙ r.word b e;
        earlier = same t earlier_at n (omega arith) ∙ r.earlier;
        parities = same t parities_at n (omega arith) ∙ r.parities;
      }

  pub queue-other : (es : List ℕ) (ps : List Path) → All (λ (t : ℕ). s ≢ t) (map slot_at es) → Paired (EntryOf B old) es ps → Paired (EntryOf B new) es ps
  unfolding All Paired
  queue-other [] [] n q = tt
  queue-other [] (p ∷ ps) n q = absurd q
  queue-other (e ∷ es) [] n q = absurd q
  queue-other (e ∷ es) (p ∷ ps) n q =
      (record { key = q.0.key; small = q.0.small; row = row_other (slot_at e) p n.0 q.0.row }, queue-other es ps n.1 q.1)

-- ---- the path in the slot itself

-- the row of slot s has q's ids, and the rest of q is written to it: it is that of q's entry
pub row_made : {B : Book} {q : Path} {d s a b c f g : ℕ} {old new : List ℕ} → B.m ≤ 9 → HasIds B.m old s q.ids → PutRow s old new a b c f g →
    Made B q d s a b c f g → EntryOf B new d q
unfolding HasIds id_at
row_made {B} {q} {d} {s} {new} deep has put made =
    let row : Row B new s q = record {
      ids = λ h l. put.before (s * 16 + h) (omega arith) ∙ has h l;
      spent = put.spent ∙ made.spent;
      cost = put.cost ∙ made.cost;
      word = λ b e. put.word ∙ made.word b e;
      earlier = put.earlier ∙ made.earlier;
      parities = put.parities ∙ made.parities;
    } in
    record { key = made.entry.key; small = made.entry.low; row = rw made.entry.slot row }
