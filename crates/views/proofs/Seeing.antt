-- The view of a slot's path in memory: what is read by its ids; what it sees after `take`, and then after a write of the array taken. By the
-- counts of the holders (sharing) and the contents of the arrays (heights). Assumes nothing.
use mathlib.Core.Path.{◌≡◌, refl, sym, ap, ◌∙◌, subst, subst₂, fun_ext}
use mathlib.Core.Bool.{Bool, true, false, cond}
use mathlib.Core.List.{List, ◌∷◌}
use Prim.Native.Nat.{ℕ, ◌+◌, ◌*◌, ◌^◌, ◌≤◌}
use native.Mathlib.Omega.{arith}
use lib.ListN.{length, get_or, set, length-map, length-set}
use lib.IntN.{ℤ}
use lib.Dec.{eqb}
use lib.Seq.{get_or-set_other}
use borrow.Author.Tests.{eqb-true}
use Rattle.codec.specs.Ties.{times}
use Rattle.polar.specs.Layers.{part}
use Rattle.reader.specs.Arrays.{View, vals_of, sums_of, upd, store, own_of, writes, put_vals, put_sums, take_array}
use Rattle.reader.proofs.Upd.{upd-self}
use Rattle.sharing.specs.Sharing.{id_at, held_at, Held, HasRow, Shared, Exchanged, HasIds}
use Rattle.sharing.proofs.Counting.{ids_at, counted-first, counted-take, has-take}
use Rattle.heights.specs.Workspace.{spot, Room, Id, Parts}
use Rattle.standing.specs.Seen.{Memory, memory, HasArrays, Seen, IdsOnly}

-- what `take` did: the slot's id of height h is r now, and the holders are counted so
pub record Took (N s h : ℕ) (rows holders rows' holders' : List ℕ) (r : ℕ) : Type 0 where
  pub held : Held holders'
  pub id : Id N r
  pub stored : rows' ≡ set rows (s * 16 + h) r
  pub exchanged : Exchanged h (id_at rows s h) r holders holders'
  pub chosen : (x : Shared holders h N (id_at rows s h)) → r ≡ own_of (id_at rows s h) x.others

pub took : {N s h r : ℕ} {rows holders rows' holders' : List ℕ} → Held holders' × (1 ≤ r) × (r ≤ N) → rows' ≡ set rows (s * 16 + h) r →
    Exchanged h (id_at rows s h) r holders holders' → ((x : Shared holders h N (id_at rows s h)) → r ≡ own_of (id_at rows s h) x.others) →
    Took N s h rows holders rows' holders' r
took a stored exchanged chosen = record { held = a.0; id = record { some = a.1; most = a.2 }; stored = stored; exchanged = exchanged; chosen = chosen }

-- its ids of the other heights are as they were
pub took-other : {N s h r : ℕ} {rows holders rows' holders' : List ℕ} → Took N s h rows holders rows' holders' r → {k : ℕ} → (k ≡ h → ⊥) →
    id_at rows' s k ≡ id_at rows s k
unfolding id_at
took-other {s = s} {h} {r} {rows} t {k} n = ap (λ l. get_or l (s * 16 + k) 0) t.stored ∙ get_or-set_other rows (s * 16 + h) (s * 16 + k) r 0 (λ q. n (omega arith))

-- ---- memory

-- it has as many arrays after a step
pub has_on : {m N s h r : ℕ} {x : Memory} {rows' holders' : List ℕ} (numbers' : List ℤ) (bytes' : List ℕ) → HasArrays m N x →
    Took N s h x.rows x.holders rows' holders' r → length numbers' ≡ length x.numbers → length bytes' ≡ length x.bytes → HasArrays m N (memory rows' holders' numbers' bytes')
unfolding memory Room
has_on numbers' bytes' has t a b =
    record { deep = has.deep; many = has.many; held = t.held; numbers = omega (arith, has.numbers); bytes = omega (arith, has.bytes) }

-- a store at one height
pub ids-only : {m s h : ℕ} (r : ℕ) (rows : List ℕ) {rows' : List ℕ} → h ≤ m → rows' ≡ set rows (s * 16 + h) r → IdsOnly m s rows rows'
ids-only {m} {s} {h} r rows l e =
    record {
      size = ap length e ∙ length-set rows (s * 16 + h) r;
      before = λ k b. rw e (get_or-set_other rows (s * 16 + h) k r 0 (λ q. omega arith));
      after = λ k b. rw e (get_or-set_other rows (s * 16 + h) k r 0 (λ q. omega arith));
    }

-- two steps
pub ids-on : {m s : ℕ} (a b : List ℕ) {d : List ℕ} → IdsOnly m s a b → IdsOnly m s b d → IdsOnly m s a d
ids-on a b p q = record { size = q.size ∙ p.size; before = λ k l. q.before k l ∙ p.before k l; after = λ k l. q.after k l ∙ p.after k l }

-- an array stored as it is
pub store-self : {A : Type 0} (f : ℕ → ℕ → A) (h i : ℕ) → store f h i (f h i) ≡ f
unfolding store
store-self f h i = fun_ext (λ k. go k (eqb k h) refl)
  where
    go : (k : ℕ) (t : Bool) → eqb k h ≡ t → cond t (upd (f k) i (f h i)) (f k) ≡ f k
    go k true e = ap (λ n. upd (f k) i (f n i)) (sym (eqb-true k h e)) ∙ upd-self (f k) i
    go k false e = refl

-- ---- what the path sees

module _ {m N s : ℕ} {x : Memory} {others : List (ℕ → ℕ)} {v : View} (seen : Seen m N s x others v) where
  -- its ids
  pub seen-id : {h : ℕ} → h ≤ m → id_at x.rows s h ≡ v.ids h
  unfolding HasIds
  seen-id {h} l = seen.ids h l

  pub seen-some : {h : ℕ} → h ≤ m → 1 ≤ v.ids h → Id N (id_at x.rows s h)
  seen-some {h} l p = record { some = omega (arith, seen-id l); most = omega (arith, seen-id l, seen.low h l) }

  -- its values and sums
  pub seen-vals : {h : ℕ} → h ≤ m → 1 ≤ v.ids h → part (spot m (id_at x.rows s h) h) (2 ^ h) x.numbers ≡ vals_of v h
  unfolding Parts
  seen-vals {h} l p = seen.vals h (id_at x.rows s h) l (seen-some l p) ∙ ap (v.arrays.vals h) (seen-id l)

  pub seen-sums : {h : ℕ} → h ≤ m → 1 ≤ v.ids h → part (spot m (id_at x.rows s h) h) (2 ^ h) x.bytes ≡ sums_of v h
  unfolding Parts
  seen-sums {h} l p = seen.sums h (id_at x.rows s h) l (seen-some l p) ∙ ap (v.arrays.sums h) (seen-id l)

  -- what `take` requires; the others are those of the list
  pub seen-held : {h : ℕ} → h ≤ m → (i : ℕ) → i ≤ N → held_at x.holders h i ≡ times i (id_at x.rows s h ∷ ids_at h others)
  seen-held {h} l i b =
      counted-first m N x.holders v.ids others h i seen.counted l b ∙ ap (λ k. times i (k ∷ ids_at h others)) (sym (seen-id l))

  abbrev pub seen-shared : {h : ℕ} → h ≤ m → Shared x.holders h N (id_at x.rows s h)
  seen-shared {h} l =
      record {
        others = ids_at h others;
        low = omega (arith, seen-id l, seen.low h l);
        counted = seen-held l;
        few = rw (length-map others (λ (o : ℕ → ℕ). o h)) seen.few;
      }

  -- ---- after it

  module _ {h r : ℕ} {rows' holders' : List ℕ} (has : HasArrays m N x) (b : HasRow s x.rows) (l : h ≤ m) (t : Took N s h x.rows x.holders rows' holders' r) where
    -- the array is the one that the definition chooses
    take-writes : r ≡ writes others h v
    unfolding writes
    take-writes = t.chosen (seen-shared l) ∙ ap (λ i. own_of i (ids_at h others)) (seen-id l)

    still-low : (g : ℕ) → g ≤ m → upd v.ids h r g ≤ N
    unfolding upd
    still-low g k = go (eqb g h)
      where
        go : (b : Bool) → cond b r (v.ids g) ≤ N
        go true = t.id.most
        go false = seen.low g k

    -- it sees what that array held
    pub seen-take : Seen m N s (memory rows' holders' x.numbers x.bytes) others (take_array others h v)
    unfolding memory take_array
    seen-take =
        let e = take-writes in
        record {
          ids =
              subst (λ w. HasIds m w s (upd v.ids h (writes others h v))) (sym (t.stored ∙ ap (set x.rows (s * 16 + h)) e))
              (has-take m x.rows s v.ids h (writes others h v) seen.ids l has.deep b.1);
          low = subst (λ i. (g : ℕ) → g ≤ m → upd v.ids h i g ≤ N) e still-low;
          counted =
              counted-take m N x.holders holders' v.ids others h (writes others h v) seen.counted l has.deep has.many
              (subst₂ (λ i k. Exchanged h i k x.holders holders') (seen-id l) e t.exchanged);
          few = seen.few;
          vals = seen.vals;
          sums = seen.sums;
        }

    -- and what was written there
    pub seen-put : (numbers' : List ℤ) (y : List ℤ) → Parts m N numbers' (store v.arrays.vals h r y) →
        Seen m N s (memory rows' holders' numbers' x.bytes) others (put_vals others h y v)
    unfolding memory take_array put_vals
    seen-put numbers' y p =
        record {
          ids = seen-take.ids;
          low = seen-take.low;
          counted = seen-take.counted;
          few = seen.few;
          vals = subst (λ i. Parts m N numbers' (store v.arrays.vals h i y)) take-writes p;
          sums = seen.sums;
        }

    pub seen-put-sums : (bytes' : List ℕ) (y : List ℕ) → Parts m N bytes' (store v.arrays.sums h r y) →
        Seen m N s (memory rows' holders' x.numbers bytes') others (put_sums others h y v)
    unfolding memory take_array put_sums
    seen-put-sums bytes' y p =
        record {
          ids = seen-take.ids;
          low = seen-take.low;
          counted = seen-take.counted;
          few = seen.few;
          vals = seen.vals;
          sums = subst (λ i. Parts m N bytes' (store v.arrays.sums h i y)) take-writes p;
        }
