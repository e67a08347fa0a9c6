-- The two tables after a store: what a place holds then, by cases on the place. One turn of the loops that count one path more, or one fewer.
-- Assumes nothing.
use mathlib.Core.Path.{◌≡◌, refl, sym, ap, ◌∙◌}
use mathlib.Core.Bool.{Bool, true, false}
use mathlib.Core.List.{List}
use mathlib.Core.Logic.{◌⊎◌, inl, inr, ⊎_elim}
use Prim.Native.Nat.{ℕ, ◌+◌, ◌-◌, ◌*◌, ◌≤◌, ◌<◌}
use native.Mathlib.Omega.{arith}
use lib.ListN.{length, get_or, set, length-set}
use lib.Dec.{eqb}
use lib.Seq.{get_or-set_same, get_or-set_other}
use borrow.Author.Tests.{eqb-true, eqb-false, eq-eqb}
use Rattle.laws.proofs.Tests.{lt-or}
use Rattle.sharing.specs.Sharing.{id_at, held_at, low_at, Held, one, OneLess, MoreBy, Exchanged}

one_same : (i : ℕ) → one i i ≡ 1
unfolding one
one_same i = rw (eq-eqb i i refl)

-- ---- a store in the table of holders

-- at another height
held-apart : (l : List ℕ) (h i v g x : ℕ) → i ≤ 256 → x ≤ 256 → (g ≡ h → ⊥) → held_at (set l (h * 257 + i) v) g x ≡ held_at l g x
unfolding held_at
held-apart l h i v g x bi bx n = get_or-set_other l (h * 257 + i) (g * 257 + x) v 0 (λ e. n (omega arith))

-- at the same height: the id is the one stored at, or another
record Here (new : List ℕ) (h i v x : ℕ) : Type 0 where
  now-is : held_at new h x ≡ v
  this : x ≡ i
  is_one : one i x ≡ 1

record Elsewhere (old new : List ℕ) (h i x : ℕ) : Type 0 where
  kept : held_at new h x ≡ held_at old h x
  no_one : one i x ≡ 0

held-set : (l : List ℕ) (h i v x : ℕ) → length l ≡ 2580 → h ≤ 9 → i ≤ 256 → x ≤ 256 →
    Here (set l (h * 257 + i) v) h i v x ⊎ Elsewhere l (set l (h * 257 + i) v) h i x
unfolding held_at one
held-set l h i v x s bh bi bx = go (eqb i x) refl
  where
    go : (b : Bool) → eqb i x ≡ b → Here (set l (h * 257 + i) v) h i v x ⊎ Elsewhere l (set l (h * 257 + i) v) h i x
    go true e =
        let q : x ≡ i = sym (eqb-true i x e) in
        inl record {
          now-is = rw q (get_or-set_same l (h * 257 + i) v 0 (omega arith));
          this = q;
          is_one = rw e;
        }
    go false e =
        inr record {
          kept = get_or-set_other l (h * 257 + i) (h * 257 + x) v 0 (λ q. eqb-false i x e (omega arith));
          no_one = rw e;
        }

-- ---- the numbers where the search begins

-- a store of one of them leaves the counts as they are
pub held-past : (l : List ℕ) (h v g x : ℕ) → g ≤ 9 → x ≤ 256 → held_at (set l (2570 + h) v) g x ≡ held_at l g x
unfolding held_at
held-past l h v g x bg bx = get_or-set_other l (2570 + h) (g * 257 + x) v 0 (λ e. omega arith)

-- one of them stored, where each id below it is held
pub held_low : (l : List ℕ) (h v : ℕ) → Held l → h ≤ 9 → ((k : ℕ) → 1 ≤ k → k ≤ 256 → k < v → 1 ≤ held_at l h k) → Held (set l (2570 + h) v)
unfolding low_at
held_low l h v a bh f = record { size = length-set l (2570 + h) v ∙ a.size; below = λ g k bg some most b. go g k bg some most b (eqb g h) refl }
  where
    go : (g k : ℕ) → g ≤ 9 → 1 ≤ k → k ≤ 256 → k < get_or (set l (2570 + h) v) (2570 + g) 0 → (t : Bool) → eqb g h ≡ t → 1 ≤ held_at (set l (2570 + h) v) g k
    go g k bg some most b true e =
        let q : g ≡ h = eqb-true g h e in
        let now-is : get_or (set l (2570 + h) v) (2570 + g) 0 ≡ v = rw q (get_or-set_same l (2570 + h) v 0 (omega (arith, a.size))) in
        omega (arith, held-past l h v g k bg most, ap (λ (y : ℕ). held_at l y k) q, f k some most (omega (arith, now-is)))
    go g k bg some most b false e =
        let kept : get_or (set l (2570 + h) v) (2570 + g) 0 ≡ get_or l (2570 + g) 0 = get_or-set_other l (2570 + h) (2570 + g) v 0 (λ q. eqb-false g h e (omega arith)) in
        omega (arith, held-past l h v g k bg most, a.below g k bg some most (omega (arith, kept)))

-- a count stored, which is some where the id is one of those below
pub held-count : (l : List ℕ) (h i v : ℕ) → Held l → h ≤ 9 → i ≤ 256 → (1 ≤ i → i < low_at l h → 1 ≤ v) → Held (set l (h * 257 + i) v)
unfolding low_at
held-count l h i v a bh bi f = record { size = length-set l (h * 257 + i) v ∙ a.size; below = λ g k bg some most b. go g k bg some most (kept g k b) (eqb g h) refl }
  where
    kept : (g k : ℕ) → k < get_or (set l (h * 257 + i) v) (2570 + g) 0 → k < get_or l (2570 + g) 0
    kept g k b = omega (arith, get_or-set_other l (h * 257 + i) (2570 + g) v 0 (λ q. omega arith))

    here : (k : ℕ) → 1 ≤ k → k ≤ 256 → k < get_or l (2570 + h) 0 → Here (set l (h * 257 + i) v) h i v k ⊎ Elsewhere l (set l (h * 257 + i) v) h i k → 1 ≤ held_at (set l (h * 257 + i) v) h k
    here k some most b (inl p) = omega (arith, p.now-is, f (omega (arith, p.this)) (omega (arith, p.this)))
    here k some most b (inr p) = omega (arith, p.kept, a.below h k bh some most b)

    go : (g k : ℕ) → g ≤ 9 → 1 ≤ k → k ≤ 256 → k < get_or l (2570 + g) 0 → (t : Bool) → eqb g h ≡ t → 1 ≤ held_at (set l (h * 257 + i) v) g k
    go g k bg some most b true e =
        let q : g ≡ h = eqb-true g h e in
        rw q (here k some most (rw q at b) (held-set l h i v k a.size bh bi most))
    go g k bg some most b false e = omega (arith, held-apart l h i v g k bi most (eqb-false g h e), a.below g k bg some most b)

-- a number lowered to an id, and then that id counted once less
pub held-drop : (l : List ℕ) (h i v : ℕ) → Held l → h ≤ 9 → i ≤ 256 → 1 ≤ held_at l h i → v ≤ low_at l h → v ≤ i →
    let l' = set l (2570 + h) v in
    let l'' = set l' (h * 257 + i) (held_at l' h i - 1) in
    Held l'' × OneLess h i l l''
unfolding OneLess low_at
held-drop l h i v a bh bi some low id =
    let l' : List ℕ = set l (2570 + h) v in
    let a' : Held l' = held_low l h v a bh (λ k s m b. a.below h k bh s m (omega arith)) in
    let now-is : get_or l' (2570 + h) 0 ≡ v = get_or-set_same l (2570 + h) v 0 (omega (arith, a.size)) in
    let w : ℕ = held_at l' h i - 1 in (
      held-count l' h i w a' bh bi (λ s b. absurd (omega (arith, now-is))),
      (
        λ x b.
            ⊎_elim (λ p. omega (arith, held-past l h v h x bh b, held-past l h v h i bh bi, ap (held_at l h) p.this))
            (λ p. omega (arith, held-past l h v h x bh b)) (held-set l' h i w x a'.size bh bi b),
        λ g x n bg b. held-apart l' h i w g x bi b n ∙ held-past l h v g x bg b,
      ),
    )

-- ---- a holder of one id takes another

pub exchange-none : (h i : ℕ) (l : List ℕ) → Exchanged h i i l l
unfolding Exchanged
exchange-none h i l = (λ x b. refl, λ g x n b c. refl)

-- one that none holds
pub exchange-free : (l : List ℕ) (h i r v : ℕ) → length l ≡ 2580 → h ≤ 9 → i ≤ 256 → r ≤ 256 → v + 1 ≡ held_at l h i → held_at l h r ≡ 0 →
    Exchanged h i r l (set (set l (h * 257 + i) v) (h * 257 + r) 1)
unfolding Exchanged
exchange-free l h i r v s bh bi br e f = (
  λ x b. go x (held-set l h i v x s bh bi b) (held-set l' h r 1 x (length-set l (h * 257 + i) v ∙ s) bh br b),
  λ g x n bg b. held-apart l' h r 1 g x br b n ∙ held-apart l h i v g x bi b n,
)
  where
    l' : List ℕ
    l' = set l (h * 257 + i) v

    go : (x : ℕ) → Here l' h i v x ⊎ Elsewhere l l' h i x → Here (set l' (h * 257 + r) 1) h r 1 x ⊎ Elsewhere l' (set l' (h * 257 + r) 1) h r x →
        held_at (set l' (h * 257 + r) 1) h x + one i x ≡ held_at l h x + one r x
    go x (inl p) (inl q) = absurd (omega (arith, ap (held_at l h) p.this, ap (held_at l h) q.this))
    go x (inl p) (inr q) = omega (arith, ap (held_at l h) p.this)
    go x (inr p) (inl q) = omega (arith, ap (held_at l h) q.this)
    go x (inr p) (inr q) = omega arith

-- and from there on the search begins behind it
pub taken_free : (l : List ℕ) (h i r v : ℕ) → Held l → h ≤ 9 → i ≤ 256 → r ≤ 256 → v + 1 ≡ held_at l h i → (1 ≤ i → 1 ≤ v) → held_at l h r ≡ 0 →
    ((k : ℕ) → 1 ≤ k → k < r → 1 ≤ held_at l h k) →
    let l' = set (set (set l (h * 257 + i) v) (h * 257 + r) 1) (2570 + h) (r + 1) in
    Held l' × Exchanged h i r l l'
unfolding Exchanged
taken_free l h i r v a bh bi br e some f below =
    let t = exchange-free l h i r v a.size bh bi br e f in (
      held_low l₂ h (r + 1) a₂ bh (λ k s m b. at k s m (lt-or k r) (held-set l₁ h r 1 k a₁.size bh br m) b),
      (λ x b. omega (arith, held-past l₂ h (r + 1) h x bh b, t.0 x b), λ g x n bg b. held-past l₂ h (r + 1) g x bg b ∙ t.1 g x n bg b),
    )
  where
    l₁ : List ℕ
    l₁ = set l (h * 257 + i) v

    l₂ : List ℕ
    l₂ = set l₁ (h * 257 + r) 1

    a₁ : Held l₁
    a₁ = held-count l h i v a bh bi (λ s _. some s)

    a₂ : Held l₂
    a₂ = held-count l₁ h r 1 a₁ bh br (λ _ _. omega arith)

    own : (k : ℕ) → 1 ≤ k → 1 ≤ held_at l h k → Here l₁ h i v k ⊎ Elsewhere l l₁ h i k → 1 ≤ held_at l₁ h k
    own k s b (inl p) = omega (arith, p.now-is, some (omega (arith, p.this)))
    own k s b (inr p) = omega (arith, p.kept)

    at : (k : ℕ) → 1 ≤ k → k ≤ 256 → (k < r) ⊎ (r ≤ k) → Here l₂ h r 1 k ⊎ Elsewhere l₁ l₂ h r k → k < r + 1 → 1 ≤ held_at l₂ h k
    at k s m c (inl p) b = omega (arith, p.now-is)
    at k s m (inl c) (inr p) b = omega (arith, p.kept, own k s (below k s c) (held-set l h i v k a.size bh bi m))
    at k s m (inr c) (inr p) b =
        let q : k ≡ r = omega arith in
        absurd (omega (arith, p.no_one, ap (one r) q, one_same r))

-- ---- one path more, height by height

pub more-none : (rows : List ℕ) (s : ℕ) (l : List ℕ) → MoreBy 0 rows s l l
more-none rows s l = record { done = λ g x h. absurd (omega arith); rest = λ g x h b c. refl }

module _ {n s : ℕ} {rows : List ℕ} where
  more-next : {old new : List ℕ} (old' new' : List ℕ) → n ≤ 9 → MoreBy n rows s old new →
      ((x : ℕ) → x ≤ 256 → held_at new' n x ≡ held_at old' n x + one (id_at rows s n) x) →
      ((g x : ℕ) → (g ≡ n → ⊥) → g ≤ 9 → x ≤ 256 → (held_at old' g x ≡ held_at old g x) × (held_at new' g x ≡ held_at new g x)) → MoreBy (n + 1) rows s old' new'
  more-next old' new' top t here apart =
      record {
        done = λ g x l b. go g x b (lt-or g n) l;
        rest = λ g x l k b. omega (arith, apart g x (λ e. omega arith) k b, t.rest g x (omega arith) k b);
      }
    where
      go : (g x : ℕ) → x ≤ 256 → (g < n) ⊎ (n ≤ g) → g < n + 1 → held_at new' g x ≡ held_at old' g x + one (id_at rows s g) x
      go g x b (inl l) k = omega (arith, apart g x (λ e. omega arith) (omega arith) b, t.done g x l b)
      go g x b (inr l) k =
          let e : g ≡ n = omega arith in
          rw e (here x b)

  module _ {l fixed : List ℕ} {i : ℕ} (size : length l ≡ 2580) (top : n ≤ 9) (id : id_at rows s n ≡ i) (low : i ≤ 256) where
    -- the table that counts it gets the next height's id
    pub more-add : MoreBy n rows s fixed l → MoreBy (n + 1) rows s fixed (set l (n * 257 + i) (held_at l n i + 1))
    more-add t =
        more-next fixed (set l (n * 257 + i) (held_at l n i + 1)) top t
        (λ x b. let e = t.rest n x (omega arith) top b in
        rw id (⊎_elim (λ p. omega (arith, ap (held_at l n) p.this)) (λ p. omega arith) (held-set l n i (held_at l n i + 1) x size top low b)))
        (λ g x e _ b. (refl, held-apart l n i (held_at l n i + 1) g x low b e))

  -- the table that does not count it loses the next height's id
  pub more-drop : {l l' fixed : List ℕ} → n ≤ 9 → OneLess n (id_at rows s n) l l' → MoreBy n rows s l fixed → MoreBy (n + 1) rows s l' fixed
  unfolding OneLess
  more-drop {l} {l'} {fixed} top less t =
      more-next l' fixed top t (λ x b. omega (arith, less.0 x b, t.rest n x (omega arith) top b)) (λ g x e k b. (less.1 g x e k b, refl))
