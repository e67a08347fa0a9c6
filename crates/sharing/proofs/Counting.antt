-- The holders stay counted while paths take arrays, are added, let go and change places in a list; and a row's ids after a store. What a list of
-- paths counts is a sum, in which each path adds one at each of its ids. Assumes nothing.
use mathlib.Core.Path.{◌≡◌, refl, sym, ◌∙◌}
use mathlib.Core.Bool.{Bool, true, false, cond}
use mathlib.Core.List.{List, [], ◌∷◌, ◌++◌, map}
use Prim.Native.Nat.{ℕ, ◌+◌, ◌*◌, ◌≤◌}
use native.Mathlib.Omega.{arith}
use lib.ListN.{length, set}
use lib.Dec.{eqb}
use lib.Seq.{get_or-set_same, get_or-set_other}
use borrow.Author.Tests.{eqb-true, eqb-false}
use Rattle.codec.specs.Ties.{times}
use Rattle.queue.specs.Queue.{Key, before, insert}
use Rattle.reader.specs.Arrays.{upd}
use Rattle.reader.proofs.Upd.{upd_same, upd_other}
use Rattle.sharing.specs.Sharing.{id_at, held_at, one, MoreBy, LessBy, Exchanged, HasIds, Counted}
use Rattle.sharing.proofs.Choice.{times-here}

-- ---- what a list of paths counts

-- the paths' ids at a height
abbrev pub ids_at : ℕ → List (ℕ → ℕ) → List ℕ
ids_at h paths = map (λ (o : ℕ → ℕ). o h) paths

times-cons : (i k : ℕ) (ks : List ℕ) → times i (k ∷ ks) ≡ one k i + times i ks
unfolding times one
times-cons i k ks = refl

times-few : (i h : ℕ) (paths : List (ℕ → ℕ)) → times i (ids_at h paths) ≤ length paths
unfolding times
times-few i h [] = omega arith
times-few i h (o ∷ os) = go (eqb (o h) i) (times-few i h os)
  where
    go : (b : Bool) → times i (ids_at h os) ≤ length os → cond b 1 0 + times i (ids_at h os) ≤ length (o ∷ os)
    go true l = omega arith
    go false l = omega arith

-- a path in the middle counts as it does in front
times-move : (i h : ℕ) (xs : List (ℕ → ℕ)) (o : ℕ → ℕ) (ys : List (ℕ → ℕ)) → times i (ids_at h (xs ++ o ∷ ys)) ≡ times i (ids_at h (o ∷ xs ++ ys))
unfolding times
times-move i h [] o ys = refl
times-move i h (x ∷ xs) o ys = omega (arith, times-move i h xs o ys)

-- and so does a path that is put into its place in the order
times-insert : {A : Type 0} (key : A → Key) (ids : A → ℕ → ℕ) (i h : ℕ) (p : A) (qs : List A) →
    times i (ids_at h (map ids (insert key p qs))) ≡ times i (ids_at h (ids p ∷ map ids qs))
unfolding times insert
times-insert key ids i h p [] = refl
times-insert key ids i h p (q ∷ qs) = go (before (key p) (key q)) (times-insert key ids i h p qs)
  where
    go : (b : Bool) → times i (ids_at h (map ids (insert key p qs))) ≡ times i (ids_at h (ids p ∷ map ids qs)) →
        times i (ids_at h (map ids (cond b (p ∷ q ∷ qs) (q ∷ insert key p qs)))) ≡ times i (ids_at h (ids p ∷ ids q ∷ map ids qs))
    go true ih = refl
    go false ih = omega arith

-- ---- the holders of a list of paths

module _ (m N : ℕ) (holders : List ℕ) where
  -- lists that count alike
  counted-like : (ps qs : List (ℕ → ℕ)) → ((h i : ℕ) → times i (ids_at h ps) ≡ times i (ids_at h qs)) → Counted m N holders ps → Counted m N holders qs
  unfolding Counted
  counted-like ps qs e c = λ h i l k. c h i l k ∙ e h i

  pub counted-forward : (xs : List (ℕ → ℕ)) (o : ℕ → ℕ) (ys : List (ℕ → ℕ)) → Counted m N holders (xs ++ o ∷ ys) → Counted m N holders (o ∷ xs ++ ys)
  counted-forward xs o ys c = counted-like (xs ++ o ∷ ys) (o ∷ xs ++ ys) (λ h i. times-move i h xs o ys) c

  module _ {A : Type 0} (key : A → Key) (ids : A → ℕ → ℕ) (p : A) (qs : List A) where
    pub counted-insert : Counted m N holders (ids p ∷ map ids qs) → Counted m N holders (map ids (insert key p qs))
    counted-insert c = counted-like (ids p ∷ map ids qs) (map ids (insert key p qs)) (λ h i. sym (times-insert key ids i h p qs)) c

  -- no id is counted more often than there are paths
  pub counted-few : (paths : List (ℕ → ℕ)) (h i : ℕ) → Counted m N holders paths → h ≤ m → i ≤ N → held_at holders h i ≤ length paths
  unfolding Counted
  counted-few paths h i c l k = omega (arith, c h i l k, times-few i h paths)

  -- ---- the first path of the list

  module _ (ids : ℕ → ℕ) (others : List (ℕ → ℕ)) where
    -- what its id and the others' count
    pub counted-first : (h i : ℕ) → Counted m N holders (ids ∷ others) → h ≤ m → i ≤ N → held_at holders h i ≡ times i (ids h ∷ ids_at h others)
    unfolding Counted
    counted-first h i c l k = c h i l k

    -- it holds its id
    pub counted-held : (h : ℕ) → Counted m N holders (ids ∷ others) → h ≤ m → ids h ≤ N → 1 ≤ held_at holders h (ids h)
    counted-held h c l k = omega (arith, counted-first h (ids h) c l k, times-here (ids h) (ids_at h others))

-- ---- the holders change, and the paths with them

module _ (m N : ℕ) (holders holders' : List ℕ) (ids : ℕ → ℕ) (others : List (ℕ → ℕ)) where
  -- the first path takes another id
  pub counted-take : (h r : ℕ) → Counted m N holders (ids ∷ others) → h ≤ m → m ≤ 9 → N ≤ 256 → Exchanged h (ids h) r holders holders' →
      Counted m N holders' (upd ids h r ∷ others)
  unfolding Counted Exchanged
  counted-take h r c l tall top x = λ g i a b. go g i a b (eqb g h) refl
    where
      go : (g i : ℕ) → g ≤ m → i ≤ N → (t : Bool) → eqb g h ≡ t → held_at holders' g i ≡ times i (upd ids h r g ∷ ids_at g others)
      go g i a b true e =
          let q : h ≡ g = sym (eqb-true g h e) in
          rw (← q, upd_same) (omega (arith, x.0 i (omega arith), c h i l b, times-cons i (ids h) (ids_at h others), times-cons i r (ids_at h others)))
      go g i a b false e =
          let n : g ≡ h → ⊥ = eqb-false g h e in
          rw (upd_other ids h r g n) (x.1 g i n (omega arith) (omega arith) ∙ c g i a b)

  -- a path with a row's ids is added, or is no more
  pub counted-more : (rows : List ℕ) (s : ℕ) → Counted m N holders others → HasIds m rows s ids → N ≤ 256 → MoreBy (m + 1) rows s holders holders' →
      Counted m N holders' (ids ∷ others)
  unfolding Counted HasIds
  counted-more rows s c has top x =
      λ h i l b. omega (arith, rw (has h l) at (x.done h i (omega arith) (omega arith)), c h i l b, times-cons i (ids h) (ids_at h others))

  pub counted-less : (rows : List ℕ) (s : ℕ) → Counted m N holders (ids ∷ others) → HasIds m rows s ids → N ≤ 256 → LessBy (m + 1) rows s holders holders' →
      Counted m N holders' others
  unfolding Counted HasIds LessBy
  counted-less rows s c has top x =
      λ h i l b. omega (arith, rw (has h l) at (x.done h i (omega arith) (omega arith)), c h i l b, times-cons i (ids h) (ids_at h others))

-- ---- a row's ids after a store

module _ (m : ℕ) (rows : List ℕ) (s : ℕ) (ids : ℕ → ℕ) (h r : ℕ) where
  pub has-take : HasIds m rows s ids → h ≤ m → m ≤ 9 → s * 16 + 16 ≤ length rows → HasIds m (set rows (s * 16 + h) r) s (upd ids h r)
  unfolding HasIds id_at
  has-take has high tall size = λ g l. go g l (eqb g h) refl
    where
      go : (g : ℕ) → g ≤ m → (t : Bool) → eqb g h ≡ t → id_at (set rows (s * 16 + h) r) s g ≡ upd ids h r g
      go g l true e =
          let q : h ≡ g = sym (eqb-true g h e) in
          rw (← q, upd_same) (get_or-set_same rows (s * 16 + h) r 0 (omega arith))
      go g l false e =
          let n : g ≡ h → ⊥ = eqb-false g h e in
          rw (upd_other ids h r g n) (get_or-set_other rows (s * 16 + h) (s * 16 + g) r 0 (λ q. n (omega arith)) ∙ has g l)
