-- The two least keys of a pass: what they become with the key of one setting more, for each way that the pass goes; both lie among the
-- settings, and keys that agree give the same. By cases on what was found before. Assumes nothing.
use mathlib.Core.Path.{◌≡◌, refl, sym, ap, ap₂, ◌∙◌, subst}
use mathlib.Core.Bool.{Bool, true, false, cond}
use mathlib.Core.Logic.{◌⊎◌, inl, inr}
use mathlib.Core.Option.{Option, none, some}
use Prim.Native.Nat.{ℕ, ◌+◌, ◌/◌, ◌≤◌, ◌<◌}
use native.Mathlib.Numerals.{add-one}
use native.Mathlib.Omega.{arith}
use lib.Dec.{ltb, leb, eqb}
use borrow.Author.Tests.{lt-ltb, le-ltb, le-leb, lt-leb, eq-eqb, ne_eqb}
use Rattle.laws.specs.Lists.{May}
use Rattle.laws.proofs.Tests.{lt-or}
use Rattle.machine.specs.Choice.{choose, first_of}
use Rattle.passes.specs.declared.Two.{Two}
use Rattle.outer.specs.Search.{key_of, tried, lesser, least_from}
use Rattle.passes.specs.Pass.{opened, above, after_first, found_key, found_setting, two_of, two_least}
use Rattle.outer.proofs.Least.{least-below, least-like, least-same, Chosen, least-chosen}

-- a key is below the greatest number
pub key-lt : {cost number x : ℕ} → cost < 4294967295 → number < 4294967296 → key_of cost number ≡ x → x < 18446744073709551615
unfolding key_of
key-lt h f e = omega arith

-- ---- the least key from a bound on, with one setting more

module _ (k : ℕ → ℕ) (b n : ℕ) where
  more : least_from k b (n + 1) ≡ choose (lesser k) (leb b (k n)) n (least_from k b n)
  unfolding least_from first_of tried
  more = rw add-one

  -- a key below the bound
  skipped : k n < b → least_from k b (n + 1) ≡ least_from k b n
  unfolding choose
  skipped h = more ∙ ap (λ (t : Bool). choose (lesser k) t n (least_from k b n)) (lt-leb b (k n) h)

  -- a key that is not below the least
  kept : (y : ℕ) → least_from k b n ≡ some y → k y ≤ k n → least_from k b (n + 1) ≡ some y
  unfolding choose lesser
  kept y e l = go (lt-or (k n) b)
    where
      go : (k n < b) ⊎ (b ≤ k n) → least_from k b (n + 1) ≡ some y
      go (inl h) = skipped h ∙ e
      go (inr h) =
          more ∙ ap₂ (λ (t : Bool) (o : Option ℕ). choose (lesser k) t n o) (le-leb b (k n) h) e
          ∙ ap (λ (t : Bool). some (cond t n y)) (le-ltb (k n) (k y) l)

  -- one that is, from the bound on
  taken : (o : Option ℕ) → least_from k b n ≡ o → b ≤ k n → k n < found_key k o → least_from k b (n + 1) ≡ some n
  unfolding choose lesser found_key
  taken none e h l = more ∙ ap₂ (λ (t : Bool) (o : Option ℕ). choose (lesser k) t n o) (le-leb b (k n) h) e
  taken (some y) e h l =
      more ∙ ap₂ (λ (t : Bool) (o : Option ℕ). choose (lesser k) t n o) (le-leb b (k n) h) e
      ∙ ap (λ (t : Bool). some (cond t n y)) (lt-ltb (k n) (k y) l)

  -- the least from the next key on is the same, where a key is below the least
  passed : (o : Option ℕ) → least_from k b n ≡ o → Chosen k b n o → b ≤ k n → k n < found_key k o → least_from k (k n + 1) n ≡ o
  unfolding found_key
  passed o e c h l = sym (least-like k k b (k n + 1) n (λ v w i j. refl) (λ w i. same o c l w i (lt-or (k w) b))) ∙ e
    where
      same : (o : Option ℕ) → Chosen k b n o → k n < found_key k o → (w : ℕ) → w < n → (k w < b) ⊎ (b ≤ k w) → leb b (k w) ≡ leb (k n + 1) (k w)
      same o c l w i (inl j) = lt-leb b (k w) j ∙ sym (lt-leb (k n + 1) (k w) (omega arith))
      same none c l w i (inr j) = absurd (omega (arith, c w i))
      same (some y) c l w i (inr j) = le-leb b (k w) j ∙ sym (le-leb (k n + 1) (k w) (omega (arith, c.2 w i j)))

-- ---- the two least, as the pass goes on

module _ (k : ℕ → ℕ) (b n : ℕ) where
  after : (o p : Option ℕ) → least_from k b (n + 1) ≡ o → above k (n + 1) o ≡ p → two_of k o p ≡ two_least k b (n + 1)
  unfolding two_least after_first
  after o p e f = sym (ap₂ (two_of k) e (ap (above k (n + 1)) e ∙ f))

  found_here : (o : Option ℕ) → least_from k b n ≡ o → Chosen k b n o
  found_here o e = subst (Chosen k b n) e (least-chosen k b n)

  module _ (two : Two) (q : two ≡ two_least k b n) where
    -- a key below the bound
    pub under : k n < b → two ≡ two_least k b (n + 1)
    unfolding two_least after_first above
    under h = go (least_from k b n) refl q
      where
        go : (o : Option ℕ) → least_from k b n ≡ o → two ≡ two_of k o (above k n o) → two ≡ two_least k b (n + 1)
        go none e t = t ∙ after none none (skipped k b n h ∙ e) refl
        go (some w) e t = t ∙ after (some w) (above k n (some w)) (skipped k b n h ∙ e) (skipped k (k w + 1) n (omega (arith, (found_here (some w) e).1)))

    -- a key below the first
    pub ahead : b ≤ k n → k n < two.first → record { first = k n; second = two.first; at = n; next = two.at } ≡ two_least k b (n + 1)
    unfolding two_least after_first above two_of found_key found_setting
    ahead h l = go (least_from k b n) refl q
      where
        go : (o : Option ℕ) → least_from k b n ≡ o → two ≡ two_of k o (above k n o) → record { first = k n; second = two.first; at = n; next = two.at } ≡ two_least k b (n + 1)
        go o e t =
            let m : k n < found_key k o = omega (arith, ap (λ (x : Two). x.first) t) in
            ap (λ (x : Two). record { first = k n; second = x.first; at = n; next = x.at }) t
            ∙ after (some n) o (taken k b n o e h m) (skipped k (k n + 1) n (omega arith) ∙ passed k b n o e (found_here o e) h m)

    module _ (s : k n < 18446744073709551615) where
      -- a key that is not below the second
      pub far : two.second ≤ k n → two ≡ two_least k b (n + 1)
      unfolding two_least after_first above two_of found_key
      far h = go (least_from k b n) (after_first k b n) refl refl q
        where
          go : (o p : Option ℕ) → least_from k b n ≡ o → above k n o ≡ p → two ≡ two_of k o p → two ≡ two_least k b (n + 1)
          go o none e f t = absurd (omega (arith, ap (λ (x : Two). x.second) t))
          go none (some z) e f t = absurd (omega (arith, ap (found_key k) f, ap (λ (x : Two). x.second) t))
          go (some w) (some z) e f t =
              let m : k z ≤ k n = omega (arith, ap (λ (x : Two). x.second) t) in
              let c : Chosen k (k w + 1) n (some z) = subst (Chosen k (k w + 1) n) f (least-chosen k (k w + 1) n) in
              t ∙ after (some w) (some z) (kept k b n w e (omega (arith, c.1))) (kept k (k w + 1) n z f m)

      -- the first's key
      pub equal : two.first ≡ k n → two ≡ two_least k b (n + 1)
      unfolding two_least after_first above two_of found_key
      equal h = go (least_from k b n) refl q
        where
          go : (o : Option ℕ) → least_from k b n ≡ o → two ≡ two_of k o (above k n o) → two ≡ two_least k b (n + 1)
          go none e t = absurd (omega (arith, ap (λ (x : Two). x.first) t))
          go (some w) e t =
              let m : k w ≡ k n = omega (arith, ap (λ (x : Two). x.first) t) in
              t ∙ after (some w) (above k n (some w)) (kept k b n w e (omega arith)) (skipped k (k w + 1) n (omega arith))

      -- a key between the two
      pub between : two.first < k n → k n < two.second → record { first = two.first; second = k n; at = two.at; next = n } ≡ two_least k b (n + 1)
      unfolding two_least after_first above two_of found_key found_setting
      between h l = go (least_from k b n) refl q
        where
          go : (o : Option ℕ) → least_from k b n ≡ o → two ≡ two_of k o (above k n o) → record { first = two.first; second = k n; at = two.at; next = n } ≡ two_least k b (n + 1)
          go none e t = absurd (omega (arith, ap (λ (x : Two). x.first) t))
          go (some w) e t =
              let m : k w < k n = omega (arith, ap (λ (x : Two). x.first) t) in
              ap (λ (x : Two). record { first = x.first; second = k n; at = x.at; next = n }) t
              ∙ after (some w) (some n) (kept k b n w e (omega arith)) (taken k (k w + 1) n (above k n (some w)) refl (omega arith) (omega (arith, ap (λ (x : Two). x.second) t)))

    -- a key whose cost is above that of the second
    pub costly : {cost number : ℕ} → cost < 4294967295 → number < 4294967296 → key_of cost number ≡ k n → two.second / 4294967296 < cost → two ≡ two_least k b (n + 1)
    unfolding key_of
    costly h f e l = far (key-lt h f e) (omega arith)

-- ---- one key more, by choices alone

-- the two least of x, which counts for setting n, and two others
abbrev pub merged : ℕ → ℕ → Two → Two
merged x n two =
    record {
      first = cond (ltb x two.first) x two.first;
      second = cond (ltb x two.first) two.first (cond (ltb x two.second) x two.second);
      at = cond (ltb x two.first) n two.at;
      next = cond (ltb x two.first) two.at (cond (ltb x two.second) n two.next);
    }

module _ (two : Two) (n x : ℕ) where
  merged-none : two.first ≤ x → two.second ≤ x → merged x n two ≡ two
  merged-none h l = rw (le-ltb x two.first h, le-ltb x two.second l) refl

  merged-ahead : x < two.first → merged x n two ≡ record { first = x; second = two.first; at = n; next = two.at }
  merged-ahead h = rw (lt-ltb x two.first h) refl

  merged-between : two.first ≤ x → x < two.second → merged x n two ≡ record { first = two.first; second = x; at = two.at; next = n }
  merged-between h l = rw (le-ltb x two.first h, lt-ltb x two.second l) refl

cond_same : (t : Bool) (x : ℕ) → cond t x x ≡ x
cond_same true x = refl
cond_same false x = refl

opened-under : (key b first : ℕ) → key < b → opened key b first ≡ 18446744073709551615
unfolding opened
opened-under key b first h = rw (lt-ltb key b h) (cond_same (eqb 18446744073709551615 first) 18446744073709551615)

opened-equal : (key b first : ℕ) → b ≤ key → key ≡ first → opened key b first ≡ 18446744073709551615
unfolding opened
opened-equal key b first h e = rw (le-ltb key b h, eq-eqb key first e) refl

opened-key : (key b first : ℕ) → b ≤ key → (key ≡ first → ⊥) → opened key b first ≡ key
unfolding opened
opened-key key b first h z = rw (le-ltb key b h, ne_eqb key first z) refl

-- as the code tests it
pub opened-first : (key b first later : ℕ) → later ≡ cond (ltb key b) 18446744073709551615 key → later ≡ first → 18446744073709551615 ≡ opened key b first
unfolding opened
opened-first key b first later e h =
    let t : 18446744073709551615 ≡ cond (eqb later first) 18446744073709551615 later = rw (eq-eqb later first h) refl in
    t ∙ ap (λ (y : ℕ). cond (eqb y first) 18446744073709551615 y) e

pub opened-other : (key b first later : ℕ) → later ≡ cond (ltb key b) 18446744073709551615 key → (later ≡ first → ⊥) → later ≡ opened key b first
unfolding opened
opened-other key b first later e z =
    let t : later ≡ cond (eqb later first) 18446744073709551615 later = rw (ne_eqb later first z) refl in
    t ∙ ap (λ (y : ℕ). cond (eqb y first) 18446744073709551615 y) e

-- four parts of two
pub two-same : {a a' b b' c c' d d' : ℕ} → a ≡ a' → b ≡ b' → c ≡ c' → d ≡ d'
    → ◌≡◌ {A = Two} (record { first = a; second = b; at = c; next = d }) (record { first = a'; second = b'; at = c'; next = d' })
two-same p q r t = rw (p, q, r, t) refl

pub merged-least : (k : ℕ → ℕ) (b n : ℕ) (two : Two) → two ≡ two_least k b n → k n < 18446744073709551615 → two.first ≤ 18446744073709551615 → two.second ≤ 18446744073709551615
    → merged (opened (k n) b two.first) n two ≡ two_least k b (n + 1)
merged-least k b n two q s f g = go (lt-or (k n) b) (lt-or (k n) two.first) (lt-or two.first (k n)) (lt-or (k n) two.second)
  where
    by : (x : ℕ) → opened (k n) b two.first ≡ x → merged x n two ≡ two_least k b (n + 1) → merged (opened (k n) b two.first) n two ≡ two_least k b (n + 1)
    by x e p = ap (λ (y : ℕ). merged y n two) e ∙ p

    go : (k n < b) ⊎ (b ≤ k n) → (k n < two.first) ⊎ (two.first ≤ k n) → (two.first < k n) ⊎ (k n ≤ two.first) → (k n < two.second) ⊎ (two.second ≤ k n)
        → merged (opened (k n) b two.first) n two ≡ two_least k b (n + 1)
    go (inl h) u w v = by 18446744073709551615 (opened-under (k n) b two.first h) (merged-none two n 18446744073709551615 f g ∙ under k b n two q h)
    go (inr h) (inl u) w v = by (k n) (opened-key (k n) b two.first h (λ e. omega arith)) (merged-ahead two n (k n) u ∙ ahead k b n two q h u)
    go (inr h) (inr u) (inr w) v =
        by 18446744073709551615 (opened-equal (k n) b two.first h (omega arith)) (merged-none two n 18446744073709551615 f g ∙ equal k b n two q s (omega arith))
    go (inr h) (inr u) (inl w) (inl v) = by (k n) (opened-key (k n) b two.first h (λ e. omega arith)) (merged-between two n (k n) u v ∙ between k b n two q s w v)
    go (inr h) (inr u) (inl w) (inr v) = by (k n) (opened-key (k n) b two.first h (λ e. omega arith)) (merged-none two n (k n) u v ∙ far k b n two q s v)

-- ---- both lie among the settings

pub after-below : (k : ℕ → ℕ) (b n : ℕ) → May (λ (w : ℕ). w < n) (after_first k b n)
unfolding after_first above May
after-below k b n = go (least_from k b n)
  where
    go : (o : Option ℕ) → May (λ (w : ℕ). w < n) (above k n o)
    go none = tt
    go (some w) = least-below k (k w + 1) n

setting-within : (n : ℕ) (o : Option ℕ) → May (λ (w : ℕ). w < n) o → n ≤ 256 → found_setting o < 256
unfolding found_setting May
setting-within n none h l = omega arith
setting-within n (some w) h l = omega arith

pub two-within : (k : ℕ → ℕ) (b n : ℕ) (two : Two) → two ≡ two_least k b n → n ≤ 256 → (two.at < 256) × (two.next < 256)
unfolding two_least two_of
two-within k b n two q l = (
  omega (arith, ap (λ (x : Two). x.at) q, setting-within n (least_from k b n) (least-below k b n) l),
  omega (arith, ap (λ (x : Two). x.next) q, setting-within n (after_first k b n) (after-below k b n) l),
)

-- keys that agree
pub after_same : (f g : ℕ → ℕ) (b n : ℕ) → ((w : ℕ) → w < n → f w ≡ g w) → after_first f b n ≡ after_first g b n
unfolding after_first above May
after_same f g b n h = ap (above f n) (least-same f g b n h) ∙ go (least_from g b n) (least-below g b n)
  where
    go : (o : Option ℕ) → May (λ (w : ℕ). w < n) o → above f n o ≡ above g n o
    go none l = refl
    go (some w) l = ap (λ (x : ℕ). least_from f (x + 1) n) (h w l) ∙ least-same f g (g w + 1) n h
