-- Laws of the notions on lists, and of lists cut, joined and written over, most by induction on the list. Assumes nothing.
use mathlib.Core.Path.{◌≡◌, refl, sym, ap, ◌∙◌, ap₂, subst}
use mathlib.Core.Bool.{Bool, true, false}
use mathlib.Core.List.Memᴰ
use mathlib.Core.List.{List, [], ◌∷◌, ◌++◌, map, zip_with, append_assoc, Memᴰ}
use mathlib.Core.Logic.{◌⊎◌, inl, inr, ◌≢◌}
use Prim.Native.Nat.{ℕ, zero, suc, ◌+◌, ◌-◌, ◌*◌, ◌≤◌, ◌<◌, min, zero-le}
use native.Mathlib.Nat.{not-suc-le-zero, le_of_suc-le-suc, mul-suc, sub-zero, zero-sub, suc-sub-suc}
use native.Mathlib.Numerals.{add-one}
use native.Mathlib.Omega.{arith}
use lib.ListN.{length, get_or, take, drop, set, replicate, length-append, get_or-append, length-drop, length-set, replicate-append-replicate}
use lib.Seq.{take-nil, get_or_at, get_or-take, get_or-drop, get_or-append-add, length-take-le, paste, paste-suc, length_paste_head, drop-cons, set_at, set-append_left, ext_get_or, get_or-set_same, get_or-set_other}
use lib.Dec.{T}
use Rattle.laws.specs.Lists.{All, Distinct, keep, tab, sum, over}
use Rattle.laws.proofs.Tests.{cond-case, lt-or}

module _ {A : Type 0} where
  pub all_map : {P Q : A → Type 0} → ((x : A) → P x → Q x) → (xs : List A) → All P xs → All Q xs
  unfolding All
  all_map f [] h = tt
  all_map f (x ∷ xs) h = (f x h.0, all_map f xs h.1)

  pub all_any : {P : A → Type 0} → ((x : A) → P x) → (xs : List A) → All P xs
  unfolding All
  all_any f [] = tt
  all_any f (x ∷ xs) = (f x, all_any f xs)

  pub all_both : {P Q R : A → Type 0} → ((x : A) → P x → Q x → R x) → (xs : List A) → All P xs → All Q xs → All R xs
  unfolding All
  all_both f [] h k = tt
  all_both f (x ∷ xs) h k = (f x h.0 k.0, all_both f xs h.1 k.1)

  pub all_take : (P : A → Type 0) (n : ℕ) (xs : List A) → All P xs → All P (take n xs)
  unfolding All
  all_take P zero xs h = tt
  all_take P (suc n) [] h = tt
  all_take P (suc n) (x ∷ xs) h = (h.0, all_take P n xs h.1)

  pub all_drop : (P : A → Type 0) (n : ℕ) (xs : List A) → All P xs → All P (drop n xs)
  unfolding All
  all_drop P zero xs h = h
  all_drop P (suc n) [] h = tt
  all_drop P (suc n) (x ∷ xs) h = all_drop P n xs h.1

  pub all_append : (P : A → Type 0) (xs ys : List A) → All P xs → All P ys → All P (xs ++ ys)
  unfolding All
  all_append P [] ys h k = k
  all_append P (x ∷ xs) ys h k = (h.0, all_append P xs ys h.1 k)

  pub all-front : (P : A → Type 0) (xs ys : List A) → All P (xs ++ ys) → All P xs
  unfolding All
  all-front P [] ys h = tt
  all-front P (x ∷ xs) ys h = (h.0, all-front P xs ys h.1)

  pub all_set : (P : A → Type 0) (xs : List A) (i : ℕ) (a : A) → P a → All P xs → All P (set xs i a)
  unfolding All
  all_set P [] i a p h = tt
  all_set P (x ∷ xs) zero a p h = (p, h.1)
  all_set P (x ∷ xs) (suc i) a p h = (h.0, all_set P xs i a p h.1)

  pub all_replicate : (P : A → Type 0) (n : ℕ) (a : A) → P a → All P (replicate n a)
  unfolding All
  all_replicate P zero a p = tt
  all_replicate P (suc n) a p = (p, all_replicate P n a p)

  pub all-at : (P : A → Type 0) (xs : List A) (i : ℕ) (d : A) → i < length xs → All P xs → P (get_or xs i d)
  unfolding All
  all-at P [] i d l h = absurd (not-suc-le-zero l)
  all-at P (x ∷ xs) zero d l h = h.0
  all-at P (x ∷ xs) (suc i) d l h = all-at P xs i d (le_of_suc-le-suc l) h.1

  pub all_in : (P : A → Type 0) {x : A} {xs : List A} → All P xs → Memᴰ x xs → P x
  unfolding All
  all_in P {x} h (Memᴰ.head e) = subst P (sym e) h.0
  all_in P h (Memᴰ.tail m) = all_in P h.1 m

  pub all_keep : (P : A → Type 0) (f : A → Bool) (xs : List A) → All P xs → All (λ (x : A). P x × T (f x)) (keep f xs)
  unfolding keep All
  all_keep P f [] h = tt
  all_keep P f (x ∷ xs) h =
      cond-case (All (λ (x : A). P x × T (f x))) (f x) (λ t. ((h.0, t), all_keep P f xs h.1)) (λ t. all_keep P f xs h.1)

  -- where every element passes, or none does
  pub keep_all : (f : A → Bool) (xs : List A) → All (λ (x : A). f x ≡ true) xs → keep f xs ≡ xs
  unfolding keep All
  keep_all f [] h = refl
  keep_all f (x ∷ xs) h = rw h.0 (ap (λ l. x ∷ l) (keep_all f xs h.1))

  pub keep-none : (f : A → Bool) (xs : List A) → All (λ (x : A). f x ≡ false) xs → keep f xs ≡ []
  unfolding keep All
  keep-none f [] h = refl
  keep-none f (x ∷ xs) h = rw h.0 (keep-none f xs h.1)

  -- ---- distinct elements

  pub distinct-front : (xs ys : List A) → Distinct (xs ++ ys) → Distinct xs
  unfolding Distinct
  distinct-front [] ys d = tt
  distinct-front (x ∷ xs) ys d = (all-front (λ (y : A). x ≢ y) xs ys d.0, distinct-front xs ys d.1)

  pub distinct_apart : (xs ys : List A) (x : A) → Distinct (xs ++ ys) → Memᴰ x xs → Memᴰ x ys → ⊥
  unfolding Distinct
  distinct_apart [] ys x d m k = Memᴰ.not-nil m
  distinct_apart (z ∷ xs) ys x d m k = go (Memᴰ.cases_cons m) (distinct_apart xs ys x d.1)
    where
      go : (x ≡ z) ⊎ Memᴰ x xs → (Memᴰ x xs → Memᴰ x ys → ⊥) → ⊥
      go (inl e) ih = all_in (λ (y : A). z ≢ y) d.0 (Memᴰ.append_right xs k) (sym e)
      go (inr m) ih = ih m k

  -- ---- lengths, and lists cut

  pub keep-length : (f : A → Bool) (xs : List A) → length (keep f xs) ≤ length xs
  unfolding keep
  keep-length f [] = zero-le
  keep-length f (x ∷ xs) =
      cond-case (λ (ys : List A). length ys ≤ suc (length xs)) (f x) (λ _. omega (arith, keep-length f xs)) (λ _. omega (arith, keep-length f xs))

  pub length_none : (xs : List A) → length xs ≡ 0 → xs ≡ []
  length_none [] e = refl
  length_none (x ∷ xs) e = absurd (omega arith)

  pub length-snoc : (xs : List A) (x : A) → length (xs ++ x ∷ []) ≡ suc (length xs)
  length-snoc xs x = length-append xs (x ∷ []) ∙ omega arith

  pub drop-take : (h n : ℕ) (xs : List A) → drop h (take n xs) ≡ take (n - h) (drop h xs)
  drop-take zero n xs = ap (λ k. take k xs) (sym (sub-zero n))
  drop-take (suc h) zero xs = ap (λ k. take k (drop (suc h) xs)) (sym (zero-sub (suc h)))
  drop-take (suc h) (suc n) [] = sym (take-nil (suc n - suc h))
  drop-take (suc h) (suc n) (x ∷ xs) = drop-take h n xs ∙ ap (λ k. take k (drop h xs)) (sym (suc-sub-suc n h))

  -- ---- tabulated lists

  pub length-tab : (n : ℕ) (f : ℕ → A) → length (tab n f) ≡ n
  unfolding tab
  length-tab zero f = refl
  length-tab (suc n) f = length-snoc (tab n f) (f n) ∙ ap suc (length-tab n f)

  pub get_d-tab : (n : ℕ) (f : ℕ → A) (i : ℕ) (d : A) → i < n → get_or (tab n f) i d ≡ f i
  unfolding tab
  get_d-tab zero f i d h = absurd (not-suc-le-zero h)
  get_d-tab (suc n) f i d h = go (lt-or i n) (get_d-tab n f i d)
    where
      go : (i < n) ⊎ (n ≤ i) → (i < n → get_or (tab n f) i d ≡ f i) → get_or (tab n f ++ f n ∷ []) i d ≡ f i
      go (inl l) ih = get_or-append (tab n f) (f n ∷ []) d i (omega (arith, length-tab n f)) ∙ ih l
      go (inr l) ih =
          let e : n ≡ i = omega arith in
          get_or_at (tab n f) (f n) [] d i (length-tab n f ∙ e) ∙ ap f e

  -- the first element apart
  pub tab-first : (n : ℕ) (f : ℕ → A) → tab (suc n) f ≡ f 0 ∷ tab n (λ i. f (suc i))
  unfolding tab
  tab-first zero f = refl
  tab-first (suc n) f = ap (λ l. l ++ f (suc n) ∷ []) (tab-first n f)

  -- lists tabulated by functions that agree
  pub tab-same : (n : ℕ) (f g : ℕ → A) → ((i : ℕ) → i < n → f i ≡ g i) → tab n f ≡ tab n g
  unfolding tab
  tab-same zero f g h = refl
  tab-same (suc n) f g h = λ k. tab-same n f g (λ i l. h i (omega arith)) k ++ h n (omega arith) k ∷ []

  pub tab-last : (n : ℕ) (f g : ℕ → A) (x : A) → ((i : ℕ) → i < n → f i ≡ g i) → g n ≡ x → tab (suc n) g ≡ tab n f ++ x ∷ []
  unfolding tab
  tab-last n f g x h e = rw (e, tab-same n f g h)

  pub tab-replicate : (n : ℕ) (f : ℕ → A) (x : A) → ((i : ℕ) → f i ≡ x) → tab n f ≡ replicate n x
  unfolding tab
  tab-replicate zero f x h = refl
  tab-replicate (suc n) f x h = rw (tab-replicate n f x h, h n, replicate-append-replicate n 1 x, add-one)

  -- one value changed
  pub set-tab : (n : ℕ) (f g : ℕ → A) (i : ℕ) (v : A) → i < n → v ≡ g i → ((k : ℕ) → k < n → k ≢ i → f k ≡ g k) → set (tab n f) i v ≡ tab n g
  set-tab n f g i v l e h =
      ext_get_or v (set (tab n f) i v) (tab n g) (length-set (tab n f) i v ∙ length-tab n f ∙ sym (length-tab n g))
      (λ k b. go k (omega (arith, length-set (tab n f) i v, length-tab n f)) (lt-or k i) (lt-or i k))
    where
      other : (k : ℕ) → k < n → k ≢ i → get_or (set (tab n f) i v) k v ≡ get_or (tab n g) k v
      other k b ne = get_or-set_other (tab n f) i k v v ne ∙ get_d-tab n f k v b ∙ h k b ne ∙ sym (get_d-tab n g k v b)

      go : (k : ℕ) → k < n → (k < i) ⊎ (i ≤ k) → (i < k) ⊎ (k ≤ i) → get_or (set (tab n f) i v) k v ≡ get_or (tab n g) k v
      go k b (inl a) y = other k b (omega arith)
      go k b (inr a) (inl c) = other k b (omega arith)
      go k b (inr a) (inr c) =
          let q : k ≡ i = omega arith in
          rw (q, get_or-set_same (tab n f) i v v (omega (arith, length-tab n f)), get_d-tab n g i v l) e

  -- ---- a list written over the start of another

  pub over_last : (xs old : List A) (v : A) (n : ℕ) → length xs ≡ n → n < length old → set (over xs old) n v ≡ over (xs ++ v ∷ []) old
  unfolding over
  over_last xs old v n e h =
      let l : length (xs ++ v ∷ []) ≡ suc (length xs) = length-append xs (v ∷ []) ∙ add-one (length xs) in
      rw (drop-cons old (length xs) v (omega arith), set_at xs (get_or old (length xs) v) (drop (suc (length xs)) old) v n e, l, append_assoc)

  pub over-length : (xs old : List A) → length xs ≤ length old → length (over xs old) ≡ length old
  unfolding over
  over-length xs old h = length-append xs (drop (length xs) old) ∙ omega (arith, length-drop (length xs) old)

  pub over-set : (xs old : List A) (i : ℕ) (v : A) → i < length xs → set (over xs old) i v ≡ over (set xs i v) old
  unfolding over
  over-set xs old i v h = rw (set-append_left xs (drop (length xs) old) i v h, length-set)

  pub over-get_d : (xs old : List A) (i : ℕ) (d : A) → i < length xs → get_or (over xs old) i d ≡ get_or xs i d
  unfolding over
  over-get_d xs old i d h = get_or-append xs (drop (length xs) old) d i h

pub all-mapped : {A B : Type 0} (f : A → B) (P : B → Type 0) (xs : List A) → All (λ (x : A). P (f x)) xs → All P (map f xs)
unfolding All
all-mapped f P [] h = tt
all-mapped f P (x ∷ xs) h = (h.0, all-mapped f P xs h.1)

pub all-unmapped : {A B : Type 0} (f : A → B) (P : B → Type 0) (xs : List A) → All P (map f xs) → All (λ (x : A). P (f x)) xs
unfolding All
all-unmapped f P [] h = tt
all-unmapped f P (x ∷ xs) h = (h.0, all-unmapped f P xs h.1)

-- ---- position by position

module _ {A B C : Type 0} (f : A → B → C) where
  pub length-zip : (xs : List A) (ys : List B) → length (zip_with f xs ys) ≡ min (length xs) (length ys)
  unfolding zip_with
  length-zip [] ys = omega arith
  length-zip (x ∷ xs) [] = omega arith
  length-zip (x ∷ xs) (y ∷ ys) = omega (arith, length-zip xs ys)

  pub take-zip : (n : ℕ) (xs : List A) (ys : List B) → take n (zip_with f xs ys) ≡ zip_with f (take n xs) (take n ys)
  unfolding zip_with
  take-zip zero xs ys = refl
  take-zip (suc n) [] ys = refl
  take-zip (suc n) (x ∷ xs) [] = refl
  take-zip (suc n) (x ∷ xs) (y ∷ ys) = ap (λ l. f x y ∷ l) (take-zip n xs ys)

  zip-nil : (xs : List A) → zip_with f xs [] ≡ []
  unfolding zip_with
  zip-nil [] = refl
  zip-nil (x ∷ xs) = refl

  pub drop-zip : (n : ℕ) (xs : List A) (ys : List B) → drop n (zip_with f xs ys) ≡ zip_with f (drop n xs) (drop n ys)
  unfolding zip_with
  drop-zip zero xs ys = refl
  drop-zip (suc n) [] ys = refl
  drop-zip (suc n) (x ∷ xs) [] = sym (zip-nil (drop n xs))
  drop-zip (suc n) (x ∷ xs) (y ∷ ys) = drop-zip n xs ys

  pub zip-append : (xs zs : List A) (ys ws : List B) → length xs ≡ length ys → zip_with f (xs ++ zs) (ys ++ ws) ≡ zip_with f xs ys ++ zip_with f zs ws
  unfolding zip_with
  zip-append [] zs [] ws e = refl
  zip-append [] zs (y ∷ ys) ws e = absurd (omega arith)
  zip-append (x ∷ xs) zs [] ws e = absurd (omega arith)
  zip-append (x ∷ xs) zs (y ∷ ys) ws e = ap (λ l. f x y ∷ l) (zip-append xs zs ys ws (omega arith))

  pub get_d_zip : (xs : List A) (ys : List B) (i : ℕ) (a : A) (b : B) (c : C) → i < length xs → i < length ys → get_or (zip_with f xs ys) i c ≡ f (get_or xs i a) (get_or ys i b)
  unfolding zip_with
  get_d_zip [] ys i a b c h k = absurd (not-suc-le-zero h)
  get_d_zip (x ∷ xs) [] i a b c h k = absurd (not-suc-le-zero k)
  get_d_zip (x ∷ xs) (y ∷ ys) zero a b c h k = refl
  get_d_zip (x ∷ xs) (y ∷ ys) (suc i) a b c h k = get_d_zip xs ys i a b c (le_of_suc-le-suc h) (le_of_suc-le-suc k)

-- ---- a list d whose elements from index `at` on are being replaced by those of s

module _ {A : Type 0} (d s : List A) (at : ℕ) where
  -- one more is stored
  pub paste-next : (z : A) (i : ℕ) {l : List A} {v : A} → l ≡ paste d at s i → at + i < length d → i < length s → v ≡ get_or s i z → set l (at + i) v ≡ paste d at s (i + 1)
  paste-next z i e h k ev = ap₂ (λ x y. set x (at + i) y) e ev ∙ paste-suc d at s i z h k ∙ ap (paste d at s) (sym (add-one i))

  -- an element before what was stored is as it was, and so is one after it
  pub get_d-paste-before : (z : A) (i k : ℕ) → at ≤ length d → k < at → get_or (paste d at s i) k z ≡ get_or d k z
  get_d-paste-before z i k h b =
      ap (λ r. get_or r k z) (append_assoc (take at d) (take i s) (drop (at + i) d))
      ∙ get_or-append (take at d) (take i s ++ drop (at + i) d) z k (omega (arith, length-take-le at d h))
      ∙ get_or-take at d k z b

  pub get_d-paste-after : (z : A) (i k : ℕ) → at ≤ length d → i ≤ length s → at + i ≤ k → get_or (paste d at s i) k z ≡ get_or d k z
  get_d-paste-after z i k h g b =
      let back : at + i + (k - (at + i)) ≡ k = omega arith in
      let e : k ≡ length (take at d ++ take i s) + (k - (at + i)) = omega (arith, length_paste_head d at s i h g) in
      ap (λ n. get_or (paste d at s i) n z) e
      ∙ get_or-append-add (take at d ++ take i s) (drop (at + i) d) (k - (at + i)) z
      ∙ get_or-drop (at + i) d (k - (at + i)) z
      ∙ ap (λ n. get_or d n z) back

-- ---- a list of zeros

pub get_d-zeros : (n i : ℕ) → ◌≡◌ {A = ℕ} (get_or (replicate n 0) i 0) 0
get_d-zeros zero i = refl
get_d-zeros (suc n) zero = refl
get_d-zeros (suc n) (suc i) = get_d-zeros n i

-- ---- sums

pub sum_bump : (xs : List ℕ) (i : ℕ) → i < length xs → sum (set xs i (suc (get_or xs i 0))) ≡ suc (sum xs)
unfolding sum
sum_bump [] i h = absurd (not-suc-le-zero h)
sum_bump (x ∷ xs) zero h = omega arith
sum_bump (x ∷ xs) (suc i) h = omega (arith, sum_bump xs i (le_of_suc-le-suc h))

pub sum-le : (L : ℕ) (xs : List ℕ) → All (λ (x : ℕ). x ≤ L) xs → sum xs ≤ L * length xs
unfolding sum All
sum-le L [] h = omega arith
sum-le L (x ∷ xs) h = omega (arith, sum-le L xs h.1, mul-suc L (length xs), h.0)
