-- A walk buffer while a run writes it: the entries of the extractions done, then what was there. One more entry is stored where they end. By the
-- laws of a list written over another. Assumes nothing.
use mathlib.Core.Path.{◌≡◌, refl, sym, ap, ap₂, ◌∙◌}
use mathlib.Core.List.{List, [], ◌∷◌, ◌++◌, map}
use Prim.Native.Nat.{ℕ, ◌+◌, ◌≤◌, ◌<◌}
use native.Mathlib.Nat.{add_assoc}
use native.Mathlib.Omega.{arith}
use lib.IntN.{ℤ, pos}
use lib.ListN.{length, set, drop, length-map, length-append, length-drop}
use Rattle.laws.specs.Lists.{over, sum}
use Rattle.laws.proofs.Lists.{over_last}
use Rattle.queue.specs.Queue.{Key, Step}
use Rattle.machine.specs.Calls.{walked}

-- ---- one buffer

module _ (f : Step → ℤ) where
  walked-over : (done : List Step) (old : List ℤ) → walked f done old ≡ over (map f done) old
  unfolding walked over
  walked-over done old = ap (λ n. map f done ++ drop n old) (sym (length-map done f))

  pub walked-length : (done : List Step) (old : List ℤ) → length done ≤ length old → length (walked f done old) ≡ length old
  unfolding walked
  walked-length done old h = length-append (map f done) (drop (length done) old) ∙ omega (arith, length-map done f, length-drop (length done) old)

  map_last : (done : List Step) (s : Step) → map f (done ++ s ∷ []) ≡ map f done ++ f s ∷ []
  map_last [] s = refl
  map_last (x ∷ done) s = ap (λ l. f x ∷ l) (map_last done s)

  walked_next : (done : List Step) (s : Step) (old : List ℤ) (x : ℤ) → x ≡ f s → length done < length old →
      set (walked f done old) (length done) x ≡ walked f (done ++ s ∷ []) old
  walked_next done s old x e h =
      ap₂ (λ l v. set l (length done) v) (walked-over done old) e ∙ over_last (map f done) old (f s) (length done) (length-map done f) h
      ∙ ap (λ l. over l old) (sym (map_last done s)) ∙ sym (walked-over (done ++ s ∷ []) old)

-- ---- the three buffers

-- they hold the entries of the extractions done
pub record Walks (done : List Step) (path₀ blocks₀ score₀ path blocks score : List ℤ) : Type 0 where
  pub path-is : path ≡ walked (λ (s : Step). pos s.path) done path₀
  pub blocks_is : blocks ≡ walked (λ (s : Step). pos s.blocks) done blocks₀
  pub score-is : score ≡ walked (λ (s : Step). s.score) done score₀

-- none yet
pub walks-none : (path₀ blocks₀ score₀ : List ℤ) → Walks [] path₀ blocks₀ score₀ path₀ blocks₀ score₀
unfolding walked
walks-none path₀ blocks₀ score₀ = record { path-is = refl; blocks_is = refl; score-is = refl }

-- they are long enough for n entries
pub record Long (n : ℕ) (path₀ blocks₀ score₀ : List ℤ) : Type 0 where
  pub path-long : n ≤ length path₀
  pub blocks-long : n ≤ length blocks₀
  pub score-long : n ≤ length score₀

-- what a key writes at entry n
pub record Noted (n : ℕ) (k : Key) (path blocks score path' blocks' score' : List ℤ) : Type 0 where
  pub path-set : path' ≡ set path n (pos k.number)
  pub blocks-set : blocks' ≡ set blocks n (pos k.blocks)
  pub score-set : score' ≡ set score n k.score

-- the key of an extraction
abbrev pub step_key : Step → Key
step_key s = record { score = s.score; blocks = s.blocks; number = s.path }

pub walks_next : {done : List Step} {path₀ blocks₀ score₀ path blocks score path' blocks' score' : List ℤ} {k : Key} {n : ℕ} (s : Step) → k ≡ step_key s →
    n ≡ length done → Long (n + 1) path₀ blocks₀ score₀ → Walks done path₀ blocks₀ score₀ path blocks score →
    Noted n k path blocks score path' blocks' score' → Walks (done ++ s ∷ []) path₀ blocks₀ score₀ path' blocks' score'
walks_next {done} {path₀} {blocks₀} {score₀} {path} {blocks} {score} {k = k} {n = n} s e q l w m =
    record {
      path-is =
          m.path-set ∙ ap₂ (λ x i. set x i (pos k.number)) w.path-is q
          ∙ walked_next (λ (y : Step). pos y.path) done s path₀ _ (ap (λ (y : Key). pos y.number) e) (omega (arith, l.path-long));
      blocks_is =
          m.blocks-set ∙ ap₂ (λ x i. set x i (pos k.blocks)) w.blocks_is q
          ∙ walked_next (λ (y : Step). pos y.blocks) done s blocks₀ _ (ap (λ (y : Key). pos y.blocks) e) (omega (arith, l.blocks-long));
      score-is =
          m.score-set ∙ ap₂ (λ x i. set x i k.score) w.score-is q
          ∙ walked_next (λ (y : Step). y.score) done s score₀ _ (ap (λ (y : Key). y.score) e) (omega (arith, l.score-long));
    }

-- ---- the counts

-- a sum over the extractions, with one more
pub sum-next : (f : Step → ℕ) (done : List Step) (s : Step) → sum (map f (done ++ s ∷ [])) ≡ sum (map f done) + f s
unfolding sum
sum-next f [] s = omega arith
sum-next f (x ∷ done) s = ap (λ n. f x + n) (sum-next f done s) ∙ sym (add_assoc (f x) (sum (map f done)) (f s))
