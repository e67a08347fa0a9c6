-- Loading as a fold over the commands: what it comes to and what is loaded where it stops are two such folds. The fuel does not matter where it is at
-- least the number of bytes, since each command takes a byte or more. By induction on the fuel. Assumes nothing.
use mathlib.Core.Path.{◌≡◌, refl, sym, ◌∙◌}
use mathlib.Core.Bool.{Bool, cond}
use mathlib.Core.List.{List, [], ◌∷◌}
use mathlib.Core.Option.{Option, none, some}
use Prim.Native.Nat.{ℕ, zero, suc, ◌≤◌}
use native.Mathlib.Nat.{not-suc-le-zero}
use native.Mathlib.Omega.{arith}
use lib.Dec.{eqb}
use lib.ListN.{length, take, drop, length-drop}
use Rattle.codebook.specs.declared.Refusal.{Refusal}
use Rattle.codebook.specs.declared.Refusal.TheVariants.{Truncated, Misplaced}
use Rattle.codebook.specs.Loading.{Loading, Load, refused, loaded, book_of, load_from, next, command, width, refusal, decided}
use Rattle.codebook.specs.Tables.{stays, stop_from}

-- what a refusal comes to, and the end command before nothing or more bytes
module _ {A : Type 0} (bad : Refusal → Loading → A) (good : Loading → Bool → A) where
  unfoldable pub judged_as : Option Refusal → Loading → A → A
  judged_as (some r) s other = bad r s
  judged_as none s other = other

  unfoldable pub fold_from : ℕ → Loading → List ℕ → A
  fold_from zero s bytes = bad Truncated s
  fold_from (suc fuel) s [] = bad Truncated s
  fold_from (suc fuel) s (byte ∷ after) =
      let more = fold_from fuel (next s (command byte (take (width byte) after))) (drop (width byte) after) in
      judged_as (refusal s byte after) s (cond (eqb byte 0x7f) (good s (eqb (length after) 0)) more)

  pub none_left : (fuel : ℕ) (s : Loading) → fold_from fuel s [] ≡ bad Truncated s
  unfolding fold_from
  none_left zero s = refl
  none_left (suc fuel) s = refl

  pub fuel-enough : (f g : ℕ) (s : Loading) (bytes : List ℕ) → length bytes ≤ f → length bytes ≤ g → fold_from f s bytes ≡ fold_from g s bytes
  unfolding fold_from
  fuel-enough zero zero s bytes h k = refl
  fuel-enough zero (suc g) s [] h k = refl
  fuel-enough zero (suc g) s (byte ∷ after) h k = absurd (not-suc-le-zero h)
  fuel-enough (suc f) zero s [] h k = refl
  fuel-enough (suc f) zero s (byte ∷ after) h k = absurd (not-suc-le-zero k)
  fuel-enough (suc f) (suc g) s [] h k = refl
  fuel-enough (suc f) (suc g) s (byte ∷ after) h k =
      let w = width byte in
      let l = length-drop w after in
      rw (fuel-enough f g (next s (command byte (take w after))) (drop w after) (omega arith) (omega arith))

-- ---- what loading comes to

abbrev pub refused_as : Refusal → Loading → Load
refused_as r s = refused r

abbrev pub ended_as : Loading → Bool → Load
ended_as s last = cond last (loaded (book_of s)) (refused Misplaced)

decided-as : (o : Option Refusal) (s : Loading) (x : Load) → decided o x ≡ judged_as refused_as ended_as o s x
unfolding decided judged_as
decided-as (some r) s x = refl
decided-as none s x = refl

pub load-fold : (fuel : ℕ) (s : Loading) (bytes : List ℕ) → load_from fuel s bytes ≡ fold_from refused_as ended_as fuel s bytes
unfolding load_from fold_from
load-fold zero s bytes = refl
load-fold (suc fuel) s [] = refl
load-fold (suc fuel) s (byte ∷ after) =
    rw (load-fold fuel (next s (command byte (take (width byte) after))) (drop (width byte) after)) (decided-as (refusal s byte after) s _)

pub load-enough : (f g : ℕ) (s : Loading) (bytes : List ℕ) → length bytes ≤ f → length bytes ≤ g → load_from f s bytes ≡ load_from g s bytes
load-enough f g s bytes h k = load-fold f s bytes ∙ fuel-enough refused_as ended_as f g s bytes h k ∙ sym (load-fold g s bytes)

-- ---- what is loaded where it stops

abbrev pub stopped : Refusal → Loading → Loading
stopped r s = s

abbrev pub stopped_at : Loading → Bool → Loading
stopped_at s last = s

stays-as : (o : Option Refusal) (s x : Loading) → stays o s x ≡ judged_as stopped stopped_at o s x
unfolding stays judged_as
stays-as (some r) s x = refl
stays-as none s x = refl

pub stop-fold : (fuel : ℕ) (s : Loading) (bytes : List ℕ) → stop_from fuel s bytes ≡ fold_from stopped stopped_at fuel s bytes
unfolding stop_from fold_from
stop-fold zero s bytes = refl
stop-fold (suc fuel) s [] = refl
stop-fold (suc fuel) s (byte ∷ after) =
    rw (stop-fold fuel (next s (command byte (take (width byte) after))) (drop (width byte) after)) (stays-as (refusal s byte after) s _)
