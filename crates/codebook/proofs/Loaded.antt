-- Every loaded book keeps document 01's limits: what is loaded keeps them from command to command (Commands.antt), and at the end command,
-- where the blocks reach n, all of the book is loaded. By induction on the bytes left. Assumes nothing.
use mathlib.Core.Path.{◌≡◌, refl, subst, ◌∙◌}
use mathlib.Core.Bool.{not}
use mathlib.Core.List.{List, [], ◌∷◌}
use mathlib.Core.Logic.{◌≢◌}
use mathlib.Core.Option.{Option, none, some}
use Prim.Native.Nat.{ℕ, zero, suc, ◌^◌, zero-le}
use native.Mathlib.Omega.{arith}
use lib.ListN.{length, take, drop}
use lib.Pow.{pow_pos}
use lib.Dec.{T, eqb, eqb→eq}
use Rattle.laws.proofs.Tests.{cond-case, and_left, and_right, neqb→ne}
use Rattle.codebook.specs.declared.Refusal.{Refusal}
use Rattle.codebook.specs.Book.{Book}
use Rattle.codebook.specs.Loading.{Loading, Load, refused, loaded, start, total, placed, width, command, next, refusal, decided, book_of, load_from, load}
use Rattle.codebook.specs.Limits.{Valid}
use Rattle.codebook.proofs.Blocks.{all-fit-ok, start-some}
use Rattle.codebook.proofs.Commands.{Passed, Placed, Ok, empty-ok, next-ok}
use Rattle.codebook.proofs.Faults.{none-refused}

-- ---- where a command stands

-- a command byte's place, as a place of the command
placed-command : (s : Loading) (byte : ℕ) (operands : List ℕ) → T (placed s byte) → Placed s (command byte operands)
unfolding placed command Placed
placed-command s byte operands h =
    cond-case (Placed s) (eqb byte 0x10) (λ _. tt) (λ _.
    cond-case (Placed s) (eqb byte 0x01) (λ t. neqb→ne n (total s) (at 0x01 t)) (λ _.
    cond-case (Placed s) (eqb byte 0x02) (λ t. neqb→ne n (total s) (at 0x02 t)) (λ _.
    cond-case (Placed s) (eqb byte 0x03) (λ t. neqb→ne n (total s) (at 0x03 t)) (λ _.
    cond-case (Placed s) (eqb byte 0x04) (λ t. at 0x04 t) (λ _.
    cond-case (Placed s) (eqb byte 0x05) (λ t. eqb→eq n (total s) (and_left (eqb n (total s)) (not (eqb s.covered (total s))) (at 0x05 t))) (λ _.
    tt))))))
  where
    n : ℕ
    n = length s.kinds

    at : (b : ℕ) → T (eqb byte b) → T (placed s b)
    at b t = subst (λ (x : ℕ). T (placed s x)) (eqb→eq byte b t) h

-- ---- the end

pub total-begun : (s : Loading) → s.m ≢ 0 → total s ≡ 2 ^ s.m
unfolding total
total-begun s h = cond-case (λ (n : ℕ). n ≡ 2 ^ s.m) (eqb s.m 0) (λ t. absurd (h (eqb→eq s.m 0 t))) (λ _. refl)

end-valid : (s : Loading) → Ok s → T (placed s 0x7f) → Valid (book_of s)
unfolding placed book_of
end-valid s ok t =
    let begun = not (eqb s.m 0) in
    let reached = eqb s.covered (total s) in
    let ne = neqb→ne s.m 0 (and_left begun reached t) in
    let e = total-begun s ne in
    let all = ok.covered ∙ eqb→eq s.covered (total s) (and_right begun reached t) ∙ e in
    record {
      low = ok.low ne;
      high = ok.high;
      indices = ok.filled (start-some s.blocks (omega (arith, pow_pos s.m))) ∙ e;
      kinds = ok.kinds;
      ties = omega (arith, ok.ties, ok.few);
      blocks = λ b l. all-fit-ok (book_of s) b ok.blocks l;
      covered = all;
    }

-- ---- the run

-- a book, where there is one, keeps the limits
unfoldable LoadOk : Load → Type 0
LoadOk (refused r) = Unit {0}
LoadOk (loaded B) = Valid B

decided-ok : (o : Option Refusal) (other : Load) → (Passed o → LoadOk other) → LoadOk (decided o other)
unfolding decided LoadOk Passed
decided-ok none other f = f tt
decided-ok (some r) other f = tt

run_ok : (fuel : ℕ) (s : Loading) (bytes : List ℕ) → Ok s → LoadOk (load_from fuel s bytes)
unfolding load_from LoadOk
run_ok zero s bytes ok = tt
run_ok (suc fuel) s [] ok = tt
run_ok (suc fuel) s (byte ∷ after) ok =
    decided-ok (refusal s byte after) _
    (λ p.
    let c = command byte (take (width byte) after) in
    let (here, passed) = none-refused s byte after p in
    cond-case LoadOk (eqb byte 0x7f)
    (λ t. cond-case LoadOk (eqb (length after) 0) (λ _. end-valid s ok (subst (λ (b : ℕ). T (placed s b)) (eqb→eq byte 0x7f t) here)) (λ _. tt))
    (λ _. run_ok fuel (next s c) (drop (width byte) after) (next-ok s c ok (placed-command s byte _ here) passed)))

start-ok : Ok start
unfolding start
start-ok = empty-ok 0 (λ ne. absurd (ne refl)) zero-le

pub loaded-valid : (bytes : List ℕ) (B : Book) → load bytes ≡ loaded B → Valid B
unfolding load LoadOk
loaded-valid bytes B e = subst LoadOk e (run_ok (length bytes) start bytes start-ok)
