-- What a decoding call leaves in its count of extractions and in the walk's buffers fits the buffers, and the room for records where a run is made: a run has no more extractions than
-- its manner asks records for. Assumes nothing.
use mathlib.Core.Path.{◌≡◌, refl}
use mathlib.Core.Bool.{◌&&◌}
use mathlib.Core.Option.{Option, none, some}
use Rattle.std.specs.Prelude.{None}
use Prim.Native.Nat.{ℕ, ◌≤◌}
use native.Mathlib.Omega.{arith}
use lib.ListN.{length}
use lib.Dec.{leb, leb→le}
use Rattle.laws.proofs.Tests.{and_left}
use Rattle.codebook.specs.declared.Refusal.{Refusal}
use Rattle.codebook.specs.Book.{Book}
use Rattle.codebook.specs.Loading.{Load, refused, loaded, load}
use Rattle.queue.specs.Run.{most_extractions}
use Rattle.machine.specs.declared.Reads.{Reads}
use Rattle.machine.specs.declared.HookDecoded.{HookDecoded}
use Rattle.machine.specs.Calls.{Input, Lent, walk_needed, at_least, exactly, counts_size, record_size, beside_ok, barred, readied, machine_run, refused_call, ran_call, unbarred, call_with, call_by, call_of}
use Rattle.runs.specs.Handed.{Made}
use Rattle.runs.proofs.Handed.{made-free}
use Rattle.runs.proofs.Ends.{run-steps}
use Rattle.decoder.specs.Decodes.{Decodes}
use Rattle.decoder.proofs.Walked.{extracted, left-long}
use Rattle.screen.specs.Screen.{showing, Fitting}

-- a run that is made has room for its records
steps-few : (r : Reads) (room : ℕ) (c : Input) (l : Lent) (B : Book) → Made (showing r room) c l B →
    length (machine_run B c.settings (readied (showing r room) c) l).steps ≤ room
unfolding machine_run beside_ok at_least walk_needed
steps-few r room c l B m =
    let f = made-free (showing r room) c l B m in
    let s = c.settings in
    let most = most_extractions s.visits (length B.blocks) in
    let enough = leb→le most room (and_left (leb most room) (exactly counts_size None) (and_left (leb most room && exactly counts_size None) (exactly record_size None) f.beside)) in
    omega (arith, enough, run-steps B s.visits s.paths (readied (showing r room) c))

steps-roomy : (r : Reads) (room : ℕ) (c : Input) (l : Lent) → length (call_of (showing r room) c l).steps ≤ room
unfolding call_by call_with unbarred refused_call ran_call
steps-roomy r room c l = go (load c.book) refl
  where
    checked : (B : Book) → load c.book ≡ loaded B → (o : Option Refusal) → barred (showing r room) B c l ≡ o → length (unbarred machine_run (showing r room) B c l o).steps ≤ room
    checked B e (some x) b = omega arith
    checked B e none b = steps-few r room c l B (record { loads = e; unbarred = b })

    go : (x : Load) → load c.book ≡ x → length (call_with machine_run (showing r room) x c l).steps ≤ room
    go (refused x) e = omega arith
    go (loaded B) e = checked B e (barred (showing r room) B c l) refl

pub left_fits : (r : Reads) (room : ℕ) (c : Input) (l : Lent) (answer : HookDecoded) (after : Lent) → Decodes (showing r room) c l answer after → Fitting answer.counts room after
unfolding Fitting
left_fits r room c l answer after d =
    let e = left-long (showing r room) c l answer after d in
    (omega (arith, steps-roomy r room c l, (extracted (showing r room) c l answer after d).counted), e.0, e.1, e.2)
