-- What copying the walk's buffers comes to: a slice as long as before and, where the buffers hold the walk of a list of extractions, the records of
-- these; and zeros past the last extraction. By induction on the number of records copied. Assumes nothing.
use mathlib.Core.Path.{◌≡◌, refl, sym, ap, ap₂, ◌∙◌}
use mathlib.Core.List.{List, [], ◌++◌, map}
use Prim.Native.Nat.{ℕ, zero, suc, ◌+◌, ◌<◌, ◌≤◌}
use native.Mathlib.Nat.{zero-add}
use native.Mathlib.Numerals.{add-one}
use native.Mathlib.Omega.{arith}
use lib.IntN.{ℤ, pos}
use lib.ListN.{length, set, get_or, drop, take, take-append-drop, length-take, length-set, length-map, get_or-append, get_or-map, get_or-eq_default}
use Rattle.std.proofs.lemmas.List.{set-append_left}
use lib.Seq.{paste, paste-zero, paste-suc, take-length}
use Rattle.queue.specs.Queue.{Step}
use Rattle.machine.specs.Calls.{walked}
use Rattle.steprecords.specs.declared.StepRecord.{StepRecord}
use Rattle.steprecords.specs.Records.{record_of, blank, nth_record, recorded, record_at, copied}

pub length-copied : (old : List StepRecord) (paths blocks scores : List ℤ) (n : ℕ) → length (copied old paths blocks scores n) ≡ length old
unfolding copied
length-copied old paths blocks scores zero = refl
length-copied old paths blocks scores (suc n) =
    length-set (copied old paths blocks scores n) n (record_at paths blocks scores n) ∙ length-copied old paths blocks scores n

-- the entries of one more record
pub copied-next : (old : List StepRecord) (paths blocks scores : List ℤ) (n : ℕ) (l : List StepRecord) (p b z : ℤ) → l ≡ copied old paths blocks scores n
    → p ≡ get_or paths n (pos 0) → b ≡ get_or blocks n (pos 0) → z ≡ get_or scores n (pos 0)
    → set l n (record { path = p; blocks = b; score = z }) ≡ copied old paths blocks scores (n + 1)
unfolding copied record_at
copied-next old paths blocks scores n l p b z el ep eb ez = rw (add-one n, el, ep, eb, ez) refl

-- copied into the first part of a slice, the records are copied into the slice
pub copied-part : (old : List StepRecord) (paths blocks scores : List ℤ) (m n : ℕ) → n ≤ m → m ≤ length old
    → copied (take m old) paths blocks scores n ++ drop m old ≡ copied old paths blocks scores n
unfolding copied
copied-part old paths blocks scores m zero h in-old = take-append-drop m old
copied-part old paths blocks scores m (suc n) k in-old =
    let h : n < length (copied (take m old) paths blocks scores n) = omega (arith, length-copied (take m old) paths blocks scores n, length-take m old) in
    sym (set-append_left (copied (take m old) paths blocks scores n) (drop m old) n (record_at paths blocks scores n) h)
    ∙ ap (λ (l : List StepRecord). set l n (record_at paths blocks scores n)) (copied-part old paths blocks scores m n (omega arith) in-old)

-- an entry of a walk buffer is that of its extraction
walked-entry : (entry : Step → ℤ) (steps : List Step) (old : List ℤ) (i : ℕ) (d : Step) → i < length steps → get_or (walked entry steps old) i (entry d) ≡ entry (get_or steps i d)
unfolding walked
walked-entry entry steps old i d h =
    get_or-append (map entry steps) (drop (length steps) old) (entry d) i (omega (arith, h, length-map steps entry)) ∙ get_or-map entry steps i d

-- what stands past the end of a list of extractions
abbrev no_step : Step
no_step = record { path = 0; blocks = 0; score = pos 0; crowded = []; outrun = [] }

-- past the last extraction the record is zeros
pub past : (steps : List Step) (i : ℕ) → length steps ≤ i → blank ≡ nth_record steps i
unfolding nth_record
past steps i h = sym (get_or-eq_default (map record_of steps) blank (omega (arith, h, length-map steps record_of)))

module _ (steps : List Step) (paths blocks scores : List ℤ) where
  -- the walk of the extractions, in each buffer
  abbrev ps : List ℤ
  ps = walked (λ s. pos s.path) steps paths

  abbrev bs : List ℤ
  bs = walked (λ s. pos s.blocks) steps blocks

  abbrev ss : List ℤ
  ss = walked (λ s. s.score) steps scores

  -- an entry of the three buffers is the record of its extraction
  pub record-at : (i : ℕ) → i < length steps → record_at ps bs ss i ≡ nth_record steps i
  unfolding record_of blank nth_record record_at
  record-at i h =
      ap₂ (λ (p b : ℤ). record { path = p; blocks = b; score = get_or ss i (pos 0) }) (walked-entry (λ s. pos s.path) steps paths i no_step h) (walked-entry (λ s. pos s.blocks) steps blocks i no_step h)
      ∙ ap (λ (z : ℤ). record { path = pos (get_or steps i no_step).path; blocks = pos (get_or steps i no_step).blocks; score = z }) (walked-entry (λ s. s.score) steps scores i no_step h)
      ∙ sym (get_or-map record_of steps i no_step)

  module _ (old : List StepRecord) where
    copied-first : (n : ℕ) → n ≤ length steps → length steps ≤ length old → copied old ps bs ss n ≡ paste old 0 (map record_of steps) n
    unfolding copied nth_record
    copied-first zero h in-old = paste-zero old 0 (map record_of steps)
    copied-first (suc n) h in-old =
        ap₂ (λ (l : List StepRecord) (r : StepRecord). set l n r) (copied-first n (omega (arith, h)) in-old) (record-at n h)
        ∙ ap (λ (k : ℕ). set (paste old 0 (map record_of steps) n) k (nth_record steps n)) (sym (zero-add n))
        ∙ paste-suc old 0 (map record_of steps) n blank (omega (arith, h, in-old)) (omega (arith, h, length-map steps record_of))

    -- copied whole, it is their records
    pub copied-recorded : length steps ≤ length old → copied old ps bs ss (length steps) ≡ recorded steps old
    unfolding recorded
    copied-recorded in-old =
        copied-first (length steps) (omega arith) in-old
        ∙ ap₂ (λ (k m : ℕ). take k (map record_of steps) ++ drop m old) (sym (length-map steps record_of)) (zero-add (length steps))
        ∙ ap (λ (l : List StepRecord). l ++ drop (length steps) old) (take-length (map record_of steps))
