-- Step records: those of a list of extractions, and number buffers copied into a slice of records. Assumes nothing.
use Rattle.std.specs.Prelude.{List, ◌++◌, map, ℕ, zero, suc, length, set, get_or, drop, ℤ, pos}
use Rattle.queue.specs.Queue.{Step}
use Rattle.steprecords.specs.declared.StepRecord.{StepRecord}

-- the record of one extraction
unfoldable pub record_of : Step → StepRecord
record_of s = record { path = pos s.path; blocks = pos s.blocks; score = s.score }

-- the record of zeros
unfoldable pub blank : StepRecord
blank = record { path = pos 0; blocks = pos 0; score = pos 0 }

-- the record of extraction i of a list, counted from 0: zeros where there is none
unfoldable pub nth_record : List Step → ℕ → StepRecord
nth_record steps i = get_or (map record_of steps) i blank

-- a slice of records: from entry 0 on a record for each extraction, the rest as it was
unfoldable pub recorded : List Step → List StepRecord → List StepRecord
recorded steps old = map record_of steps ++ drop (length steps) old

-- entry i of three buffers, as a record
unfoldable pub record_at : List ℤ → List ℤ → List ℤ → ℕ → StepRecord
record_at paths blocks scores i = record { path = get_or paths i (pos 0); blocks = get_or blocks i (pos 0); score = get_or scores i (pos 0) }

-- the first n entries of three buffers, copied into a slice
unfoldable pub copied : List StepRecord → List ℤ → List ℤ → List ℤ → ℕ → List StepRecord
copied old paths blocks scores zero = old
copied old paths blocks scores (suc n) = set (copied old paths blocks scores n) n (record_at paths blocks scores n)
