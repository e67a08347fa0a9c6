-- Demands 2 and 3 (specs/Demands), each by citing. Assumes nothing.
use Rattle.codebook.proofs.Loaded.{loaded-valid}
use Rattle.codec.proofs.Reverse.{read-encode, encode-in, in-iff}
use Rattle.codec.proofs.Calls.{test-of-encode, read-of-encode, encode-of-read, read-of-make, make-of-read}
use Rattle.runs.proofs.Final.{run-exact}
use Rattle.runs.proofs.Handed.{handed}
use Rattle.reader.proofs.Agree.{agree}
use Rattle.attempts.proofs.Whole.{calls-agree, whole-call}
use Rattle.demands.specs.Demands.{Demand2, Demand3}

-- encode, test and read-back follow the code, each the reverse of the other; a decoded word is in the code, its discrepancy is exact, and it is handed out exactly when the verdicts allow
pub demand2 : Demand2
demand2 =
    record {
      reverse = λ bytes B e.
          let ok = loaded-valid bytes B e in
          record { member = λ ds l b. encode-in B ds ok l b; back = λ ds l b. read-encode B ds ok l b; exactly = λ c l b. in-iff B c ok l b };
      calls = λ book.
          record {
            tested = test-of-encode book;
            read = read-of-encode book;
            encoded = encode-of-read book;
            record-read = read-of-make book;
            record-made = make-of-read book;
          };
      exact = λ bytes B e. run-exact B (loaded-valid bytes B e);
      handed = handed;
    }

-- the reader and the plain machine make the same run, and so the same call
pub demand3 : Demand3
demand3 = record { runs = agree; calls = calls-agree; whole = whole-call }
