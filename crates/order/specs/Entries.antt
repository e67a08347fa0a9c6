-- The queue as an array of entries, the first path last. An entry is a path's key and slot in one number: the score raised by 2^21 counts 2^33, the
-- blocks count 2^23, 32767 less the number counts 2^8, and the slot is the rest. So the greater of two entries has the path that comes first.
-- Assumes nothing.
use Rattle.std.specs.Prelude.{◌≡◌, List, [], ◌∷◌, ℕ, zero, suc, ◌-◌, ◌/◌, ◌%◌, ◌≤◌, ◌<◌, length, get_or, pos, ◌-ℤ◌}
use Rattle.queue.specs.Queue.{Key}

-- the key of an entry, and its slot
unfoldable pub key_at : ℕ → Key
key_at e = record { score = pos (e / 8589934592) -ℤ pos 2097152; blocks = e / 8388608 % 1024; number = 32767 - e / 256 % 32768 }

unfoldable pub slot_at : ℕ → ℕ
slot_at e = e % 256

-- an entry has this key and slot; none reaches 2^55
pub record Packed (e : ℕ) (k : Key) (s : ℕ) : Type 0 where
  pub key : key_at e ≡ k
  pub slot : slot_at e ≡ s
  pub low : e < 36028797018963968

-- the queue of the first n entries of an array: the last entry is the first path's
unfoldable pub queue_of : List ℕ → ℕ → List ℕ
queue_of order zero = []
queue_of order (suc n) = get_or order n 0 ∷ queue_of order n

-- the first n entries never fall, but for their slots: the queue's order, first path last
unfoldable pub Rising : List ℕ → ℕ → Type 0
Rising order n = (i j : ℕ) → i ≤ j → j < n → get_or order i 0 / 256 ≤ get_or order j 0 / 256

-- on the way of an insertion: the entries from `at` on, of those queued, have moved up by one, and e comes before none of them
pub record Moved (old new : List ℕ) (e at queued : ℕ) : Type 0 where
  pub size : length new ≡ length old
  pub low : (k : ℕ) → k < at → get_or new k 0 ≡ get_or old k 0
  pub high : (k : ℕ) → at ≤ k → k < queued → get_or new (suc k) 0 ≡ get_or old k 0
  pub above : (k : ℕ) → at ≤ k → k < queued → e / 256 ≤ get_or old k 0 / 256
  pub rest : (k : ℕ) → queued < k → get_or new k 0 ≡ get_or old k 0
