-- The reader's run of a call: on the workspace that it is lent, at its stated size, whatever it holds. Assumes nothing.
use Rattle.std.specs.Prelude.{List, take, ℤ}
use Rattle.codebook.specs.declared.Shape.{Shape}
use Rattle.codebook.specs.Book.{Book}
use Rattle.codebook.specs.Loading.{book_shape}
use Rattle.settings.specs.declared.Settings.{Settings}
use Rattle.queue.specs.Queue.{Final, Run}
use Rattle.machine.specs.Calls.{Lent, numbers_needed, bytes_needed}
use Rattle.reader.specs.Arrays.{Arrays}
use Rattle.reader.specs.Reader.{run_of}
use Rattle.reading.specs.Running.{arrays_of, received}

-- the arrays that the reader starts with: the workspace at its stated size, with these values as root values of array 1
unfoldable pub arrays_lent : Shape → Settings → List ℤ → Lent → Arrays
arrays_lent x s ys l = arrays_of x.m (received x.m ys (take (numbers_needed x s) l.numbers)) (take (bytes_needed x s) l.bytes)

-- its run from them
unfoldable pub reader_run : Book → Settings → List ℤ → Lent → Run Final
reader_run B s ys l = run_of B s.visits s.paths (arrays_lent (book_shape B) s ys l)
