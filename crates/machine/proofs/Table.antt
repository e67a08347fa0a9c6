-- Every row of the marked table holds: by computing with the definitions. Assumes nothing.
use mathlib.Core.Path.{refl}
use Rattle.laws.specs.Lists.{All}
use Rattle.machine.specs.Rows.{Holds}
use Rattle.machine.specs.Table.{marked, marked_runs, queue_rows, clean_rows, good_books, truncated_books, unknown_commands, misplaced_books, out_of_range_books, too_many_tied_or_free, first_faults, codec_rows, record_rows, lent_rows, hook_rows, manner_rows, table}
use Rattle.machine.proofs.Computing.{computing}

marked-holds : All Holds marked
unfolding computing
marked-holds = (refl, (refl, (refl, (refl, (refl, ((refl, refl), tt))))))

marked-runs-holds : All Holds marked_runs
unfolding computing
marked-runs-holds = (refl, (refl, (refl, (refl, (refl, (refl, (refl, (refl, (refl, (refl, (refl, (refl, tt))))))))))))

queue-rows-holds : All Holds queue_rows
unfolding computing
queue-rows-holds = (refl, (refl, (refl, (refl, (refl, (refl, tt))))))

clean-rows-holds : All Holds clean_rows
unfolding computing
clean-rows-holds = (refl, (refl, (refl, (refl, (refl, (refl, (refl, (refl, (refl, (refl, (refl, tt)))))))))))

good-books-holds : All Holds good_books
unfolding computing
good-books-holds = (refl, (refl, (refl, (refl, (refl, (refl, (refl, (refl, (refl, (refl, tt))))))))))

truncated-books-holds : All Holds truncated_books
unfolding computing
truncated-books-holds = (refl, (refl, (refl, (refl, (refl, (refl, (refl, tt)))))))

unknown-commands-holds : All Holds unknown_commands
unfolding computing
unknown-commands-holds = (refl, (refl, (refl, (refl, tt))))

misplaced-books-holds : All Holds misplaced_books
unfolding computing
misplaced-books-holds = (refl, (refl, (refl, (refl, (refl, (refl, (refl, (refl, (refl, (refl, (refl, (refl, (refl, (refl, tt))))))))))))))

out-of-range-books-holds : All Holds out_of_range_books
unfolding computing
out-of-range-books-holds = (refl, (refl, (refl, (refl, (refl, (refl, (refl, (refl, (refl, (refl, (refl, (refl, (refl, (refl, (refl, (refl, (refl, (refl, (refl, (refl, tt))))))))))))))))))))

too-many-tied-or-free-holds : All Holds too_many_tied_or_free
unfolding computing
too-many-tied-or-free-holds = (refl, (refl, (refl, (refl, tt))))

first-faults-holds : All Holds first_faults
unfolding computing
first-faults-holds = (refl, (refl, (refl, (refl, (refl, (refl, (refl, (refl, (refl, tt)))))))))

codec-rows-holds : All Holds codec_rows
unfolding computing
codec-rows-holds = ((refl, refl), ((refl, refl), ((refl, refl), ((refl, refl), ((refl, refl), (refl, (refl, (refl, (refl, (refl, ((refl, refl), ((refl, refl), ((refl, refl), ((refl, refl), tt))))))))))))))

record-rows-holds : All Holds record_rows
unfolding computing
record-rows-holds = (refl, (refl, (refl, (refl, (refl, (refl, ((refl, refl), ((refl, refl), ((refl, refl), ((refl, refl), ((refl, refl), ((refl, refl), ((refl, refl), ((refl, refl), ((refl, refl), ((refl, refl), ((refl, refl), tt)))))))))))))))))

lent-rows-holds : All Holds lent_rows
unfolding computing
lent-rows-holds = (refl, (refl, (refl, (refl, (refl, (refl, (refl, (refl, (refl, (refl, (refl, (refl, (refl, (refl, (refl, (refl, (refl, (refl, (refl, tt)))))))))))))))))))

hook-rows-holds : All Holds hook_rows
unfolding computing
hook-rows-holds = (refl, (refl, (refl, (refl, (refl, tt)))))

manner-rows-holds : All Holds manner_rows
unfolding computing
manner-rows-holds = (refl, (refl, (refl, (refl, (refl, (refl, (refl, (refl, (refl, (refl, (refl, (refl, tt))))))))))))

-- the whole table
pub table-holds : All (All Holds) table
unfolding All table
table-holds = (marked-holds, (marked-runs-holds, (queue-rows-holds, (clean-rows-holds, (good-books-holds, (truncated-books-holds, (unknown-commands-holds, (misplaced-books-holds, (out-of-range-books-holds, (too-many-tied-or-free-holds, (first-faults-holds, (codec-rows-holds, (record-rows-holds, (lent-rows-holds, (hook-rows-holds, (manner-rows-holds, tt))))))))))))))))
