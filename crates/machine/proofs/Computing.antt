-- One name that opens the definitions of this crate and of those below it, for proofs that compute with them: `unfolding computing`. Assumes nothing.
use mathlib.Core.List.{zip_with}
use Rattle.laws.specs.Lists.{All, keep, sum}
use Rattle.polar.specs.Bits.{add_bits, number, to_bits, from_bits}
use Rattle.polar.specs.Transform.{transform}
use Rattle.polar.specs.Soft.{sign, Q, P, Qs, Ps, hard, penalty, cost, discrepancy}
use Rattle.polar.specs.Value.{value, penalties, R}
use Rattle.codebook.specs.Refusals.{unless}
use Rattle.codebook.specs.Book.{free_count, start_of, block_at, kinds_of}
use Rattle.codebook.specs.Loading.{listed, width, big_endian, signed, command, start, total, terms_of, last_terms, member, placed, fault, grown, next, book_of, refusal, decided, load_from, load, shape_of}
use Rattle.codec.specs.Code.{parity, fill, free_bits, obeys, obeys_all, encode, in_code, read_data}
use Rattle.codec.specs.Record.{status_number, status_of, no_record, record_fits, record_bits, field_at, record_with, read_record}
use Rattle.codec.specs.Calls.{are_bits, word_fits, data_fits, holds_record, kept, wrote, encode_with, encode_call, test_with, test_call, read_data_with, read_data_call, make_record_with, make_record_call, record_read, read_record_with, read_record_call, hook_read}
use Rattle.queue.specs.Run.{ended, after, trace, most_extractions}
use Rattle.queue.specs.Queue.{before, insert, ahead, behind, staying, outrun_by, numbers, room_for, crowded_out, visit, end_as, end_in, run_in}
use Rattle.machine.specs.Choice.{choose, first_of}
use Rattle.machine.specs.Words.{rank, nearer, setting, nearest_with, nearest, next_after}
use Rattle.machine.specs.Machine.{key_of, score_of, path, empty_path, copy_with, copy_of, cut, advance_with, advance, extract, taking_from, taking, extract_at, step_at, next_at, first_state, trace_of, run_of}
use Rattle.settings.specs.Settings.{settings_ok}
use Rattle.machine.specs.Calls.{first_failed, numbers_needed, bytes_needed, walk_needed, lengths_ok, at_least, exactly, beside_ok, holds, values_ok, tests_before, barred, final_of, end_of, machine_run, final_in, within, is_read, record_tests, verdicts, verdict, outcome_of, record_or, hook_of, counts_of, no_counts, walked, after_run, refused_as, refused_call, ran_call, unbarred, call_with, call_by}
use Rattle.machine.specs.Rows.{shape, shape_as, words_from, words_of, steps_of, seen, seen_hook, Holds}
use Rattle.machine.specs.Table.{size, frees, zeros, tie, term, wide, block, block_below, block_with, end, times, hook_book, tied_book, flat_book, pair_book, last_zero_book, sum_book, one_block, record_book, repeat_book, ties_book, wide_runs, wide_ties, hook_values, clean_values, room, hook_room, flat_room, flat_walk, record_room, repeat_room, hook_run, plainly, step, counts, gave, kept_back, hook, blank, held, held_bits, held_word, marked, marked_runs, queue_rows, clean_rows, good_books, truncated_books, unknown_commands, misplaced_books, out_of_range_books, too_many_tied_or_free, first_faults, codec_rows, record_rows, lent_rows, hook_rows, manner, manner_rows, table}

unfoldable pub computing : Unit {0}
unfolding zip_with All keep sum add_bits number to_bits from_bits transform sign Q P Qs Ps hard penalty cost discrepancy value penalties R unless free_count start_of block_at kinds_of listed width big_endian signed command start total terms_of last_terms member placed fault grown next book_of refusal decided load_from load shape_of parity fill free_bits obeys obeys_all encode in_code read_data status_number status_of no_record record_fits record_bits field_at record_with read_record are_bits word_fits data_fits holds_record kept wrote encode_with encode_call test_with test_call read_data_with read_data_call make_record_with make_record_call record_read read_record_with read_record_call hook_read before insert ahead behind numbers room_for crowded_out visit choose first_of rank nearer setting nearest_with nearest next_after key_of score_of path empty_path copy_with copy_of cut advance_with advance staying outrun_by extract ended after trace most_extractions end_in run_in taking_from taking extract_at step_at next_at first_state trace_of run_of settings_ok first_failed numbers_needed bytes_needed walk_needed lengths_ok at_least exactly beside_ok holds values_ok tests_before barred end_as final_of end_of machine_run final_in within is_read record_tests verdicts verdict outcome_of record_or hook_of counts_of no_counts walked after_run refused_as refused_call ran_call unbarred call_with call_by shape shape_as words_from words_of steps_of seen seen_hook Holds size frees zeros tie term wide block block_below block_with end times hook_book tied_book flat_book pair_book last_zero_book sum_book one_block record_book repeat_book ties_book wide_runs wide_ties hook_values clean_values room hook_room flat_room flat_walk record_room repeat_room hook_run plainly step counts gave kept_back hook blank held held_bits held_word marked marked_runs queue_rows clean_rows good_books truncated_books unknown_commands misplaced_books out_of_range_books too_many_tied_or_free first_faults codec_rows record_rows lent_rows hook_rows manner manner_rows table
computing = tt
