-- Every sample is answered as it was worked by hand, by computation with the definitions.
use mathlib.Core.Path.{◌≡◌, refl}
use mathlib.Core.Bool.{true}
use Rattle.semantics.specs.Numbers.{up_from, every, any, filter, find, distinct}
use Rattle.semantics.specs.Questions.{lowest_fault}
use Rattle.semantics.specs.Program.{op_of, kind_of}
use Rattle.semantics.specs.Widths.{width_ok, widths_ok, values_in_range}
use Rattle.semantics.specs.Expressions.{apply, value_of, first_values}
use Rattle.semantics.specs.Parents.{parent_below, ancestors_below}
use Rattle.semantics.specs.Check.{sizes_ok, expr_words_ok, kind_ok, end_within, end_ok, parent_ok, children_ok, unused_ok}
use Rattle.semantics.specs.Check.{node_ok, reference_words_ok, check_number, fault_item}
use Rattle.semantics.specs.Tree.{start_below, start_from, forest, statements, statement_at, tree_of}
use Rattle.semantics.specs.State.{lengths_ok, marks_are_bits, leaves_marked, pairs_meet_in_par, holds_mark, live_children}
use Rattle.semantics.specs.State.{counts_right, control_formed, well_formed}
use Rattle.semantics.specs.Walk.{enter, leave_child, leave_to}
use Rattle.semantics.specs.Climb.{turn_under, turn_by}
use Rattle.semantics.specs.Completion.{waits, channels_free, targets_apart, store}
use Rattle.semantics.specs.Cycle.{are_active, new_values, visit, walked, cycle}
use Rattle.semantics.specs.Run.{run}
use Rattle.semantics.specs.Calls.{root_walk, begin_answer, run_answer}
use Rattle.semantics.specs.Bytes.{bytes_of, words_of}
use Rattle.semantics.specs.File.{file_of, file_ok}
use Rattle.semantics.specs.FileCalls.{read_answer, write_answer, sizes_answer}
use Rattle.semantics.specs.Samples.{samples, all_pass}

pub samples_pass : all_pass samples ≡ true
unfolding samples up_from every any filter find distinct lowest_fault op_of kind_of apply value_of first_values parent_below
    ancestors_below sizes_ok expr_words_ok kind_ok end_within end_ok parent_ok children_ok unused_ok node_ok reference_words_ok
    width_ok widths_ok check_number fault_item start_below start_from forest statements statement_at tree_of lengths_ok marks_are_bits
    leaves_marked pairs_meet_in_par holds_mark live_children counts_right control_formed values_in_range well_formed enter
    leave_child leave_to turn_under turn_by waits channels_free targets_apart store are_active new_values visit walked cycle run root_walk
    begin_answer run_answer bytes_of words_of file_of file_ok read_answer write_answer sizes_answer
samples_pass = refl
