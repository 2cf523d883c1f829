-- What is proved of the rules: every end theorem with its statement in full. Each is proved in the file that its proof
-- names; all names in the statements are definitions of specs/.
use mathlib.Core.Path.{◌≡◌}
use mathlib.Core.Bool.{Bool, true}
use mathlib.Core.List.{List}
use mathlib.Core.Logic.{◌↔◌, ◌≢◌}
use mathlib.Core.Option.{none, some}
use Prim.Native.Nat.{ℕ, ◌+◌, ◌*◌, ◌%◌, ◌^◌, ◌≤◌, ◌<◌}
use lib.Pow.{are_bytes}
use lib.ListN.{length, get_or, take, replicate}
use Rattle.semantics.specs.Program.{Program, expr_count, node_count}
use Rattle.semantics.specs.Check.{expr_ok, node_ok, references_ok, check_number, fault_item}
use Rattle.semantics.specs.Widths.{width_at, width_ok}
use Rattle.semantics.specs.State.{State, lengths_ok, well_formed}
use Rattle.semantics.specs.Walk.{Walk, leave}
use Rattle.semantics.specs.Completion.{stores, target, source, store}
use Rattle.semantics.specs.Facts.{Ready, IsLowestFault, first_parts}
use Rattle.semantics.specs.Run.{run}
use Rattle.semantics.specs.Calls.{begin_answer, run_answer}
use Rattle.semantics.specs.Book.{entries_asked, first_wrong}
use Rattle.semantics.specs.Plain.{are_words, plain_check_number, plain_begin_answer, plain_run_answer}
use Rattle.semantics.specs.File.{Parts, exprs_back, sizes_of, parts_of, program_from}
use Rattle.semantics.specs.FileCalls.{filled, all_fit, all_filled, read_answer, write_answer, sizes_answer}
use Rattle.semantics.specs.Climb.{turns, Climbs}
use Rattle.semantics.specs.Climb.Turn.{leaves_next, over}
use Rattle.semantics.specs.Samples.{samples, all_pass}
use Rattle.semantics.proofs.Run.SamplesPass
use Rattle.semantics.proofs.Order.OrderRule
use Rattle.semantics.proofs.Order.RunTheorems
use Rattle.semantics.proofs.Order.VariableWidths
use Rattle.semantics.proofs.Order.OldPapers
use Rattle.semantics.proofs.Order.FirstFault
use Rattle.semantics.proofs.Files.RoundTrip
use Rattle.semantics.proofs.Walks.TurnLaws

-- The order rule. For an accepted program and a state that questions 5 and 6 let by, two books give equal answers of
-- run (number, item, cycles worked and the three lists) exactly when both first go wrong at the same cycle, or neither
-- goes wrong.
pub order_rule : (P : Program) → check_number P ≡ 0
    → (s : State) → lengths_ok P s ≡ true → well_formed P s ≡ true
    → (n : ℕ) (b d : List ℕ)
    → (run_answer P n s b ≡ run_answer P n s d) ↔ (first_wrong P n s b ≡ first_wrong P n s d)
order_rule = OrderRule.order_rule

-- Where begin answers 0, questions 5 and 6 let the state by that it leaves.
pub begun_ready : (P : Program) (s : State) → (begin_answer P s).number ≡ 0 → Ready P (begin_answer P s).state
begun_ready = RunTheorems.begun_ready

-- From such a state every number of cycles leads to such a state, so that run may be called again with what it left.
pub run_ready : (P : Program) → check_number P ≡ 0 → (s : State) → Ready P s
    → (n : ℕ) (book : List ℕ) → Ready P (run_answer P n s book).state
run_ready = RunTheorems.run_ready

-- A run that is refused before its first cycle has one answer, whatever the book and the number of cycles.
pub refused_alike : (P : Program) (s : State) → ¬ ((check_number P ≡ 0) × Ready P s)
    → (n m : ℕ) (b d : List ℕ) → run_answer P n s b ≡ run_answer P m s d
refused_alike = RunTheorems.refused_alike

-- A book that first goes wrong at cycle k is answered with 7 and k cycles worked.
pub wrong_book : (P : Program) → check_number P ≡ 0 → (s : State) → Ready P s
    → (n : ℕ) (book : List ℕ) (k : ℕ) → first_wrong P n s book ≡ some k
    → ((run_answer P n s book).number ≡ 7) × ((run_answer P n s book).worked ≡ k)
wrong_book = RunTheorems.wrong_book

-- A book that never goes wrong is never answered with 7.
pub right_book : (P : Program) → check_number P ≡ 0 → (s : State) → Ready P s
    → (n : ℕ) (book : List ℕ) → first_wrong P n s book ≡ none → (run_answer P n s book).number ≢ 7
right_book = RunTheorems.right_book

-- Later entries are not read: where a run asks for at most j entries, any book with the same first j is answered
-- alike.
pub entries_read : (P : Program) → check_number P ≡ 0 → (s : State) → Ready P s
    → (n : ℕ) (b d : List ℕ) (j : ℕ) → entries_asked P n s b ≤ j → take j b ≡ take j d
    → run_answer P n s b ≡ run_answer P n s d
entries_read = RunTheorems.entries_read

-- Runs compose. Where a run of n cycles works all of them, a run of n + m cycles is that run and then one of m cycles
-- from the state that it left, with the entries that it left unread.
pub run_then_run : (P : Program) → check_number P ≡ 0 → (s : State) → Ready P s
    → (n m : ℕ) (book : List ℕ) → (run_answer P n s book).worked ≡ n
    → (let r = run P n s book in let a = run_answer P m r.state r.unread in
    run_answer P (n + m) s book
    ≡ record { number = a.number; item = a.item; worked = n + a.worked; state = a.state })
run_then_run = RunTheorems.run_then_run

-- Where a run of n cycles works fewer, a run of n + m cycles has the same answer.
pub run_over : (P : Program) → check_number P ≡ 0 → (s : State) → Ready P s
    → (n m : ℕ) (book : List ℕ) → (run_answer P n s book).worked < n
    → run_answer P (n + m) s book ≡ run_answer P n s book
run_over = RunTheorems.run_over

-- One store. Where leaf i stores the value of expression e, its variable then holds as many low bits of it as it is
-- wide, and every other variable what it held.
pub store_modulo : (P : Program) (marks table values : List ℕ) (i e : ℕ)
    → stores P marks i ≡ true → source P marks i ≡ some e → target P marks i < length values
    → (let v = target P marks i in let after = store P marks table values i in
    (get_or after v 0 ≡ get_or table e 0 % 2 ^ width_at P.widths v)
    × ((w : ℕ) → w ≢ v → get_or after w 0 ≡ get_or values w 0))
store_modulo = VariableWidths.store_modulo

-- For an accepted program and a state that questions 5 and 6 let by, after any number of cycles by any book no value
-- has more bits than its variable.
pub variable_widths : (P : Program) → check_number P ≡ 0 → (s : State) → Ready P s
    → (n : ℕ) (book : List ℕ) (v : ℕ) → v < P.variables
    → get_or (run_answer P n s book).state.values v 0 < 2 ^ width_at P.widths v
variable_widths = VariableWidths.variable_widths

-- Old papers keep their answers. Where every variable is 16 bits wide, and the words of the expressions and the values
-- are words, check, begin and run answer as the rules without widths do, whether they refuse or not.
pub old_papers : (P : Program) → P.widths ≡ replicate P.variables 16 → are_words P.exprs ≡ true
    → (s : State) → are_words s.values ≡ true
    → (check_number P ≡ plain_check_number P) × (begin_answer P s ≡ plain_begin_answer P s)
    × ((n : ℕ) (book : List ℕ) → run_answer P n s book ≡ plain_run_answer P n s book)
old_papers = OldPapers.old_papers

-- The first fault. With 2 check's item is the lowest faulty expression, with 3 and 4 the lowest faulty node, and with
-- 11, where there is a width for each variable, the lowest variable whose width is bad. It is 0 with 11 where there is
-- not, and with every other number.
pub first_fault : (P : Program)
    → (check_number P ≡ 2 → IsLowestFault (expr_ok P) (expr_count P.exprs) (fault_item P (check_number P)))
    × (check_number P ≡ 3 → IsLowestFault (node_ok P.nodes) (node_count P.nodes) (fault_item P (check_number P)))
    × (check_number P ≡ 4 → IsLowestFault (references_ok P) (node_count P.nodes) (fault_item P (check_number P)))
    × (length P.widths ≡ P.variables → check_number P ≡ 11
    → IsLowestFault (λ v. width_ok (width_at P.widths v)) P.variables (fault_item P (check_number P)))
    × (length P.widths ≢ P.variables → fault_item P 11 ≡ 0)
    × ((q : ℕ) → q ≢ 2 → q ≢ 3 → q ≢ 4 → q ≢ 11 → fault_item P q ≡ 0)
first_fault = FirstFault.first_fault

-- Begin and run give check's item, for every program, state, number of cycles and book.
pub item_of_check : (P : Program) (s : State) (n : ℕ) (book : List ℕ)
    → ((begin_answer P s).item ≡ fault_item P (check_number P))
    × ((run_answer P n s book).item ≡ fault_item P (check_number P))
item_of_check = FirstFault.item_of_check

-- Papers as files: what is written is read again. Take an accepted program with a value for each variable. In a buffer
-- that is long enough write leaves a file, with number 0. Of the file, sizes gives N, E, V and C of the program, and
-- read gives number 0 and the expressions, nodes, values and widths, in any buffers that are long enough; their spare
-- words are as they stood.
pub write_then_read : (P : Program) → check_number P ≡ 0 → (values : List ℕ) → length values ≡ P.variables
    → (buffer : List ℕ) → 2 * exprs_back (sizes_of P) + 16 ≤ length buffer
    → (lent : Parts) → all_fit (parts_of P values) lent ≡ true
    → (let written = write_answer P values buffer in
    let file = take (2 * exprs_back (sizes_of P) + 16) written.buffer in
    (written.number ≡ 0) × (sizes_answer file ≡ sizes_of P)
    × (read_answer file lent ≡ record { number = 0; item = 0; buffers = all_filled (parts_of P values) lent }))
write_then_read = RoundTrip.write_then_read

-- And what is read is written again. Take bytes that read accepts. What it leaves at the start of the buffers, written
-- into a buffer that is long enough, gives the same bytes, with the spare bytes as they stood.
pub read_then_write : (file : List ℕ) → are_bytes file ≡ true → (lent : Parts) → (read_answer file lent).number ≡ 0
    → (buffer : List ℕ) → length file ≤ length buffer
    → (let sizes = sizes_answer file in
    let parts = first_parts sizes (read_answer file lent).buffers in
    write_answer (program_from sizes parts) parts.values buffer
    ≡ record { number = 0; item = 0; buffer = filled file buffer })
read_then_write = RoundTrip.read_then_write

-- The climb as a loop. Whatever the conditions are, a climb from a node of an accepted program is over after N turns,
-- and what the turns have left then is what leaving the node gives.
pub climb_in_turns : (P : Program) → check_number P ≡ 0
    → (holds : ℕ → Bool) (i : ℕ) → i < node_count P.nodes → (w : Walk)
    → turns holds P.nodes (node_count P.nodes) (leaves_next i w) ≡ over (leave holds P.nodes i w)
climb_in_turns = TurnLaws.climb_in_turns

-- No climb takes more than N turns: where one is over after n turns and no fewer, n is at most N, and what is left then
-- is what leaving the node gives.
pub climb_bound : (P : Program) → check_number P ≡ 0
    → (holds : ℕ → Bool) (i : ℕ) → i < node_count P.nodes → (w : Walk)
    → (n : ℕ) (r : Walk) → Climbs holds P.nodes i w n r → (n ≤ node_count P.nodes) × (r ≡ leave holds P.nodes i w)
climb_bound = TurnLaws.climb_bound

-- Check, begin, run, read, write and sizes answer every sample of specs/Samples as written there, and the turns of a
-- climb leave the nodes that are written there.
pub samples_pass : all_pass samples ≡ true
samples_pass = SamplesPass.samples_pass
