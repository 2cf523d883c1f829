-- No rules: the rules as they were before variables had widths, each in the shape of the definition that it stands
-- beside. The theorem `old_papers` compares them with the present ones; nothing else reads them.
use Rattle.std.specs.Prelude.{Bool, cond, not, ℕ, zero, suc, eqb, ltb, get_or, set}
use mathlib.Core.List.{List, [], ◌∷◌, ◌++◌, foldl}
use Rattle.std.proofs.Math.Option.{Option, none, some}
use Rattle.semantics.specs.Numbers.{below, every}
use Rattle.semantics.specs.Program.{Program, expr_count, node_count}
use Rattle.semantics.specs.Expressions.{expr_values}
use Rattle.semantics.specs.Questions.{Question, ask, first_no}
use Rattle.semantics.specs.Check.{sizes_ok, expr_ok, node_ok, references_ok}
use Rattle.semantics.specs.State.{State, lengths_ok, control_formed, ended}
use Rattle.semantics.specs.Completion.{stores, target, source}
use Rattle.semantics.specs.Cycle.{Outcome, answered, walked, cycle_questions}
use Rattle.semantics.specs.Run.{Run, stopped, next_entries, later_entries, go_on}
use Rattle.semantics.specs.Calls.{Answer, answer, root_walk}

-- Every number of the list is a word, below 65,536.
unfoldable pub are_words : List ℕ → Bool
are_words = every (λ w. ltb w 65536)

-- ---- a cycle

-- Variable v gets the whole value that the table has for an expression.
abbrev pub plain_store_value : List ℕ → List ℕ → ℕ → Option ℕ → List ℕ
plain_store_value table values v none = values
plain_store_value table values v (some e) = set values v (get_or table e 0)

-- Entry i's store.
unfoldable pub plain_store : Program → List ℕ → List ℕ → List ℕ → ℕ → List ℕ
plain_store P marks table values i =
    cond (stores P marks i) (plain_store_value table values (target P marks i) (source P marks i)) values

-- The values after the stores of all entries.
unfoldable pub plain_new_values : Program → State → List ℕ → List ℕ
plain_new_values P s entries = foldl (plain_store P s.marks (expr_values P.exprs s.values)) s.values entries

-- One cycle, with the walks and questions 7 to 10 of the present rules.
unfoldable pub plain_cycle : Program → State → List ℕ → Outcome
plain_cycle P s entries =
    let values = plain_new_values P s entries in
    let w = walked P s values entries in
    answered (first_no (cycle_questions P s entries w)) (record { values = values; marks = w.marks; counts = w.counts })

-- n cycles asked.
unfoldable pub plain_run : Program → ℕ → State → List ℕ → Run
plain_run P zero s book = stopped 0 s book
plain_run P (suc n) s book =
    let more = go_on (plain_cycle P s (next_entries s book)) s book (λ s'. plain_run P n s' (later_entries s book)) in
    cond (ended s) (stopped 0 s book) more

-- ---- the calls

-- Check asked questions 1 to 4.
abbrev pub plain_check_questions : Program → List Question
plain_check_questions P =
    ask 1 (sizes_ok P)
    ∷ ask 2 (every (expr_ok P) (below (expr_count P.exprs)))
    ∷ ask 3 (every (node_ok P.nodes) (below (node_count P.nodes)))
    ∷ ask 4 (every (references_ok P) (below (node_count P.nodes)))
    ∷ []

-- The number that check gave.
unfoldable pub plain_check_number : Program → ℕ
plain_check_number P = first_no (plain_check_questions P)

-- Begin asked questions 1 to 5 and 10.
unfoldable pub plain_begin_answer : Program → State → Answer
plain_begin_answer P s =
    let w = root_walk P s.values in
    let q = first_no (plain_check_questions P ++ ask 5 (lengths_ok P s) ∷ ask 10 (not w.looped) ∷ []) in
    cond (eqb q 0) (answer P 0 0 (record { values = s.values; marks = w.marks; counts = w.counts })) (answer P q 0 s)

-- Run asked questions 1 to 6, the last of marks and counts alone, and then worked cycles.
unfoldable pub plain_run_answer : Program → ℕ → State → List ℕ → Answer
plain_run_answer P n s book =
    let r = plain_run P n s book in
    let ran : Answer = answer P r.number r.worked r.state in
    let formed = control_formed P.nodes s.marks s.counts in
    let q = first_no (plain_check_questions P ++ ask 5 (lengths_ok P s) ∷ ask 6 formed ∷ []) in
    cond (eqb q 0) ran (answer P q 0 s)
