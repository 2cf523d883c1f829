-- The calls begin and run, from "Questions in order": all their questions, and the lists that they leave. Check's
-- number is `check_number`, and its item the one of that number.
use Rattle.std.specs.Prelude.{false, cond, not, List, [], ◌∷◌, ◌++◌, ℕ, eqb, replicate}
use Rattle.semantics.specs.Program.{Program, node_count}
use Rattle.semantics.specs.Expressions.{is_true}
use Rattle.semantics.specs.Questions.{ask, first_no}
use Rattle.semantics.specs.Check.{check_questions, fault_item}
use Rattle.semantics.specs.Tree.{tree_of}
use Rattle.semantics.specs.Widths.{values_in_range}
use Rattle.semantics.specs.State.{State, lengths_ok, well_formed}
use Rattle.semantics.specs.Walk.{Walk, walk_of, enter}
use Rattle.semantics.specs.Run.{run}

-- The number, the item, the cycles worked and the three lists. Begin works no cycle.
pub record Answer : Type 0 where
  pub number : ℕ
  pub item : ℕ
  pub worked : ℕ
  pub state : State

-- The item of an answer is the one of its number.
abbrev pub answer : Program → ℕ → ℕ → State → Answer
answer P q k s = record { number = q; item = fault_item P q; worked = k; state = s }

-- Entering node 0, whatever stood in marks and counts.
unfoldable pub root_walk : Program → List ℕ → Walk
root_walk P values =
    let zeros : List ℕ = replicate (node_count P.nodes) 0 in
    walk_of (enter (is_true P values) (tree_of P.nodes) (record { marks = zeros; counts = zeros; looped = false }))

-- Begin asks what check asks, question 5, question 6 of the values alone, and 10. It keeps the values and gives the
-- marks and counts of `root_walk`; where it refuses, all three lists stay.
unfoldable pub begin_answer : Program → State → Answer
begin_answer P s =
    let w = root_walk P s.values in
    let in_range = values_in_range P.widths s.values in
    let q = first_no (check_questions P ++ ask 5 (lengths_ok P s) ∷ ask 6 in_range ∷ ask 10 (not w.looped) ∷ []) in
    cond (eqb q 0) (answer P 0 0 (record { values = s.values; marks = w.marks; counts = w.counts })) (answer P q 0 s)

-- Run asks what check asks, questions 5 and 6, and then works cycles, each of which asks 7 to 10. Where one of the
-- former is answered no, no cycle is worked and all three lists stay.
unfoldable pub run_answer : Program → ℕ → State → List ℕ → Answer
run_answer P n s book =
    let r = run P n s book in
    let ran : Answer = answer P r.number r.worked r.state in
    let q = first_no (check_questions P ++ ask 5 (lengths_ok P s) ∷ ask 6 (well_formed P s) ∷ []) in
    cond (eqb q 0) ran (answer P q 0 s)
