-- What run promises.
use Rattle.std.specs.Prelude.{◌≡◌, List, ℕ, Result, Ok, Err}
use Rattle.semantics.specs.Program.{Program}
use Rattle.semantics.specs.State.{State}
use Rattle.semantics.specs.Calls.{run_answer}
use Rattle.program.specs.Refusals.{question_number, fault_in}
use Rattle.player.specs.declared.Stopped.{Stopped}

-- The number, the item and the cycles worked that a run gives.
abbrev pub number_of_run : Result ℕ Stopped → ℕ
number_of_run (Ok _) = 0
number_of_run (Err stopped) = question_number stopped.refusal

abbrev pub item_of_run : Result ℕ Stopped → ℕ
item_of_run (Ok _) = 0
item_of_run (Err stopped) = fault_in stopped.refusal

abbrev pub worked_by : Result ℕ Stopped → ℕ
worked_by (Ok worked) = worked
worked_by (Err stopped) = stopped.worked

-- Run on the state s, with so many cycles asked, by the book: the rules' number, item and cycles worked, and every
-- element of the three lists as they are left, s'.
pub record RunAnswer (P : Program) (cycles : ℕ) (s : State) (book : List ℕ) (number item worked : ℕ) (s' : State)
    : Type 0 where
  pub right_number : number ≡ (run_answer P cycles s book).number
  pub right_item : item ≡ (run_answer P cycles s book).item
  pub right_worked : worked ≡ (run_answer P cycles s book).worked
  pub right_values : s'.values ≡ (run_answer P cycles s book).state.values
  pub right_marks : s'.marks ≡ (run_answer P cycles s book).state.marks
  pub right_counts : s'.counts ≡ (run_answer P cycles s book).state.counts
