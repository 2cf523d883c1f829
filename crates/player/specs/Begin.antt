-- What begin promises.
use Rattle.std.specs.Prelude.{◌≡◌, List, ℕ}
use Rattle.semantics.specs.Program.{Program}
use Rattle.semantics.specs.State.{State}
use Rattle.semantics.specs.Calls.{begin_answer}

-- The state that three lists hold.
abbrev pub state_of : List ℕ → List ℕ → List ℕ → State
state_of values marks counts = record { values = values; marks = marks; counts = counts }

-- Begin on the state s: the rules' number and item, and every element of marks and counts as they are left.
pub record BeginAnswer (P : Program) (s : State) (number item : ℕ) (marks counts : List ℕ) : Type 0 where
  pub right_number : number ≡ (begin_answer P s).number
  pub right_item : item ≡ (begin_answer P s).item
  pub right_marks : marks ≡ (begin_answer P s).state.marks
  pub right_counts : counts ≡ (begin_answer P s).state.counts
