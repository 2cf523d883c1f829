-- Runs, from "The plain machine" and "State and book": cycle after cycle, until as many as asked are worked, no mark
-- stands, or a cycle is refused.
use Rattle.std.specs.Prelude.{cond, List, ℕ, zero, suc, take, drop}
use Rattle.semantics.specs.Program.{Program}
use Rattle.semantics.specs.State.{State, mark_count, ended}
use Rattle.semantics.specs.Cycle.{Outcome, cycle}
use Rattle.semantics.specs.Cycle.Outcome.{refused, advances_to}

-- The number, the cycles worked, the state after them, and the entries of the book (the schedule) that were not read.
pub record Run : Type 0 where
  pub number : ℕ
  pub worked : ℕ
  pub state : State
  pub unread : List ℕ

abbrev pub stopped : ℕ → State → List ℕ → Run
stopped q s book = record { number = q; worked = 0; state = s; unread = book }

abbrev pub one_more : Run → Run
one_more r = record { number = r.number; worked = suc r.worked; state = r.state; unread = r.unread }

-- A cycle takes one entry for each mark from the front of the book, and the run goes on with the others.
abbrev pub next_entries : State → List ℕ → List ℕ
next_entries s book = take (mark_count s.marks) book

abbrev pub later_entries : State → List ℕ → List ℕ
later_entries s book = drop (mark_count s.marks) book

-- A refused cycle does not count and leaves the state as it was; after a worked one the run goes on.
abbrev pub go_on : Outcome → State → List ℕ → (State → Run) → Run
go_on (refused q) s book rest = stopped q s book
go_on (advances_to s') s book rest = one_more (rest s')

-- n cycles asked.
unfoldable pub run : Program → ℕ → State → List ℕ → Run
run P zero s book = stopped 0 s book
run P (suc n) s book =
    let more = go_on (cycle P s (next_entries s book)) s book (λ s'. run P n s' (later_entries s book)) in
    cond (ended s) (stopped 0 s book) more
