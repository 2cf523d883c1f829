-- Books (schedules), from "State and book" and the end of "The plain machine": to which cycles a run comes, which
-- entries it asks for, and where a book first goes wrong.
use Rattle.std.specs.Prelude.{Bool, cond, not, ◌&&◌, List, ℕ, eqb, ltb}
use Rattle.std.proofs.Math.Option.{Option}
use Rattle.semantics.specs.Numbers.{below, find, total}
use Rattle.semantics.specs.Program.{Program}
use Rattle.semantics.specs.State.{State, mark_count, ended}
use Rattle.semantics.specs.Cycle.{are_active}
use Rattle.semantics.specs.Run.{run, next_entries}

module _ (P : Program) (n : ℕ) (s : State) (book : List ℕ) where
  -- The run comes to cycle k, the first being 0: it works k cycles, more are asked for, and the state has not ended.
  unfoldable pub comes_to : ℕ → Bool
  comes_to k = let r = run P k s book in eqb r.worked k && ltb k n && not (ended r.state)

  -- The entries for cycle k: one for each mark, or as many as the book still has.
  unfoldable pub entries_for : ℕ → List ℕ
  entries_for k = let r = run P k s book in next_entries r.state r.unread

  -- The number of entries that the run asks for: the marks of every cycle that it comes to. Later entries are not
  -- read.
  unfoldable pub entries_asked : ℕ
  entries_asked = total (λ k. cond (comes_to k) (mark_count (run P k s book).state.marks) 0) n

  -- The run comes to cycle k, and the entries for it are not the marked nodes, each once.
  unfoldable pub goes_wrong_at : ℕ → Bool
  goes_wrong_at k = comes_to k && not (are_active (run P k s book).state.marks (entries_for k))

  -- The first cycle at which the book goes wrong, if there is one.
  unfoldable pub first_wrong : Option ℕ
  first_wrong = find goes_wrong_at (below n)
