-- One cycle, the three steps of "The plain machine", with questions 7 to 10. It goes over the entries of the book for
-- it as they come.
use Rattle.std.specs.Prelude.{Bool, false, cond, not, ◌&&◌, ℕ, eqb, length, replicate}
use mathlib.Core.List.{List, [], ◌∷◌, foldl}
use Rattle.semantics.specs.Numbers.{every, distinct}
use Rattle.semantics.specs.Program.{Program, node_count}
use Rattle.semantics.specs.Expressions.{expr_values, is_true}
use Rattle.semantics.specs.Questions.{Question, ask, first_no}
use Rattle.semantics.specs.State.{State, marked, mark_count}
use Rattle.semantics.specs.Walk.{Walk, mark, leave}
use Rattle.semantics.specs.Completion.{waits, channels_free, targets_apart, store}

-- ---- question 7: the entries are as many as there are marks, all marked, and none stands twice
unfoldable pub are_active : List ℕ → List ℕ → Bool
are_active marks entries = eqb (length entries) (mark_count marks) && every (marked marks) entries && distinct entries

-- A refused cycle has its question's number; a worked one leaves a state.
pub data Outcome : Type 0 where
  refused : ℕ → Outcome
  advances_to : State → Outcome

abbrev pub answered : ℕ → State → Outcome
answered q s = cond (eqb q 0) (advances_to s) (refused q)

module _ (P : Program) (s : State) where
  -- Step 2: every store takes its value from the table worked in the values before the cycle.
  unfoldable pub new_values : List ℕ → List ℕ
  new_values entries = foldl (store P s.marks (expr_values P.exprs s.values)) s.values entries

  -- Step 3 starts with no mark, and with the thread counts as they stand.
  abbrev pub cleared : Walk
  cleared = record { marks = replicate (node_count P.nodes) 0; counts = s.counts; looped = false }

  -- One entry of step 3: a leaf that waits is marked again, one that completes is left.
  unfoldable pub visit : (ℕ → Bool) → Walk → ℕ → Walk
  visit holds w i = cond (waits P s.marks i) (mark i w) (leave holds P.nodes i w)

  -- All entries, with conditions read in the values after the stores.
  unfoldable pub walked : List ℕ → List ℕ → Walk
  walked values entries = foldl (visit (is_true P values)) cleared entries

  -- Questions 7 to 10, where w is what the walks left.
  abbrev pub cycle_questions : List ℕ → Walk → List Question
  cycle_questions entries w =
      ask 7 (are_active s.marks entries)
      ∷ ask 8 (channels_free P s.marks)
      ∷ ask 9 (targets_apart P s.marks)
      ∷ ask 10 (not w.looped)
      ∷ []

  unfoldable pub cycle : List ℕ → Outcome
  cycle entries =
      let values = new_values entries in
      let w = walked values entries in
      answered (first_no (cycle_questions entries w)) (record { values = values; marks = w.marks; counts = w.counts })
