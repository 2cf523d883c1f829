-- One cycle in code: from an accepted program and a state that questions 5 and 6 let by, to the rules' outcome.
use Rattle.std.specs.Prelude.{◌≡◌, Bool, true, false, cond, List, [], ◌∷◌, ◌≢◌, ℕ, length, replicate, Result, ⊤}
use Rattle.semantics.specs.Program.{Program, node_count}
use Rattle.semantics.specs.Questions.{Question, ask, first_no}
use Rattle.semantics.specs.Check.{check_number}
use Rattle.semantics.specs.State.{State, mark_count, marks_are_bits}
use Rattle.semantics.specs.Completion.{channels_free, targets_apart}
use Rattle.semantics.specs.Walk.{Walk}
use Rattle.semantics.specs.Cycle.{are_active, answered, new_values, visit, walked, cycle}
use Rattle.semantics.specs.Run.{next_entries}
use Rattle.semantics.specs.Facts.{Accepted, Ready}
use Rattle.program.specs.declared.refusal.Refusal.{Refusal}
use Rattle.program.specs.Answer.{number_of, item_of}
use Rattle.player.specs.declared.work.Work.{Work}
use Rattle.player.specs.declared.scratch.Scratch.{Scratch}
use Rattle.player.specs.Begin.{state_of}
use Rattle.player.specs.Memo.{Known, Holds}
use Rattle.player.specs.Work.{Climbing, Masks}
use Rattle.player.specs.Claims.{Aged}
use Rattle.player.specs.Channels.{marks_of}
use Rattle.player.specs.Stores.{Started, WorkedMore}

pub record Runnable (P : Program) (s : State) : Type 0 where
  pub accepted : check_number P ≡ 0
  pub ready : Ready P s

-- What a run hands from cycle to cycle in `work`.
pub record Carried (P : Program) (values marks : List ℕ) (work : Work) : Type 0 where
  pub known : Known P.exprs work.memo
  pub holds : Holds values work.memo
  pub tally : work.tally ≡ mark_count marks
  pub climbing : Climbing P.nodes work
  pub masks : Masks P.widths work
  pub unmet : work.looped ≡ false

-- One cycle by the next entries of the book: the rules' outcome, and where it is refused, the state as it was.
pub record CycleAnswer (P : Program) (s : State) (book : List ℕ) (number : ℕ) (s' : State) : Type 0 where
  pub outcome : cycle P s (next_entries s book) ≡ answered number s'
  pub kept : number ≢ 0 → s' ≡ s

-- A cycle of an accepted program from these marks by these entries, as many as there are marks.
pub record CycleFrom (P : Program) (marks entries : List ℕ) : Type 0 where
  pub accepted : Accepted P
  pub marks_fit : length marks ≡ node_count P.nodes
  pub bits : marks_are_bits marks ≡ true
  pub as_many : length entries ≡ mark_count marks

-- Questions 7 to 9.
abbrev pub first_questions : Program → List ℕ → List ℕ → List Question
first_questions P marks entries =
    ask 7 (are_active marks entries) ∷ ask 8 (channels_free P marks) ∷ ask 9 (targets_apart P marks) ∷ []

-- A visit in a cycle by these entries. Of the state at its start a visit reads the marks alone.
abbrev pub visit_in : Program → List ℕ → (ℕ → Bool) → Walk → ℕ → Walk
visit_in P entries = visit P (state_of [] (marks_of P entries) [])

-- What the walks of a cycle leave.
abbrev pub walk_after : Program → State → List ℕ → Walk
walk_after P s entries = walked P s (new_values P s entries) entries

-- After the stores and the walks: 0 and the state that they leave, or where a zero-time loop was met, the number of
-- question 10 and the state as it was.
pub record Advanced (P : Program) (s : State) (entries : List ℕ) (number : ℕ) (s' : State) : Type 0 where
  pub right_number : number ≡ cond (walk_after P s entries).looped 10 0
  pub right_state : s'
      ≡ cond (walk_after P s entries).looped s
      (state_of (new_values P s entries) (walk_after P s entries).marks (walk_after P s entries).counts)

-- ---- what the functions of a cycle promise; no item comes with questions 7 to 10

-- Questions 7 to 9 are answered yes: the marks, now cleared, are those of the entries, and the right sides are worked.
pub record AllYes (P : Program) (marks entries : List ℕ) (before : Scratch) (marks' : List ℕ) (scratch : Scratch)
    : Type 0 where
  pub are_marked : marks ≡ marks_of P entries
  pub cleared : marks' ≡ replicate (length marks) 0
  pub started : Started P entries scratch
  pub more : WorkedMore P.exprs before.work scratch.work
  pub aged : Aged scratch.claims before.claims.stamp

pub record AskAnswer (P : Program) (marks entries : List ℕ) (before : Scratch) (answer : Result ⊤ Refusal)
    (marks' : List ℕ) (scratch : Scratch) : Type 0 where
  pub asked : number_of answer ≡ first_no (first_questions P marks entries)
  pub no_item : item_of answer ≡ 0
  pub kept : number_of answer ≢ 0 → marks' ≡ marks
  pub yes : number_of answer ≡ 0 → AllYes P marks entries before marks' scratch

pub record AdvanceAnswer (P : Program) (s : State) (entries : List ℕ) (before : Scratch) (answer : Result ⊤ Refusal)
    (s' : State) (scratch : Scratch) : Type 0 where
  pub advanced : Advanced P s entries (number_of answer) s'
  pub no_item : item_of answer ≡ 0
  pub carried : number_of answer ≡ 0 → Carried P s'.values s'.marks scratch.work
  pub claims_kept : scratch.claims ≡ before.claims

pub record WorkedCycle (P : Program) (s : State) (book : List ℕ) (before : Scratch) (r : Result ⊤ Refusal) (s' : State)
    (scratch : Scratch) : Type 0 where
  pub answer : CycleAnswer P s book (number_of r) s'
  pub no_item : item_of r ≡ 0
  pub carried : number_of r ≡ 0 → Carried P s'.values s'.marks scratch.work
  pub aged : number_of r ≡ 0 → Aged scratch.claims before.claims.stamp
