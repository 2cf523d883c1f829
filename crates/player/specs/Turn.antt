-- One turn by itself: the contract of take_turn.
use Rattle.std.specs.Prelude.{◌≡◌, true, false, List, ℕ, Result, MatchResult}
use Rattle.semantics.specs.Program.{Program}
use Rattle.semantics.specs.Expressions.{is_true}
use Rattle.semantics.specs.State.{State, lengths_ok}
use Rattle.semantics.specs.Climb.{Turn as RulesTurn, turn}
use Rattle.program.specs.declared.refusal.Refusal.{Refusal}
use Rattle.program.specs.declared.refusal.Refusal.TheVariants.{Lengths}
use Rattle.player.specs.declared.Turn.{Turn}
use Rattle.player.specs.Walks.{walk, turn_to}

-- The rules' turn that leaves node i, in the marks and counts of s, with conditions read in its values.
abbrev pub turn_in : Program → State → ℕ → RulesTurn
turn_in P s i = turn (is_true P s.values) P.nodes i (walk s.marks s.counts false)

-- Question 5 is answered yes, and what the turn comes to is the rules', with every element of both lists.
pub record Taken (P : Program) (s : State) (i : ℕ) (t : Turn) (marks counts : List ℕ) : Type 0 where
  pub fit : lengths_ok P s ≡ true
  pub right : turn_in P s i ≡ turn_to t.next (walk marks counts t.looped)

-- Question 5 is answered no, and both lists are as they were.
pub record NotTaken (P : Program) (s : State) (refusal : Refusal) (marks counts : List ℕ) : Type 0 where
  pub unfit : lengths_ok P s ≡ false
  pub question : refusal ≡ Lengths
  pub marks_kept : marks ≡ s.marks
  pub counts_kept : counts ≡ s.counts

-- What take_turn promises: node i of an accepted program is left, in the lists of s.
abbrev pub TurnAnswer : Program → State → ℕ → Result Turn Refusal → List ℕ → List ℕ → Type 0
TurnAnswer P s i r marks counts =
    MatchResult r (λ t. Taken P s i t marks counts) (λ refusal. NotTaken P s refusal marks counts)
