-- What check promises: the rules' number of the program in the lent lists, and the item of that number.
use Rattle.std.specs.Prelude.{◌≡◌, ℕ, List, Bool, cond, Result, Ok, Err, ⊤}
use Rattle.semantics.specs.Program.{Program as Rules}
use Rattle.semantics.specs.Check.{check_number, fault_item}
use Rattle.program.specs.declared.Program.{Program}
use Rattle.program.specs.declared.refusal.Refusal.{Refusal}
use Rattle.program.specs.Refusals.{question_number, fault_in}

-- The program that three lists and two numbers hold.
abbrev pub program_of : List ℕ → List ℕ → List ℕ → ℕ → ℕ → Rules
program_of exprs nodes widths vars chans =
    record { exprs = exprs; nodes = nodes; widths = widths; variables = vars; channels = chans }

-- The rules' program of a program that is lent.
abbrev pub program_in : Program → Rules
program_in p = program_of p.exprs.now p.nodes.now p.widths.now p.vars p.chans

-- The number that an answer gives: that of the first question answered no, or 0.
abbrev pub number_of : {A : Type 0} → Result A Refusal → ℕ
number_of (Ok _) = 0
number_of (Err refusal) = question_number refusal

-- The item that comes with it.
abbrev pub item_of : {A : Type 0} → Result A Refusal → ℕ
item_of (Ok _) = 0
item_of (Err refusal) = fault_in refusal

-- The answer to a question: the refusal, unless it is answered yes.
abbrev pub answer_to : Bool → Refusal → Result ⊤ Refusal
answer_to passes refusal = cond passes (Ok tt) (Err refusal)

pub record CheckAnswer (P : Rules) (number item : ℕ) : Type 0 where
  pub right_number : number ≡ check_number P
  pub right_item : item ≡ fault_item P (check_number P)

-- One question of check, that is answered yes or no: what the code's answer of it is.
pub record Asked {A : Type 0} (P : Rules) (question : ℕ) (yes : Bool) (answer : Result A Refusal) : Type 0 where
  pub right_number : number_of answer ≡ cond yes 0 question
  pub right_item : item_of answer ≡ fault_item P (number_of answer)
