-- What run promises, from the rules' answer; and where a question before the first cycle is answered no, the rules'
-- answer from what the code found: nothing is worked and nothing written. Where all are answered yes, no item comes.
use mathlib.Core.Path.{◌≡◌, refl, sym, ap, ◌∙◌}
use mathlib.Core.Bool.{false, cond}
use mathlib.Core.List.{List, [], ◌∷◌, ◌++◌}
use Prim.Native.Nat.{ℕ}
use lib.Dec.{eqb}
use Rattle.std.specs.Prelude.{Result, Ok, Err}
use Rattle.std.specs.Result.{IsErr, IsErrAnd}
use Rattle.semantics.specs.Program.{Program}
use Rattle.semantics.specs.Questions.{Question, ask, first_no}
use Rattle.semantics.specs.Check.{check_questions, check_number, fault_item}
use Rattle.semantics.specs.State.{State, lengths_ok, well_formed}
use Rattle.semantics.specs.Run.{run}
use Rattle.semantics.specs.Calls.{Answer, answer, run_answer}
use Rattle.semantics.proofs.Lists.FaultLaws.{no_item}
use Rattle.semantics.proofs.Run.RunLaws.{answer_of}
use Rattle.semantics.proofs.Order.FirstFault.{item_of_check}
use Rattle.program.specs.declared.refusal.Refusal.{Refusal}
use Rattle.program.specs.Refusals.{question_number}
use Rattle.player.specs.declared.Stopped.{Stopped}
use Rattle.player.specs.Run.{RunAnswer, number_of_run, item_of_run, worked_by}
use Rattle.program.proofs.AnswerLaws.{number_not_0}
use Rattle.player.proofs.FirstNoLaws.{FirstNo}

abbrev later : Program → State → List Question
later P s = ask 5 (lengths_ok P s) ∷ ask 6 (well_formed P s) ∷ []

module _ {P : Program} {n : ℕ} {s : State} {book : List ℕ} where
  by_answer : {a : Answer} {item : ℕ} → run_answer P n s book ≡ a → a.item ≡ item
      → RunAnswer P n s book a.number item a.worked a.state
  by_answer right item =
      record {
        right_number = sym (ap (λ (x : Answer). x.number) right);
        right_item = sym (ap (λ (x : Answer). x.item) right ∙ item);
        right_worked = sym (ap (λ (x : Answer). x.worked) right);
        right_values = sym (ap (λ (x : Answer). x.state.values) right);
        right_marks = sym (ap (λ (x : Answer). x.state.marks) right);
        right_counts = sym (ap (λ (x : Answer). x.state.counts) right);
      }

  -- question q, before the first cycle, is the first answered no
  stays : (q : ℕ) {item : ℕ} → first_no (check_questions P ++ later P s) ≡ q → eqb q 0 ≡ false → fault_item P q ≡ item
      → RunAnswer P n s book q item 0 s
  unfolding run_answer
  stays q e no_zero =
      by_answer {a = answer P q 0 s}
      (ap (λ (x : ℕ). cond (eqb x 0) (answer_of P (run P n s book)) (answer P x 0 s)) e ∙ rw no_zero)

  -- `?` passes on what a question refuses before the first cycle
  pub refused : (r : Result ℕ Stopped) (refusal : Refusal)
      → IsErr r × IsErrAnd r (λ x. x ≡ record { refusal = refusal; worked = 0 }) → FirstNo P (later P s) refusal
      → RunAnswer P n s book (number_of_run r) (item_of_run r) (worked_by r) s
  refused (Ok _) refusal passed f = absurd passed.1
  refused (Err _) refusal passed f = rw passed.1 (stays (question_number refusal) f.first (number_not_0 refusal) f.item)

  -- the cycles of an accepted program come with no item
  pub answer_cycles : check_number P ≡ 0 → {q k : ℕ} {s' : State} → run_answer P n s book ≡ answer P q k s'
      → RunAnswer P n s book q 0 k s'
  answer_cycles ok right =
      let none = (item_of_check P s n book).1 ∙ ap (fault_item P) ok ∙ no_item P 0 refl in
      by_answer right (sym (ap (λ (x : Answer). x.item) right) ∙ none)
