-- The order rule: for an accepted program, a state whose lists have the right lengths and that is well
-- formed, any number of cycles and any two books, the two answers of run (number, item, cycles worked and the three
-- lists) are equal if and only if both books first go wrong at the same cycle, or neither goes wrong.
-- One cycle is `CycleOrder`, all cycles are `OrderOverCycles`; here the questions before the first cycle come on top.
use mathlib.Core.Path.{◌≡◌, refl}
use mathlib.Core.Bool.{true}
use mathlib.Core.List.{List, [], ◌∷◌}
use mathlib.Core.Logic.{◌↔◌}
use Prim.Native.Nat.{ℕ}
use Rattle.semantics.specs.Program.{Program}
use Rattle.semantics.specs.Questions.{ask}
use Rattle.semantics.specs.Check.{check_questions, check_number}
use Rattle.semantics.specs.State.{State, lengths_ok, well_formed}
use Rattle.semantics.specs.Run.{run}
use Rattle.semantics.specs.Calls.{run_answer}
use Rattle.semantics.specs.Book.{first_wrong}
use Rattle.semantics.specs.Facts.{Ready}
use Rattle.semantics.proofs.Lists.QuestionLaws.{first_no-append}
use Rattle.semantics.proofs.Run.RunLaws.{answer_of}
use Rattle.semantics.proofs.Order.OrderOverCycles.{order_over_cycles}
use Rattle.semantics.proofs.Order.CycleOrder.{any-entries, leaves_ready}

-- with the questions before the first cycle answered yes, run's answer is that of the cycles
pub answer_of_run : (P : Program) → check_number P ≡ 0 → (s : State) → Ready P s → (n : ℕ) (book : List ℕ)
    → run_answer P n s book ≡ answer_of P (run P n s book)
unfolding run_answer check_number
answer_of_run P accepted s ready n book =
    let more = ask 5 (lengths_ok P s) ∷ ask 6 (well_formed P s) ∷ [] in
    rw (first_no-append (check_questions P) more refl, accepted, ready.fit, ready.formed)

pub order_rule : (P : Program) → check_number P ≡ 0
    → (s : State) → lengths_ok P s ≡ true → well_formed P s ≡ true
    → (n : ℕ) (b d : List ℕ)
    → (run_answer P n s b ≡ run_answer P n s d) ↔ (first_wrong P n s b ≡ first_wrong P n s d)
order_rule P accepted s fit formed n b d =
    let ready : Ready P s = record { fit = fit; formed = formed } in
    rw (answer_of_run P accepted s ready n b, answer_of_run P accepted s ready n d)
    (order_over_cycles P (Ready P) (any-entries P accepted) (leaves_ready P accepted) n s b d ready)
