-- From what the code of begin found to the rules' answer: the first question answered no gives the number, and where
-- there is none, marks and counts are those of entering node 0.
use mathlib.Core.Path.{◌≡◌, refl, sym, ap, ◌∙◌}
use mathlib.Core.Bool.{Bool, true, false, not, cond}
use mathlib.Core.List.{List, [], ◌∷◌, ◌++◌}
use Prim.Native.Nat.{ℕ}
use lib.Dec.{eqb}
use Rattle.std.specs.Prelude.{Result, Ok, Err, ⊤}
use Rattle.std.specs.Result.{IsErr, IsErrAnd}
use Rattle.semantics.specs.Program.{Program}
use Rattle.semantics.specs.Questions.{Question, ask, first_no}
use Rattle.semantics.specs.Check.{check_questions, check_number, fault_item}
use Rattle.semantics.specs.Widths.{values_in_range}
use Rattle.semantics.specs.State.{State, lengths_ok}
use Rattle.semantics.specs.Calls.{Answer, answer, root_walk, begin_answer}
use Rattle.semantics.proofs.Lists.QuestionLaws.{after_check}
use Rattle.semantics.proofs.Lists.FaultLaws.{no_item}
use Rattle.program.specs.declared.refusal.Refusal.{Refusal}
use Rattle.program.specs.declared.refusal.Refusal.TheVariants.{Loop}
use Rattle.program.specs.Refusals.{question_number}
use Rattle.program.specs.Answer.{number_of, item_of, answer_to}
use Rattle.player.specs.Begin.{BeginAnswer}
use Rattle.player.specs.Root.{WrittenUnlessLooped}
use Rattle.program.proofs.AnswerLaws.{number_not_0}
use Rattle.player.proofs.FirstNoLaws.{FirstNo}

module _ (P : Program) (s : State) where
  -- the questions of begin, and its answer when the first no has number q
  abbrev later : List Question
  later =
      ask 5 (lengths_ok P s) ∷ ask 6 (values_in_range P.widths s.values)
      ∷ ask 10 (not (root_walk P s.values).looped) ∷ []

  abbrev questions : List Question
  questions = check_questions P ++ later

  abbrev answer_at : ℕ → Answer
  answer_at q =
      let w = root_walk P s.values in
      cond (eqb q 0) (answer P 0 0 (record { values = s.values; marks = w.marks; counts = w.counts }))
      (answer P q 0 s)

  by_number : (q : ℕ) {item : ℕ} → first_no questions ≡ q → (a : Answer) → answer_at q ≡ a → a.item ≡ item
      → BeginAnswer P s a.number item a.state.marks a.state.counts
  unfolding begin_answer
  by_number q e a h item =
      let right : begin_answer P s ≡ a = ap answer_at e ∙ h in
      record {
        right_number = sym (ap (λ (x : Answer). x.number) right);
        right_item = sym (ap (λ (x : Answer). x.item) right ∙ item);
        right_marks = sym (ap (λ (x : Answer). x.state.marks) right);
        right_counts = sym (ap (λ (x : Answer). x.state.counts) right);
      }

  -- question q is the first answered no: the lists stay
  stays : (q : ℕ) {item : ℕ} → first_no questions ≡ q → eqb q 0 ≡ false → fault_item P q ≡ item
      → BeginAnswer P s q item s.marks s.counts
  stays q e n = by_number q e (answer P q 0 s) (rw n)

  -- `?` passes on what a question refuses
  pub refused : (r : Result ⊤ Refusal) (refusal : Refusal) → IsErr r × IsErrAnd r (λ x. x ≡ refusal)
      → FirstNo P later refusal → BeginAnswer P s (number_of r) (item_of r) s.marks s.counts
  refused (Ok _) refusal passed f = absurd passed.1
  refused (Err _) refusal passed f = rw passed.1 (stays (question_number refusal) f.first (number_not_0 refusal) f.item)

  -- question 10, and where it is answered yes, marks and counts of entering node 0
  pub answer_written : check_number P ≡ 0 → lengths_ok P s ≡ true → values_in_range P.widths s.values ≡ true
      → {r : Result ⊤ Refusal} {marks counts : List ℕ}
      → WrittenUnlessLooped (root_walk P s.values) s.marks s.counts r marks counts
      → BeginAnswer P s (number_of r) (item_of r) marks counts
  answer_written ok lengths in_range written =
      rw (written.right_answer, written.right_marks, written.right_counts) (pick (root_walk P s.values).looped refl)
    where
      pick : (b : Bool) → (root_walk P s.values).looped ≡ b
          → let r : Result ⊤ Refusal = answer_to (not b) Loop in
          BeginAnswer P s (number_of r) (item_of r) (cond b s.marks (root_walk P s.values).marks)
          (cond b s.counts (root_walk P s.values).counts)
      pick true e = stays 10 (after_check P later 0 (sym ok) ∙ rw (lengths, in_range, e)) refl (no_item P 10 refl)
      pick false e =
          by_number 0 (after_check P later 0 (sym ok) ∙ rw (lengths, in_range, e)) (answer_at 0) refl (no_item P 0 refl)
