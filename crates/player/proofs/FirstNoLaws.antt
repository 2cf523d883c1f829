-- The first question answered no in begin and in run, where it is one of check's, or 5 or 6 after them.
use Rattle.std.proofs.Common.{◌≡◌, Bool, true, false, List, ◌∷◌, ◌++◌, Err, refl, sym, ◌∙◌}
use Rattle.semantics.specs.Program.{Program}
use Rattle.semantics.specs.Questions.{Question, ask, first_no}
use Rattle.semantics.specs.Check.{check_questions, check_number, fault_item}
use Rattle.semantics.proofs.Lists.QuestionLaws.{after_check}
use Rattle.semantics.proofs.Lists.FaultLaws.{no_item}
use Rattle.program.specs.declared.refusal.Refusal.{Refusal}
use Rattle.program.specs.declared.refusal.Refusal.TheVariants.{Lengths, State}
use Rattle.program.specs.Refusals.{question_number, fault_in}
use Rattle.program.specs.Answer.{CheckAnswer, answer_to}
use Rattle.program.proofs.AnswerLaws.{check_item_lem, number_not_0, answer_to-err}

-- the refusal is that of the first question answered no, in check or after it
pub record FirstNo (P : Program) (later : List Question) (refusal : Refusal) : Type 0 where
  pub first : first_no (check_questions P ++ later) ≡ question_number refusal
  pub item : fault_item P (question_number refusal) ≡ fault_in refusal

-- what check refuses
pub no_check : {P : Program} {refusal : Refusal} (later : List Question)
    → CheckAnswer P (question_number refusal) (fault_in refusal) → FirstNo P later refusal
no_check {P} {refusal} later c = record {
  first = after_check P later (question_number refusal) c.right_number ∙ rw (number_not_0 refusal) refl;
  item = check_item_lem c;
}

-- what a question after check's refuses, in an accepted program
module _ {P : Program} (ok : check_number P ≡ 0) {refusal : Refusal} where
  no_later : (later : List Question) (passes : Bool) (question : Refusal)
      → (passes ≡ false → first_no later ≡ question_number question)
      → fault_item P (question_number question) ≡ fault_in question → Err refusal ≡ answer_to passes question
      → FirstNo P later refusal
  no_later later passes question first item e =
      let (n, same) = answer_to-err passes question e in
      rw same (record { first = after_check P later 0 (sym ok) ∙ first n; item = item })

  pub no_5 : (fit : Bool) (more : List Question) → Err refusal ≡ answer_to fit Lengths
      → FirstNo P (ask 5 fit ∷ more) refusal
  no_5 fit more = no_later (ask 5 fit ∷ more) fit Lengths (λ n. rw n refl) (no_item P 5 refl)

  pub no_6 : (fit formed : Bool) (more : List Question) → fit ≡ true → Err refusal ≡ answer_to formed State
      → FirstNo P (ask 5 fit ∷ ask 6 formed ∷ more) refusal
  no_6 fit formed more fits =
      no_later (ask 5 fit ∷ ask 6 formed ∷ more) formed State (λ n. rw (fits, n) refl) (no_item P 6 refl)
