-- Questions 7 to 9 as a cycle in code asks them: from what each step found to the rules' answer, and the marks after it.
use Rattle.std.proofs.Common.{◌≡◌, ℕ, ◌≤◌, ◌<◌, true, false, List, length, replicate, Ok, Err, refl, sym, ap, ◌∙◌, subst, arith}
use borrow.Author.Tests.{eq-eqb, ne_eqb}
use Rattle.semantics.specs.Program.{Program}
use Rattle.semantics.specs.Questions.{first_no}
use Rattle.semantics.specs.Completion.{channels_free, targets_apart}
use Rattle.semantics.specs.Cycle.{are_active}
use Rattle.program.specs.declared.refusal.Refusal.{Refusal}
use Rattle.program.specs.declared.refusal.Refusal.TheVariants.{Entries, Channels, Stores as StoresClash}
use Rattle.program.specs.Answer.{answer_to}
use Rattle.program.specs.Refusals.{question_number, fault_in}
use Rattle.program.proofs.AnswerLaws.{some_number, answer_to-ok, answer_to-err}
use Rattle.player.specs.declared.claims.Claims.{Claims}
use Rattle.player.specs.declared.memo.Memo.{Memo}
use Rattle.player.specs.declared.scratch.Scratch.{Scratch}
use Rattle.player.specs.Entries.{crossable, set_all, uncrossed, CrossedOut}
use Rattle.player.specs.Memo.{Known}
use Rattle.player.specs.Claims.{Aged}
use Rattle.player.specs.Channels.{marks_of, CycleOf, Pairing}
use Rattle.player.specs.Stores.{Storing, Started, WorkedMore}
use Rattle.player.specs.Cycle.{CycleFrom, first_questions, AskAnswer}
use Rattle.player.proofs.EntryLaws.{active_crossable, crossable_most, all-crossed, all-marked, marked_again}

-- what is crossed out of the marks stands in them when it is marked again
pub crossed_undone : {entries start marks : List ℕ} {r : ℕ} → CrossedOut entries start r marks
    → uncrossed entries r marks ≡ start
crossed_undone {entries} {start} {r = r} h =
    ap (uncrossed entries r) h.right ∙ marked_again start entries r (let rest = h.rest in omega arith)

module _ {P : Program} {marks entries : List ℕ} (x : CycleFrom P marks entries) where
  -- ---- question 7

  pub not_active : crossable marks entries < length entries → are_active marks entries ≡ false
  not_active l =
      active_crossable marks entries x.as_many
      ∙ ne_eqb (crossable marks entries) (length entries) (λ e. omega arith)

  pub is_active : length entries ≤ crossable marks entries → are_active marks entries ≡ true
  is_active l =
      let most = crossable_most marks entries in
      active_crossable marks entries x.as_many
      ∙ eq-eqb (crossable marks entries) (length entries) (omega arith)

  -- one of the questions refuses, and the marks are as they were
  pub refused : (refusal : Refusal) {marks' : List ℕ} {before scratch : Scratch}
      → question_number refusal ≡ first_no (first_questions P marks entries) → fault_in refusal ≡ 0
      → marks' ≡ marks → AskAnswer P marks entries before (Err refusal) marks' scratch
  refused refusal asked no_item same =
      let some = some_number refusal in
      record { asked = asked; no_item = no_item; kept = λ n. same; yes = λ z. absurd (omega (arith, z)) }

  pub answer_seven : {marks' : List ℕ} {before scratch : Scratch} → are_active marks entries ≡ false → marks' ≡ marks
      → AskAnswer P marks entries before (Err Entries) marks' scratch
  answer_seven no-active same = refused Entries (sym (rw no-active)) refl same

  module _ (active : are_active marks entries ≡ true) where
    -- the marks are those of the entries
    pub are_marked : marks ≡ marks_of P entries
    unfolding marks_of
    are_marked =
        sym (ap (λ (n : ℕ). set_all 1 (replicate n 0) entries) (sym x.marks_fit)
        ∙ all-marked marks entries active x.bits)

    -- the cycle, once question 7 is answered yes
    abbrev pub cycle_of : CycleOf P entries
    cycle_of = record {
      accepted = x.accepted;
      entries_active = subst (λ (m : List ℕ). are_active m entries ≡ true) are_marked active;
    }

    -- all are crossed out
    pub cleared : set_all 0 marks entries ≡ replicate (length marks) 0
    cleared = all-crossed marks entries active x.bits

    pub answer_eight : {marks' : List ℕ} {before scratch : Scratch} → channels_free P (marks_of P entries) ≡ false
        → marks' ≡ marks → AskAnswer P marks entries before (Err Channels) marks' scratch
    answer_eight taken same =
        let clash = ap (channels_free P) are_marked ∙ taken in
        refused Channels (sym (rw (active, clash))) refl same

    -- ---- the channels are paired
    module _ (before : Scratch) {claims : Claims} (p : Pairing P entries before.claims claims) where
      pub storing : {memo : Memo} → Known P.exprs memo → Storing P entries memo claims
      storing known = record {
        cycle = cycle_of;
        paired = p.paired;
        unclaimed = p.unwritten;
        aged = subst (Aged claims) (sym p.stamp) p.aged;
        known = known;
      }

    -- ---- no channel has two IN or two OUT
    module _ (all_free : channels_free P (marks_of P entries) ≡ true) where
      free : channels_free P marks ≡ true
      free = ap (channels_free P) are_marked ∙ all_free

      pub answer_nine : (refusal : Refusal) {marks' : List ℕ} {before scratch : Scratch}
          → Err refusal ≡ answer_to (targets_apart P (marks_of P entries)) StoresClash → marks' ≡ marks
          → AskAnswer P marks entries before (Err refusal) marks' scratch
      answer_nine refusal answered same =
          let (failed, which) = answer_to-err (targets_apart P (marks_of P entries)) StoresClash answered in
          let clash = ap (targets_apart P) are_marked ∙ failed in
          rw which (refused StoresClash (sym (rw (active, free, clash))) refl same)

      -- all three are answered yes; it takes what RightSides says of that, but not its stamp
      pub answer_none : {before scratch : Scratch} → Ok tt ≡ answer_to (targets_apart P (marks_of P entries)) StoresClash
          → (targets_apart P (marks_of P entries) ≡ true → Started P entries scratch)
          → WorkedMore P.exprs before.work scratch.work → Aged scratch.claims before.claims.stamp
          → {marks' : List ℕ} → marks' ≡ replicate (length marks) 0
          → AskAnswer P marks entries before (Ok tt) marks' scratch
      answer_none answered started more aged clear =
          let yes = answer_to-ok (targets_apart P (marks_of P entries)) StoresClash answered in
          let apart = ap (targets_apart P) are_marked ∙ yes in
          record {
            asked = sym (rw (active, free, apart));
            no_item = refl;
            kept = λ n. absurd (n refl);
            yes = λ z. record {
              are_marked = are_marked;
              cleared = clear;
              started = started yes;
              more = more;
              aged = aged;
            };
          }
