-- From what the code of a cycle found to the rules' outcome: the first question answered no refuses it and the state is
-- kept, and where there is none, the state is that after the stores and the walks.
use mathlib.Core.Path.{◌≡◌, refl, sym, ap, ◌∙◌, subst}
use mathlib.Core.Bool.{Bool, true, false, cond, not}
use mathlib.Core.List.{List, [], ◌∷◌}
use mathlib.Core.Logic.{◌≢◌}
use Prim.Native.Nat.{ℕ, ◌≤◌, ◌<◌}
use native.Mathlib.Nat.{sub-zero}
use native.Mathlib.Omega.{arith}
use lib.Dec.{eqb}
use lib.ListN.{length, take, length-take}
use lib.Seq.{length-take-le}
use borrow.Author.Tests.{ne_eqb}
use Rattle.std.specs.Prelude.{Result, Ok, Err, ⊤, slice_range}
use Rattle.std.specs.Result.{IsErr, IsErrAnd}
use Rattle.semantics.specs.Program.{Program}
use Rattle.semantics.specs.Questions.{ask, first_no}
use Rattle.semantics.specs.State.{State, mark_count}
use Rattle.semantics.specs.Walk.{Walk}
use Rattle.semantics.specs.Cycle.{are_active, answered, new_values, cycle}
use Rattle.semantics.specs.Run.{next_entries}
use Rattle.semantics.proofs.Lists.QuestionLaws.{accepted, first_no-append}
use Rattle.semantics.proofs.Order.CycleOrder.{fits_lengths}
use Rattle.program.specs.declared.refusal.Refusal.{Refusal}
use Rattle.program.specs.declared.refusal.Refusal.TheVariants.{Entries}
use Rattle.program.specs.Refusals.{question_number}
use Rattle.program.specs.Answer.{item_of}
use Rattle.program.proofs.AnswerLaws.{some_number}
use Rattle.player.specs.declared.claims.Claims.{Claims}
use Rattle.player.specs.declared.work.Work.{Work}
use Rattle.player.specs.declared.scratch.Scratch.{Scratch}
use Rattle.player.specs.Begin.{state_of}
use Rattle.player.specs.Claims.{Aged}
use Rattle.player.specs.Channels.{marks_of}
use Rattle.player.specs.Stores.{WorkedMore}
use Rattle.player.specs.Cycle.{Runnable, Carried, CycleAnswer, CycleFrom, Advanced, walk_after, first_questions, AskAnswer, AdvanceAnswer, WorkedCycle}
use Rattle.player.proofs.UndoLaws.{formed_bits}

-- the front of the book, as `get` gives it
pub front : (book : List ℕ) (m : ℕ) {entries : List ℕ} → entries ≡ slice_range book 0 m → entries ≡ take m book
front book m part = part ∙ ap (λ (k : ℕ). take k book) (sub-zero m)

-- the next m entries of the book, as many as there are marks
abbrev pub cycle_from : {P : Program} {s : State} {m : ℕ} (book entries : List ℕ) → Runnable P s
    → m ≡ mark_count s.marks → m ≤ length book → entries ≡ slice_range book 0 m → CycleFrom P s.marks entries
cycle_from {P} {s} {m} book entries r count enough part =
    record {
      accepted = accepted P r.accepted;
      marks_fit = (fits_lengths P s r.ready.fit).marks;
      bits = formed_bits P s r.ready.formed;
      as_many = ap length (front book m part) ∙ length-take-le m book enough ∙ count;
    }

-- where more expressions are worked, a cycle hands on the same
pub carried_more : {P : Program} {values marks : List ℕ} {before work : Work} → Carried P values marks before
    → WorkedMore P.exprs before work → Carried P values marks work
carried_more {P} {values} {marks} c m = record {
  known = m.known;
  holds = λ v. rw m.same.variables (c.holds v);
  tally = ap (λ (w : Work). w.tally) m.kept ∙ c.tally;
  climbing = λ i l. rw (ap (λ (w : Work). w.parents) m.kept) (c.climbing i l);
  masks = λ v l. rw (ap (λ (w : Work). w.masks) m.kept) (c.masks v l);
  unmet = ap (λ (w : Work). w.looped) m.kept ∙ c.unmet;
}

module _ (P : Program) (s : State) (book : List ℕ) {m : ℕ} (count : m ≡ mark_count s.marks) {entries : List ℕ}
    (are : entries ≡ take m book) {number : ℕ} (asked : number ≡ first_no (first_questions P s.marks entries)) where
  -- the walks, question 10 and what the cycle leaves
  abbrev w : Walk
  w = walk_after P s entries

  abbrev left : State
  left = state_of (new_values P s entries) w.marks w.counts

  -- questions 7 to 9 come before question 10
  outcome : cycle P s (next_entries s book)
      ≡ answered (cond (eqb number 0) (first_no (ask 10 (not w.looped) ∷ [])) number) left
  unfolding cycle
  outcome =
      let last = ask 10 (not w.looped) ∷ [] in
      ap (λ (n : ℕ). cycle P s (take n book)) (sym count) ∙ ap (cycle P s) (sym are)
      ∙ ap (λ (n : ℕ). answered n left)
      (first_no-append (first_questions P s.marks entries) last refl
      ∙ ap (λ (n : ℕ). cond (eqb n 0) (first_no last) n) (sym asked))

  -- one of them refuses
  pub answer_asked : number ≢ 0 → CycleAnswer P s book number s
  answer_asked no_zero =
      let here = ne_eqb number 0 no_zero in
      record { outcome = outcome ∙ rw (here, here); kept = λ q. refl }

  -- none of them does
  pub answer_last : number ≡ 0 → {q : ℕ} {s' : State} → Advanced P s entries q s' → CycleAnswer P s book q s'
  answer_last zero {q} {s'} a = pick w.looped left a.right_number a.right_state (rw zero at outcome)
    where
      pick : (b : Bool) (left : State) → q ≡ cond b 10 0 → s' ≡ cond b s left
          → cycle P s (next_entries s book) ≡ answered (cond (not b) 0 10) left → CycleAnswer P s book q s'
      pick true left n e c = record { outcome = rw n c; kept = λ h. e }
      pick false left n e c = record { outcome = rw (n, e) c; kept = λ h. absurd (h n) }

-- fewer than m entries are left
answer_short : (P : Program) (s : State) (book : List ℕ) {m : ℕ} → m ≡ mark_count s.marks → length book < m
    → CycleAnswer P s book 7 s
unfolding are_active
answer_short P s book {m} count l =
    answer_asked P s book count refl
    (sym (rw (ne_eqb (length (take m book)) (mark_count s.marks) (λ e. omega (arith, length-take m book)))))
    (λ e. omega (arith, e))

-- ---- what a cycle in code promises

module _ (P : Program) (s : State) (book : List ℕ) {m : ℕ} (count : m ≡ mark_count s.marks) {before : Scratch} where
  refused : (refusal : Refusal) {s' : State} {scratch : Scratch} → item_of {A = ⊤} (Err refusal) ≡ 0
      → CycleAnswer P s book (question_number refusal) s' → WorkedCycle P s book before (Err refusal) s' scratch
  refused refusal no_item a =
      let some = some_number refusal in
      record {
        answer = a;
        no_item = no_item;
        carried = λ z. absurd (omega (arith, z));
        aged = λ z. absurd (omega (arith, z));
      }

  pub worked_short : {scratch : Scratch} → length book < m → WorkedCycle P s book before (Err Entries) s scratch
  worked_short l = refused Entries refl (answer_short P s book count l)

  module _ {entries : List ℕ} (part : entries ≡ slice_range book 0 m) {marks₁ : List ℕ} {scratch₁ : Scratch} where
    -- `?` passes on what questions 7 to 9 refuse
    pub worked_refused : (r : Result ⊤ Refusal) (refusal : Refusal) → IsErr r × IsErrAnd r (λ x. x ≡ refusal)
        → AskAnswer P s.marks entries before (Err refusal) marks₁ scratch₁
        → WorkedCycle P s book before r (state_of s.values marks₁ s.counts) scratch₁
    worked_refused (Ok u) refusal e a = absurd e.1
    worked_refused (Err y) refusal e a =
        let some = some_number refusal in
        let no_zero : question_number refusal ≢ 0 = λ z. omega arith in
        rw (e.1, a.kept no_zero)
        (refused refusal a.no_item (answer_asked P s book count (front book m part) a.asked no_zero))

    pub worked_advanced : AskAnswer P s.marks entries before (Ok tt) marks₁ scratch₁
        → {r : Result ⊤ Refusal} {s' : State} {scratch : Scratch}
        → AdvanceAnswer P (state_of s.values (marks_of P entries) s.counts) entries scratch₁ r s' scratch
        → WorkedCycle P s book before r s' scratch
    worked_advanced a {r} {s'} {scratch} b =
        let yes = a.yes refl in
        record {
          answer = answer_last P s book count (front book m part) a.asked refl
              (rw (← yes.are_marked) at b.advanced);
          no_item = b.no_item;
          carried = b.carried;
          aged = λ z. subst (λ (claims : Claims). Aged claims before.claims.stamp) (sym b.claims_kept) yes.aged;
        }
