-- What a reader of the order rule will want besides, each about the answers of begin and run. Each puts laws of the
-- lower files together; no new argument is made here.
use mathlib.Core.Path.{◌≡◌, refl, sym, ap, ◌∙◌}
use mathlib.Core.Bool.{true, cond, not}
use mathlib.Core.List.{List, [], ◌∷◌, ◌++◌}
use mathlib.Core.Logic.{◌≢◌, inl, inr}
use mathlib.Core.Option.{none, some}
use Prim.Native.Nat.{ℕ, ◌+◌, ◌≤◌, ◌<◌}
use lib.Dec.{eqb}
use lib.ListN.{length, take}
use borrow.Author.Tests.{eqb-true}
use Rattle.semantics.specs.Program.{Program, node_count}
use Rattle.semantics.specs.Questions.{Question, ask, first_no}
use Rattle.semantics.specs.Check.{check_questions, check_number}
use Rattle.semantics.specs.Widths.{values_in_range}
use Rattle.semantics.specs.State.{State, lengths_ok, well_formed}
use Rattle.semantics.specs.Tree.{tree_of}
use Rattle.semantics.specs.Expressions.{is_true}
use Rattle.semantics.specs.Run.{Run, run}
use Rattle.semantics.specs.Calls.{Answer, answer, root_walk, begin_answer, run_answer}
use Rattle.semantics.specs.Book.{entries_asked, first_wrong}
use Rattle.semantics.specs.Facts.{Ready}
use Rattle.semantics.proofs.Lists.Logic.{refuted, true_or_false}
use Rattle.semantics.proofs.Lists.QuestionLaws.{all_yes, yes-all}
use Rattle.semantics.proofs.Tree.TreeOfList.{accepted_tree}
use Rattle.semantics.proofs.Order.WalksOnTree.{begin_formed}
use Rattle.semantics.proofs.Run.RunLaws.{answer_of, run_induction, run_no_cycle, run_ended, run_refused, run_worked}
use Rattle.semantics.proofs.Run.RunLaws.{run_goes_on, run_is_over, later_not_read}
use Rattle.semantics.proofs.Run.FirstWrong.{worked_active, wrong_answered, never_wrong}
use Rattle.semantics.proofs.Order.CycleOrder.{fits_lengths, formed_ready, leaves_ready}
use Rattle.semantics.proofs.Order.OrderRule.{answer_of_run}

-- ---- begin

-- entering node 0 leaves a well-formed state, whether or not a zero-time loop was met
entered_ready : (P : Program) → check_number P ≡ 0 → (values : List ℕ) → length values ≡ P.variables
    → values_in_range P.widths values ≡ true
    → (let w = root_walk P values in Ready P (record { values = values; marks = w.marks; counts = w.counts }))
unfolding root_walk
entered_ready P accepted values l in_range =
    let tree = accepted_tree P accepted in
    formed_ready P accepted _ l in_range
    (begin_formed (tree_of P.nodes) (node_count P.nodes) tree.placed tree.ends (is_true P values))

-- an answer with number 0 is that of the state that was written
zero_answered : (P : Program) (q : ℕ) (lent written : State)
    → (cond (eqb q 0) (answer P 0 0 written) (answer P q 0 lent)).number ≡ 0 → q ≡ 0
zero_answered P q lent written h =
    elim (true_or_false (eqb q 0)) [ inl e ↦ eqb-true q 0 e | inr e ↦ rw e at h ]

-- where begin answers 0, questions 5 and 6 let the state by that it leaves
pub begun_ready : (P : Program) (s : State) → (begin_answer P s).number ≡ 0 → Ready P (begin_answer P s).state
unfolding begin_answer check_number
begun_ready P s h =
    let w = root_walk P s.values in
    let in_range = values_in_range P.widths s.values in
    let questions = check_questions P ++ ask 5 (lengths_ok P s) ∷ ask 6 in_range ∷ ask 10 (not w.looped) ∷ [] in
    let zero_number = zero_answered P (first_no questions) s _ h in
    let (sizes, (exprs, (nodes, (ranges, (widths, (lengths, (in_range, _))))))) = yes-all questions refl zero_number in
    let accepted = all_yes (check_questions P) (sizes, (exprs, (nodes, (ranges, (widths, tt))))) in
    rw zero_number (entered_ready P accepted s.values (fits_lengths P s lengths).values in_range)

-- ---- run, refused before its first cycle

-- whatever the number of cycles and the book
pub refused_alike : (P : Program) (s : State) → ¬ ((check_number P ≡ 0) × Ready P s)
    → (n m : ℕ) (b d : List ℕ) → run_answer P n s b ≡ run_answer P m s d
unfolding run_answer check_number
refused_alike P s not-ready n m b d = rw (refuted (eqb (first_no questions) 0) no)
  where
    questions : List Question
    questions = check_questions P ++ ask 5 (lengths_ok P s) ∷ ask 6 (well_formed P s) ∷ []

    no : eqb (first_no questions) 0 ≡ true → ⊥
    no e =
        let (sizes, (exprs, (nodes, (ranges, (widths, (fit, (formed, _))))))) =
        yes-all questions refl (eqb-true (first_no questions) 0 e) in
        not-ready (
          all_yes (check_questions P) (sizes, (exprs, (nodes, (ranges, (widths, tt))))),
          record { fit = fit; formed = formed },
        )

-- ---- run, on an accepted program and a state that questions 5 and 6 let by

module _ (P : Program) (accepted : check_number P ≡ 0) where
  -- every cycle that a run works leaves a ready state
  cycles_ready : (n : ℕ) (s : State) (book : List ℕ) → Ready P s → Ready P (run P n s book).state
  cycles_ready = run_induction P (λ n s book. Ready P s → Ready P (run P n s book).state)
      (λ s book r. rw (run_no_cycle P s book) r)
      (λ n s book e r. rw (run_ended P _ s book e) r)
      (λ n q s book c r. rw (run_refused P n q s book c) r)
      (λ n s s' book c h r. rw (run_worked P n s s' book c)
      (h (leaves_ready P accepted s r s' _ (worked_active P s s' book c) c.1)))

  module _ (s : State) (ready : Ready P s) where
    -- so does the run: called again, it goes on from there
    pub run_ready : (n : ℕ) (book : List ℕ) → Ready P (run_answer P n s book).state
    run_ready n book = rw (answer_of_run P accepted s ready n book) (cycles_ready n s book ready)

    -- a book that first goes wrong at cycle k is answered with 7 and k cycles worked
    pub wrong_book : (n : ℕ) (book : List ℕ) (k : ℕ) → first_wrong P n s book ≡ some k
        → ((run_answer P n s book).number ≡ 7) × ((run_answer P n s book).worked ≡ k)
    wrong_book n book k h = rw (answer_of_run P accepted s ready n book) (wrong_answered P n k s book h)

    -- a book that never goes wrong is never answered with 7
    pub right_book : (n : ℕ) (book : List ℕ) → first_wrong P n s book ≡ none → (run_answer P n s book).number ≢ 7
    right_book n book h = rw (answer_of_run P accepted s ready n book) (never_wrong P n s book h)

    -- later entries are not read: books that agree on the entries asked for give equal answers
    pub entries_read : (n : ℕ) (b d : List ℕ) (j : ℕ) → entries_asked P n s b ≤ j → take j b ≡ take j d
        → run_answer P n s b ≡ run_answer P n s d
    entries_read n b d j l t =
        rw (answer_of_run P accepted s ready n b, answer_of_run P accepted s ready n d) (later_not_read P n s b d j l t)

    -- runs compose: a run of n + m cycles is a run of n and, if that worked n, a run of m from the state that it left
    -- with the rest of the book
    pub run_then_run : (n m : ℕ) (book : List ℕ) → (run_answer P n s book).worked ≡ n
        → (let r = run P n s book in let a = run_answer P m r.state r.unread in
        run_answer P (n + m) s book
        ≡ record { number = a.number; item = a.item; worked = n + a.worked; state = a.state })
    run_then_run n m book w =
        let r : Run = run P n s book in
        let w' : r.worked ≡ n = sym (ap (λ (a : Answer). a.worked) (answer_of_run P accepted s ready n book)) ∙ w in
        answer_of_run P accepted s ready (n + m) book ∙ ap (answer_of P) (run_goes_on P m n s book w')
        ∙ rw (answer_of_run P accepted r.state (cycles_ready n s book ready) m r.unread)

    -- and where the run of n works fewer, the longer run is the same
    pub run_over : (n m : ℕ) (book : List ℕ) → (run_answer P n s book).worked < n
        → run_answer P (n + m) s book ≡ run_answer P n s book
    run_over n m book w =
        let e = answer_of_run P accepted s ready n book in
        answer_of_run P accepted s ready (n + m) book
        ∙ ap (answer_of P) (run_is_over P m n s book (rw e at w)) ∙ sym e
