-- The first fault: where check refuses a program, its item is the lowest index that has the fault of its number. Begin
-- and run give check's item: with the numbers that only they give, the item is 0.
use mathlib.Core.Path.{◌≡◌, refl, sym, ◌∙◌}
use mathlib.Core.Bool.{Bool, true, false, cond, not, ◌&&◌, ◌||◌, or-false}
use mathlib.Core.List.{List, [], ◌∷◌, ◌++◌}
use mathlib.Core.Logic.{◌≢◌}
use Prim.Native.Nat.{ℕ}
use native.Mathlib.Omega.{arith}
use lib.Dec.{eqb}
use lib.ListN.{length}
use borrow.Author.Tests.{eqb-true, eq-eqb, ne_eqb, not-true}
use Rattle.semantics.specs.Numbers.{below, every}
use Rattle.semantics.specs.Program.{Program, expr_count, node_count}
use Rattle.semantics.specs.Questions.{Question, ask, first_no, lowest_fault}
use Rattle.semantics.specs.Widths.{width_at, width_ok, widths_ok, values_in_range}
use Rattle.semantics.specs.Check.{expr_ok, node_ok, references_ok, check_questions, check_number, fault_item}
use Rattle.semantics.specs.State.{State, lengths_ok, well_formed}
use Rattle.semantics.specs.Run.{run}
use Rattle.semantics.specs.Calls.{Answer, answer, root_walk, begin_answer, run_answer}
use Rattle.semantics.specs.Facts.{IsLowestFault}
use Rattle.semantics.proofs.Lists.Logic.{and_left, and_right}
use Rattle.semantics.proofs.Lists.QuestionLaws.{answered_no, number_answered_no, first_no-append}
use Rattle.semantics.proofs.Lists.FaultLaws.{lowest_fault_lem, has_item, no_item}
use Rattle.semantics.proofs.Lists.FaultLaws.{item_2, item_3, item_4, item_11, item_11-length}
use Rattle.semantics.proofs.Run.RunLaws.{refused_number, at_least_7, Refuses, answer_of}
use Rattle.semantics.proofs.Run.RunLaws.{run_no_cycle, run_ended, run_refused, run_worked, run_induction}

-- no question of the list comes with an item
abbrev itemless : List Question → Bool
itemless [] = true
itemless (q ∷ qs) = not (has_item q.number) && itemless qs

module _ (P : Program) where
  -- ---- check

  -- a question k that asks the test of every index below n
  asked_of_each : (k n : ℕ) (ok : ℕ → Bool) → k ≢ 0
      → answered_no k (check_questions P) ≡ not (every ok (below n)) || false → fault_item P k ≡ lowest_fault ok n
      → check_number P ≡ k → IsLowestFault ok n (fault_item P (check_number P))
  unfolding check_number
  asked_of_each k n ok no_zero asked item e =
      let no : not (every ok (below n)) ≡ true =
      sym (or-false _) ∙ sym asked ∙ number_answered_no k (check_questions P) e no_zero in
      rw (e, item) (lowest_fault_lem ok n (not-true _ no))

  pub first_fault :
      (check_number P ≡ 2 → IsLowestFault (expr_ok P) (expr_count P.exprs) (fault_item P (check_number P)))
      × (check_number P ≡ 3 → IsLowestFault (node_ok P.nodes) (node_count P.nodes) (fault_item P (check_number P)))
      × (check_number P ≡ 4 → IsLowestFault (references_ok P) (node_count P.nodes) (fault_item P (check_number P)))
      × (length P.widths ≡ P.variables → check_number P ≡ 11
      → IsLowestFault (λ v. width_ok (width_at P.widths v)) P.variables (fault_item P (check_number P)))
      × (length P.widths ≢ P.variables → fault_item P 11 ≡ 0)
      × ((q : ℕ) → q ≢ 2 → q ≢ 3 → q ≢ 4 → q ≢ 11 → fault_item P q ≡ 0)
  unfolding widths_ok
  first_fault = (
    asked_of_each 2 (expr_count P.exprs) (expr_ok P) (λ z. omega arith) refl (item_2 P),
    asked_of_each 3 (node_count P.nodes) (node_ok P.nodes) (λ z. omega arith) refl (item_3 P),
    asked_of_each 4 (node_count P.nodes) (references_ok P) (λ z. omega arith) refl (item_4 P),
    λ as_many. asked_of_each 11 P.variables (λ v. width_ok (width_at P.widths v)) (λ z. omega arith)
        (rw (eq-eqb _ _ as_many)) (item_11 P as_many),
    item_11-length P,
    λ q a b c d. no_item P q (rw (ne_eqb q 2 a, ne_eqb q 3 b, ne_eqb q 4 c, ne_eqb q 11 d)),
  )

  -- ---- begin and run

  first_no-item : (qs : List Question) → itemless qs ≡ true → fault_item P (first_no qs) ≡ 0
  first_no-item [] n = no_item P 0 refl
  first_no-item (q ∷ qs) n = pick q.yes (first_no-item qs (and_right (not (has_item q.number)) _ n))
    where
      pick : (b : Bool) → fault_item P (first_no qs) ≡ 0 → fault_item P (cond b (first_no qs) q.number) ≡ 0
      pick true rec = rec
      pick false rec = no_item P q.number (not-true _ (and_left (not (has_item q.number)) _ n))

  -- no cycle comes with an item
  cycles_item : (n : ℕ) (s : State) (book : List ℕ) → fault_item P (run P n s book).number ≡ 0
  cycles_item = run_induction P (λ n s book. fault_item P (run P n s book).number ≡ 0)
      (λ s book. rw (run_no_cycle P s book) (no_item P 0 refl))
      (λ n s book e. rw (run_ended P _ s book e) (no_item P 0 refl))
      (λ n q s book c. rw (run_refused P n q s book c) (refused_item q s book c))
      (λ n s s' book c h. rw (run_worked P n s s' book c) h)
    where
      refused_item : (q : ℕ) (s : State) (book : List ℕ) → Refuses P s book q → fault_item P q ≡ 0
      refused_item q s book c =
          let l = at_least_7 P s _ q c.1 in
          let u = (refused_number P s _ q c.1).1 in
          no_item P q (rw (
            ne_eqb q 2 (λ e. omega arith),
            ne_eqb q 3 (λ e. omega arith),
            ne_eqb q 4 (λ e. omega arith),
            ne_eqb q 11 (λ e. omega arith),
          ))

  -- the item of a call that asks more than check does, and is done where no question is answered no
  call_item : (later : List Question) → itemless later ≡ true → (done : Answer) → done.item ≡ 0 → (s : State)
      → (let q = first_no (check_questions P ++ later) in
      (cond (eqb q 0) done (answer P q 0 s)).item ≡ fault_item P (check_number P))
  unfolding check_number
  call_item later none done e s =
      rw (first_no-append (check_questions P) later refl) (pick (eqb (first_no (check_questions P)) 0) refl)
    where
      last : (b : Bool) → (cond b done (answer P (first_no later) 0 s)).item ≡ 0
      last true = e
      last false = first_no-item later none

      pick : (b : Bool) → (let c = first_no (check_questions P) in let q = cond b (first_no later) c in eqb c 0 ≡ b
          → (cond (eqb q 0) done (answer P q 0 s)).item ≡ fault_item P c)
      pick true z =
          rw (eqb-true (first_no (check_questions P)) 0 z) (last (eqb (first_no later) 0) ∙ sym (no_item P 0 refl))
      pick false z = rw z

  pub item_of_check : (s : State) (n : ℕ) (book : List ℕ)
      → ((begin_answer P s).item ≡ fault_item P (check_number P))
      × ((run_answer P n s book).item ≡ fault_item P (check_number P))
  unfolding begin_answer run_answer
  item_of_check s n book =
      let w = root_walk P s.values in
      let begun : State = record { values = s.values; marks = w.marks; counts = w.counts } in
      let in_range = values_in_range P.widths s.values in (
        call_item (ask 5 (lengths_ok P s) ∷ ask 6 in_range ∷ ask 10 (not w.looped) ∷ []) refl
            (answer P 0 0 begun) (no_item P 0 refl) s,
        call_item (ask 5 (lengths_ok P s) ∷ ask 6 (well_formed P s) ∷ []) refl
            (answer_of P (run P n s book)) (cycles_item n s book) s,
      )
