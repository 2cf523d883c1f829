-- Old papers keep their answers: where every width is 16, and the words of the expressions and the values are words,
-- check, begin and run answer as they did before variables had widths. A variable of 16 bits keeps a word whole, and
-- the stores of a cycle store words.
use mathlib.Core.Path.{◌≡◌, refl, sym, ap, ◌∙◌, subst}
use mathlib.Core.Bool.{Bool, true, false, cond, not}
use mathlib.Core.List.{List, [], ◌∷◌, ◌++◌, foldl}
use mathlib.Core.Logic.{inl, inr}
use mathlib.Core.Option.{Option, none, some}
use Prim.Native.Nat.{ℕ, ◌<◌}
use native.Mathlib.Nat.{mod-eq_of_lt}
use native.Mathlib.Omega.{arith}
use lib.Dec.{eqb}
use lib.ListN.{length, get_or, set, replicate, length-replicate, get_or-replicate}
use lib.Seq.{set_out}
use borrow.Author.Tests.{eqb-true, eq-eqb}
use Rattle.semantics.specs.Program.{Program}
use Rattle.semantics.specs.Questions.{Question, ask, first_no}
use Rattle.semantics.specs.Check.{check_questions, check_number}
use Rattle.semantics.specs.Widths.{width_at, truncated, width_ok, widths_ok, values_in_range}
use Rattle.semantics.specs.State.{State, lengths_ok, control_formed, well_formed}
use Rattle.semantics.specs.Completion.{store_value, stores, target, source, store}
use Rattle.semantics.specs.Cycle.{new_values, walked, cycle_questions, cycle}
use Rattle.semantics.specs.Cycle.Outcome.{advances_to}
use Rattle.semantics.specs.Run.{run, one_more}
use Rattle.semantics.specs.Calls.{answer, root_walk, begin_answer, run_answer}
use Rattle.semantics.specs.Plain.{are_words, plain_store_value, plain_store, plain_new_values, plain_cycle, plain_run}
use Rattle.semantics.specs.Plain.{plain_check_questions, plain_check_number, plain_begin_answer, plain_run_answer}
use Rattle.semantics.proofs.Lists.Logic.{both, cond-when, lt_or_le}
use Rattle.semantics.proofs.Lists.NumberLaws.{all-below}
use Rattle.semantics.proofs.Lists.QuestionLaws.{yes-all, first_no-alike}
use Rattle.semantics.proofs.Lists.WordLaws.{Word, Words, words, set_words, table_words}
use Rattle.semantics.proofs.Run.RunLaws.{answered_state, answer_of, run_induction}
use Rattle.semantics.proofs.Run.RunLaws.{run_no_cycle, run_ended, run_refused, run_worked}
use Rattle.semantics.proofs.Order.Stores.{store_length, new_values-length}
use Rattle.semantics.proofs.Order.InRange.{range_in}
use Rattle.semantics.proofs.Order.CycleOrder.{fits_lengths}

-- ---- plain stores store words

put_words : (table values : List ℕ) (v : ℕ) (e : Option ℕ) → Words table → Words values
    → Words (plain_store_value table values v e)
put_words table values v none t h = h
put_words table values v (some e) t h = set_words values v (get_or table e 0) h (t e)

module _ (P : Program) (marks table : List ℕ) (t : Words table) where
  plain_store-words : (values : List ℕ) (i : ℕ) → Words values → Words (plain_store P marks table values i)
  unfolding plain_store
  plain_store-words values i h = pick (stores P marks i)
    where
      pick : (b : Bool)
          → Words (cond b (plain_store_value table values (target P marks i) (source P marks i)) values)
      pick true = put_words table values (target P marks i) (source P marks i) t h
      pick false = h

  plain_stores_words : (values entries : List ℕ) → Words values → Words (foldl (plain_store P marks table) values entries)
  plain_stores_words values [] h = h
  plain_stores_words values (i ∷ is) h =
      plain_stores_words (plain_store P marks table values i) is (plain_store-words values i h)

-- ---- every variable has 16 bits

module _ (P : Program) (wide : P.widths ≡ replicate P.variables 16) where
  width_16 : (v : ℕ) → v < P.variables → width_at P.widths v ≡ 16
  width_16 v l = rw wide (get_or-replicate P.variables v 16 0 l)

  widths_ok_lem : widths_ok P ≡ true
  unfolding widths_ok width_ok
  widths_ok_lem =
      both (eq-eqb _ _ (ap length wide ∙ length-replicate P.variables 16))
      (all-below (λ v. width_ok (width_at P.widths v)) P.variables (λ v l. ap width_ok (width_16 v l)))

  same_check : check_number P ≡ plain_check_number P
  unfolding check_number plain_check_number
  same_check = rw widths_ok_lem

  -- ---- a variable keeps a word whole

  kept : (v value : ℕ) → v < P.variables → Word value → truncated P.widths v value ≡ value
  kept v value l w = rw (width_16 v l) (mod-eq_of_lt w)

  module _ (marks table : List ℕ) (t : Words table) where
    same_put : (values : List ℕ) (v : ℕ) (e : Option ℕ) → length values ≡ P.variables
        → store_value P.widths table values v e ≡ plain_store_value table values v e
    same_put values v none n = refl
    same_put values v (some e) n =
        elim (lt_or_le v (length values)) [
          | inl l ↦ ap (set values v) (kept v (get_or table e 0) (omega arith) (t e))
          | inr l ↦ set_out values v _ l ∙ sym (set_out values v (get_or table e 0) l)
        ]

    same_store : (values : List ℕ) (i : ℕ) → length values ≡ P.variables
        → store P marks table values i ≡ plain_store P marks table values i
    unfolding store plain_store
    same_store values i n =
        ap (λ (x : List ℕ). cond (stores P marks i) x values) (same_put values (target P marks i) (source P marks i) n)

    same_stores : (values entries : List ℕ) → length values ≡ P.variables
        → foldl (store P marks table) values entries ≡ foldl (plain_store P marks table) values entries
    same_stores values [] n = refl
    same_stores values (i ∷ is) n =
        same_stores (store P marks table values i) is (store_length P marks table values i ∙ n)
        ∙ ap (λ (x : List ℕ). foldl (plain_store P marks table) x is) (same_store values i n)

  -- ---- cycles and runs

  module _ (e : Words P.exprs) where
    -- a value for each variable, and each a word
    abbrev OfWords : State → Type 0
    OfWords s = (length s.values ≡ P.variables) × Words s.values

    same-new_values : (s : State) (entries : List ℕ) → OfWords s → new_values P s entries ≡ plain_new_values P s entries
    unfolding new_values plain_new_values
    same-new_values s entries h =
        same_stores s.marks _ (table_words P.exprs s.values e h.1) s.values entries h.0

    new_values-words : (s : State) (entries : List ℕ) → OfWords s → Words (new_values P s entries)
    unfolding plain_new_values
    new_values-words s entries h =
        subst Words (sym (same-new_values s entries h))
        (plain_stores_words P s.marks _ (table_words P.exprs s.values e h.1) s.values entries h.1)

    same_cycle : (s : State) (entries : List ℕ) → OfWords s → cycle P s entries ≡ plain_cycle P s entries
    unfolding cycle plain_cycle
    same_cycle s entries h = rw (same-new_values s entries h)

    worked_words : (s s' : State) (entries : List ℕ) → OfWords s → cycle P s entries ≡ advances_to s' → OfWords s'
    unfolding cycle
    worked_words s s' entries h c =
        let values = new_values P s entries in
        let w = walked P s values entries in
        subst OfWords (answered_state (first_no (cycle_questions P s entries w)) _ s' c)
        (new_values-length P s entries ∙ h.0, new_values-words s entries h)

    same_run : (n : ℕ) (s : State) (book : List ℕ) → OfWords s → run P n s book ≡ plain_run P n s book
    unfolding plain_run
    same_run = run_induction P (λ n s book. OfWords s → run P n s book ≡ plain_run P n s book)
        (λ s book h. run_no_cycle P s book)
        (λ n s book z h. run_ended P _ s book z ∙ rw z)
        (λ n q s book c h. run_refused P n q s book c ∙ rw (c.0, sym (same_cycle s _ h) ∙ c.1))
        (λ n s s' book c rec h. run_worked P n s s' book c
        ∙ rw (c.0, sym (same_cycle s _ h) ∙ c.1) (ap one_more (rec (worked_words s s' _ h c.1))))

    -- ---- the calls

    module _ (s : State) (v : Words s.values) where
      of_words : lengths_ok P s ≡ true → OfWords s
      of_words h = ((fits_lengths P s h).values, v)

      all-in_range : lengths_ok P s ≡ true → values_in_range P.widths s.values ≡ true
      all-in_range h =
          let n = (of_words h).0 in
          range_in P.widths s.values (λ u l. rw (width_16 u (omega arith)) (v u))

      -- question 11 is answered yes, and what follows question 5 counts only where that is answered yes
      same_number : (qs ps : List Question) → (lengths_ok P s ≡ true → first_no qs ≡ first_no ps)
          → first_no (check_questions P ++ ask 5 (lengths_ok P s) ∷ qs)
          ≡ first_no (plain_check_questions P ++ ask 5 (lengths_ok P s) ∷ ps)
      unfolding check_number plain_check_number
      same_number qs ps h =
          first_no-alike (check_questions P) (ask 5 (lengths_ok P s) ∷ qs) (plain_check_questions P)
          (ask 5 (lengths_ok P s) ∷ ps) refl refl same_check (cond-when (lengths_ok P s) 5 h)

      same_begin : begin_answer P s ≡ plain_begin_answer P s
      unfolding begin_answer plain_begin_answer
      same_begin =
          let w = root_walk P s.values in
          let begun : State = record { values = s.values; marks = w.marks; counts = w.counts } in
          let loops = ask 10 (not w.looped) ∷ [] in
          ap (λ (q : ℕ). cond (eqb q 0) (answer P 0 0 begun) (answer P q 0 s))
          (same_number (ask 6 (values_in_range P.widths s.values) ∷ loops) loops (λ h. rw (all-in_range h)))

      same_answer : (n : ℕ) (book : List ℕ) → run_answer P n s book ≡ plain_run_answer P n s book
      unfolding run_answer plain_run_answer well_formed
      same_answer n book =
          let formed = ask 6 (control_formed P.nodes s.marks s.counts) ∷ [] in
          let questions = plain_check_questions P ++ ask 5 (lengths_ok P s) ∷ formed in
          ap (λ (q : ℕ). cond (eqb q 0) (answer_of P (run P n s book)) (answer P q 0 s))
          (same_number (ask 6 (well_formed P s) ∷ []) formed (λ h. rw (all-in_range h)))
          ∙ cond-when (eqb (first_no questions) 0) (answer P (first_no questions) 0 s) (λ z.
          let (_, (_, (_, (_, (lengths, _))))) = yes-all questions refl (eqb-true (first_no questions) 0 z) in
          ap (answer_of P) (same_run n s book (of_words lengths)))

pub old_papers : (P : Program) → P.widths ≡ replicate P.variables 16 → are_words P.exprs ≡ true
    → (s : State) → are_words s.values ≡ true
    → (check_number P ≡ plain_check_number P) × (begin_answer P s ≡ plain_begin_answer P s)
    × ((n : ℕ) (book : List ℕ) → run_answer P n s book ≡ plain_run_answer P n s book)
old_papers P wide e s v =
    let exprs = words P.exprs e in
    let values = words s.values v in
    (same_check P wide, same_begin P wide exprs s values, same_answer P wide exprs s values)
