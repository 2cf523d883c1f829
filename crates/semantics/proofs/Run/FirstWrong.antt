-- Where a book first goes wrong, cycle by cycle: the search of `first_wrong` through the cycles that the run comes to
-- goes the way of the run. So a book that first goes wrong at cycle k is answered with 7 and k cycles worked, and a
-- book that never goes wrong is never answered with 7.
use mathlib.Core.Path.{◌≡◌, refl, sym, ap, ◌∙◌, fun_ext}
use mathlib.Core.Bool.{Bool, true, false, cond, not, ◌&&◌}
use mathlib.Core.List.{List, [], ◌∷◌}
use mathlib.Core.Logic.{◌≢◌, inl, inr}
use mathlib.Core.Option.{Option, none, some, map, some-injective, none-ne-some}
use Prim.Native.Nat.{ℕ, zero, suc, ◌≤◌}
use native.Mathlib.Omega.{arith}
use lib.Dec.{eqb, eqb-suc-zero}
use borrow.Author.Tests.{eqb-true, eq-eqb, ne_eqb}
use Rattle.semantics.specs.Numbers.{up_from, below, find}
use Rattle.semantics.specs.Program.{Program}
use Rattle.semantics.specs.State.{State, ended}
use Rattle.semantics.specs.Cycle.{are_active}
use Rattle.semantics.specs.Run.{Run, run, stopped, next_entries, later_entries}
use Rattle.semantics.specs.Calls.{Answer}
use Rattle.semantics.specs.Book.{entries_for, goes_wrong_at, first_wrong}
use Rattle.semantics.proofs.Lists.Logic.{true_or_false}
use Rattle.semantics.proofs.Run.RunLaws.{refused_7, refused_number, answer_of, Refuses, WorksTo}
use Rattle.semantics.proofs.Run.RunLaws.{run_no_cycle, run_ended, run_refused, run_worked, run_induction}
use Rattle.semantics.proofs.Run.RunLaws.{comes_first, comes_later, comes_no_further}

-- ---- searches

find_none : (f : ℕ → Bool) (xs : List ℕ) → ((x : ℕ) → f x ≡ false) → find f xs ≡ none
unfolding find
find_none f [] h = refl
find_none f (x ∷ xs) h = rw (h x) (find_none f xs h)

map-cond : (b : Bool) (x : ℕ) (o : Option ℕ)
    → map suc (cond b (some x) o) ≡ cond b (some (suc x)) (map suc o)
map-cond true x o = refl
map-cond false x o = refl

find-shift : (f : ℕ → Bool) (n a : ℕ) → find f (up_from n (suc a)) ≡ map suc (find (λ i. f (suc i)) (up_from n a))
unfolding find up_from
find-shift f zero a = refl
find-shift f (suc n) a =
    rw (find-shift f n (suc a)) (sym (map-cond (f (suc a)) a (find (λ i. f (suc i)) (up_from n (suc a)))))

-- the first number below n + 1 that passes is 0, or one more than the first below n of which one more passes
find-below : (f : ℕ → Bool) (n : ℕ)
    → find f (below (suc n)) ≡ cond (f 0) (some 0) (map suc (find (λ i. f (suc i)) (below n)))
unfolding find up_from
find-below f n = rw (find-shift f n 0)

-- ---- a book goes wrong at a cycle

-- at cycle 0
abbrev pub is_now : Option ℕ → Bool
is_now none = false
is_now (some k) = eqb k 0

-- where the book went wrong, read off an answer
abbrev pub wrong_cycle : Answer → Option ℕ
wrong_cycle a = cond (eqb a.number 7) (some a.worked) none

module _ (P : Program) where
  wrong_at_first : (n : ℕ) (s : State) (book : List ℕ)
      → goes_wrong_at P (suc n) s book 0 ≡ not (ended s) && not (are_active s.marks (next_entries s book))
  unfolding goes_wrong_at entries_for
  wrong_at_first n s book = rw (comes_first P n s book, run_no_cycle P s book)

  wrong_at_later : (n k : ℕ) (s s' : State) (book : List ℕ) → WorksTo P s book s'
      → goes_wrong_at P (suc n) s book (suc k) ≡ goes_wrong_at P n s' (later_entries s book) k
  unfolding goes_wrong_at entries_for
  wrong_at_later n k s s' book c = rw (comes_later P n k s s' book c, run_worked P k s s' book c)

  not_wrong_after : (n k q : ℕ) (s : State) (book : List ℕ) → run P (suc k) s book ≡ stopped q s book
      → goes_wrong_at P n s book (suc k) ≡ false
  unfolding goes_wrong_at
  not_wrong_after n k q s book r = rw (comes_no_further P n k q s book r)

  -- ---- the first cycle at which it goes wrong

  pub wrong_no_cycle : (s : State) (book : List ℕ) → first_wrong P zero s book ≡ none
  unfolding first_wrong find up_from
  wrong_no_cycle s book = refl

  -- by the first cycle and the later ones
  first_or_later : (n : ℕ) (s : State) (book : List ℕ) → first_wrong P (suc n) s book
      ≡ cond (not (ended s) && not (are_active s.marks (next_entries s book))) (some 0)
      (map suc (find (λ k. goes_wrong_at P (suc n) s book (suc k)) (below n)))
  unfolding first_wrong
  first_or_later n s book = find-below (goes_wrong_at P (suc n) s book) n ∙ rw (wrong_at_first n s book)

  -- at no later cycle where the run stops at once
  none_later : (n q : ℕ) (s : State) (book : List ℕ) → ((k : ℕ) → run P (suc k) s book ≡ stopped q s book)
      → find (λ k. goes_wrong_at P (suc n) s book (suc k)) (below n) ≡ none
  none_later n q s book h = find_none _ (below n) (λ k. not_wrong_after (suc n) k q s book (h k))

  -- it goes wrong at once exactly when the next entries are not the marked nodes, each once
  pub wrong_at_once : (n : ℕ) (s : State) (book : List ℕ) → ended s ≡ false
      → is_now (first_wrong P (suc n) s book) ≡ not (are_active s.marks (next_entries s book))
  wrong_at_once n s book e =
      ap is_now (first_or_later n s book)
      ∙ rw e (pick (are_active s.marks (next_entries s book)) (find (λ k. goes_wrong_at P (suc n) s book (suc k)) (below n)))
    where
      pick : (b : Bool) (o : Option ℕ) → is_now (cond (not b) (some 0) (map suc o)) ≡ not b
      pick true none = refl
      pick true (some k) = eqb-suc-zero k
      pick false o = refl

  pub wrong_ended : (n : ℕ) (s : State) (book : List ℕ) → ended s ≡ true → first_wrong P n s book ≡ none
  wrong_ended zero s book e = wrong_no_cycle s book
  wrong_ended (suc n) s book e =
      first_or_later n s book ∙ rw (e, none_later n 0 s book (λ k. run_ended P (suc k) s book e))

  pub wrong_now : (n : ℕ) (s : State) (book : List ℕ) → ended s ≡ false → are_active s.marks (next_entries s book) ≡ false
      → first_wrong P (suc n) s book ≡ some 0
  wrong_now n s book e a = first_or_later n s book ∙ rw (e, a)

  pub wrong_refused : (n q : ℕ) (s : State) (book : List ℕ) → are_active s.marks (next_entries s book) ≡ true
      → Refuses P s book q → first_wrong P (suc n) s book ≡ none
  wrong_refused n q s book a c =
      first_or_later n s book ∙ rw (c.0, a) (rw (none_later n q s book (λ k. run_refused P k q s book c)))

  -- a cycle is worked only where its entries are the marked nodes, each once
  pub worked_active : (s s' : State) (book : List ℕ) → WorksTo P s book s'
      → are_active s.marks (next_entries s book) ≡ true
  worked_active s s' book c =
      elim (true_or_false (are_active s.marks (next_entries s book))) [
        | inl a ↦ a
        | inr a ↦
            let r = refused_7 P s (next_entries s book) a in
            let w = c.1 in
            let z : ◌≡◌ {A = ℕ} 0 1 = cc in
            absurd (omega arith)
      ]

  pub wrong_worked : (n : ℕ) (s s' : State) (book : List ℕ) → WorksTo P s book s'
      → first_wrong P (suc n) s book ≡ map suc (first_wrong P n s' (later_entries s book))
  unfolding first_wrong
  wrong_worked n s s' book c =
      first_or_later n s book ∙ rw (c.0, worked_active s s' book c)
      (ap (λ (f : ℕ → Bool). map suc (find f (below n))) (fun_ext (λ k. wrong_at_later n k s s' book c)))

  -- ---- what the answer says of it

  pub wrong_read_off : (n : ℕ) (s : State) (book : List ℕ)
      → first_wrong P n s book ≡ wrong_cycle (answer_of P (run P n s book))
  wrong_read_off = run_induction P (λ n s book. first_wrong P n s book ≡ wrong_cycle (answer_of P (run P n s book)))
      (λ s book. rw (run_no_cycle P s book) (wrong_no_cycle s book))
      (λ n s book e. rw (run_ended P (suc n) s book e) (wrong_ended (suc n) s book e))
      at_refused
      (λ n s s' book c h. rw (run_worked P n s s' book c) (wrong_worked n s s' book c ∙ ap (map suc) h
      ∙ map-cond (eqb (run P n s' (later_entries s book)).number 7) (run P n s' (later_entries s book)).worked none))
    where
      at_refused : (n q : ℕ) (s : State) (book : List ℕ) → Refuses P s book q
          → first_wrong P (suc n) s book ≡ wrong_cycle (answer_of P (run P (suc n) s book))
      at_refused n q s book c =
          rw (run_refused P n q s book c)
          (elim (true_or_false (are_active s.marks (next_entries s book))) [
            | inl a ↦
                let l : 8 ≤ q = rw a at (refused_number P s (next_entries s book) q c.1).0 in
                wrong_refused n q s book a c ∙ rw (ne_eqb q 7 (λ e. omega arith))
            | inr a ↦
                let r = refused_7 P s (next_entries s book) a in
                let e : q ≡ 7 = cc c.1 in
                wrong_now n s book c.0 a ∙ rw (eq-eqb q 7 e)
          ])

  pub wrong_answered : (n k : ℕ) (s : State) (book : List ℕ) → first_wrong P n s book ≡ some k
      → ((run P n s book).number ≡ 7) × ((run P n s book).worked ≡ k)
  wrong_answered n k s book h = pick (eqb r.number 7) refl (sym (wrong_read_off n s book) ∙ h)
    where
      r : Run
      r = run P n s book

      pick : (b : Bool) → eqb r.number 7 ≡ b → cond b (some r.worked) none ≡ some k
          → (r.number ≡ 7) × (r.worked ≡ k)
      pick true e x = (eqb-true r.number 7 e, some-injective r.worked k x)
      pick false e x = absurd (none-ne-some k x)

  pub never_wrong : (n : ℕ) (s : State) (book : List ℕ) → first_wrong P n s book ≡ none → (run P n s book).number ≢ 7
  never_wrong n s book h e =
      none-ne-some (run P n s book).worked
      (sym h ∙ wrong_read_off n s book ∙ rw (eq-eqb (run P n s book).number 7 e))
