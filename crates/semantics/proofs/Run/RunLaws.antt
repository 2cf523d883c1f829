-- The equations of `run`, one for each way in which its first cycle may go, and an induction over the cycles by them.
-- So runs compose, a run works at most the cycles asked and fewer only where it is refused or ended, and it reads no
-- entry past those of the cycles that it comes to.
use mathlib.Core.Path.{◌≡◌, refl, sym, ap, ◌∙◌, subst, fun_ext}
use mathlib.Core.Bool.{Bool, true, false, cond, not}
use mathlib.Core.List.{List, [], ◌∷◌}
use mathlib.Core.Logic.{◌≢◌}
use Prim.Native.Nat.{ℕ, zero, suc, ◌+◌, ◌-◌, ◌≤◌, ◌<◌, zero-le, suc-le-suc}
use native.Mathlib.Nat.{le_trans, zero-lt-suc, zero-add, suc-add, suc_inj, suc-ne-zero, le_of_suc-le-suc}
use native.Mathlib.Omega.{arith}
use lib.Dec.{eqb, leb-suc-suc, eqb-zero-suc, eqb-suc-suc}
use lib.ListN.{take, drop}
use lib.Seq.{take-take, take-nil}
use borrow.Author.Tests.{eq-eqb, ne_eqb, lt-ltb}
use Rattle.semantics.specs.Numbers.{total}
use Rattle.semantics.specs.Program.{Program}
use Rattle.semantics.specs.State.{State, mark_count, ended}
use Rattle.semantics.specs.Completion.{channels_free, targets_apart}
use Rattle.semantics.specs.Cycle.{Outcome, answered, are_active, new_values, walked, cycle}
use Rattle.semantics.specs.Cycle.Outcome.{refused, advances_to}
use Rattle.semantics.specs.Run.{Run, run, stopped, one_more, next_entries, later_entries}
use Rattle.semantics.specs.Calls.{Answer, answer}
use Rattle.semantics.specs.Book.{comes_to, entries_asked}

-- ---- the state that a worked cycle leaves

pub answered_state : (q : ℕ) (t s' : State) → answered q t ≡ advances_to s' → t ≡ s'
answered_state q t s' = pick (eqb q 0)
  where
    pick : (b : Bool) → cond b (advances_to t) (refused q) ≡ advances_to s' → t ≡ s'
    pick true e = cc
    pick false e = let z : ◌≡◌ {A = ℕ} 0 1 = cc in absurd (omega arith)

-- ---- the numbers of a refused cycle

module _ (P : Program) (s : State) (es : List ℕ) where
  pub refused_7 : are_active s.marks es ≡ false → cycle P s es ≡ refused 7
  unfolding cycle
  refused_7 h = rw h

  -- 7 to 10, and 7 only where the entries are not the marked nodes, each once
  pub refused_number : (q : ℕ) → cycle P s es ≡ refused q → (cond (are_active s.marks es) 8 7 ≤ q) × (q ≤ 10)
  unfolding cycle
  refused_number q e =
      let values = new_values P s es in
      let w = walked P s values es in
      pick (are_active s.marks es) (channels_free P s.marks) (targets_apart P s.marks) (not w.looped)
      (record { values = values; marks = w.marks; counts = w.counts }) e
    where
      pick : (a b c d : Bool) (s' : State)
          → answered (cond a (cond b (cond c (cond d 0 10) 9) 8) 7) s' ≡ refused q → (cond a 8 7 ≤ q) × (q ≤ 10)
      pick true true true true s' h = let z : ◌≡◌ {A = ℕ} 0 1 = cc in absurd (omega arith)
      pick true true true false s' h = let z : 10 ≡ q = cc in omega arith
      pick true true false d s' h = let z : 9 ≡ q = cc in omega arith
      pick true false c d s' h = let z : 8 ≡ q = cc in omega arith
      pick false b c d s' h = let z : 7 ≡ q = cc in omega arith

  pub at_least_7 : (q : ℕ) → cycle P s es ≡ refused q → 7 ≤ q
  at_least_7 q e = pick (are_active s.marks es) (refused_number q e).0
    where
      pick : (a : Bool) → cond a 8 7 ≤ q → 7 ≤ q
      pick true l = omega arith
      pick false l = l

  pub refused_not_0 : (q : ℕ) → cycle P s es ≡ refused q → q ≢ 0
  refused_not_0 q e z = omega (arith, at_least_7 q e)

-- ---- what a call answers of a run

-- The number and its item, the cycles worked and the state; not what was left of the book.
abbrev pub answer_of : Program → Run → Answer
answer_of P r = answer P r.number r.worked r.state

abbrev pub one_more_of : Answer → Answer
one_more_of a = record { number = a.number; item = a.item; worked = suc a.worked; state = a.state }

-- ---- a run after a run

abbrev pub worked_before : ℕ → Run → Run
worked_before n r = record { number = r.number; worked = n + r.worked; state = r.state; unread = r.unread }

-- A run r of n cycles goes on by `rest` where it has worked all of them; otherwise it is over.
unfoldable pub continued : ℕ → Run → (State → List ℕ → Run) → Run
continued n r rest = cond (eqb r.worked n) (worked_before n (rest r.state r.unread)) r

pub none_before : (r : Run) → worked_before 0 r ≡ r
none_before r = λ i. record {
  number = r.number;
  worked = zero-add r.worked i;
  state = r.state;
  unread = r.unread;
}

one_more-continued : (n : ℕ) (r : Run) (rest : State → List ℕ → Run)
    → one_more (continued n r rest) ≡ continued (suc n) (one_more r) rest
unfolding continued
one_more-continued n r rest = rw (eqb-suc-suc r.worked n) (pick (eqb r.worked n))
  where
    after : Run
    after = rest r.state r.unread

    pick : (b : Bool) → one_more (cond b (worked_before n after) r) ≡ cond b (worked_before (suc n) after) (one_more r)
    pick true = λ i. record {
      number = after.number;
      worked = sym (suc-add n after.worked) i;
      state = after.state;
      unread = after.unread;
    }
    pick false = refl

-- ---- two books with the same first entries

drop-take : (m k : ℕ) (l : List ℕ) → drop m (take (m + k) l) ≡ take k (drop m l)
drop-take zero k l = ap (λ (n : ℕ). take n l) (zero-add k)
drop-take (suc m) k [] = rw (take-nil (suc m + k)) (sym (take-nil k))
drop-take (suc m) k (x ∷ xs) = ap (λ (n : ℕ). drop (suc m) (take n (x ∷ xs))) (suc-add m k) ∙ drop-take m k xs

same_entries : (m j : ℕ) (b d : List ℕ) → m ≤ j → take j b ≡ take j d → take m b ≡ take m d
same_entries m j b d l t = sym (take-take m j b l) ∙ ap (take m) t ∙ take-take m j d l

same_later : (m j : ℕ) (b d : List ℕ) → m ≤ j → take j b ≡ take j d → take (j - m) (drop m b) ≡ take (j - m) (drop m d)
same_later m j b d l t =
    let split : j ≡ m + (j - m) = omega arith in
    sym (drop-take m (j - m) b) ∙ ap (drop m) (subst (λ (x : ℕ). take x b ≡ take x d) split t) ∙ drop-take m (j - m) d

-- ---- the equations of a run

module _ (P : Program) where
  pub run_no_cycle : (s : State) (book : List ℕ) → run P zero s book ≡ stopped 0 s book
  unfolding run
  run_no_cycle s book = refl

  pub run_ended : (n : ℕ) (s : State) (book : List ℕ) → ended s ≡ true → run P n s book ≡ stopped 0 s book
  unfolding run
  run_ended zero s book e = refl
  run_ended (suc n) s book e = rw e

  -- a mark stands, and the cycle by the book's next entries is refused by question q; or it is worked and leaves s'
  abbrev pub Refuses : State → List ℕ → ℕ → Type 0
  Refuses s book q = (ended s ≡ false) × (cycle P s (next_entries s book) ≡ refused q)

  abbrev pub WorksTo : State → List ℕ → State → Type 0
  WorksTo s book s' = (ended s ≡ false) × (cycle P s (next_entries s book) ≡ advances_to s')

  pub run_refused : (n q : ℕ) (s : State) (book : List ℕ) → Refuses s book q
      → run P (suc n) s book ≡ stopped q s book
  unfolding run
  run_refused n q s book c = rw (c.0, c.1)

  pub run_worked : (n : ℕ) (s s' : State) (book : List ℕ) → WorksTo s book s'
      → run P (suc n) s book ≡ one_more (run P n s' (later_entries s book))
  unfolding run
  run_worked n s s' book c = rw (c.0, c.1)

  -- what holds of a run in each of these cases holds of every run
  pub run_induction : (Q : ℕ → State → List ℕ → Type 0)
      → ((s : State) (book : List ℕ) → Q zero s book)
      → ((n : ℕ) (s : State) (book : List ℕ) → ended s ≡ true → Q (suc n) s book)
      → ((n q : ℕ) (s : State) (book : List ℕ) → Refuses s book q → Q (suc n) s book)
      → ((n : ℕ) (s s' : State) (book : List ℕ) → WorksTo s book s' → Q n s' (later_entries s book) → Q (suc n) s book)
      → (n : ℕ) (s : State) (book : List ℕ) → Q n s book
  run_induction Q no-cycle at-end at_refused at_worked zero s book = no-cycle s book
  run_induction Q no-cycle at-end at_refused at_worked (suc n) s book =
      pick (ended s) (cycle P s (next_entries s book)) refl refl
      (λ s'. run_induction Q no-cycle at-end at_refused at_worked n s' (later_entries s book))
    where
      pick : (b : Bool) (o : Outcome) → ended s ≡ b → cycle P s (next_entries s book) ≡ o
          → ((s' : State) → Q n s' (later_entries s book)) → Q (suc n) s book
      pick true o e c rec = at-end n s book e
      pick false (refused q) e c rec = at_refused n q s book (e, c)
      pick false (advances_to s') e c rec = at_worked n s s' book (e, c) (rec s')

  -- ---- how many cycles are worked

  -- For the reader: no run works more cycles than asked.
  pub worked_at_most : (n : ℕ) (s : State) (book : List ℕ) → (run P n s book).worked ≤ n
  worked_at_most = run_induction (λ n s book. (run P n s book).worked ≤ n)
      (λ s book. rw (run_no_cycle s book) zero-le)
      (λ n s book e. rw (run_ended (suc n) s book e) zero-le)
      (λ n q s book c. rw (run_refused n q s book c) zero-le)
      (λ n s s' book c h. rw (run_worked n s s' book c) (suc-le-suc h))

  pub all-worked : (n : ℕ) (s : State) (book : List ℕ) → (run P n s book).worked ≡ n → (run P n s book).number ≡ 0
  all-worked = run_induction (λ n s book. (run P n s book).worked ≡ n → (run P n s book).number ≡ 0)
      (λ s book. rw (run_no_cycle s book) (λ w. refl))
      (λ n s book e. rw (run_ended (suc n) s book e) (λ w. refl))
      (λ n q s book c. rw (run_refused n q s book c) (λ w. absurd (suc-ne-zero n (sym w))))
      (λ n s s' book c h. rw (run_worked n s s' book c) (λ w. h (suc_inj w)))

  -- For the reader: a run that is not refused and works fewer cycles than asked leaves an ended state.
  pub fewer_worked : (n : ℕ) (s : State) (book : List ℕ) → (run P n s book).number ≡ 0 → (run P n s book).worked < n
      → ended (run P n s book).state ≡ true
  fewer_worked = run_induction
      (λ n s book. (run P n s book).number ≡ 0 → (run P n s book).worked < n → ended (run P n s book).state ≡ true)
      (λ s book. rw (run_no_cycle s book) (λ z w. absurd (omega arith)))
      (λ n s book e. rw (run_ended (suc n) s book e) (λ z w. e))
      (λ n q s book c. rw (run_refused n q s book c) (λ z w. absurd (refused_not_0 P s (next_entries s book) q c.1 z)))
      (λ n s s' book c h. rw (run_worked n s s' book c) (λ z w. h z (le_of_suc-le-suc w)))

  -- ---- runs compose

  pub run-add : (m n : ℕ) (s : State) (book : List ℕ) → run P (n + m) s book ≡ continued n (run P n s book) (run P m)
  unfolding continued
  run-add m = run_induction (λ n s book. run P (n + m) s book ≡ continued n (run P n s book) (run P m))
      (λ s book. rw (zero-add m, run_no_cycle s book) (sym (none_before (run P m s book))))
      (λ n s book e. run_ended (suc n + m) s book e ∙ rw (run_ended (suc n) s book e, eqb-zero-suc n))
      (λ n q s book c. rw (suc-add n m, run_refused (n + m) q s book c) (rw (run_refused n q s book c, eqb-zero-suc n)))
      at_worked
    where
      at_worked : (n : ℕ) (s s' : State) (book : List ℕ) → WorksTo s book s'
          → run P (n + m) s' (later_entries s book) ≡ continued n (run P n s' (later_entries s book)) (run P m)
          → run P (suc n + m) s book ≡ continued (suc n) (run P (suc n) s book) (run P m)
      at_worked n s s' book c h =
          rw (suc-add n m, run_worked (n + m) s s' book c, h)
          (rw (run_worked n s s' book c) (one_more-continued n (run P n s' (later_entries s book)) (run P m)))

  pub run_goes_on : (m n : ℕ) (s : State) (book : List ℕ) → (run P n s book).worked ≡ n
      → run P (n + m) s book ≡ worked_before n (run P m (run P n s book).state (run P n s book).unread)
  unfolding continued
  run_goes_on m n s book w = run-add m n s book ∙ rw (eq-eqb (run P n s book).worked n w)

  pub run_is_over : (m n : ℕ) (s : State) (book : List ℕ) → (run P n s book).worked < n
      → run P (n + m) s book ≡ run P n s book
  unfolding continued
  run_is_over m n s book w = run-add m n s book ∙ rw (ne_eqb (run P n s book).worked n (λ e. omega arith))

  -- ---- the cycles that a run comes to

  pub comes_first : (n : ℕ) (s : State) (book : List ℕ) → comes_to P (suc n) s book 0 ≡ not (ended s)
  unfolding comes_to
  comes_first n s book = rw (run_no_cycle s book, lt-ltb 0 (suc n) (zero-lt-suc n))

  pub comes_later : (n k : ℕ) (s s' : State) (book : List ℕ) → WorksTo s book s'
      → comes_to P (suc n) s book (suc k) ≡ comes_to P n s' (later_entries s book) k
  unfolding comes_to
  comes_later n k s s' book c =
      rw (run_worked k s s' book c) (rw (leb-suc-suc (suc k) n, eqb-suc-suc (run P k s' (later_entries s book)).worked k))

  -- none after a run that stops at once
  pub comes_no_further : (n k q : ℕ) (s : State) (book : List ℕ) → run P (suc k) s book ≡ stopped q s book
      → comes_to P n s book (suc k) ≡ false
  unfolding comes_to
  comes_no_further n k q s book r = rw (r, eqb-zero-suc k)

  -- ---- later entries are not read

  asked_first : (n : ℕ) (s : State) (book : List ℕ) → ended s ≡ false
      → mark_count s.marks ≤ entries_asked P (suc n) s book
  unfolding entries_asked total
  asked_first n s book e = rw (comes_first n s book, e, run_no_cycle s book) (omega arith)

  asked_worked : (n : ℕ) (s s' : State) (book : List ℕ) → WorksTo s book s'
      → entries_asked P (suc n) s book ≡ mark_count s.marks + entries_asked P n s' (later_entries s book)
  unfolding entries_asked total
  asked_worked n s s' book c =
      rw (comes_first n s book, c.0, run_no_cycle s book)
      (ap (λ (f : ℕ → ℕ). mark_count s.marks + total f n) (fun_ext (λ k.
      rw (comes_later n k s s' book c, run_worked k s s' book c))))

  -- two books with the same first j entries have one answer, where the run asks for no more than j of the first
  pub later_not_read : (n : ℕ) (s : State) (b d : List ℕ) (j : ℕ) → entries_asked P n s b ≤ j → take j b ≡ take j d
      → answer_of P (run P n s b) ≡ answer_of P (run P n s d)
  later_not_read = run_induction Same
      (λ s b d j l t. rw (run_no_cycle s b, run_no_cycle s d))
      (λ n s b e d j l t. rw (run_ended (suc n) s b e, run_ended (suc n) s d e))
      at_refused
      at_worked
    where
      Same : ℕ → State → List ℕ → Type 0
      Same n s b =
          (d : List ℕ) (j : ℕ) → entries_asked P n s b ≤ j → take j b ≡ take j d
          → answer_of P (run P n s b) ≡ answer_of P (run P n s d)

      same_cycle : (s : State) (b d : List ℕ) (j : ℕ) → mark_count s.marks ≤ j → take j b ≡ take j d
          → cycle P s (next_entries s d) ≡ cycle P s (next_entries s b)
      same_cycle s b d j l t = ap (cycle P s) (sym (same_entries (mark_count s.marks) j b d l t))

      at_refused : (n q : ℕ) (s : State) (b : List ℕ) → Refuses s b q → Same (suc n) s b
      at_refused n q s b c d j l t =
          let fits : mark_count s.marks ≤ j = le_trans (asked_first n s b c.0) l in
          rw (run_refused n q s b c, run_refused n q s d (c.0, same_cycle s b d j fits t ∙ c.1))

      at_worked : (n : ℕ) (s s' : State) (b : List ℕ) → WorksTo s b s' → Same n s' (later_entries s b) → Same (suc n) s b
      at_worked n s s' b c h d j l t =
          let m = mark_count s.marks in
          let asked = asked_worked n s s' b c in
          let fits : m ≤ j = omega arith in
          rw (run_worked n s s' b c, run_worked n s s' d (c.0, same_cycle s b d j fits t ∙ c.1))
          (ap one_more_of (h (later_entries s d) (j - m) (omega arith) (same_later m j b d fits t)))
