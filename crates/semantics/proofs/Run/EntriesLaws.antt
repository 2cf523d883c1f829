-- What question 7 asks, in words of indices: m entries, each a marked node, none twice; then every marked node stands
-- among the entries once, and no other node does. And a book goes wrong at a cycle exactly when the run comes to the
-- cycle and the entries for it are not so.
use mathlib.Core.Path.{◌≡◌, refl, sym, ap, ◌∙◌, subst}
use mathlib.Core.Bool.{Bool, true, false, cond, not, ◌&&◌, ◌||◌, true≢false, and-true}
use mathlib.Core.List.{List, [], ◌∷◌}
use mathlib.Core.Logic.{◌↔◌, ◌≢◌}
use Prim.Native.Nat.{ℕ, zero, suc, ◌<◌}
use native.Mathlib.Nat.{le_of_suc-le-suc, zero-lt-suc}
use native.Mathlib.Omega.{arith}
use lib.Dec.{eqb, ltb}
use lib.ListN.{length, get_or, set}
use borrow.Author.Tests.{eqb-true, eqb-false, eq-eqb, ne_eqb, ltb-true, lt-ltb, not-true}
use Rattle.semantics.specs.Numbers.{every, any, filter, member, distinct}
use Rattle.semantics.specs.Program.{Program}
use Rattle.semantics.specs.State.{State, marked, mark_count, ended}
use Rattle.semantics.specs.Cycle.{are_active}
use Rattle.semantics.specs.Run.{Run, run}
use Rattle.semantics.specs.Book.{comes_to, entries_for, goes_wrong_at}
use Rattle.semantics.proofs.Lists.Logic.{and_left, and_right, both, refuted}
use Rattle.semantics.proofs.Lists.NumberLaws.{every_elements, length-filter}
use Rattle.semantics.proofs.Lists.ActiveLaws.{some_marked}
use Rattle.semantics.proofs.Run.CrossOut.{cross_out, no_marks, cross_mark, active-cross_out}

-- ---- tests over a list, by its indices

not-any : (f : ℕ → Bool) (xs : List ℕ) → not (any f xs) ≡ every (λ x. not (f x)) xs
unfolding every any
not-any f [] = refl
not-any f (x ∷ xs) = pick (f x) (any f xs) (not-any f xs)
  where
    pick : (b t : Bool) {u : Bool} → not t ≡ u → not (b || t) ≡ not b && u
    pick true t e = refl
    pick false t e = e

pub distinct_index : (xs : List ℕ)
    → (distinct xs ≡ true) ↔ ((i j : ℕ) → i < j → j < length xs → get_or xs i 0 ≢ get_or xs j 0)
unfolding distinct
distinct_index xs = (apart xs, all xs)
  where
    apart : (xs : List ℕ) → distinct xs ≡ true → (i j : ℕ) → i < j → j < length xs → get_or xs i 0 ≢ get_or xs j 0
    apart [] h i j l u = absurd (omega arith)
    apart (x ∷ xs) h i zero l u = absurd (omega arith)
    apart (x ∷ xs) h zero (suc j) l u =
        let e = (every_elements (λ y. not (eqb x y)) 0 xs).0 (sym (not-any (eqb x) xs) ∙ and_left _ (distinct xs) h) in
        eqb-false x (get_or xs j 0) (not-true _ (e j (le_of_suc-le-suc u)))
    apart (x ∷ xs) h (suc i) (suc j) l u =
        apart xs (and_right (not (member x xs)) _ h) i j (le_of_suc-le-suc l) (le_of_suc-le-suc u)

    all : (xs : List ℕ) → ((i j : ℕ) → i < j → j < length xs → get_or xs i 0 ≢ get_or xs j 0) → distinct xs ≡ true
    all [] h = refl
    all (x ∷ xs) h =
        both
        (not-any (eqb x) xs ∙ (every_elements (λ y. not (eqb x y)) 0 xs).1
        (λ j u. ap not (ne_eqb x (get_or xs j 0) (h 0 (suc j) (zero-lt-suc j) (omega arith)))))
        (all xs (λ i j l u. h (suc i) (suc j) (omega arith) (omega arith)))

-- ---- question 7

pub record EachMarkedOnce (marks entries : List ℕ) : Type 0 where
  pub as_many : length entries ≡ mark_count marks
  pub each_marked : (i : ℕ) → i < length entries → marked marks (get_or entries i 0) ≡ true
  pub none_twice : (i j : ℕ) → i < j → j < length entries → get_or entries i 0 ≢ get_or entries j 0

pub active_means : (marks entries : List ℕ) → (are_active marks entries ≡ true) ↔ EachMarkedOnce marks entries
unfolding are_active
active_means marks entries = (
  λ h. record {
    as_many = eqb-true (length entries) (mark_count marks) (and_left _ _ (and_left _ (distinct entries) h));
    each_marked = (every_elements (marked marks) 0 entries).0
        (and_right (eqb (length entries) (mark_count marks)) _ (and_left _ (distinct entries) h));
    none_twice = (distinct_index entries).0
        (and_right (eqb (length entries) (mark_count marks) && every (marked marks) entries) _ h);
  },
  λ e. both (both (eq-eqb _ _ e.as_many) ((every_elements (marked marks) 0 entries).1 e.each_marked))
      ((distinct_index entries).1 e.none_twice),
)

-- how often a node stands among the entries
abbrev pub times_in : ℕ → List ℕ → ℕ
times_in i entries = length (filter (λ e. eqb e i) entries)

crossed_once : (marks entries : List ℕ) → cross_out entries marks ≡ true → (i : ℕ)
    → times_in i entries ≡ cond (marked marks i) 1 0
unfolding cross_out filter
crossed_once marks [] o i = rw (no_marks marks i o)
crossed_once marks (e ∷ es) o i =
    length-filter (λ x. eqb x i) e es
    ∙ pick (eqb e i) refl
    (crossed_once (set marks e 0) es (and_right (marked marks e) _ o) i ∙ rw (cross_mark marks e i))
  where
    pick : (b : Bool) → eqb e i ≡ b → times_in i es ≡ cond (marked marks i && not (eqb e i)) 1 0
        → cond b (suc (times_in i es)) (times_in i es) ≡ cond (marked marks i) 1 0
    pick true q r =
        let m : marked marks i ≡ true = subst (λ (k : ℕ). marked marks k ≡ true) (eqb-true e i q) (and_left _ _ o) in
        rw m (ap suc (r ∙ rw (m, q)))
    pick false q r = r ∙ rw (q, and-true (marked marks i))

-- For the reader: where question 7 is answered yes, a marked node stands among the entries once, and no other node
-- does.
pub active_once : (marks entries : List ℕ) → are_active marks entries ≡ true → (i : ℕ)
    → times_in i entries ≡ cond (marked marks i) 1 0
active_once marks entries h = crossed_once marks entries (sym (active-cross_out marks entries) ∙ h)

-- ---- some mark stands

pub mark_stands_lem : (s : State) → (ended s ≡ false) ↔ ((i : ℕ) × (marked s.marks i ≡ true))
mark_stands_lem s = (
  λ h. let n = eqb-false (mark_count s.marks) 0 h in (some_marked s.marks).0 (omega arith),
  λ m. let l = (some_marked s.marks).1 m in ne_eqb (mark_count s.marks) 0 (λ e. omega arith),
)

-- ---- where a book goes wrong

module _ (P : Program) (n : ℕ) (s : State) (book : List ℕ) (k : ℕ) where
  -- what it is that the run comes to cycle k
  pub record ComesToCycle : Type 0 where
    pub k_worked : (run P k s book).worked ≡ k
    pub below_asked : k < n
    pub mark_stands : (i : ℕ) × (marked (run P k s book).state.marks i ≡ true)

  pub comes_means : (comes_to P n s book k ≡ true) ↔ ComesToCycle
  unfolding comes_to
  comes_means = (
    λ h. record {
      k_worked = eqb-true r.worked k (and_left _ _ (and_left _ (not (ended r.state)) h));
      below_asked = ltb-true k n (and_right (eqb r.worked k) _ (and_left _ (not (ended r.state)) h));
      mark_stands = (mark_stands_lem r.state).0 (not-true _ (and_right (eqb r.worked k && ltb k n) _ h));
    },
    λ c. both (both (eq-eqb _ k c.k_worked) (lt-ltb k n c.below_asked))
        (ap not ((mark_stands_lem r.state).1 c.mark_stands)),
  )
    where
      r : Run
      r = run P k s book

  -- For the reader: where a book goes wrong, without tests.
  pub goes_wrong_means : (goes_wrong_at P n s book k ≡ true)
      ↔ (ComesToCycle × (EachMarkedOnce (run P k s book).state.marks (entries_for P n s book k) → ⊥))
  unfolding goes_wrong_at
  goes_wrong_means =
      let marks = (run P k s book).state.marks in
      let entries = entries_for P n s book k in (
        λ h. (
          comes_means.0 (and_left _ (not (are_active marks entries)) h),
          λ e. true≢false (sym ((active_means marks entries).1 e) ∙ not-true _ (and_right (comes_to P n s book k) _ h)),
        ),
        λ c. both (comes_means.1 c.0) (ap not (refuted _ (λ h. c.1 ((active_means marks entries).0 h)))),
      )
