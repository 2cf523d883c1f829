-- Counting over the entries of a cycle is counting over the active statements, once question 7 is answered yes: each
-- entry crosses one mark out, and one statement leaves the count with it. Where a test holds of at most one, it is the
-- same one.
use mathlib.Core.Path.{◌≡◌, refl, sym, ap, ◌∙◌}
use mathlib.Core.Bool.{Bool, true, false, cond, ◌&&◌, true≢false}
use mathlib.Core.List.{List, [], ◌∷◌}
use Prim.Native.Nat.{ℕ, zero, suc, ◌≤◌}
use native.Mathlib.Nat.{suc-ne-zero}
use native.Mathlib.Omega.{arith}
use lib.Dec.{eqb}
use lib.ListN.{length, set}
use borrow.Author.Tests.{eqb-true, eq-eqb}
use Rattle.semantics.specs.Numbers.{below, filter}
use Rattle.semantics.specs.State.{marked, active}
use Rattle.semantics.specs.Cycle.{are_active}
use Rattle.semantics.proofs.Lists.Logic.{and_left, and_right}
use Rattle.semantics.proofs.Lists.NumberLaws.{count, length-filter, filter-filter, count_suc, count_shift, count_none}
use Rattle.semantics.proofs.Run.CrossOut.{cross_out, no_marks, active-cross_out}

-- how many active statements pass a test
abbrev active_count : (ℕ → Bool) → List ℕ → ℕ
active_count f marks = count (λ i. marked marks i && f i) (length marks) 0

counts_active : (f : ℕ → Bool) (marks : List ℕ) → length (filter f (active marks)) ≡ active_count f marks
counts_active f marks = ap length (filter-filter (marked marks) f (below (length marks)))

active_count-cons : (f : ℕ → Bool) (m : ℕ) (ms : List ℕ) → active_count f (m ∷ ms)
    ≡ cond (eqb m 1 && f 0) (suc (active_count (λ i. f (suc i)) ms)) (active_count (λ i. f (suc i)) ms)
active_count-cons f m ms =
    let test : ℕ → Bool = λ i. marked (m ∷ ms) i && f i in
    count_suc test (length ms) 0 ∙ rw (count_shift test (length ms) 0)

-- the statement whose mark is crossed out is counted no more
active_count-cross : (f : ℕ → Bool) (marks : List ℕ) (i : ℕ) → marked marks i ≡ true
    → active_count f marks ≡ cond (f i) (suc (active_count f (set marks i 0))) (active_count f (set marks i 0))
active_count-cross f [] i h = absurd (true≢false (sym h))
active_count-cross f (m ∷ ms) zero h =
    active_count-cons f m ms ∙ rw h (ap (λ (n : ℕ). cond (f 0) (suc n) n) (sym (active_count-cons f 0 ms)))
active_count-cross f (m ∷ ms) (suc i) h =
    active_count-cons f m ms
    ∙ pick (eqb m 1 && f 0) (f (suc i)) (active_count (λ j. f (suc j)) (set ms i 0))
    (active_count-cross (λ j. f (suc j)) ms i h)
    ∙ ap (λ (n : ℕ). cond (f (suc i)) (suc n) n) (sym (active_count-cons f m (set ms i 0)))
  where
    pick : (b c : Bool) (n : ℕ) {k : ℕ} → k ≡ cond c (suc n) n
        → cond b (suc k) k ≡ cond c (suc (cond b (suc n) n)) (cond b (suc n) n)
    pick true true n e = ap suc e
    pick true false n e = ap suc e
    pick false true n e = e
    pick false false n e = e

crossed_count : (f : ℕ → Bool) (entries marks : List ℕ) → cross_out entries marks ≡ true
    → length (filter f entries) ≡ active_count f marks
unfolding cross_out filter
crossed_count f [] marks o =
    sym (count_none (λ i. marked marks i && f i) (length marks) 0 (λ j l u. rw (no_marks marks j o)))
crossed_count f (e ∷ es) marks o =
    length-filter f e es
    ∙ ap (λ (n : ℕ). cond (f e) (suc n) n) (crossed_count f es (set marks e 0) (and_right (marked marks e) _ o))
    ∙ sym (active_count-cross f marks e (and_left (marked marks e) _ o))

pub entry_count : (marks entries : List ℕ) → are_active marks entries ≡ true → (f : ℕ → Bool)
    → length (filter f entries) ≡ length (filter f (active marks))
entry_count marks entries h f =
    crossed_count f entries marks (sym (active-cross_out marks entries) ∙ h) ∙ sym (counts_active f marks)

-- ---- at most one

-- two lists of at most one number that have each number equally often are the same
same_single : (xs ys : List ℕ) → length xs ≤ 1 → ((x : ℕ) → length (filter (eqb x) xs) ≡ length (filter (eqb x) ys))
    → length xs ≡ length ys → xs ≡ ys
unfolding filter
same_single [] [] l same e = refl
same_single [] (y ∷ ys) l same e = absurd (omega arith)
same_single (x ∷ xs) [] l same e = absurd (omega arith)
same_single (x ∷ xs) (y ∷ ys) l same e =
    single xs ys l e (sym (length-filter (eqb x) y ys) ∙ sym (same x) ∙ length-filter (eqb x) x xs)
  where
    found : (b : Bool) → ◌≡◌ {A = ℕ} (cond b 1 0) 1 → b ≡ true
    found true h = refl
    found false h = absurd (suc-ne-zero 0 (sym h))

    single : (xs ys : List ℕ) → suc (length xs) ≤ 1 → suc (length xs) ≡ suc (length ys)
        → cond (eqb x y) (suc (length (filter (eqb x) ys))) (length (filter (eqb x) ys))
        ≡ cond (eqb x x) (suc (length (filter (eqb x) xs))) (length (filter (eqb x) xs))
        → x ∷ xs ≡ y ∷ ys
    single [] [] l e q = ap (λ (z : ℕ). z ∷ []) (eqb-true x y (found (eqb x y) (q ∙ rw (eq-eqb x x refl))))
    single [] (z ∷ zs) l e q = absurd (omega arith)
    single (z ∷ zs) ys l e q = absurd (omega arith)

pub single_entry : (marks entries : List ℕ) → are_active marks entries ≡ true → (f : ℕ → Bool)
    → length (filter f entries) ≤ 1 → filter f entries ≡ filter f (active marks)
single_entry marks entries h f l =
    same_single (filter f entries) (filter f (active marks)) l
    (λ x. ap length (filter-filter f (eqb x) entries)
    ∙ entry_count marks entries h (λ i. f i && eqb x i)
    ∙ sym (ap length (filter-filter f (eqb x) (active marks))))
    (entry_count marks entries h f)
