-- Laws of `first_no`: it is 0 exactly when every question is answered yes. So an accepted program has its sizes within
-- the limits, and each expression, node, range and width is ok.
use mathlib.Core.Path.{◌≡◌, refl, sym, ap, ◌∙◌}
use mathlib.Core.Bool.{Bool, true, false, cond, not, ◌&&◌, ◌||◌, true≢false, or-true}
use mathlib.Core.List.{List, [], ◌∷◌, ◌++◌}
use mathlib.Core.Logic.{◌≢◌}
use Prim.Native.Nat.{ℕ, ◌%◌}
use lib.Dec.{eqb, leb}
use lib.ListN.{length}
use borrow.Author.Tests.{eqb-true, eq-eqb, leb-true, not-true}
use Rattle.semantics.specs.Program.{Program, expr_count, node_count}
use Rattle.semantics.specs.Questions.{Question, first_no}
use Rattle.semantics.specs.Check.{sizes_ok, expr_ok, node_ok, references_ok, check_questions, check_number}
use Rattle.semantics.specs.Widths.{width_at, width_ok, widths_ok}
use Rattle.semantics.specs.Facts.{Accepted, Sized, WidthsFit}
use Rattle.semantics.proofs.Lists.Logic.{and_left, and_right, conjuncts}
use Rattle.semantics.proofs.Lists.NumberLaws.{every_below}

-- ---- lists of questions

-- no question has the number 0: `refl` for a list that is written out
abbrev pub numbered : List Question → Bool
numbered [] = true
numbered (q ∷ qs) = not (eqb q.number 0) && numbered qs

abbrev pub AllYes : List Question → Type 0
AllYes [] = Unit {0}
AllYes (q ∷ qs) = (q.yes ≡ true) × AllYes qs

pub all_yes : (qs : List Question) → AllYes qs → first_no qs ≡ 0
all_yes [] a = refl
all_yes (q ∷ qs) a = rw a.0 (all_yes qs a.1)

pub yes-all : (qs : List Question) → numbered qs ≡ true → first_no qs ≡ 0 → AllYes qs
yes-all [] n h = tt
yes-all (q ∷ qs) n h = pick q.yes refl h (yes-all qs (and_right (not (eqb q.number 0)) _ n))
  where
    pick : (b : Bool) → q.yes ≡ b → cond b (first_no qs) q.number ≡ 0 → (first_no qs ≡ 0 → AllYes qs)
        → AllYes (q ∷ qs)
    pick true e z rec = (e, rec z)
    pick false e z rec =
        absurd (true≢false (sym (eq-eqb _ 0 z) ∙ not-true _ (and_left (not (eqb q.number 0)) _ n)))

-- a question of number k is answered no
abbrev pub answered_no : ℕ → List Question → Bool
answered_no k [] = false
answered_no k (q ∷ qs) = (eqb q.number k && not q.yes) || answered_no k qs

pub number_answered_no : (k : ℕ) (qs : List Question) → first_no qs ≡ k → k ≢ 0 → answered_no k qs ≡ true
number_answered_no k [] h z = absurd (z (sym h))
number_answered_no k (q ∷ qs) h z = pick q.yes h (λ e. number_answered_no k qs e z)
  where
    pick : (b : Bool) → cond b (first_no qs) q.number ≡ k → (first_no qs ≡ k → answered_no k qs ≡ true)
        → (eqb q.number k && not b) || answered_no k qs ≡ true
    pick true e rec = rw (rec e) (or-true (eqb q.number k && false))
    pick false e rec = rw (eq-eqb q.number k e)

-- the questions ps, and where none of them is answered no, the questions qs
pub first_no-append : (ps qs : List Question) → numbered ps ≡ true
    → first_no (ps ++ qs) ≡ cond (eqb (first_no ps) 0) (first_no qs) (first_no ps)
first_no-append [] qs n = refl
first_no-append (p ∷ ps) qs n = pick p.yes (first_no-append ps qs (and_right (not (eqb p.number 0)) _ n))
  where
    pick : (b : Bool) → first_no (ps ++ qs) ≡ cond (eqb (first_no ps) 0) (first_no qs) (first_no ps)
        → cond b (first_no (ps ++ qs)) p.number
        ≡ cond (eqb (cond b (first_no ps) p.number) 0) (first_no qs) (cond b (first_no ps) p.number)
    pick true rec = rec
    pick false rec = rw (not-true (eqb p.number 0) (and_left (not (eqb p.number 0)) _ n))

-- two such lists have one number where their parts have
pub first_no-alike : (ps qs rs ts : List Question) → numbered ps ≡ true → numbered rs ≡ true
    → first_no ps ≡ first_no rs → first_no qs ≡ first_no ts → first_no (ps ++ qs) ≡ first_no (rs ++ ts)
first_no-alike ps qs rs ts n m p q =
    first_no-append ps qs n ∙ (λ i. cond (eqb (p i) 0) (q i) (p i)) ∙ sym (first_no-append rs ts m)

-- the questions that come after check's, where check gives q
pub after_check : (P : Program) (more : List Question) (q : ℕ) → q ≡ check_number P
    → first_no (check_questions P ++ more) ≡ cond (eqb q 0) (first_no more) q
unfolding check_number
after_check P more q e =
    first_no-append (check_questions P) more refl ∙ ap (λ (x : ℕ). cond (eqb x 0) (first_no more) x) (sym e)

-- ---- question 1
pub sized_limits : (P : Program) → sizes_ok P ≡ true → Sized P
unfolding sizes_ok
sized_limits P h =
    let (exprs, (nodes, (least, (most, (es, (vs, (cs, _))))))) = conjuncts (eqb (length P.exprs % 3) 0)
    (eqb (length P.nodes % 5) 0 ∷ leb 1 (node_count P.nodes) ∷ leb (node_count P.nodes) 1024
    ∷ leb (expr_count P.exprs) 1024 ∷ leb P.variables 256 ∷ leb P.channels 256 ∷ []) h in
    record {
      whole_exprs = eqb-true _ _ exprs;
      whole_nodes = eqb-true _ _ nodes;
      some_node = leb-true _ _ least;
      nodes_fit = leb-true _ _ most;
      exprs_fit = leb-true _ _ es;
      variables_fit = leb-true _ _ vs;
      channels_fit = leb-true _ _ cs;
    }

-- ---- question 11
pub widths_fit_lem : (P : Program) → widths_ok P ≡ true → WidthsFit P
unfolding widths_ok
widths_fit_lem P h = record {
  as_many = eqb-true _ _ (and_left _ _ h);
  each = every_below (λ v. width_ok (width_at P.widths v)) P.variables
      (and_right (eqb (length P.widths) P.variables) _ h);
}

-- ---- questions 1 to 4, and 11
pub accepted : (P : Program) → check_number P ≡ 0 → Accepted P
unfolding check_number
accepted P h =
    let (size, (exprs, (nodes, (ranges, (widths, _))))) = yes-all (check_questions P) refl h in
    record {
      sizes = sized_limits P size;
      exprs_ok = every_below (expr_ok P) (expr_count P.exprs) exprs;
      nodes_ok = every_below (node_ok P.nodes) (node_count P.nodes) nodes;
      ranges_ok = every_below (references_ok P) (node_count P.nodes) ranges;
      widths_fit = widths_fit_lem P widths;
    }
