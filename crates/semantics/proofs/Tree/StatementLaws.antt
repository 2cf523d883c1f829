-- The statements of a list whose every node is ok, in terms of the flat list: from j up to `end` there is nothing, or
-- the statement of node j and then those from its end. Entering them goes accordingly.
use mathlib.Core.Path.{◌≡◌, refl, sym, ap, ◌∙◌}
use mathlib.Core.Bool.{Bool, true, true≢false}
use mathlib.Core.List.{List}
use mathlib.Core.Logic.{inl, inr}
use Prim.Native.Nat.{ℕ, suc, ◌-◌, ◌≤◌, ◌<◌}
use native.Mathlib.Nat.{le_refl}
use native.Mathlib.Omega.{arith}
use borrow.Author.Tests.{lt-ltb, le-ltb}
use Rattle.semantics.specs.Program.{Kind, node_count, kind_at, end_at, a_at, is_leaf}
use Rattle.semantics.specs.Program.Kind.{SEQ, PAR, IF, WHL, LEAF, UNKNOWN}
use Rattle.semantics.specs.Tree.{Stmt, Stmts, start, start_below, first, others, forest, statements, statement_of, statement_at}
use Rattle.semantics.specs.Tree.Stmt.{leaf}
use Rattle.semantics.specs.Tree.Stmts.{nil, cons}
use Rattle.semantics.specs.Walk.{Walk, then_enter, lower_if_finished, child_count, enter, enter_in_turn, enter_each}
use Rattle.semantics.specs.Walk.Entered.{finished}
use Rattle.semantics.specs.Facts.{NodesOk}
use Rattle.semantics.proofs.Lists.Logic.{lt_or_le}
use Rattle.semantics.proofs.Tree.NodeLaws.{end_after}
use Rattle.semantics.proofs.Tree.TreeOfList.{start_placed, statement_at_lem, from_at}

-- the statement of a node by its kind
pub statement_kind : (nodes : List ℕ) (i : ℕ) (k : Kind) → kind_at nodes i ≡ k
    → statement_at nodes i ≡ statement_of k i (a_at nodes i) (statements nodes (suc i) (end_at nodes i))
unfolding statement_at
statement_kind nodes i k e =
    ap (λ (x : Kind). statement_of x i (a_at nodes i) (statements nodes (suc i) (end_at nodes i))) e

leaf_statement : (k : Kind) (i a : ℕ) (ks : Stmts) → is_leaf k ≡ true → statement_of k i a ks ≡ leaf i
leaf_statement SEQ i a ks l = absurd (true≢false (sym l))
leaf_statement PAR i a ks l = absurd (true≢false (sym l))
leaf_statement IF i a ks l = absurd (true≢false (sym l))
leaf_statement WHL i a ks l = absurd (true≢false (sym l))
leaf_statement (LEAF x) i a ks l = refl
leaf_statement UNKNOWN i a ks l = refl

pub statement_leaf : (nodes : List ℕ) (i : ℕ) → is_leaf (kind_at nodes i) ≡ true → statement_at nodes i ≡ leaf i
unfolding statement_at
statement_leaf nodes i l = leaf_statement (kind_at nodes i) i _ _ l

module _ (nodes : List ℕ) (ok : NodesOk nodes) where
  statement_start : (i : ℕ) → i < node_count nodes → start (statement_at nodes i) ≡ i
  statement_start i l = start_placed (statement_at nodes i) i (statement_at_lem nodes ok i l).placed

  -- ---- the statements from j up to `end`
  pub statements_none : (j end : ℕ) → end ≤ j → statements nodes j end ≡ nil
  unfolding statements start_below forest
  statements_none j end h =
      elim (lt_or_le j (node_count nodes)) [
        | inl l ↦
            let s = statement_start j l in
            ap (start_below end) (from_at nodes ok j l) ∙ rw (le-ltb (start (statement_at nodes j)) end (omega arith))
        | inr l ↦
            let z : node_count nodes - j ≡ 0 = omega arith in
            ap (λ (n : ℕ). start_below end (forest nodes n j)) z
      ]

  pub statements_more : (j end : ℕ) → j < end → j < node_count nodes
      → statements nodes j end ≡ cons (statement_at nodes j) (statements nodes (end_at nodes j) end)
  unfolding statements start_below
  statements_more j end h l =
      let s = statement_start j l in
      ap (start_below end) (from_at nodes ok j l) ∙ rw (lt-ltb (start (statement_at nodes j)) end (omega arith))

  -- the first of them is the statement of node j, and the others start at its end
  pub first_statements : (j end : ℕ) → j < end → j < node_count nodes
      → first (statements nodes j end) ≡ statements nodes j (end_at nodes j)
  first_statements j end h l =
      ap first (statements_more j end h l) ∙ ap (cons (statement_at nodes j)) (sym (statements_none _ _ (le_refl _)))
      ∙ sym (statements_more j (end_at nodes j) (end_after nodes ok j l) l)

  pub others_statements : (j end : ℕ) → j < end → j < node_count nodes
      → others (statements nodes j end) ≡ statements nodes (end_at nodes j) end
  others_statements j end h l = ap others (statements_more j end h l)

  -- ---- entering them, and their number
  module _ (holds : ℕ → Bool) (j end : ℕ) (w : Walk) where
    pub enter_in_turn-none : end ≤ j → enter_in_turn holds (statements nodes j end) w ≡ finished w
    unfolding enter
    enter_in_turn-none h = ap (λ (ks : Stmts). enter_in_turn holds ks w) (statements_none j end h)

    pub enter_in_turn-more : j < end → j < node_count nodes
        → enter_in_turn holds (statements nodes j end) w
        ≡ then_enter (enter holds (statement_at nodes j) w) (enter_in_turn holds (statements nodes (end_at nodes j) end))
    unfolding enter
    enter_in_turn-more h l = ap (λ (ks : Stmts). enter_in_turn holds ks w) (statements_more j end h l)

    pub enter_each-none : (i : ℕ) → end ≤ j → enter_each holds i (statements nodes j end) w ≡ w
    unfolding enter
    enter_each-none i h = ap (λ (ks : Stmts). enter_each holds i ks w) (statements_none j end h)

    pub enter_each-more : (i : ℕ) → j < end → j < node_count nodes
        → enter_each holds i (statements nodes j end) w
        ≡ enter_each holds i (statements nodes (end_at nodes j) end)
        (lower_if_finished i (enter holds (statement_at nodes j) w))
    unfolding enter
    enter_each-more i h l = ap (λ (ks : Stmts). enter_each holds i ks w) (statements_more j end h l)

  pub child_count-none : (j end : ℕ) → end ≤ j → child_count (statements nodes j end) ≡ 0
  child_count-none j end h = ap child_count (statements_none j end h)

  pub child_count-more : (j end : ℕ) → j < end → j < node_count nodes
      → child_count (statements nodes j end) ≡ suc (child_count (statements nodes (end_at nodes j) end))
  child_count-more j end h l = ap child_count (statements_more j end h l)

  -- where there is a first statement from j up to `end`, it is that of node j
  pub statements_first : (k : Stmt) (ks : Stmts) (j end : ℕ) → end ≤ node_count nodes → cons k ks ≡ statements nodes j end
      → (j < end) × (k ≡ statement_at nodes j) × (ks ≡ statements nodes (end_at nodes j) end)
  statements_first k ks j end b s =
      elim (lt_or_le j end) [
        | inl v ↦ let m = s ∙ statements_more j end v (omega arith) in (v, cc, cc)
        | inr v ↦ absurd (omega (arith, ap child_count s, child_count-none j end v))
      ]
