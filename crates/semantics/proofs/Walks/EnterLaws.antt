-- Entering a node of an accepted list, by its kind, as "The plain machine" of the rules document tells it. Code that
-- enters over the flat list cites these and `enter_in_turn-none`, `enter_in_turn-more`, `enter_each-none` and
-- `enter_each-more` of StatementLaws.
use mathlib.Core.Path.{◌≡◌, refl, ap, ◌∙◌}
use mathlib.Core.Bool.{Bool, true, false, cond}
use mathlib.Core.List.{List}
use Prim.Native.Nat.{ℕ, suc, ◌≤◌, ◌<◌}
use native.Mathlib.Nat.{le_refl}
use native.Mathlib.Omega.{arith}
use Rattle.semantics.specs.Program.{Kind, node_count, kind_at, end_at, a_at, is_leaf}
use Rattle.semantics.specs.Program.Kind.{SEQ, PAR, IF, WHL}
use Rattle.semantics.specs.Tree.{Stmt, Stmts, statements, statement_of, statement_at}
use Rattle.semantics.specs.Tree.Stmt.{ife}
use Rattle.semantics.specs.Walk.{Walk, Entered, mark, set_count, then_enter, finished_at_zero, loop_if_finished}
use Rattle.semantics.specs.Walk.{child_count, enter, enter_in_turn, enter_each}
use Rattle.semantics.specs.Walk.Entered.{finished, stays}
use Rattle.semantics.specs.Facts.{NodesOk}
use Rattle.semantics.proofs.Tree.NodeLaws.{end_after, end_fits}
use Rattle.semantics.proofs.Tree.StatementLaws.{statement_kind, statement_leaf, first_statements, others_statements}
use Rattle.semantics.proofs.Tree.StatementLaws.{statements_none, enter_in_turn-none, enter_in_turn-more}
use Rattle.semantics.proofs.Tree.ChildLaws.{some_child, whl_child_end, if_second_end}

then_enter-finished : (r : Entered) → then_enter r finished ≡ r
then_enter-finished (finished w) = refl
then_enter-finished (stays w) = refl

module _ (nodes : List ℕ) (ok : NodesOk nodes) where
  -- an IF has its first child apart from the second
  pub statement_if : (i : ℕ) → i < node_count nodes → kind_at nodes i ≡ IF → statement_at nodes i
      ≡ ife i (a_at nodes i) (statements nodes (suc i) (end_at nodes (suc i)))
      (statements nodes (end_at nodes (suc i)) (end_at nodes i))
  statement_if i l k =
      let f = end_fits nodes ok i l in
      let v = some_child nodes ok i l (ap is_leaf k) in
      let p = first_statements nodes ok (suc i) (end_at nodes i) v (omega arith) in
      let q = others_statements nodes ok (suc i) (end_at nodes i) v (omega arith) in
      statement_kind nodes i IF k ∙ (λ x. ife i (a_at nodes i) (p x) (q x))

  module _ (holds : ℕ → Bool) where
    -- the only statement from j up to `end`
    pub enter_in_turn-one : (j end : ℕ) (w : Walk) → j < end → j < node_count nodes → end ≤ end_at nodes j
        → enter_in_turn holds (statements nodes j end) w ≡ enter holds (statement_at nodes j) w
    unfolding enter
    enter_in_turn-one j end w h l f =
        let r : Entered = enter holds (statement_at nodes j) w in
        enter_in_turn-more nodes ok holds j end w h l
        ∙ ap (λ (ks : Stmts). then_enter r (enter_in_turn holds ks)) (statements_none nodes ok (end_at nodes j) end f)
        ∙ then_enter-finished r

  module _ (holds : ℕ → Bool) (i : ℕ) (w : Walk) (l : i < node_count nodes) where
    at_kind : (k : Kind) → kind_at nodes i ≡ k → enter holds (statement_at nodes i) w
        ≡ enter holds (statement_of k i (a_at nodes i) (statements nodes (suc i) (end_at nodes i))) w
    at_kind k e = ap (λ (t : Stmt). enter holds t w) (statement_kind nodes i k e)

    at_if : kind_at nodes i ≡ IF → enter holds (statement_at nodes i) w
        ≡ cond (holds (a_at nodes i)) (enter_in_turn holds (statements nodes (suc i) (end_at nodes (suc i))) w)
        (enter_in_turn holds (statements nodes (end_at nodes (suc i)) (end_at nodes i)) w)
    unfolding enter
    at_if e = ap (λ (t : Stmt). enter holds t w) (statement_if i l e)

    -- a leaf stays, marked
    pub enter_leaf : is_leaf (kind_at nodes i) ≡ true → enter holds (statement_at nodes i) w ≡ stays (mark i w)
    unfolding enter
    enter_leaf e = ap (λ (t : Stmt). enter holds t w) (statement_leaf nodes i e)

    -- a SEQ goes from child to child while they finish
    pub enter_seq : kind_at nodes i ≡ SEQ
        → enter holds (statement_at nodes i) w ≡ enter_in_turn holds (statements nodes (suc i) (end_at nodes i)) w
    unfolding enter
    enter_seq e = at_kind SEQ e

    -- a PAR counts all its children, then enters each
    pub enter_par : kind_at nodes i ≡ PAR → enter holds (statement_at nodes i) w
        ≡ finished_at_zero i (enter_each holds i (statements nodes (suc i) (end_at nodes i))
        (set_count i (child_count (statements nodes (suc i) (end_at nodes i))) w))
    unfolding enter
    enter_par e = at_kind PAR e

    -- an IF enters its first or its second child; there may be no second
    pub enter_if_true : kind_at nodes i ≡ IF → holds (a_at nodes i) ≡ true
        → enter holds (statement_at nodes i) w ≡ enter holds (statement_at nodes (suc i)) w
    enter_if_true e h =
        let f = end_fits nodes ok i l in
        let v = some_child nodes ok i l (ap is_leaf e) in
        let a = end_after nodes ok (suc i) (omega arith) in
        at_if e ∙ rw h (enter_in_turn-one holds (suc i) (end_at nodes (suc i)) w a (omega arith) (le_refl _))

    pub enter_if_second : kind_at nodes i ≡ IF → holds (a_at nodes i) ≡ false → end_at nodes (suc i) < end_at nodes i
        → enter holds (statement_at nodes i) w ≡ enter holds (statement_at nodes (end_at nodes (suc i))) w
    enter_if_second e h n =
        let f = end_fits nodes ok i l in
        let s = if_second_end nodes ok i l e n in
        at_if e ∙ rw h (enter_in_turn-one holds (end_at nodes (suc i)) (end_at nodes i) w n (omega arith) (omega arith))

    pub enter_if_missing : kind_at nodes i ≡ IF → holds (a_at nodes i) ≡ false → end_at nodes i ≤ end_at nodes (suc i)
        → enter holds (statement_at nodes i) w ≡ finished w
    enter_if_missing e h n = at_if e ∙ rw h (enter_in_turn-none nodes ok holds (end_at nodes (suc i)) (end_at nodes i) w n)

    -- a WHL is finished where its condition fails, and else enters its child, which may not finish at once
    pub enter_whl_false : kind_at nodes i ≡ WHL → holds (a_at nodes i) ≡ false
        → enter holds (statement_at nodes i) w ≡ finished w
    unfolding enter
    enter_whl_false e h = at_kind WHL e ∙ rw h

    pub enter_whl_true : kind_at nodes i ≡ WHL → holds (a_at nodes i) ≡ true
        → enter holds (statement_at nodes i) w ≡ loop_if_finished (enter holds (statement_at nodes (suc i)) w)
    unfolding enter
    enter_whl_true e h =
        let f = end_fits nodes ok i l in
        let v = some_child nodes ok i l (ap is_leaf e) in
        let s = whl_child_end nodes ok i l e in
        at_kind WHL e
        ∙ rw h (ap loop_if_finished (enter_in_turn-one holds (suc i) (end_at nodes i) w v (omega arith) (omega arith)))
