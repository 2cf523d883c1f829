-- The child that an IF or a WHL enters, by its condition.
use Rattle.std.proofs.Common.{◌≡◌, ℕ, ◌+◌, ◌≤◌, ◌<◌, true, false, ◌∙◌, add-one, inl, inr}
use Rattle.semantics.specs.Program.{Program, expr_count, node_count, kind_at, end_at, a_at}
use Rattle.semantics.specs.Program.Kind.{IF, WHL}
use Rattle.semantics.specs.Tree.{statement_at}
use Rattle.semantics.specs.Walk.{Walk, enter}
use Rattle.semantics.specs.Walk.Entered.{finished}
use Rattle.semantics.specs.Facts.{NodesOk}
use Rattle.semantics.proofs.Walks.EnterLaws.{enter_if_true, enter_if_second, enter_if_missing, enter_whl_false, enter_whl_true}
use Rattle.player.specs.declared.memo.Memo.{Memo}
use Rattle.program.specs.Accepted.{accepted_in}
use Rattle.program.specs.declared.accepted.Accepted.{Accepted as AcceptedCode}
use Rattle.player.proofs.AcceptedLaws.{is_accepted, condition_there}
use Rattle.player.proofs.AcceptedNodeLaws.{node_ends, first_child}
use Rattle.player.specs.Walks.{holds_now, is_whl, passed, Branches}

module _ (program : AcceptedCode) where
  abbrev P : Program
  P = accepted_in program

  ok : NodesOk P.nodes
  ok = (is_accepted program).nodes_ok

  -- a node that branches has a condition
  pub condition_within : (i : ℕ) → i < node_count P.nodes → Branches P.nodes i → a_at P.nodes i < expr_count P.exprs
  condition_within i l b = condition_there P (is_accepted program) i l b

  -- entering it, by the condition
  module _ (memo : Memo) (i : ℕ) (w : Walk) (l : i < node_count P.nodes) where
    pub enter_first : Branches P.nodes i → holds_now P memo (a_at P.nodes i) ≡ true
        → enter (holds_now P memo) (statement_at P.nodes i) w
        ≡ passed (is_whl (kind_at P.nodes i)) (enter (holds_now P memo) (statement_at P.nodes (i + 1)) w)
    unfolding passed
    enter_first (inl e) h = rw add-one (enter_if_true P.nodes ok (holds_now P memo) i w l e h ∙ rw e)
    enter_first (inr e) h = rw add-one (enter_whl_true P.nodes ok (holds_now P memo) i w l e h ∙ rw e)

    module _ (h : holds_now P memo (a_at P.nodes i) ≡ false) where
      pub enter_second : kind_at P.nodes i ≡ IF → end_at P.nodes (i + 1) < end_at P.nodes i
          → enter (holds_now P memo) (statement_at P.nodes i) w
          ≡ passed (is_whl (kind_at P.nodes i)) (enter (holds_now P memo) (statement_at P.nodes (end_at P.nodes (i + 1))) w)
      unfolding passed
      enter_second e u = rw (add-one) (enter_if_second P.nodes ok (holds_now P memo) i w l e h (rw add-one at u) ∙ rw e)

      pub enter_missing : kind_at P.nodes i ≡ IF → end_at P.nodes i ≤ end_at P.nodes (i + 1)
          → enter (holds_now P memo) (statement_at P.nodes i) w ≡ finished w
      enter_missing e u = enter_if_missing P.nodes ok (holds_now P memo) i w l e h (rw add-one at u)

      pub enter_past : kind_at P.nodes i ≡ WHL → enter (holds_now P memo) (statement_at P.nodes i) w ≡ finished w
      enter_past e = enter_whl_false P.nodes ok (holds_now P memo) i w l e h

pub ruleset branching = (node_ends, first_child, condition_within, enter_first, enter_second, enter_missing, enter_past)
