-- What an accepted program says of its nodes, and what entering and leaving them comes to.
use Rattle.std.proofs.Common.{◌≡◌, ℕ, suc, ◌<◌, ◌≤◌, ◌+◌, ◌∙◌, Bool, true, false, List, refl, sym, ap, subst, arith}
use Rattle.std.proofs.Common.{add-one, length-set}
use Rattle.std.proofs.Math.Option.{Option as Parent, none, some}
use Rattle.semantics.specs.Program.{node_count, kind_at, end_at, parent_at, a_at, is_leaf}
use Rattle.semantics.specs.Program.Kind.{SEQ, PAR, WHL}
use Rattle.semantics.specs.Facts.{NodesOk}
use Rattle.semantics.specs.Parents.{parent}
use Rattle.semantics.specs.Tree.{Stmt, children_from, statements, statement_at}
use Rattle.semantics.specs.Walk.{Walk, mark, set_count, child_count, lower, finished_at_zero, loop_if_finished}
use Rattle.semantics.specs.Walk.{lower_if_finished, then_enter, enter, enter_in_turn, enter_each}
use Rattle.semantics.specs.Walk.Entered.{stays}
use Rattle.semantics.specs.Climb.{next_if_finished, turn}
use Rattle.semantics.specs.Climb.Turn.{over}
use Rattle.semantics.proofs.Lists.ParentLaws.{is_parent}
use Rattle.semantics.proofs.Tree.NodeLaws.{Placement, facts, end_after, end_fits, end_within_lem}
use Rattle.semantics.proofs.Tree.ChildLaws.{some_child, whl_only_child}
use Rattle.semantics.proofs.Tree.StatementLaws.{child_count-none, child_count-more}
use Rattle.semantics.proofs.Tree.StatementLaws.{enter_in_turn-more, enter_each-none, enter_each-more}
use Rattle.semantics.proofs.Walks.EnterLaws.{enter_leaf, enter_in_turn-one, enter_seq, enter_par}
use Rattle.semantics.proofs.Walks.TurnLaws.{turn_none, turn_seq_next, turn_seq_last, turn_par, turn_if}
use Rattle.semantics.proofs.Walks.TurnLaws.{turn_whl_true, turn_whl_false}
use Rattle.program.specs.Accepted.{accepted_in}
use Rattle.program.specs.declared.accepted.Accepted.{Accepted as AcceptedCode}
use Rattle.player.specs.declared.memo.Memo.{Memo}
use Rattle.player.specs.Walks.{holds_in, holds_now}
use Rattle.player.proofs.AcceptedLaws.{is_accepted}

module _ (program : AcceptedCode) where
  abbrev nodes : List ℕ
  nodes = program.lists.nodes.now

  ok : NodesOk nodes
  ok = (is_accepted program).nodes_ok

  pub nodes_fit : node_count nodes ≤ 1024
  nodes_fit = (is_accepted program).sizes.nodes_fit

  -- a node ends after it, and no node ends past the list
  pub end_later : (i : ℕ) → i < node_count nodes → i < end_at nodes i
  end_later i l = end_after nodes ok i l

  pub end_inside : (i : ℕ) → i < node_count nodes → end_at nodes i ≤ node_count nodes
  end_inside i l = end_fits nodes ok i l

  -- a node that is no leaf has a child
  pub first_child : (i : ℕ) → i < node_count nodes → is_leaf (kind_at nodes i) ≡ false
      → (kind_at nodes i ≡ kind_at nodes i) × (i + 1 < end_at nodes i)
  first_child i l k = (refl, rw add-one (some_child nodes ok i l k))

  -- the children of node h from node j on
  pub next_child : (h j : ℕ) → j < end_at nodes h → j < node_count nodes
      → child_count (children_from nodes j h) ≡ suc (child_count (children_from nodes (end_at nodes j) h))
  next_child h j u l = child_count-more nodes ok j (end_at nodes h) u l

  pub no_child : (j end : ℕ) → end ≤ j → child_count (statements nodes j end) ≡ 0
  no_child j end n = child_count-none nodes ok j end n

  -- a node's parent starts before it, ends no earlier, and is the one in its record
  pub parent_before : (i h : ℕ) → parent nodes i ≡ some h → (parent nodes i ≡ some h) × (h < i)
  parent_before i h e = (e, (is_parent nodes i h e).lower)

  pub parent_around : (i h : ℕ) → i < node_count nodes → parent nodes i ≡ some h
      → (parent nodes i ≡ some h) × (end_at nodes i ≤ end_at nodes h) × (parent_at nodes i ≡ h)
  parent_around i h l e = (
    e,
    end_within_lem nodes ok i h l e,
    (subst (λ (p : Parent ℕ). Placement nodes i p) e (facts nodes ok i l).placement).1,
  )

  -- the parent in a node's record, and the word for none
  pub parent_read : (i : ℕ) → i < node_count nodes → (parent_at nodes i ≡ 65535 → ⊥)
      → (parent_at nodes i ≡ parent_at nodes i) × (parent nodes i ≡ some (parent_at nodes i))
  parent_read i l n = (refl, pick (parent nodes i) (facts nodes ok i l).placement)
    where
      pick : (p : Parent ℕ) → Placement nodes i p → p ≡ some (parent_at nodes i)
      pick none t = absurd (n t.2)
      pick (some h) t = ap some (sym t.1)

  pub parent_no_leaf : (i : ℕ) → i < node_count nodes → (parent_at nodes i ≡ 65535 → ⊥)
      → (kind_at nodes (parent_at nodes i) ≡ kind_at nodes (parent_at nodes i))
      × (is_leaf (kind_at nodes (parent_at nodes i)) ≡ false)
  parent_no_leaf i l n = (refl, pick (is_leaf (kind_at nodes (parent_at nodes i))) refl)
    where
      pick : (b : Bool) → is_leaf (kind_at nodes (parent_at nodes i)) ≡ b → b ≡ false
      pick true k =
          let p = is_parent nodes i (parent_at nodes i) (parent_read i l n).1 in
          let lower = p.lower in
          let covers = p.covers in
          let end = (facts nodes ok (parent_at nodes i) (omega arith)).leaf_end k in
          absurd (omega arith)
      pick false k = refl

  pub no_parent_read : (i : ℕ) → i < node_count nodes → parent_at nodes i ≡ 65535
      → (parent_at nodes i ≡ parent_at nodes i) × (parent nodes i ≡ none)
  no_parent_read i l e = (refl, pick (parent nodes i) refl (facts nodes ok i l).placement)
    where
      pick : (p : Parent ℕ) → parent nodes i ≡ p → Placement nodes i p → p ≡ none
      pick none q t = refl
      pick (some h) q t =
          let b = (is_parent nodes i h q).lower in
          let w = t.1 in
          let fit = nodes_fit in
          absurd (omega arith)

  -- ---- walks, with conditions read in a memo

  module _ (memo : Memo) where
    abbrev holds : ℕ → Bool
    holds = holds_now (accepted_in program) memo

    -- conditions are as before where no value was written
    pub entered_alike : (before : Memo) (s : Stmt) (w : Walk) → memo.variables ≡ before.variables
        → enter holds s w ≡ enter (holds_now (accepted_in program) before) s w
    entered_alike before s w same =
        ap (λ (values : List ℕ). enter (holds_in (accepted_in program).exprs values) s w) same

    -- entering node i, by its kind
    module _ (i : ℕ) (w : Walk) (l : i < node_count nodes) where
      pub leaf_entered : is_leaf (kind_at nodes i) ≡ true → enter holds (statement_at nodes i) w ≡ stays (mark i w)
      leaf_entered k = enter_leaf nodes ok holds i w l k

      pub seq_entered : kind_at nodes i ≡ SEQ
          → enter holds (statement_at nodes i) w ≡ enter_in_turn holds (children_from nodes (i + 1) i) w
      seq_entered k = rw add-one (enter_seq nodes ok holds i w l k)

      pub par_entered : kind_at nodes i ≡ PAR
          → enter holds (statement_at nodes i) w
          ≡ finished_at_zero i (enter_each holds i (children_from nodes (i + 1) i)
          (set_count i (child_count (children_from nodes (i + 1) i)) w))
      par_entered k = rw add-one (enter_par nodes ok holds i w l k)

    -- the children of node h from node j on
    module _ (h j : ℕ) (w : Walk) where
      pub in_turn_next : j < end_at nodes h → j < node_count nodes
          → enter_in_turn holds (children_from nodes j h) w
          ≡ then_enter (enter holds (statement_at nodes j) w)
          (enter_in_turn holds (children_from nodes (end_at nodes j) h))
      in_turn_next u l = enter_in_turn-more nodes ok holds j (end_at nodes h) w u l

      pub in_turn_last : j < end_at nodes h → j < node_count nodes → end_at nodes h ≤ end_at nodes j
          → enter_in_turn holds (children_from nodes j h) w ≡ enter holds (statement_at nodes j) w
      in_turn_last u l n = enter_in_turn-one nodes ok holds j (end_at nodes h) w u l n

      pub each_next : j < end_at nodes h → j < node_count nodes
          → enter_each holds h (children_from nodes j h) w
          ≡ enter_each holds h (children_from nodes (end_at nodes j) h)
          (lower_if_finished h (enter holds (statement_at nodes j) w))
      each_next u l = enter_each-more nodes ok holds j (end_at nodes h) w h u l

      pub each_none : end_at nodes h ≤ j → enter_each holds h (children_from nodes j h) w ≡ w
      each_none n = enter_each-none nodes ok holds j (end_at nodes h) w h n

    -- a turn that leaves node i, by the parent in the node's record; the other laws of turns are TurnLaws of semantics
    module _ (i : ℕ) (w : Walk) (l : i < node_count nodes) where
      pub root_ends : parent_at nodes i ≡ 65535 → turn holds nodes i w ≡ over w
      root_ends e = turn_none holds nodes i w (no_parent_read i l e).1

      -- the parent by the node's record
      abbrev h : ℕ
      h = parent_at nodes i

      module _ (p : parent nodes i ≡ some h) where
        pub par_ends : kind_at nodes h ≡ PAR
            → turn holds nodes i w ≡ next_if_finished h (finished_at_zero h (lower h w))
        par_ends k = turn_par holds nodes i h w p k

        pub whl_goes_on : kind_at nodes h ≡ WHL → holds (a_at nodes h) ≡ true
            → turn holds nodes i w ≡ next_if_finished h (loop_if_finished (enter holds (statement_at nodes (h + 1)) w))
        whl_goes_on k t =
            let lower = (is_parent nodes i h p).lower in
            let only = whl_only_child nodes ok i h (omega arith) k p in
            turn_whl_true holds nodes i h w p k t
            ∙ ap (λ (j : ℕ). next_if_finished h (loop_if_finished (enter holds (statement_at nodes j) w)))
            (only ∙ sym (add-one h))

pub ruleset node_ends = (nodes_fit, end_later, end_inside)

pub ruleset family = (node_ends, parent_before, parent_around)

pub ruleset parents = (family, parent_no_leaf, parent_read)

pub ruleset counting_children = (node_ends, next_child, no_child)

-- ---- what each function of `enter` and `leave` goes by

pub ruleset but_last = (node_ends, first_child, seq_entered, in_turn_next, in_turn_last, entered_alike)

pub ruleset each = (length-set, node_ends, first_child, par_entered, each_next, each_none, entered_alike)

pub ruleset one_node = (leaf_entered, entered_alike)

pub ruleset seq_left = (family, turn_seq_next, turn_seq_last)

pub ruleset body_left = (family, first_child, turn_if, turn_whl_false, whl_goes_on, entered_alike)

pub ruleset child_left = (parents, par_ends, root_ends)
