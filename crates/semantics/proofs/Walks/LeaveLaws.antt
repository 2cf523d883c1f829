-- Leaving a node of an accepted list, by the kind of its parent, child by child, as "The plain machine" of the rules
-- document tells it. The laws by kinds hold `leave_child` against the document, and TurnLaws goes by them, where it says
-- that the turns of a climb are `leave`.
use mathlib.Core.Path.{◌≡◌, refl, sym, ap, ◌∙◌}
use mathlib.Core.Bool.{Bool, true, false, cond}
use mathlib.Core.List.{List}
use mathlib.Core.Option.{none, some}
use mathlib.Core.Logic.{inl, inr}
use Prim.Native.Nat.{ℕ, suc, ◌≤◌, ◌<◌}
use native.Mathlib.Omega.{arith}
use lib.Dec.{ltb}
use borrow.Author.Tests.{lt-ltb, le-ltb}
use Rattle.semantics.specs.Program.{Kind, node_count, kind_at, end_at, a_at}
use Rattle.semantics.specs.Program.Kind.{SEQ, PAR, IF, WHL}
use Rattle.semantics.specs.Parents.{parent}
use Rattle.semantics.specs.Tree.{statement_at}
use Rattle.semantics.specs.Walk.{Walk, Entered, lower, then_enter, finished_at_zero, loop_if_finished, then_leave}
use Rattle.semantics.specs.Walk.{enter, leave_child, leave_to, leave}
use Rattle.semantics.specs.Walk.Entered.{finished, stays}
use Rattle.semantics.specs.Facts.{NodesOk}
use Rattle.semantics.proofs.Lists.Logic.{lt_or_le}
use Rattle.semantics.proofs.Lists.ParentLaws.{is_parent, ancestors_parent, ancestors_none}
use Rattle.semantics.proofs.Tree.NodeLaws.{root_parent, end_fits, next_sibling}
use Rattle.semantics.proofs.Tree.StatementLaws.{enter_in_turn-none, enter_in_turn-more}
use Rattle.semantics.proofs.Tree.ChildLaws.{whl_child_end, whl_only_child}
use Rattle.semantics.proofs.Walks.EnterLaws.{enter_in_turn-one}

-- leaving the parent after two parts that were entered in turn
pub then_leave-then_enter : (r : Entered) (f : Walk → Entered) (g : Walk → Walk)
    → then_leave (then_enter r f) g ≡ then_leave r (λ v. then_leave (f v) g)
then_leave-then_enter (finished w) f g = refl
then_leave-then_enter (stays w) f g = refl

-- ---- any list
module _ (nodes : List ℕ) (holds : ℕ → Bool) where
  -- without a parent, the walk stops
  pub leave_none : (i : ℕ) (w : Walk) → parent nodes i ≡ none → leave holds nodes i w ≡ w
  unfolding leave_to
  leave_none i w e = ap (λ (hs : List ℕ). leave_to holds nodes (end_at nodes i) hs w) (ancestors_none nodes i e)

  -- leaving a node is leaving a child of its parent
  pub leave_parent : (i h : ℕ) (k : Kind) → parent nodes i ≡ some h → kind_at nodes h ≡ k
      → leave holds nodes i ≡ leave_child holds nodes k h (end_at nodes i) (leave holds nodes h)
  unfolding leave_to
  leave_parent i h k e q =
      ap (λ (hs : List ℕ). leave_to holds nodes (end_at nodes i) hs) (ancestors_parent nodes i h e)
      ∙ ap (λ (x : Kind). leave_child holds nodes x h (end_at nodes i) (leave holds nodes h)) q

-- ---- node i of an accepted list, and its parent h
module _ (nodes : List ℕ) (ok : NodesOk nodes) (holds : ℕ → Bool) where
  pub leave_root : (w : Walk) → leave holds nodes 0 w ≡ w
  leave_root w = leave_none nodes holds 0 w (root_parent nodes)

  module _ (i h : ℕ) (w : Walk) (l : i < node_count nodes) (p : parent nodes i ≡ some h) where
    by_kind : (k : Kind) → kind_at nodes h ≡ k
        → leave holds nodes i w ≡ leave_child holds nodes k h (end_at nodes i) (leave holds nodes h) w
    by_kind k e = ap (λ (f : Walk → Walk). f w) (leave_parent nodes holds i h k p e)

    seq_next : kind_at nodes h ≡ SEQ → end_at nodes i < end_at nodes h
        → leave holds nodes i w
        ≡ then_leave (enter holds (statement_at nodes (end_at nodes i)) w) (leave holds nodes (end_at nodes i))
    unfolding leave_child
    seq_next e n =
        let b = (is_parent nodes i h p).lower in
        let f = end_fits nodes ok h (omega arith) in
        let j : ℕ = end_at nodes i in
        let more = enter_in_turn-more nodes ok holds j (end_at nodes h) w n (omega arith) in
        let sibling = leave_parent nodes holds j h SEQ (next_sibling nodes ok i h l p n) e in
        by_kind SEQ e ∙ ap (λ (r : Entered). then_leave r (leave holds nodes h)) more
        ∙ then_leave-then_enter (enter holds (statement_at nodes j) w) _ _
        ∙ ap (then_leave (enter holds (statement_at nodes j) w)) (sym sibling)

    seq_last : kind_at nodes h ≡ SEQ → end_at nodes h ≤ end_at nodes i → leave holds nodes i w ≡ leave holds nodes h w
    unfolding leave_child
    seq_last e n =
        by_kind SEQ e
        ∙ ap (λ (r : Entered). then_leave r (leave holds nodes h))
        (enter_in_turn-none nodes ok holds (end_at nodes i) (end_at nodes h) w n)

    -- A SEQ, child by child: where node i ends before the SEQ does, the next child stands there and is entered; a next
    -- child that stays stops the walk, and one that finishes is left in its turn. Without a next child, the SEQ is
    -- left.
    pub leave_seq : kind_at nodes h ≡ SEQ
        → (let next = end_at nodes i in
        leave holds nodes i w ≡ cond (ltb next (end_at nodes h))
        (then_leave (enter holds (statement_at nodes next) w) (leave holds nodes next)) (leave holds nodes h w))
    leave_seq e =
        elim (lt_or_le (end_at nodes i) (end_at nodes h)) [
          | inl n ↦ seq_next e n ∙ rw (lt-ltb (end_at nodes i) (end_at nodes h) n)
          | inr n ↦ seq_last e n ∙ rw (le-ltb (end_at nodes i) (end_at nodes h) n)
        ]

    -- an IF is left with its child
    pub leave_if : kind_at nodes h ≡ IF → leave holds nodes i w ≡ leave holds nodes h w
    unfolding leave_child
    leave_if e = by_kind IF e

    -- a WHL whose condition holds enters its child once more, which is a zero-time loop where it finishes at once; one
    -- whose condition fails is left
    pub leave_whl_true : kind_at nodes h ≡ WHL → holds (a_at nodes h) ≡ true
        → leave holds nodes i w ≡ then_leave (loop_if_finished (enter holds (statement_at nodes i) w)) (leave holds nodes h)
    unfolding leave_child
    leave_whl_true k t =
        let b = (is_parent nodes i h p).lower in
        let c = (is_parent nodes i h p).covers in
        let q : i ≡ suc h = whl_only_child nodes ok i h (omega arith) k p in
        let s = whl_child_end nodes ok h (omega arith) k in
        let e = end_at nodes h in
        let again = enter_in_turn-one nodes ok holds (suc h) e w (omega arith) (omega arith) (omega arith) in
        let child = ap (λ (j : ℕ). enter holds (statement_at nodes j) w) (sym q) in
        by_kind WHL k ∙ rw t (ap (λ (r : Entered). then_leave (loop_if_finished r) (leave holds nodes h)) (again ∙ child))

    pub leave_whl_false : kind_at nodes h ≡ WHL → holds (a_at nodes h) ≡ false
        → leave holds nodes i w ≡ leave holds nodes h w
    unfolding leave_child
    leave_whl_false e t = by_kind WHL e ∙ rw t

    -- a PAR counts one thread fewer, and is left with the last
    pub leave_par : kind_at nodes h ≡ PAR
        → leave holds nodes i w ≡ then_leave (finished_at_zero h (lower h w)) (leave holds nodes h)
    unfolding leave_child
    leave_par e = by_kind PAR e
