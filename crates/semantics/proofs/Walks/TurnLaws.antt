-- The climb as a loop: what a turn comes to, by the kind of the parent, and that turns one after another are `leave`.
-- Every turn leaves a node that has a later place than the turn before it, in the order in which a walk of the whole tree
-- leaves the nodes; so none is left twice, and N turns are enough.
use mathlib.Core.Path.{◌≡◌, refl, sym, ap, ◌∙◌, subst}
use mathlib.Core.Bool.{Bool, true, false, true≢false}
use mathlib.Core.List.{List}
use mathlib.Core.Option.{Option, none, some}
use mathlib.Core.Logic.{inl, inr}
use Prim.Native.Nat.{ℕ, zero, suc, ◌+◌, ◌-◌, ◌≤◌, ◌<◌}
use native.Mathlib.Omega.{arith}
use lib.ListN.{length}
use borrow.Author.Tests.{lt-ltb, le-ltb}
use Rattle.semantics.specs.Program.{Program, Kind, node_count, kind_at, end_at, a_at}
use Rattle.semantics.specs.Program.Kind.{SEQ, PAR, IF, WHL, LEAF, UNKNOWN}
use Rattle.semantics.specs.Parents.{parent, ancestors, depth}
use Rattle.semantics.specs.Walk.{Walk, Entered, lower, finished_at_zero, loop_if_finished, then_leave, leave_child, leave}
use Rattle.semantics.specs.Walk.Entered.{finished, stays}
use Rattle.semantics.specs.Climb.{Turn, next_if_finished, is_over, enter_node, turn_under, turn_by, turn, next_turn, turns, Climbs}
use Rattle.semantics.specs.Climb.Turn.{leaves_next, over}
use Rattle.semantics.specs.Check.{check_number}
use Rattle.semantics.specs.Facts.{NodesOk}
use Rattle.semantics.proofs.Lists.Logic.{lt_or_le}
use Rattle.semantics.proofs.Lists.ParentLaws.{is_parent, depth_parent}
use Rattle.semantics.proofs.Lists.ParentSearch.{depth_low}
use Rattle.semantics.proofs.Lists.QuestionLaws.{accepted}
use Rattle.semantics.proofs.Tree.NodeLaws.{end_after, end_fits, end_within_lem, next_sibling}
use Rattle.semantics.proofs.Walks.LeaveLaws.{leave_none, leave_parent, leave_seq, leave_par, leave_if}
use Rattle.semantics.proofs.Walks.LeaveLaws.{leave_whl_true, leave_whl_false}

-- ---- a turn, by the kind of the parent, in any list
module _ (holds : ℕ → Bool) (nodes : List ℕ) where
  pub turn_none : (i : ℕ) (w : Walk) → parent nodes i ≡ none → turn holds nodes i w ≡ over w
  unfolding turn_by
  turn_none i w e = ap (λ (p : Option ℕ). turn_by holds nodes p i w) e

  module _ (i h : ℕ) (w : Walk) (p : parent nodes i ≡ some h) where
    by_kind : (k : Kind) → kind_at nodes h ≡ k → turn holds nodes i w ≡ turn_under holds nodes k h i w
    unfolding turn_by
    by_kind k e =
        ap (λ (q : Option ℕ). turn_by holds nodes q i w) p ∙ ap (λ (x : Kind). turn_under holds nodes x h i w) e

    pub turn_seq_next : kind_at nodes h ≡ SEQ → end_at nodes i < end_at nodes h
        → turn holds nodes i w ≡ next_if_finished (end_at nodes i) (enter_node holds nodes (end_at nodes i) w)
    unfolding turn_under
    turn_seq_next k n = by_kind SEQ k ∙ rw (lt-ltb (end_at nodes i) (end_at nodes h) n)

    pub turn_seq_last : kind_at nodes h ≡ SEQ → end_at nodes h ≤ end_at nodes i → turn holds nodes i w ≡ leaves_next h w
    unfolding turn_under
    turn_seq_last k n = by_kind SEQ k ∙ rw (le-ltb (end_at nodes i) (end_at nodes h) n)

    pub turn_par : kind_at nodes h ≡ PAR → turn holds nodes i w ≡ next_if_finished h (finished_at_zero h (lower h w))
    unfolding turn_under
    turn_par k = by_kind PAR k

    pub turn_if : kind_at nodes h ≡ IF → turn holds nodes i w ≡ leaves_next h w
    unfolding turn_under
    turn_if k = by_kind IF k

    pub turn_whl_true : kind_at nodes h ≡ WHL → holds (a_at nodes h) ≡ true
        → turn holds nodes i w ≡ next_if_finished h (loop_if_finished (enter_node holds nodes i w))
    unfolding turn_under
    turn_whl_true k t = by_kind WHL k ∙ rw t

    pub turn_whl_false : kind_at nodes h ≡ WHL → holds (a_at nodes h) ≡ false → turn holds nodes i w ≡ leaves_next h w
    unfolding turn_under
    turn_whl_false k f = by_kind WHL k ∙ rw f

-- ---- turns one after another, in any list
module _ (holds : ℕ → Bool) (nodes : List ℕ) (t : Turn) where
  -- fewer than n turns are not enough
  abbrev pub Going : ℕ → Type 0
  Going n = (m : ℕ) → m < n → is_over (turns holds nodes m t) ≡ false

  pub turns_none : turns holds nodes 0 t ≡ t
  unfolding turns
  turns_none = refl

  pub turns_more : (n j : ℕ) (v : Walk) → turns holds nodes n t ≡ leaves_next j v
      → turns holds nodes (suc n) t ≡ turn holds nodes j v
  unfolding turns
  turns_more n j v e = ap (next_turn holds nodes) e

  pub going_none : Going 0
  going_none m l = absurd (omega arith)

  pub going_more : (n j : ℕ) (v : Walk) → turns holds nodes n t ≡ leaves_next j v → Going n → Going (suc n)
  going_more n j v e g m l =
      elim (lt_or_le m n) [
        | inl x ↦ g m x
        | inr x ↦
            let q : n ≡ m = omega arith in
            subst (λ (k : ℕ). is_over (turns holds nodes k t) ≡ false) q (ap is_over e)
      ]

-- ---- places

-- how many nodes a walk of the whole tree leaves before node i
abbrev pub place : List ℕ → ℕ → ℕ
place nodes i = end_at nodes i - depth nodes i

module _ (nodes : List ℕ) (ok : NodesOk nodes) where
  depth_inside : (i : ℕ) → i < node_count nodes → depth nodes i ≤ end_at nodes i
  depth_inside i l = let few = depth_low nodes i in let a = end_after nodes ok i l in omega arith

  place_fits : (i : ℕ) → i < node_count nodes → place nodes i < node_count nodes
  place_fits i l =
      let a = end_after nodes ok i l in
      let f = end_fits nodes ok i l in
      let n : ℕ = length (ancestors nodes i) in
      let d : depth nodes i ≡ suc n = refl in
      omega arith

  -- the parent, and the next child, are left later
  parent_later : (i h : ℕ) → i < node_count nodes → parent nodes i ≡ some h → place nodes i < place nodes h
  parent_later i h l p =
      let e = end_within_lem nodes ok i h l p in
      let d = depth_parent nodes i h p in
      let f = depth_inside i l in
      omega arith

  next_later : (i h : ℕ) → i < node_count nodes → parent nodes i ≡ some h → end_at nodes i < end_at nodes h
      → end_at nodes i < node_count nodes → place nodes i < place nodes (end_at nodes i)
  next_later i h l p n m =
      let d = depth_parent nodes i h p in
      let c = depth_parent nodes (end_at nodes i) h (next_sibling nodes ok i h l p n) in
      let f = depth_inside i l in
      let a = end_after nodes ok (end_at nodes i) m in
      omega arith

  module _ (holds : ℕ → Bool) where
    -- what leaving node i comes to by its turn: leaving a node that has a later place, or what the turn leaves
    abbrev TurnLeaves : ℕ → Walk → Turn → Type 0
    TurnLeaves i w (leaves_next j v) =
        (leave holds nodes i w ≡ leave holds nodes j v) × (j < node_count nodes) × (place nodes i < place nodes j)
    TurnLeaves i w (over v) = leave holds nodes i w ≡ v

    entered_leaves : (i j : ℕ) (w : Walk) (r : Entered) → j < node_count nodes → place nodes i < place nodes j
        → leave holds nodes i w ≡ then_leave r (leave holds nodes j) → TurnLeaves i w (next_if_finished j r)
    entered_leaves i j w (finished v) l n e = (e, l, n)
    entered_leaves i j w (stays v) l n e = e

    module _ (i h : ℕ) (w : Walk) (l : i < node_count nodes) (p : parent nodes i ≡ some h) where
      lh : h < node_count nodes
      lh = let z = (is_parent nodes i h p).lower in omega arith

      -- by the law of leaving and that of the turn
      up : turn holds nodes i w ≡ leaves_next h w → leave holds nodes i w ≡ leave holds nodes h w
          → TurnLeaves i w (turn holds nodes i w)
      up t e = subst (TurnLeaves i w) (sym t) (e, lh, parent_later i h l p)

      seq_turn : kind_at nodes h ≡ SEQ → TurnLeaves i w (turn holds nodes i w)
      seq_turn k =
          let e = leave_seq nodes ok holds i h w l p k in
          elim (lt_or_le (end_at nodes i) (end_at nodes h)) [
            | inl n ↦
                let f = end_fits nodes ok h lh in
                let m : end_at nodes i < node_count nodes = omega arith in
                let r = enter_node holds nodes (end_at nodes i) w in
                subst (TurnLeaves i w) (sym (turn_seq_next holds nodes i h w p k n))
                (entered_leaves i (end_at nodes i) w r m (next_later i h l p n m)
                (e ∙ rw (lt-ltb (end_at nodes i) (end_at nodes h) n)))
            | inr n ↦ up (turn_seq_last holds nodes i h w p k n) (e ∙ rw (le-ltb (end_at nodes i) (end_at nodes h) n))
          ]

      whl_turn : (b : Bool) → kind_at nodes h ≡ WHL → holds (a_at nodes h) ≡ b → TurnLeaves i w (turn holds nodes i w)
      whl_turn true k t =
          subst (TurnLeaves i w) (sym (turn_whl_true holds nodes i h w p k t))
          (entered_leaves i h w (loop_if_finished (enter_node holds nodes i w)) lh (parent_later i h l p)
          (leave_whl_true nodes ok holds i h w l p k t))
      whl_turn false k f =
          up (turn_whl_false holds nodes i h w p k f) (leave_whl_false nodes ok holds i h w l p k f)

      -- no other kind is a parent, and both stop
      stopped : (k : Kind) → kind_at nodes h ≡ k
          → leave_child holds nodes k h (end_at nodes i) (leave holds nodes h) w ≡ w
          → turn_under holds nodes k h i w ≡ over w → TurnLeaves i w (turn holds nodes i w)
      stopped k e a t =
          subst (TurnLeaves i w) (sym (by_kind holds nodes i h w p k e ∙ t))
          (ap (λ (f : Walk → Walk). f w) (leave_parent nodes holds i h k p e) ∙ a)

      parent_turn : (k : Kind) → kind_at nodes h ≡ k → TurnLeaves i w (turn holds nodes i w)
      unfolding leave_child turn_under
      parent_turn SEQ k = seq_turn k
      parent_turn PAR k =
          subst (TurnLeaves i w) (sym (turn_par holds nodes i h w p k))
          (entered_leaves i h w (finished_at_zero h (lower h w)) lh (parent_later i h l p)
          (leave_par nodes ok holds i h w l p k))
      parent_turn IF k = up (turn_if holds nodes i h w p k) (leave_if nodes ok holds i h w l p k)
      parent_turn WHL k = whl_turn (holds (a_at nodes h)) k refl
      parent_turn (LEAF x) k = stopped (LEAF x) k refl refl
      parent_turn UNKNOWN k = stopped UNKNOWN k refl refl

    turn_leaves : (i : ℕ) (w : Walk) → i < node_count nodes → TurnLeaves i w (turn holds nodes i w)
    turn_leaves i w l = pick (parent nodes i) refl
      where
        pick : (p : Option ℕ) → parent nodes i ≡ p → TurnLeaves i w (turn holds nodes i w)
        pick none e = subst (TurnLeaves i w) (sym (turn_none holds nodes i w e)) (leave_none nodes holds i w e)
        pick (some h) e = parent_turn i h w l e (kind_at nodes h) refl

    -- ---- turns one after another
    module _ (i : ℕ) (w : Walk) (l : i < node_count nodes) where
      -- what leaving node i comes to by n turns: each has led to a later place
      abbrev pub After : ℕ → Turn → Type 0
      After n (leaves_next j v) =
          (leave holds nodes i w ≡ leave holds nodes j v) × (j < node_count nodes) × (place nodes i + n ≤ place nodes j)
      After n (over v) = leave holds nodes i w ≡ v

      after_next : (n : ℕ) (t : Turn) → After n t → After (suc n) (next_turn holds nodes t)
      after_next n (over v) a = a
      after_next n (leaves_next j v) a = pick (turn holds nodes j v) (turn_leaves j v a.1)
        where
          pick : (t : Turn) → TurnLeaves j v t → After (suc n) t
          pick (over u) b = a.0 ∙ b
          pick (leaves_next k u) b = let x = a.2 in let y = b.2 in (a.0 ∙ b.0, b.1, omega arith)

      pub after_turns : (n : ℕ) → After n (turns holds nodes n (leaves_next i w))
      unfolding turns
      after_turns zero = (refl, l, omega arith)
      after_turns (suc n) = after_next n (turns holds nodes n (leaves_next i w)) (after_turns n)

      -- N turns are enough, and what they leave is what `leave` gives
      pub turns_leave : turns holds nodes (node_count nodes) (leaves_next i w) ≡ over (leave holds nodes i w)
      turns_leave = pick (turns holds nodes (node_count nodes) (leaves_next i w)) (after_turns (node_count nodes))
        where
          pick : (t : Turn) → After (node_count nodes) t → t ≡ over (leave holds nodes i w)
          pick (over v) a = ap over (sym a)
          pick (leaves_next j v) a = let x = a.2 in let y = place_fits j a.1 in absurd (omega arith)

      -- while the climb goes on, fewer turns than N were taken
      pub going_few : (n j : ℕ) (v : Walk) → turns holds nodes n (leaves_next i w) ≡ leaves_next j v
          → (j < node_count nodes) × (n < node_count nodes)
      going_few n j v e =
          let a = subst (After n) e (after_turns n) in
          let x = a.2 in
          let y = place_fits j a.1 in
          (a.1, omega arith)

      -- a climb of n turns: n is at most N, and what it leaves is what `leave` gives
      pub climb_few : (n : ℕ) (r : Walk) → Climbs holds nodes i w n r → n ≤ node_count nodes
      climb_few zero r c = omega arith
      climb_few (suc n) r c = pick (turns holds nodes n (leaves_next i w)) refl (c.no_sooner n (omega arith))
        where
          pick : (t : Turn) → turns holds nodes n (leaves_next i w) ≡ t → is_over t ≡ false → suc n ≤ node_count nodes
          pick (over v) e f = absurd (true≢false f)
          pick (leaves_next j v) e f = (going_few n j v e).1

      pub climb_leaves : (n : ℕ) (r : Walk) → Climbs holds nodes i w n r → leave holds nodes i w ≡ r
      climb_leaves n r c = subst (After n) c.ends (after_turns n)

-- ---- of an accepted program
module _ (P : Program) (c : check_number P ≡ 0) (holds : ℕ → Bool) (i : ℕ) (l : i < node_count P.nodes) (w : Walk) where
  pub climb_in_turns : turns holds P.nodes (node_count P.nodes) (leaves_next i w) ≡ over (leave holds P.nodes i w)
  climb_in_turns = turns_leave P.nodes (accepted P c).nodes_ok holds i w l

  pub climb_bound : (n : ℕ) (r : Walk) → Climbs holds P.nodes i w n r
      → (n ≤ node_count P.nodes) × (r ≡ leave holds P.nodes i w)
  climb_bound n r t =
      let ok = (accepted P c).nodes_ok in
      (climb_few P.nodes ok holds i w l n r t, sym (climb_leaves P.nodes ok holds i w l n r t))
