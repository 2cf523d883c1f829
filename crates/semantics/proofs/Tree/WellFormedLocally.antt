-- Question 6 node by node: in a list whose every node is ok, a state is well formed exactly when each node is right by
-- its own mark, its own count and the number of its live children. For two marked leaves meet in a node with two live
-- children.
use mathlib.Core.Path.{◌≡◌, refl, sym, ap, ◌∙◌}
use mathlib.Core.Bool.{true, false, ◌&&◌, ◌||◌, true≢false}
use mathlib.Core.List.{List}
use mathlib.Core.Logic.{inl, inr, ◌↔◌}
use Prim.Native.Nat.{ℕ, ◌≤◌, ◌<◌}
use native.Mathlib.Omega.{arith}
use lib.Dec.{leb}
use lib.ListN.{length, get_or}
use borrow.Author.Tests.{leb-true, le-leb}
use Rattle.semantics.specs.Numbers.{below, every}
use Rattle.semantics.specs.Program.{Kind, node_count, kind_at, is_leaf, is_par}
use Rattle.semantics.specs.Program.Kind.{SEQ, PAR, IF, WHL, LEAF, UNKNOWN}
use Rattle.semantics.specs.Check.{kind_ok}
use Rattle.semantics.specs.State.{marked, common_ancestors, first_is_par, live_children, control_formed}
use Rattle.semantics.specs.Facts.{NodesOk, live_child, locally_ok, node_well_formed}
use Rattle.semantics.proofs.Lists.Logic.{and_left, and_right, both, or_right, or_cases, bool_eq, true_or_false}
use Rattle.semantics.proofs.Lists.Logic.{lt_or_le}
use Rattle.semantics.proofs.Lists.NumberLaws.{every_below, all-below, count_two, count_pair}
use Rattle.semantics.proofs.Lists.ParentLaws.{is_parent}
use Rattle.semantics.proofs.Tree.NodeLaws.{facts}
use Rattle.semantics.proofs.Tree.TreeWellFormed.{plain}
use Rattle.semantics.proofs.Tree.WellFormedOnTree.{NodeRight, WellFormedIn, leaf_right, plain_right}
use Rattle.semantics.proofs.Tree.WellFormedOnTree.{control_formed-in}
use Rattle.semantics.proofs.Tree.Meetings.{Meeting, over_inside, meeting, in_order, meets}
use Rattle.semantics.proofs.Tree.LiveChildren.{marked_inside, over_live, live_over}

-- a statement whose children run in turn has at most one live child
abbrev InTurn : Kind → ℕ → Type 0
InTurn k live = is_leaf k || is_par k ≡ false → live ≤ 1

module _ (nodes marks counts : List ℕ) (i : ℕ) where
  turn_right : (k : Kind) (live : ℕ) → kind_at nodes i ≡ k → is_leaf k ≡ false → is_par k ≡ false
      → plain marks counts i 0 && leb live 1 ≡ true ↔ (NodeRight nodes marks counts i × InTurn k live)
  turn_right k live e inner other =
      let right = plain_right nodes marks counts i 0 (ap is_leaf e ∙ inner) (rw (e, other)) in (
        λ h. (
          right.1 (and_left (plain marks counts i 0) _ h),
          λ _. leb-true live 1 (and_right (plain marks counts i 0) _ h),
        ),
        λ r. both (right.0 r.0) (le-leb live 1 (r.1 (rw (inner, other)))),
      )

  -- a node is locally ok when it is right by itself and its children are live in turn
  kind_right : (k : Kind) → kind_at nodes i ≡ k → kind_ok k ≡ true
      → node_well_formed k (get_or marks i 0) (get_or counts i 0) (live_children nodes marks i) ≡ true
      ↔ (NodeRight nodes marks counts i × InTurn k (live_children nodes marks i))
  unfolding node_well_formed kind_ok
  kind_right SEQ e o = turn_right SEQ _ e refl refl
  kind_right PAR e o =
      let right = plain_right nodes marks counts i (live_children nodes marks i) (ap is_leaf e) (rw e) in
      (λ h. (right.1 h, λ z. absurd (true≢false z)), λ r. right.0 r.0)
  kind_right IF e o = turn_right IF _ e refl refl
  kind_right WHL e o = turn_right WHL _ e refl refl
  kind_right (LEAF l) e o =
      let right = leaf_right nodes marks counts i (ap is_leaf e) in
      (λ h. (right.1 h, λ z. absurd (true≢false z)), λ r. right.0 r.0)
  kind_right UNKNOWN e o = absurd (true≢false (sym o))

-- ---- question 6 node by node
module _ (nodes marks counts : List ℕ) (ok : NodesOk nodes) (same : length marks ≡ node_count nodes) where
  abbrev AllRight : Type 0
  AllRight = (i : ℕ) → i < node_count nodes → locally_ok nodes marks counts i ≡ true

  at_node : (i : ℕ) → i < node_count nodes
      → locally_ok nodes marks counts i ≡ true
      ↔ (NodeRight nodes marks counts i × InTurn (kind_at nodes i) (live_children nodes marks i))
  at_node i f = kind_right nodes marks counts i (kind_at nodes i) refl (facts nodes ok i f).kind_known

  -- two live children of a node have marks that meet in it
  two_meet : WellFormedIn nodes marks counts 0 (node_count nodes) → (i : ℕ) → 1 < live_children nodes marks i
      → is_par (kind_at nodes i) ≡ true
  unfolding live_children
  two_meet w i v =
      let (k, l, k<l, e, d) = count_pair (live_child nodes marks i) (node_count nodes) 0 v in
      let (a, ma, ra) = live_over nodes marks i k e in
      let (b, mb, rb) = live_over nodes marks i l d in
      let m : Meeting nodes a b =
      record { above = i; first = k; second = l; first_over = ra; second_over = rb; apart = k<l } in
      let fa = marked_inside nodes marks same a ma in
      let fb = marked_inside nodes marks same b mb in
      let a<b = in_order nodes ok m in
      sym (meets nodes ok a b fa fb m).0
      ∙ w.pairs a b (omega arith) fa (omega arith) fb (λ (q : a ≡ b). omega arith) ma mb

  each_right : WellFormedIn nodes marks counts 0 (node_count nodes) → AllRight
  each_right w i f =
      (at_node i f).1 (
        w.each i (omega arith) f,
        λ other. elim (lt_or_le 1 (live_children nodes marks i)) [
          | inl v ↦ absurd (true≢false (sym (two_meet w i v) ∙ or_right (is_leaf (kind_at nodes i)) _ other))
          | inr v ↦ v
        ],
      )

  -- two marked leaves meet in a node with two live children, and so in a PAR
  par_above : AllRight → (i j : ℕ) → marked marks i ≡ true → marked marks j ≡ true → (m : Meeting nodes i j)
      → is_par (kind_at nodes m.above) ≡ true
  unfolding live_children
  par_above all i j mi mj m =
      let h : ℕ = m.above in
      let r = m.first_over in
      let s = m.second_over in
      let fi = marked_inside nodes marks same i mi in
      let fj = marked_inside nodes marks same j mj in
      let from = r.from in
      let from' = s.from in
      let h<k = (is_parent nodes m.first h r.child).lower in
      let i<end = over_inside nodes ok h i m.first fi r in
      let two = count_two (live_child nodes marks h) (node_count nodes) 0 m.first m.second
      (over_live nodes marks h i m.first mi r) (over_live nodes marks h j m.second mj s) (omega arith) m.apart
      (omega arith) in
      let in-turn = ((at_node h (omega arith)).0 (all h (omega arith))).1 in
      elim (true_or_false (is_leaf (kind_at nodes h) || is_par (kind_at nodes h))) [
        | inl q ↦ elim (or_cases (is_leaf (kind_at nodes h)) _ q) [
          | inl leaf ↦ let e = (facts nodes ok h (omega arith)).leaf_end leaf in absurd (omega arith)
          | inr is_par_lem ↦ is_par_lem
        ]
        | inr q ↦ let one = in-turn q in absurd (omega arith)
      ]

  pairs_right : AllRight → (i j : ℕ) → i < j → marked marks i ≡ true → marked marks j ≡ true → (
      (first_is_par nodes (common_ancestors nodes i j) ≡ true) × (first_is_par nodes (common_ancestors nodes j i) ≡ true))
  pairs_right all i j l mi mj =
      let fi = marked_inside nodes marks same i mi in
      let fj = marked_inside nodes marks same j mj in
      let leaf = ((at_node i fi).0 (all i fi)).0.is_leaf mi in
      let e = (facts nodes ok i fi).leaf_end leaf in
      let m = meeting nodes ok i j l fj (omega arith) in
      let q = meets nodes ok i j fi fj m in
      let is_par_lem = par_above all i j mi mj m in
      (q.0 ∙ is_par_lem, q.1 ∙ is_par_lem)

  all_right : AllRight → WellFormedIn nodes marks counts 0 (node_count nodes)
  all_right all =
      record {
        each = λ i l f. ((at_node i f).0 (all i f)).0;
        pairs = λ i j l u l' u' differ mi mj. elim (lt_or_le i j) [
          | inl v ↦ (pairs_right all i j v mi mj).0
          | inr v ↦ elim (lt_or_le j i) [
            | inl w ↦ (pairs_right all j i w mj mi).1
            | inr w ↦ absurd (differ (omega arith))
          ]
        ];
      }

-- what question 6 asks of marks and counts is answered yes exactly when each node is right by itself
pub control_formed-locally : (nodes marks counts : List ℕ) → NodesOk nodes → length marks ≡ node_count nodes
    → control_formed nodes marks counts ≡ every (locally_ok nodes marks counts) (below (node_count nodes))
control_formed-locally nodes marks counts ok same =
    let worded = control_formed-in nodes marks counts same in
    bool_eq _ _
    (λ h.
    all-below (locally_ok nodes marks counts) (node_count nodes) (each_right nodes marks counts ok same (worded.1 h)))
    (λ h.
    worded.0
    (all_right nodes marks counts ok same (every_below (locally_ok nodes marks counts) (node_count nodes) h)))
