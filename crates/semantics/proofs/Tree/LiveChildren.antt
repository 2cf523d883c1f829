-- The live children of a node, which are marked or have a mark below them, in a list whose every node is ok. A node
-- holds a mark when it is marked or has a live child. A pass from the last node to the first can count them, since
-- children have higher numbers than their parent.
use mathlib.Core.Path.{◌≡◌, sym, ap, ◌∙◌}
use mathlib.Core.Bool.{true, cond, ◌||◌, or-true}
use mathlib.Core.List.{List}
use mathlib.Core.Logic.{inl, inr}
use Prim.Native.Nat.{ℕ, suc, ◌-◌, ◌≤◌, ◌<◌}
use native.Mathlib.Nat.{le_refl}
use native.Mathlib.Omega.{arith}
use lib.Dec.{ltb}
use lib.ListN.{length}
use borrow.Author.Tests.{ltb-true, lt-ltb}
use Rattle.semantics.specs.Program.{node_count}
use Rattle.semantics.specs.Parents.{is_child}
use Rattle.semantics.specs.State.{marked, holds_mark, live_children}
use Rattle.semantics.specs.Facts.{NodesOk, live_child, live_from}
use Rattle.semantics.proofs.Lists.Logic.{and_left, and_right, both, or_cases, bool_eq, lt_or_le}
use Rattle.semantics.proofs.Lists.NumberLaws.{count, count_suc, count_one, count_some, count_most, count_none}
use Rattle.semantics.proofs.Lists.NumberLaws.{count_split}
use Rattle.semantics.proofs.Lists.ParentLaws.{is_parent}
use Rattle.semantics.proofs.Tree.NodeLaws.{end_after}
use Rattle.semantics.proofs.Tree.ChildLaws.{is_child_lem}
use Rattle.semantics.proofs.Lists.ActiveLaws.{marked_below}
use Rattle.semantics.proofs.Tree.LiveStatements.{holds_mark-at, child_of, no_child}
use Rattle.semantics.proofs.Tree.Meetings.{ChildOver, child_over, over_inside}

module _ (nodes marks : List ℕ) where
  pub marked_inside : length marks ≡ node_count nodes → (j : ℕ) → marked marks j ≡ true → j < node_count nodes
  marked_inside same j m = omega (arith, marked_below marks j m)

  -- a child over a mark is live, and a live child is over a mark
  pub over_live : (h j k : ℕ) → marked marks j ≡ true → ChildOver nodes h j k → live_child nodes marks h k ≡ true
  over_live h j k m r =
      both (is_child_lem nodes h k r.child) ((holds_mark-at nodes marks k).1 (j, r.from, r.covers, m))

  pub live_over : (h k : ℕ) → live_child nodes marks h k ≡ true
      → (j : ℕ) × (marked marks j ≡ true) × ChildOver nodes h j k
  live_over h k e =
      let (j, l, u, m) = (holds_mark-at nodes marks k).0 (and_right (is_child nodes h k) _ e) in
      (j, m, record { child = child_of nodes marks h k (and_left (is_child nodes h k) _ e); from = l; covers = u })

  -- ---- the live children of h from node i on
  pub live_from_most : (i h : ℕ) → live_from nodes marks i h ≤ node_count nodes - i
  live_from_most i h = count_most (live_child nodes marks h) (node_count nodes - i) i

  pub live_from_last : (h : ℕ) → live_from nodes marks (node_count nodes) h ≡ 0
  live_from_last h = omega (arith, live_from_most (node_count nodes) h)

  pub live_from_step : (i h : ℕ) → i < node_count nodes
      → live_from nodes marks i h ≡ cond (live_child nodes marks h i) (suc (live_from nodes marks (suc i) h)) (live_from nodes marks (suc i) h)
  live_from_step i h l =
      let e : node_count nodes - i ≡ suc (node_count nodes - suc i) = omega arith in
      ap (λ (n : ℕ). count (live_child nodes marks h) n i) e
      ∙ count_suc (live_child nodes marks h) (node_count nodes - suc i) i

  -- children stand above their parent
  pub live_from_own : (h : ℕ) → h < node_count nodes → live_from nodes marks (suc h) h ≡ live_children nodes marks h
  unfolding live_children
  live_from_own h l =
      let whole : node_count nodes - 0 ≡ node_count nodes = omega arith in
      let parts = count_split (live_child nodes marks h) 0 (suc h) (node_count nodes) (omega arith) l in
      let none = count_none (live_child nodes marks h) (suc h - 0) 0
      (λ j v w. no_child nodes marks h j (λ e. omega (arith, (is_parent nodes j h e).lower))) in
      omega (arith, ap (λ (n : ℕ). count (live_child nodes marks h) n 0) whole)

module _ (nodes marks : List ℕ) (ok : NodesOk nodes) (same : length marks ≡ node_count nodes) where
  -- a mark stands at or below a node when the node is marked or has a live child
  pub holds_mark-own : (i : ℕ) → i < node_count nodes
      → holds_mark nodes marks i ≡ marked marks i || ltb 0 (live_children nodes marks i)
  unfolding live_children
  holds_mark-own i f = bool_eq _ _ to from
    where
      live : ℕ
      live = count (live_child nodes marks i) (node_count nodes) 0

      to : holds_mark nodes marks i ≡ true → marked marks i || ltb 0 live ≡ true
      to h =
          let (j, l, u, m) = (holds_mark-at nodes marks i).0 h in
          let b = marked_inside nodes marks same j m in
          elim (lt_or_le i j) [
            | inl v ↦
                let (k, r) = child_over nodes ok i j v b u in
                let k≤j = r.from in
                let one = count_one (live_child nodes marks i) (node_count nodes) 0 k (over_live nodes marks i j k m r)
                (omega arith) (omega arith) in
                rw (lt-ltb 0 live one) (or-true (marked marks i))
            | inr v ↦ let q : j ≡ i = omega arith in rw (ap (marked marks) (sym q) ∙ m)
          ]

      from : marked marks i || ltb 0 live ≡ true → holds_mark nodes marks i ≡ true
      from h =
          elim (or_cases (marked marks i) (ltb 0 live) h) [
            | inl m ↦ (holds_mark-at nodes marks i).1 (i, le_refl i, end_after nodes ok i f, m)
            | inr v ↦
                let (k, _, e) = count_some (live_child nodes marks i) (node_count nodes) 0 (ltb-true 0 live v) in
                let (j, m, r) = live_over nodes marks i k e in
                let i<k = (is_parent nodes k i r.child).lower in
                let k≤j = r.from in
                let b = marked_inside nodes marks same j m in
                (holds_mark-at nodes marks i).1 (j, omega arith, over_inside nodes ok i j k b r, m)
          ]
