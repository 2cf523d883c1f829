-- In an accepted program, leaving a leaf by its ancestors in the list is unwinding the frames above it in the tree.
-- The proof goes down the tree: unwinding the frames above a node is leaving that node.
use mathlib.Core.Path.{◌≡◌, refl, sym, ap, ◌∙◌, subst}
use mathlib.Core.Bool.{Bool, cond}
use mathlib.Core.List.{List, [], ◌∷◌}
use mathlib.Core.Option.{some}
use mathlib.Core.Logic.{inl, inr}
use Prim.Native.Nat.{ℕ, suc, ◌≤◌, ◌<◌}
use native.Mathlib.Nat.{le_refl}
use native.Mathlib.Omega.{arith}
use Rattle.semantics.specs.Program.{Program, node_count, kind_at, end_at, a_at, is_leaf}
use Rattle.semantics.specs.Program.Kind.{SEQ, PAR, IF, WHL}
use Rattle.semantics.specs.Parents.{parent}
use Rattle.semantics.specs.Check.{check_number}
use Rattle.semantics.specs.Tree.{Stmt, Stmts, statements, tree_of, statement_at}
use Rattle.semantics.specs.Tree.Stmt.{leaf, seq, par, ife, whl}
use Rattle.semantics.specs.Tree.Stmts.{nil, cons}
use Rattle.semantics.specs.Walk.{Walk, lower, finished_at_zero, loop_if_finished, then_leave, child_count}
use Rattle.semantics.specs.Walk.{enter, enter_in_turn, leave_child, leave}
use Rattle.semantics.specs.Facts.{NodesOk}
use Rattle.semantics.proofs.Tree.Positions.{Frame, LeafOf, LeafIn, number, unwind, frames_at, frames_in_turn, frames_each}
use Rattle.semantics.proofs.Tree.Positions.{number_in}
use Rattle.semantics.proofs.Tree.Positions.Frame.{in_seq, in_par, in_if, in_whl}
use Rattle.semantics.proofs.Tree.Agreement.{Agrees, Under, under_first, child_parent}
use Rattle.semantics.proofs.Lists.QuestionLaws.{accepted}
use Rattle.semantics.proofs.Tree.NodeLaws.{end_fits, end_after, under_end}
use Rattle.semantics.proofs.Tree.TreeOfList.{statement_at_lem, tree_at}
use Rattle.semantics.proofs.Tree.StatementLaws.{statement_kind, statement_leaf, statements_first}
use Rattle.semantics.proofs.Tree.StatementLaws.{child_count-none, child_count-more}
use Rattle.semantics.proofs.Tree.ChildLaws.{some_child, first_within, whl_count, if_count}
use Rattle.semantics.proofs.Walks.EnterLaws.{statement_if}
use Rattle.semantics.proofs.Walks.LeaveLaws.{leave_parent, leave_root}

-- the frames above a leaf of some siblings, where `top` stands above the sibling that is followed by the rest
record Siblings : Type 0 where
  frames : (ks : Stmts) → LeafIn ks → List Frame
  top : Stmts → List Frame
  here : (k : Stmt) (ks : Stmts) (x : LeafOf k) → frames (cons k ks) (inl x) ≡ frames_at k x (top ks)
  later : (k : Stmt) (ks : Stmts) (x : LeafIn ks) → frames (cons k ks) (inr x) ≡ frames ks x

one_by_one : List Frame → Siblings
unfolding frames_at
one_by_one up =
    record {
      frames = λ ks x. frames_in_turn ks x up;
      top = λ ks. in_seq ks ∷ up;
      here = λ k ks x. refl;
      later = λ k ks x. refl;
    }

at_once : List Frame → Siblings
unfolding frames_at
at_once up =
    record {
      frames = λ ks x. frames_each ks x up;
      top = λ ks. up;
      here = λ k ks x. refl;
      later = λ k ks x. refl;
    }

module _ (nodes : List ℕ) (ok : NodesOk nodes) (holds : ℕ → Bool) where
  -- leaving node i is unwinding these frames
  abbrev Unwinds : ℕ → List Frame → Type 0
  Unwinds i up = leave holds nodes i ≡ unwind holds up

  -- the frame of one ancestor h, above its child j
  module _ (j h : ℕ) (up : List Frame) (p : parent nodes j ≡ some h) (f : Unwinds h up) where
    unwind_seq : (ks : Stmts) → kind_at nodes h ≡ SEQ → ks ≡ statements nodes (end_at nodes j) (end_at nodes h)
        → Unwinds j (in_seq ks ∷ up)
    unfolding unwind leave_child
    unwind_seq ks k e = leave_parent nodes holds j h SEQ p k ∙ (λ i w. then_leave (enter_in_turn holds (sym e i) w) (f i))

    unwind_par : (i : ℕ) → kind_at nodes h ≡ PAR → i ≡ h → Unwinds j (in_par i ∷ up)
    unfolding unwind leave_child
    unwind_par i k e =
        leave_parent nodes holds j h PAR p k
        ∙ (λ x w. then_leave (finished_at_zero (sym e x) (lower (sym e x) w)) (f x))

    unwind_if : kind_at nodes h ≡ IF → Unwinds j (in_if ∷ up)
    unfolding unwind leave_child
    unwind_if k = leave_parent nodes holds j h IF p k ∙ (λ i w. f i w)

    unwind_whl : (a : ℕ) (ks : Stmts) → kind_at nodes h ≡ WHL → a ≡ a_at nodes h
        → ks ≡ statements nodes (suc h) (end_at nodes h) → Unwinds j (in_whl a ks ∷ up)
    unfolding unwind leave_child
    unwind_whl a ks k q e =
        leave_parent nodes holds j h WHL p k
        ∙ (λ i w. cond (holds (sym q i)) (then_leave (loop_if_finished (enter_in_turn holds (sym e i) w)) (f i)) (f i w))

  -- the frame of an only child does nothing
  unwind_only : (ks : Stmts) (up : List Frame) → child_count ks ≤ 0 → unwind holds up ≡ unwind holds (in_seq ks ∷ up)
  unfolding unwind enter
  unwind_only nil up c = refl
  unwind_only (cons k ks) up c = absurd (omega arith)

  -- leaving a child of h, with fewer than n statements after it up to `end`, is unwinding the frames above it
  abbrev ChildrenUnwind : ℕ → ℕ → ℕ → (Stmts → List Frame) → Type 0
  ChildrenUnwind h end n top =
      (j : ℕ) (ks : Stmts) → parent nodes j ≡ some h → ks ≡ statements nodes (end_at nodes j) end → child_count ks < n
      → Unwinds j (top ks)

  agreement : (t : Stmt) (lo : ℕ) → lo < node_count nodes → t ≡ statement_at nodes lo → Agrees nodes t lo
  agreement t lo l e = subst (λ (x : Stmt). Agrees nodes x lo) (sym e) (statement_at_lem nodes ok lo l).agrees

  mutual
    unfolding frames_at number one_by_one at_once

    unwind_leaf : (t : Stmt) (lo : ℕ) (up : List Frame) → lo < node_count nodes → t ≡ statement_at nodes lo
        → Unwinds lo up → (x : LeafOf t) → Unwinds (number t x) (frames_at t x up)
    unwind_leaf (leaf i) lo up l e f x =
        let q = e ∙ statement_leaf nodes lo (agreement (leaf i) lo l e).1 in
        let s : i ≡ lo = cc in
        ap (leave holds nodes) s ∙ f
    unwind_leaf (seq i ks) lo up l e f x =
        let k = (agreement (seq i ks) lo l e).1 in
        let q = e ∙ statement_kind nodes lo SEQ k in
        unwind_leaf_in ks lo (suc lo) (end_at nodes lo) (child_count ks) (one_by_one up) l (cc) (under_first nodes lo)
        (le_refl _) (le_refl _) (λ j r p s c. unwind_seq j lo up p f r k s) x
    unwind_leaf (par i ks) lo up l e f x =
        let k = (agreement (par i ks) lo l e).1 in
        let q = e ∙ statement_kind nodes lo PAR k in
        unwind_leaf_in ks lo (suc lo) (end_at nodes lo) (child_count ks) (at_once (in_par i ∷ up)) l (cc)
        (under_first nodes lo) (le_refl _) (le_refl _) (λ j r p s c. unwind_par j lo up p f i k (cc)) x
    unwind_leaf (ife i a ys ns) lo up l e f (inl x) =
        let k = (agreement (ife i a ys ns) lo l e).1 in
        let q = e ∙ statement_if nodes ok lo l k in
        let y : ys ≡ statements nodes (suc lo) (end_at nodes (suc lo)) = cc in
        let v = some_child nodes ok lo l (ap is_leaf k) in
        let b = end_fits nodes ok lo l in
        let c = child_count-more nodes ok (suc lo) _ (end_after nodes ok (suc lo) (omega arith)) (omega arith) in
        let d = child_count-none nodes ok (end_at nodes (suc lo)) _ (le_refl _) in
        unwind_leaf_in ys lo (suc lo) (end_at nodes (suc lo)) 1 (one_by_one (in_if ∷ up)) l y (under_first nodes lo)
        (first_within nodes ok lo l v) (omega (arith, ap child_count y))
        (λ j r p s c. unwind_if j lo up p f k ∙ unwind_only r (in_if ∷ up) (omega arith)) x
    unwind_leaf (ife i a ys ns) lo up l e f (inr x) =
        let k = (agreement (ife i a ys ns) lo l e).1 in
        let q = e ∙ statement_if nodes ok lo l k in
        let y : ns ≡ statements nodes (end_at nodes (suc lo)) (end_at nodes lo) = cc in
        let v = some_child nodes ok lo l (ap is_leaf k) in
        let b = end_fits nodes ok lo l in
        let c = child_count-more nodes ok (suc lo) (end_at nodes lo) v (omega arith) in
        let d = if_count nodes ok lo l k in
        unwind_leaf_in ns lo (end_at nodes (suc lo)) (end_at nodes lo) 1 (one_by_one (in_if ∷ up)) l y
        (under_end nodes ok lo (suc lo) (omega arith) (under_first nodes lo)) (le_refl _)
        (omega (arith, ap child_count y))
        (λ j r p s c. unwind_if j lo up p f k ∙ unwind_only r (in_if ∷ up) (omega arith)) x
    unwind_leaf (whl i a ks) lo up l e f x =
        let k = (agreement (whl i a ks) lo l e).1 in
        let q = e ∙ statement_kind nodes lo WHL k in
        let y : ks ≡ statements nodes (suc lo) (end_at nodes lo) = cc in
        let d = whl_count nodes ok lo l k in
        unwind_leaf_in ks lo (suc lo) (end_at nodes lo) 1 (one_by_one (in_whl a ks ∷ up)) l y (under_first nodes lo)
        (le_refl _) (omega (arith, ap child_count y))
        (λ j r p s c. unwind_whl j lo up p f a ks k (cc) y ∙ unwind_only r (in_whl a ks ∷ up) (omega arith)) x

    -- the leaves of the statements from j up to `end`, which are children of h
    unwind_leaf_in : (ks : Stmts) (h j end n : ℕ) (S : Siblings) → h < node_count nodes → ks ≡ statements nodes j end
        → Under nodes h j → end ≤ end_at nodes h → child_count ks ≤ n → ChildrenUnwind h end n S.top
        → (x : LeafIn ks) → Unwinds (number_in ks x) (S.frames ks x)
    unwind_leaf_in nil h j end n S l s u b c each x = absurd x
    unwind_leaf_in (cons k ks) h j end n S l s u b c each (inl x) =
        let m = end_fits nodes ok h l in
        let (v, own, rest) = statements_first nodes ok k ks j end (omega arith) s in
        let p = child_parent nodes h j u (omega arith) in
        unwind_leaf k j (S.top ks) (omega arith) own (each j ks p rest c) x ∙ ap (unwind holds) (sym (S.here k ks x))
    unwind_leaf_in (cons k ks) h j end n S l s u b c each (inr x) =
        let m = end_fits nodes ok h l in
        let (v, own, rest) = statements_first nodes ok k ks j end (omega arith) s in
        unwind_leaf_in ks h (end_at nodes j) end n S l rest (under_end nodes ok h j (omega arith) u) b (omega arith) each x
        ∙ ap (unwind holds) (sym (S.later k ks x))

  -- from the root
  pub leave_unwinds : 0 < node_count nodes → (x : LeafOf (tree_of nodes)) (w : Walk)
      → leave holds nodes (number (tree_of nodes) x) w ≡ unwind holds (frames_at (tree_of nodes) x []) w
  unfolding unwind
  leave_unwinds l x w =
      ap (λ (f : Walk → Walk). f w)
      (unwind_leaf (tree_of nodes) 0 [] l (tree_at nodes ok l) (λ i w. leave_root nodes ok holds w i) x)

-- leaving a leaf of an accepted program
pub accepted_leave : (P : Program) → check_number P ≡ 0 → (holds : ℕ → Bool) (x : LeafOf (tree_of P.nodes)) (w : Walk)
    → leave holds P.nodes (number (tree_of P.nodes) x) w ≡ unwind holds (frames_at (tree_of P.nodes) x []) w
accepted_leave P h holds = let a = accepted P h in leave_unwinds P.nodes a.nodes_ok holds a.sizes.some_node
