-- Entering a statement and advancing a due leaf, on the state kept in the tree. They follow the rules' `enter` and
-- `leave` step by step, with the outcome and a zero-time loop told apart from the state.
use mathlib.Core.Bool.{Bool, true, false, cond, not, ◌&&◌, ◌||◌}
use mathlib.Core.Logic.{inl, inr}
use Prim.Native.Nat.{ℕ, suc, ◌-◌}
use lib.Dec.{eqb}
use Rattle.semantics.specs.Tree.{Stmt, Stmts}
use Rattle.semantics.specs.Tree.Stmt.{leaf, seq, par, ife, whl}
use Rattle.semantics.specs.Tree.Stmts.{nil, cons}
use Rattle.semantics.proofs.Tree.Positions.{LeafOf, LeafIn}
use Rattle.semantics.proofs.Walks.TreeState.{StateOf, StateIn}
use Rattle.semantics.proofs.Walks.TreeState.Cell.{off, on}

-- what a walk leaves: whether the statement is finished, whether a zero-time loop was met, and the state
pub record Step (X : Type 0) : Type 0 where
  pub done : Bool
  pub looped : Bool
  pub state : X

-- what entering every child of a PAR leaves: how many stay
pub record StepEach (X : Type 0) : Type 0 where
  pub staying : ℕ
  pub looped : Bool
  pub state : X

abbrev pub pass : {X : Type 0} → X → Step X
pass x = record { done = true; looped = false; state = x }

-- the first of two parts moved, or the second did
abbrev pub in_first : {X Y : Type 0} → Step X → Y → Step (X × Y)
in_first r y = record { done = r.done; looped = r.looped; state = (r.state, y) }

abbrev pub in_second : {X Y : Type 0} → X → Step Y → Step (X × Y)
in_second x r = record { done = r.done; looped = r.looped; state = (x, r.state) }

-- the first child of a sequence moved, r; if it finished, the others were entered, q; else they are as they were, y
abbrev pub in_turn : {X Y : Type 0} → Step X → Step Y → Y → Step (X × Y)
in_turn r q y =
    record {
      done = r.done && q.done;
      looped = r.looped || r.done && q.looped;
      state = (r.state, cond r.done q.state y);
    }

-- one child of a PAR was entered, then the others
abbrev pub and_each : {X Y : Type 0} → Step X → StepEach Y → StepEach (X × Y)
and_each r q =
    record {
      staying = cond r.done q.staying (suc q.staying);
      looped = r.looped || q.looped;
      state = (r.state, q.state);
    }

abbrev pub count_staying : {X : Type 0} → StepEach X → Step (ℕ × X)
count_staying q = record { done = eqb q.staying 0; looped = q.looped; state = (q.staying, q.state) }

-- a WHL's child was entered
abbrev pub loop_if_done : {X : Type 0} → Step X → Step X
loop_if_done q = record { done = q.done; looped = q.looped || q.done; state = q.state }

-- a WHL's child moved, r; if it finished and the condition b holds, it was entered again, q
abbrev pub again : {X : Type 0} → Bool → Step X → Step X → Step X
again b r q =
    record {
      done = r.done && (not b || q.done);
      looped = r.looped || r.done && (b && (q.looped || q.done));
      state = cond (r.done && b) q.state r.state;
    }

-- a child of a PAR that counts n moved, r; if it finished, the count is lowered
abbrev pub less_if : Bool → ℕ → ℕ
less_if true n = n - 1
less_if false n = n

abbrev pub lower_if_done : {X : Type 0} → ℕ → Step X → Step (ℕ × X)
lower_if_done n r =
    record {
      done = r.done && eqb (less_if r.done n) 0;
      looped = r.looped;
      state = (less_if r.done n, r.state);
    }

module _ (holds : ℕ → Bool) where
  unfoldable mutual
    pub enter_tree : (t : Stmt) → StateOf t → Step (StateOf t)
    enter_tree (leaf i) s = record { done = false; looped = false; state = on }
    enter_tree (seq i ks) s = enter_tree_in_turn ks s
    enter_tree (par i ks) s = count_staying (enter_tree_each ks s.1)
    enter_tree (ife i e ys ns) s =
        cond (holds e) (in_first (enter_tree_in_turn ys s.0) s.1) (in_second s.0 (enter_tree_in_turn ns s.1))
    enter_tree (whl i e ks) s = cond (holds e) (loop_if_done (enter_tree_in_turn ks s)) (pass s)

    pub enter_tree_in_turn : (ks : Stmts) → StateIn ks → Step (StateIn ks)
    enter_tree_in_turn nil s = pass s
    enter_tree_in_turn (cons k ks) s = in_turn (enter_tree k s.0) (enter_tree_in_turn ks s.1) s.1

    pub enter_tree_each : (ks : Stmts) → StateIn ks → StepEach (StateIn ks)
    enter_tree_each nil s = record { staying = 0; looped = false; state = s }
    enter_tree_each (cons k ks) s = and_each (enter_tree k s.0) (enter_tree_each ks s.1)

  -- the entry of leaf x: it marks itself if it waits, and is left if it completes
  module _ (waits : ℕ → Bool) where
    unfoldable mutual
      pub advance : (t : Stmt) → StateOf t → LeafOf t → Step (StateOf t)
      advance (leaf i) s x = record { done = not (waits i); looped = false; state = cond (waits i) on off }
      advance (seq i ks) s x = advance_in_turn ks s x
      advance (par i ks) s x = lower_if_done s.0 (advance_each ks s.1 x)
      advance (ife i e ys ns) s (inl x) = in_first (advance_in_turn ys s.0 x) s.1
      advance (ife i e ys ns) s (inr x) = in_second s.0 (advance_in_turn ns s.1 x)
      advance (whl i e ks) s x =
          again (holds e) (advance_in_turn ks s x) (enter_tree_in_turn ks (advance_in_turn ks s x).state)

      pub advance_in_turn : (ks : Stmts) → StateIn ks → LeafIn ks → Step (StateIn ks)
      advance_in_turn nil s x = absurd x
      advance_in_turn (cons k ks) s (inl x) = in_turn (advance k s.0 x) (enter_tree_in_turn ks s.1) s.1
      advance_in_turn (cons k ks) s (inr x) = in_second s.0 (advance_in_turn ks s.1 x)

      pub advance_each : (ks : Stmts) → StateIn ks → LeafIn ks → Step (StateIn ks)
      advance_each nil s x = absurd x
      advance_each (cons k ks) s (inl x) = in_first (advance k s.0 x) s.1
      advance_each (cons k ks) s (inr x) = in_second s.0 (advance_each ks s.1 x)
