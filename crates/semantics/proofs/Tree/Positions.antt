-- Where the statements of a tree stand in the node list when the tree starts at `lo`: its end, its leaves and their
-- numbers, and what stands above each leaf.
use mathlib.Core.Path.{◌≡◌}
use mathlib.Core.Bool.{Bool, cond}
use mathlib.Core.List.{List, [], ◌∷◌}
use mathlib.Core.Logic.{◌⊎◌, inl, inr}
use Prim.Native.Nat.{ℕ, suc, ◌≤◌, ◌<◌}
use native.Mathlib.Nat.{le_refl, le_trans, le-suc}
use Rattle.semantics.specs.Tree.{Stmt, Stmts}
use Rattle.semantics.specs.Tree.Stmt.{leaf, seq, par, ife, whl}
use Rattle.semantics.specs.Tree.Stmts.{nil, cons}
use Rattle.semantics.specs.Walk.{Walk, lower, finished_at_zero, loop_if_finished, enter_in_turn, then_leave}

-- ---- one past the last node
unfoldable mutual
  pub end_of : Stmt → ℕ → ℕ
  end_of (leaf i) lo = suc lo
  end_of (seq i ks) lo = ends_of ks (suc lo)
  end_of (par i ks) lo = ends_of ks (suc lo)
  end_of (ife i e ys ns) lo = ends_of ns (ends_of ys (suc lo))
  end_of (whl i e ks) lo = ends_of ks (suc lo)

  pub ends_of : Stmts → ℕ → ℕ
  ends_of nil lo = lo
  ends_of (cons k ks) lo = ends_of ks (end_of k lo)

mutual
  unfolding end_of

  pub end_of-gt : (t : Stmt) (lo : ℕ) → lo < end_of t lo
  end_of-gt (leaf i) lo = le_refl (suc lo)
  end_of-gt (seq i ks) lo = ends_of-ge ks (suc lo)
  end_of-gt (par i ks) lo = ends_of-ge ks (suc lo)
  end_of-gt (ife i e ys ns) lo = le_trans (ends_of-ge ys (suc lo)) (ends_of-ge ns _)
  end_of-gt (whl i e ks) lo = ends_of-ge ks (suc lo)

  pub ends_of-ge : (ks : Stmts) (lo : ℕ) → lo ≤ ends_of ks lo
  ends_of-ge nil lo = le_refl lo
  ends_of-ge (cons k ks) lo = le_trans (le_trans (le-suc lo) (end_of-gt k lo)) (ends_of-ge ks _)

-- ---- every node's number is its place
abbrev mutual
  pub Placed : Stmt → ℕ → Type 0
  Placed (leaf i) lo = i ≡ lo
  Placed (seq i ks) lo = (i ≡ lo) × PlacedIn ks (suc lo)
  Placed (par i ks) lo = (i ≡ lo) × PlacedIn ks (suc lo)
  Placed (ife i e ys ns) lo = (i ≡ lo) × PlacedIn ys (suc lo) × PlacedIn ns (ends_of ys (suc lo))
  Placed (whl i e ks) lo = (i ≡ lo) × PlacedIn ks (suc lo)

  pub PlacedIn : Stmts → ℕ → Type 0
  PlacedIn nil lo = Unit {0}
  PlacedIn (cons k ks) lo = Placed k lo × PlacedIn ks (end_of k lo)

-- ---- the leaves of a tree, as a type, and their numbers
abbrev mutual
  pub LeafOf : Stmt → Type 0
  LeafOf (leaf i) = Unit {0}
  LeafOf (seq i ks) = LeafIn ks
  LeafOf (par i ks) = LeafIn ks
  LeafOf (ife i e ys ns) = LeafIn ys ⊎ LeafIn ns
  LeafOf (whl i e ks) = LeafIn ks

  pub LeafIn : Stmts → Type 0
  LeafIn nil = ⊥
  LeafIn (cons k ks) = LeafOf k ⊎ LeafIn ks

unfoldable mutual
  pub number : (t : Stmt) → LeafOf t → ℕ
  number (leaf i) x = i
  number (seq i ks) x = number_in ks x
  number (par i ks) x = number_in ks x
  number (ife i e ys ns) (inl x) = number_in ys x
  number (ife i e ys ns) (inr x) = number_in ns x
  number (whl i e ks) x = number_in ks x

  pub number_in : (ks : Stmts) → LeafIn ks → ℕ
  number_in nil x = absurd x
  number_in (cons k ks) (inl x) = number k x
  number_in (cons k ks) (inr x) = number_in ks x

-- ---- what an ancestor has still to do when a child of it is left
pub data Frame : Type 0 where
  in_seq : Stmts → Frame
  in_par : ℕ → Frame
  in_if : Frame
  in_whl : ℕ → Stmts → Frame

module _ (holds : ℕ → Bool) where
  -- leaving by the frames above, nearest first
  unfoldable pub unwind : List Frame → Walk → Walk
  unwind [] w = w
  unwind (in_seq ks ∷ up) w = then_leave (enter_in_turn holds ks w) (unwind up)
  unwind (in_par h ∷ up) w = then_leave (finished_at_zero h (lower h w)) (unwind up)
  unwind (in_if ∷ up) w = unwind up w
  unwind (in_whl e ks ∷ up) w =
      let again = then_leave (loop_if_finished (enter_in_turn holds ks w)) (unwind up) in
      let past = unwind up w in
      cond (holds e) again past

-- the frames above a leaf of a tree, put onto those above the tree
unfoldable mutual
  pub frames_at : (t : Stmt) → LeafOf t → List Frame → List Frame
  frames_at (leaf i) x up = up
  frames_at (seq i ks) x up = frames_in_turn ks x up
  frames_at (par i ks) x up = frames_each ks x (in_par i ∷ up)
  frames_at (ife i e ys ns) (inl x) up = frames_in_turn ys x (in_if ∷ up)
  frames_at (ife i e ys ns) (inr x) up = frames_in_turn ns x (in_if ∷ up)
  frames_at (whl i e ks) x up = frames_in_turn ks x (in_whl e ks ∷ up)

  pub frames_in_turn : (ks : Stmts) → LeafIn ks → List Frame → List Frame
  frames_in_turn nil x up = absurd x
  frames_in_turn (cons k ks) (inl x) up = frames_at k x (in_seq ks ∷ up)
  frames_in_turn (cons k ks) (inr x) up = frames_in_turn ks x up

  pub frames_each : (ks : Stmts) → LeafIn ks → List Frame → List Frame
  frames_each nil x up = absurd x
  frames_each (cons k ks) (inl x) up = frames_at k x up
  frames_each (cons k ks) (inr x) up = frames_each ks x up
