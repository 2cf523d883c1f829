-- The state of a program kept in its tree: a leaf is off, due (its entry in the book is still to come) or on, and a
-- PAR has its thread count. Two children of a PAR have states of their own, so that a walk in one can't touch the
-- other.
use mathlib.Core.Path.{◌≡◌}
use mathlib.Core.Bool.{Bool, true, false, cond, ◌&&◌, ◌||◌}
use mathlib.Core.Logic.{inl, inr}
use Prim.Native.Nat.{ℕ, suc}
use Rattle.semantics.specs.Tree.{Stmt, Stmts}
use Rattle.semantics.specs.Tree.Stmt.{leaf, seq, par, ife, whl}
use Rattle.semantics.specs.Tree.Stmts.{nil, cons}
use Rattle.semantics.proofs.Tree.Positions.{LeafOf, LeafIn}

pub data Cell : Type 0 where
  off : Cell
  due : Cell
  on : Cell

abbrev mutual
  pub StateOf : Stmt → Type 0
  StateOf (leaf i) = Cell
  StateOf (seq i ks) = StateIn ks
  StateOf (par i ks) = ℕ × StateIn ks
  StateOf (ife i e ys ns) = StateIn ys × StateIn ns
  StateOf (whl i e ks) = StateIn ks

  pub StateIn : Stmts → Type 0
  StateIn nil = Unit {0}
  StateIn (cons k ks) = StateOf k × StateIn ks

-- ---- a leaf is live while it is due or on; a statement while some leaf of it is
abbrev pub cell_live : Cell → Bool
cell_live off = false
cell_live due = true
cell_live on = true

unfoldable mutual
  pub live_in : (t : Stmt) → StateOf t → Bool
  live_in (leaf i) s = cell_live s
  live_in (seq i ks) s = any_live_in ks s
  live_in (par i ks) s = any_live_in ks s.1
  live_in (ife i e ys ns) s = any_live_in ys s.0 || any_live_in ns s.1
  live_in (whl i e ks) s = any_live_in ks s

  pub any_live_in : (ks : Stmts) → StateIn ks → Bool
  any_live_in nil s = false
  any_live_in (cons k ks) s = live_in k s.0 || any_live_in ks s.1

unfoldable pub live_count_in : (ks : Stmts) → StateIn ks → ℕ
live_count_in nil s = 0
live_count_in (cons k ks) s = cond (live_in k s.0) (suc (live_count_in ks s.1)) (live_count_in ks s.1)

-- ---- the leaves that are due
abbrev pub cell_due : Cell → Bool
cell_due off = false
cell_due due = true
cell_due on = false

unfoldable mutual
  pub due_at : (t : Stmt) → StateOf t → LeafOf t → Bool
  due_at (leaf i) s x = cell_due s
  due_at (seq i ks) s x = due_in ks s x
  due_at (par i ks) s x = due_in ks s.1 x
  due_at (ife i e ys ns) s (inl x) = due_in ys s.0 x
  due_at (ife i e ys ns) s (inr x) = due_in ns s.1 x
  due_at (whl i e ks) s x = due_in ks s x

  pub due_in : (ks : Stmts) → StateIn ks → LeafIn ks → Bool
  due_in nil s x = absurd x
  due_in (cons k ks) s (inl x) = due_at k s.0 x
  due_in (cons k ks) s (inr x) = due_in ks s.1 x

-- ---- two leaves are the same
unfoldable mutual
  pub same_leaf : (t : Stmt) → LeafOf t → LeafOf t → Bool
  same_leaf (leaf i) x y = true
  same_leaf (seq i ks) x y = same_leaf_in ks x y
  same_leaf (par i ks) x y = same_leaf_in ks x y
  same_leaf (ife i e ys ns) (inl x) (inl y) = same_leaf_in ys x y
  same_leaf (ife i e ys ns) (inl x) (inr y) = false
  same_leaf (ife i e ys ns) (inr x) (inl y) = false
  same_leaf (ife i e ys ns) (inr x) (inr y) = same_leaf_in ns x y
  same_leaf (whl i e ks) x y = same_leaf_in ks x y

  pub same_leaf_in : (ks : Stmts) → LeafIn ks → LeafIn ks → Bool
  same_leaf_in nil x y = absurd x
  same_leaf_in (cons k ks) (inl x) (inl y) = same_leaf k x y
  same_leaf_in (cons k ks) (inl x) (inr y) = false
  same_leaf_in (cons k ks) (inr x) (inl y) = false
  same_leaf_in (cons k ks) (inr x) (inr y) = same_leaf_in ks x y

-- ---- the invariant: each PAR counts its live children, and elsewhere at most one child is live
abbrev mutual
  pub Consistent : (t : Stmt) → StateOf t → Type 0
  Consistent (leaf i) s = Unit {0}
  Consistent (seq i ks) s = ConsistentInTurn ks s
  Consistent (par i ks) s = (s.0 ≡ live_count_in ks s.1) × ConsistentEach ks s.1
  Consistent (ife i e ys ns) s =
      ConsistentInTurn ys s.0 × ConsistentInTurn ns s.1 × (any_live_in ys s.0 && any_live_in ns s.1 ≡ false)
  Consistent (whl i e ks) s = ConsistentInTurn ks s

  pub ConsistentInTurn : (ks : Stmts) → StateIn ks → Type 0
  ConsistentInTurn nil s = Unit {0}
  ConsistentInTurn (cons k ks) s =
      Consistent k s.0 × ConsistentInTurn ks s.1 × (live_in k s.0 && any_live_in ks s.1 ≡ false)

  pub ConsistentEach : (ks : Stmts) → StateIn ks → Type 0
  ConsistentEach nil s = Unit {0}
  ConsistentEach (cons k ks) s = Consistent k s.0 × ConsistentEach ks s.1

-- ---- nothing is due
abbrev pub Quiet : (t : Stmt) → StateOf t → Type 0
Quiet t s = (x : LeafOf t) → due_at t s x ≡ false

abbrev pub QuietIn : (ks : Stmts) → StateIn ks → Type 0
QuietIn ks s = (x : LeafIn ks) → due_in ks s x ≡ false
