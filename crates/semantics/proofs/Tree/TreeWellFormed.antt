-- A state that is well formed, told along the tree instead of over all pairs of nodes: a PAR counts its children that
-- have a marked leaf, and of the children of any other statement at most one has a marked leaf.
use mathlib.Core.Bool.{Bool, true, false, cond, not, ◌&&◌, ◌||◌}
use mathlib.Core.List.{List}
use Prim.Native.Nat.{ℕ, suc}
use lib.Dec.{eqb, leb}
use lib.ListN.{get_or}
use Rattle.semantics.specs.Tree.{Stmt, Stmts}
use Rattle.semantics.specs.Tree.Stmt.{leaf, seq, par, ife, whl}
use Rattle.semantics.specs.Tree.Stmts.{nil, cons}
use Rattle.semantics.specs.State.{marked}

-- some leaf of the statement is marked
unfoldable mutual
  pub live : List ℕ → Stmt → Bool
  live marks (leaf i) = marked marks i
  live marks (seq i ks) = any_live marks ks
  live marks (par i ks) = any_live marks ks
  live marks (ife i e ys ns) = any_live marks ys || any_live marks ns
  live marks (whl i e ks) = any_live marks ks

  pub any_live : List ℕ → Stmts → Bool
  any_live marks nil = false
  any_live marks (cons k ks) = live marks k || any_live marks ks

unfoldable pub live_count : List ℕ → Stmts → ℕ
live_count marks nil = 0
live_count marks (cons k ks) = cond (live marks k) (suc (live_count marks ks)) (live_count marks ks)

-- node i is not marked and counts n
abbrev pub plain : List ℕ → List ℕ → ℕ → ℕ → Bool
plain marks counts i n = eqb (get_or marks i 0) 0 && eqb (get_or counts i 0) n

unfoldable mutual
  pub tree_well_formed : List ℕ → List ℕ → Stmt → Bool
  tree_well_formed marks counts (leaf i) = leb (get_or marks i 0) 1 && eqb (get_or counts i 0) 0
  tree_well_formed marks counts (seq i ks) = plain marks counts i 0 && in_turn_well_formed marks counts ks
  tree_well_formed marks counts (par i ks) = plain marks counts i (live_count marks ks) && each_well_formed marks counts ks
  tree_well_formed marks counts (ife i e ys ns) =
      plain marks counts i 0 && in_turn_well_formed marks counts ys && in_turn_well_formed marks counts ns
      && not (any_live marks ys && any_live marks ns)
  tree_well_formed marks counts (whl i e ks) = plain marks counts i 0 && in_turn_well_formed marks counts ks

  -- children of which at most one is live
  pub in_turn_well_formed : List ℕ → List ℕ → Stmts → Bool
  in_turn_well_formed marks counts nil = true
  in_turn_well_formed marks counts (cons k ks) =
      tree_well_formed marks counts k && in_turn_well_formed marks counts ks && not (live marks k && any_live marks ks)

  -- children of which any may be live
  pub each_well_formed : List ℕ → List ℕ → Stmts → Bool
  each_well_formed marks counts nil = true
  each_well_formed marks counts (cons k ks) = tree_well_formed marks counts k && each_well_formed marks counts ks
