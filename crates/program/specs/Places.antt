-- The places of nodes, by which question 3 is asked.
use Rattle.std.specs.Prelude.{◌≡◌, cond, eqb, ℕ, ◌<◌, ◌≤◌, List, length, slice_index_or, Option, Some, None}
use Rattle.std.proofs.Math.Option.{Option as Maybe, none, some}
use Rattle.semantics.specs.Numbers.{below, filter}
use Rattle.semantics.specs.Parents.{parent, depth, is_child}
use Rattle.program.specs.declared.tree.Place.{Place}

-- A parent, there or not, as the rules have it.
abbrev pub parent_in : Option ℕ → Maybe ℕ
parent_in None = none
parent_in (Some h) = some h

-- A parent that is kept as a word, 65,535 for none.
abbrev pub parent_of_word : ℕ → Maybe ℕ
parent_of_word word = cond (eqb word 65535) none (some word)

-- Where node i of a list stands, where its children are counted among the nodes below n.
pub record IsPlace (nodes : List ℕ) (n i : ℕ) (place : Place) : Type 0 where
  pub right_parent : parent_of_word place.parent ≡ parent nodes i
  pub right_depth : place.depth ≡ depth nodes i
  pub right_children : place.child_count ≡ length (filter (is_child nodes i) (below n))

-- The places of the nodes below n.
pub record Places (nodes : List ℕ) (n : ℕ) (places : List Place) : Type 0 where
  pub size : length places ≡ 1024
  pub fits : n ≤ 1024
  pub right : (i : ℕ) (d : Place) → i < n → IsPlace nodes n i (slice_index_or places i d)
