-- The children of a node one after the other, in a list whose every node is ok: a child that starts below the node's
-- end is a node, and the next one stands where it ends, which is past it and at most where the node ends.
use mathlib.Core.List.{List}
use Prim.Native.Nat.{ℕ, ◌≤◌, ◌<◌}
use native.Mathlib.Omega.{arith}
use Rattle.semantics.specs.Program.{node_count, end_at}
use Rattle.semantics.specs.Facts.{NodesOk}
use Rattle.semantics.proofs.Tree.NodeLaws.{end_after, end_fits, ends_nested}

pub record Sibling (nodes : List ℕ) (h j : ℕ) : Type 0 where
  pub is_node : j < node_count nodes
  pub later : j < end_at nodes j
  pub within : end_at nodes j ≤ end_at nodes h

pub sibling : (nodes : List ℕ) → NodesOk nodes → (h j : ℕ) → h < node_count nodes → h < j → j < end_at nodes h
    → Sibling nodes h j
sibling nodes ok h j l a b =
    let f = end_fits nodes ok h l in
    let n : j < node_count nodes = omega arith in
    record { is_node = n; later = end_after nodes ok j n; within = ends_nested nodes ok h j a n b }
