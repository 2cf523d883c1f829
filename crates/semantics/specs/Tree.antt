-- The statement tree of a node list ("Program lists"), built right to left: the nodes below a node are those that
-- follow it up to its end.
use Rattle.std.specs.Prelude.{cond, List, ℕ, zero, suc, ◌-◌, ltb}
use Rattle.semantics.specs.Program.{Kind, node_count, kind_at, end_at, a_at}
use Rattle.semantics.specs.Program.Kind.{SEQ, PAR, IF, WHL, LEAF, UNKNOWN}

-- A statement with its node number, its condition and its children. An IF has its first child apart from the second.
mutual
  pub data Stmt : Type 0 where
    leaf : ℕ → Stmt
    seq : ℕ → Stmts → Stmt
    par : ℕ → Stmts → Stmt
    ife : ℕ → ℕ → Stmts → Stmts → Stmt
    whl : ℕ → ℕ → Stmts → Stmt

  pub data Stmts : Type 0 where
    nil : Stmts
    cons : Stmt → Stmts → Stmts

abbrev pub start : Stmt → ℕ
start (leaf i) = i
start (seq i ks) = i
start (par i ks) = i
start (ife i e ys ns) = i
start (whl i e ks) = i

-- The statements at the front that start below node number `end`; the others.
unfoldable pub start_below : ℕ → Stmts → Stmts
start_below end nil = nil
start_below end (cons k ks) = let rest = start_below end ks in cond (ltb (start k) end) (cons k rest) nil

unfoldable pub start_from : ℕ → Stmts → Stmts
start_from end nil = nil
start_from end (cons k ks) = let rest = start_from end ks in cond (ltb (start k) end) rest (cons k ks)

-- The first statement alone; those after it.
abbrev pub first : Stmts → Stmts
first nil = nil
first (cons k ks) = cons k nil

abbrev pub others : Stmts → Stmts
others nil = nil
others (cons k ks) = ks

-- Node i of a kind, with condition a and children ks. A leaf has no child, and an unknown kind has no statement:
-- question 3 refuses it.
abbrev pub statement_of : Kind → ℕ → ℕ → Stmts → Stmt
statement_of SEQ i a ks = seq i ks
statement_of PAR i a ks = par i ks
statement_of IF i a ks = ife i a (first ks) (others ks)
statement_of WHL i a ks = whl i a ks
statement_of (LEAF l) i a ks = leaf i
statement_of UNKNOWN i a ks = leaf i

-- The statements of the n nodes from i on. Node i has for its children those after it that start below its end.
unfoldable pub forest : List ℕ → ℕ → ℕ → Stmts
forest nodes zero i = nil
forest nodes (suc n) i =
    let after = forest nodes n (suc i) in
    cons (statement_of (kind_at nodes i) i (a_at nodes i) (start_below (end_at nodes i) after))
    (start_from (end_at nodes i) after)

-- The statements from node i up to an end.
unfoldable pub statements : List ℕ → ℕ → ℕ → Stmts
statements nodes i end = start_below end (forest nodes (node_count nodes - i) i)

-- The children of node h from node j on: all of them from the node after h, the rest of them from where a child ends.
abbrev pub children_from : List ℕ → ℕ → ℕ → Stmts
children_from nodes j h = statements nodes j (end_at nodes h)

-- The statement of node i.
unfoldable pub statement_at : List ℕ → ℕ → Stmt
statement_at nodes i = statement_of (kind_at nodes i) i (a_at nodes i) (children_from nodes (suc i) i)

-- An empty list has no node 0: question 1 refuses it.
abbrev pub root : Stmts → Stmt
root nil = leaf 0
root (cons k ks) = k

-- The statement of node 0.
unfoldable pub tree_of : List ℕ → Stmt
tree_of nodes = root (forest nodes (node_count nodes) 0)
