-- What question 6 asks of marks and counts, as the code answers it: one pass over the nodes, with a table of how many
-- children of each node are live, that is, have a marked leaf at or below them.
use Rattle.std.specs.Prelude.{◌≡◌, Bool, cond, ◌&&◌, List, ℕ, ◌+◌, ◌<◌, ltb, length, get_or, set}
use Rattle.semantics.specs.Program.{Program, node_count, is_par, kind_at, parent_at}
use Rattle.semantics.specs.State.{live_children}
use Rattle.semantics.specs.Facts.{Accepted, live_from}

-- Marks and counts have one element for each node of an accepted program.
pub record ListsFit (P : Program) (marks counts : List ℕ) : Type 0 where
  pub accepted : Accepted P
  pub marks_fit : length marks ≡ node_count P.nodes
  pub counts_fit : length counts ≡ node_count P.nodes

-- The table with node i added to its parent's number, where it holds a mark. Node 0 has no parent.
abbrev pub added_to_parent : List ℕ → ℕ → Bool → List ℕ → List ℕ
added_to_parent nodes i holds live =
    cond (holds && ltb 0 i) (set live (parent_at nodes i) (get_or live (parent_at nodes i) 0 + 1)) live

-- The parent of a node i above 0 has its place in the table, and room there for one more.
pub record ParentFits (nodes : List ℕ) (i : ℕ) (live : List ℕ) : Type 0 where
  pub within : i < node_count nodes
  pub inside : 0 < i → parent_at nodes i < length live
  pub room : 0 < i → get_or live (parent_at nodes i) 0 < 65535

-- The table when the nodes from i on are added: the number of live children of each node h among them.
pub record LiveTable (nodes marks : List ℕ) (i : ℕ) (live : List ℕ) : Type 0 where
  pub size : length live ≡ 1024
  pub entries : (h : ℕ) → h < node_count nodes → get_or live h 0 ≡ live_from nodes marks i h

-- The count of node i that the marks give: of a PAR the number of its live children.
abbrev pub count_from : List ℕ → List ℕ → ℕ → ℕ
count_from nodes marks i = cond (is_par (kind_at nodes i)) (live_children nodes marks i) 0
