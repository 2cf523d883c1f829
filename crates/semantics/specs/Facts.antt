-- No rules: what the questions before the first cycle say when they are answered yes, as facts, and what a first fault
-- is. Contracts of the code below the calls ask and give these; the theorem `first_fault` is said with the last, and
-- `read_then_write` with the parts at the start of buffers.
use Rattle.std.specs.Prelude.{◌≡◌, Bool, true, false, ◌&&◌, List, ℕ, ◌-◌, ◌*◌, ◌%◌, ◌≤◌, ◌<◌, eqb, leb, length, get_or, take}
use Rattle.semantics.specs.Numbers.{up_from, filter}
use Rattle.semantics.specs.Program.{Program, Kind, expr_count, node_count, kind_at}
use Rattle.semantics.specs.Program.Kind.{SEQ, PAR, IF, WHL, LEAF, UNKNOWN}
use Rattle.semantics.specs.Parents.{is_child}
use Rattle.semantics.specs.Widths.{width_at, width_ok}
use Rattle.semantics.specs.Check.{expr_ok, node_ok, references_ok}
use Rattle.semantics.specs.State.{State, lengths_ok, well_formed, holds_mark, live_children}
use Rattle.semantics.specs.File.{Sizes, Parts}

-- ---- an accepted program

-- question 1
pub record Sized (P : Program) : Type 0 where
  pub whole_exprs : length P.exprs % 3 ≡ 0
  pub whole_nodes : length P.nodes % 5 ≡ 0
  pub some_node : 1 ≤ node_count P.nodes
  pub nodes_fit : node_count P.nodes ≤ 1024
  pub exprs_fit : expr_count P.exprs ≤ 1024
  pub variables_fit : P.variables ≤ 256
  pub channels_fit : P.channels ≤ 256

-- question 3
abbrev pub NodesOk : List ℕ → Type 0
NodesOk nodes = (i : ℕ) → i < node_count nodes → node_ok nodes i ≡ true

-- question 11
pub record WidthsFit (P : Program) : Type 0 where
  pub as_many : length P.widths ≡ P.variables
  pub each : (v : ℕ) → v < P.variables → width_ok (width_at P.widths v) ≡ true

-- questions 1 to 4, and 11
pub record Accepted (P : Program) : Type 0 where
  pub sizes : Sized P
  pub exprs_ok : (i : ℕ) → i < expr_count P.exprs → expr_ok P i ≡ true
  pub nodes_ok : NodesOk P.nodes
  pub ranges_ok : (i : ℕ) → i < node_count P.nodes → references_ok P i ≡ true
  pub widths_fit : WidthsFit P

-- ---- a program that is not accepted

-- index i is the lowest below n that fails a test
pub record IsLowestFault (ok : ℕ → Bool) (n i : ℕ) : Type 0 where
  pub within : i < n
  pub fails : ok i ≡ false
  pub lower_pass : (j : ℕ) → j < i → ok j ≡ true

-- ---- a state that a cycle starts from

-- question 5
pub record LengthsFit (P : Program) (s : State) : Type 0 where
  pub values : length s.values ≡ P.variables
  pub marks : length s.marks ≡ node_count P.nodes
  pub counts : length s.counts ≡ node_count P.nodes

-- questions 5 and 6
pub record Ready (P : Program) (s : State) : Type 0 where
  pub fit : lengths_ok P s ≡ true
  pub formed : well_formed P s ≡ true

-- ---- question 6 node by node

-- what it asks of a node of a kind with a mark, a count and a number of live children
unfoldable pub node_well_formed : Kind → ℕ → ℕ → ℕ → Bool
node_well_formed SEQ mark count live = eqb mark 0 && eqb count 0 && leb live 1
node_well_formed PAR mark count live = eqb mark 0 && eqb count live
node_well_formed IF mark count live = eqb mark 0 && eqb count 0 && leb live 1
node_well_formed WHL mark count live = eqb mark 0 && eqb count 0 && leb live 1
node_well_formed (LEAF l) mark count live = leb mark 1 && eqb count 0
node_well_formed UNKNOWN mark count live = false

abbrev pub locally_ok : List ℕ → List ℕ → List ℕ → ℕ → Bool
locally_ok nodes marks counts i =
    node_well_formed (kind_at nodes i) (get_or marks i 0) (get_or counts i 0) (live_children nodes marks i)

module _ (nodes marks : List ℕ) where
  -- node j is a child of h with a mark at or below it
  abbrev pub live_child : ℕ → ℕ → Bool
  live_child h j = is_child nodes h j && holds_mark nodes marks j

  -- the number of live children of h from node i on
  abbrev pub live_from : ℕ → ℕ → ℕ
  live_from i h = length (filter (live_child h) (up_from (node_count nodes - i) i))

-- ---- papers as files

-- the parts at the start of buffers, by the sizes
abbrev pub first_parts : Sizes → Parts → Parts
first_parts c buffers = record {
  exprs = take (3 * c.exprs) buffers.exprs;
  nodes = take (5 * c.nodes) buffers.nodes;
  values = take c.variables buffers.values;
  widths = take c.variables buffers.widths;
}
