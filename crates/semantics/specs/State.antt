-- The state, from the section "State and book": the three lists, and questions 5 and 6 of them.
use Rattle.std.specs.Prelude.{Bool, false, cond, ◌&&◌, ◌||◌, List, [], ◌∷◌, ℕ, eqb, ltb, leb, length, get_or}
use Rattle.semantics.specs.Numbers.{below, every, any, filter, member}
use Rattle.semantics.specs.Program.{Program, node_count, kind_at, end_at, is_leaf, is_par}
use Rattle.semantics.specs.Parents.{ancestors, is_child}
use Rattle.semantics.specs.Widths.{values_in_range}

-- A value for each variable; a mark for each node, 1 where it is active; a thread count for each node.
pub record State : Type 0 where
  pub values : List ℕ
  pub marks : List ℕ
  pub counts : List ℕ

abbrev pub marked : List ℕ → ℕ → Bool
marked marks i = eqb (get_or marks i 0) 1

-- The active statements, in the order of the node list.
abbrev pub active : List ℕ → List ℕ
active marks = filter (marked marks) (below (length marks))

-- m, how many nodes are marked
abbrev pub mark_count : List ℕ → ℕ
mark_count marks = length (active marks)

-- A state has ended where no node is marked.
abbrev pub ended : State → Bool
ended s = eqb (mark_count s.marks) 0

-- ---- question 5: the lengths are V, N and N
unfoldable pub lengths_ok : Program → State → Bool
lengths_ok P s =
    eqb (length s.values) P.variables && eqb (length s.marks) (node_count P.nodes)
    && eqb (length s.counts) (node_count P.nodes)

-- ---- question 6: the state is well formed. Of marks and counts it asks four things, and of the values that they are
-- in range.

-- First, no mark is above 1.
unfoldable pub marks_are_bits : List ℕ → Bool
marks_are_bits marks = every (λ m. leb m 1) marks

-- Second, every marked node is a leaf.
unfoldable pub leaves_marked : List ℕ → List ℕ → Bool
leaves_marked nodes marks = every (λ i. is_leaf (kind_at nodes i)) (active marks)

-- Third, of any two marked leaves the nearest node above both is a PAR.
abbrev pub common_ancestors : List ℕ → ℕ → ℕ → List ℕ
common_ancestors nodes i j = filter (λ h. member h (ancestors nodes j)) (ancestors nodes i)

abbrev pub first_is_par : List ℕ → List ℕ → Bool
first_is_par nodes [] = false
first_is_par nodes (h ∷ hs) = is_par (kind_at nodes h)

unfoldable pub pairs_meet_in_par : List ℕ → List ℕ → Bool
pairs_meet_in_par nodes marks =
    every (λ i. every (λ j. eqb i j || first_is_par nodes (common_ancestors nodes i j)) (active marks)) (active marks)

-- Fourth, a PAR's count is the number of its children that are marked or have a mark below them, and any other node's
-- count is 0.
unfoldable pub holds_mark : List ℕ → List ℕ → ℕ → Bool
holds_mark nodes marks k = any (λ j. leb k j && ltb j (end_at nodes k)) (active marks)

unfoldable pub live_children : List ℕ → List ℕ → ℕ → ℕ
live_children nodes marks h =
    length (filter (λ k. is_child nodes h k && holds_mark nodes marks k) (below (node_count nodes)))

unfoldable pub counts_right : List ℕ → List ℕ → List ℕ → Bool
counts_right nodes marks counts =
    every (λ i. eqb (get_or counts i 0) (cond (is_par (kind_at nodes i)) (live_children nodes marks i) 0))
    (below (node_count nodes))

unfoldable pub control_formed : List ℕ → List ℕ → List ℕ → Bool
control_formed nodes marks counts =
    marks_are_bits marks && leaves_marked nodes marks && pairs_meet_in_par nodes marks && counts_right nodes marks counts

unfoldable pub well_formed : Program → State → Bool
well_formed P s = values_in_range P.widths s.values && control_formed P.nodes s.marks s.counts
