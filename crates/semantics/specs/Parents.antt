-- Parent, children and depth of a node ("Program lists"), for any node list, also one that question 3 refuses.
use Rattle.std.specs.Prelude.{Bool, false, cond, List, [], ◌∷◌, ℕ, zero, suc, eqb, ltb, length}
use Rattle.std.proofs.Math.Option.{Option, none, some}
use Rattle.semantics.specs.Numbers.{below, filter}
use Rattle.semantics.specs.Program.{node_count, end_at}

-- The greatest node h below n whose end is above i.
unfoldable pub parent_below : List ℕ → ℕ → ℕ → Option ℕ
parent_below nodes i zero = none
parent_below nodes i (suc h) = let lower = parent_below nodes i h in cond (ltb i (end_at nodes h)) (some h) lower

-- The parent: the nearest earlier node that has not ended at i.
abbrev pub parent : List ℕ → ℕ → Option ℕ
parent nodes i = parent_below nodes i i

-- The greatest h below n whose end is above i, then those above h.
unfoldable pub ancestors_below : List ℕ → ℕ → ℕ → List ℕ
ancestors_below nodes i zero = []
ancestors_below nodes i (suc h) =
    let found = h ∷ ancestors_below nodes h h in
    let lower = ancestors_below nodes i h in
    cond (ltb i (end_at nodes h)) found lower

-- All above node i, nearest first: its parent, the parent of that, and so on.
abbrev pub ancestors : List ℕ → ℕ → List ℕ
ancestors nodes i = ancestors_below nodes i i

-- The depth of a node without a parent is 1, of any other one more than its parent's.
abbrev pub depth : List ℕ → ℕ → ℕ
depth nodes i = suc (length (ancestors nodes i))

abbrev pub is_node : ℕ → Option ℕ → Bool
is_node h none = false
is_node h (some g) = eqb g h

-- Node j has h as its parent.
abbrev pub is_child : List ℕ → ℕ → ℕ → Bool
is_child nodes h j = is_node h (parent nodes j)

abbrev pub children : List ℕ → ℕ → List ℕ
children nodes h = filter (is_child nodes h) (below (node_count nodes))
