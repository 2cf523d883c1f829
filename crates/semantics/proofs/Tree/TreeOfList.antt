-- The tree of an accepted program has exactly its nodes, each with the kind and the end that its record says. The
-- proof goes through the list right to left: the statements from a node on stand where their nodes do, up to the
-- list's end.
use mathlib.Core.Path.{◌≡◌, refl, sym, ap, ◌∙◌, subst}
use mathlib.Core.Bool.{true, true≢false}
use mathlib.Core.List.{List}
use mathlib.Core.Logic.{inl, inr}
use Prim.Native.Nat.{ℕ, zero, suc, ◌+◌, ◌-◌, ◌≤◌, ◌<◌}
use native.Mathlib.Omega.{arith}
use borrow.Author.Tests.{lt-ltb, le-ltb}
use Rattle.semantics.specs.Program.{Program, Kind, node_count, kind_at, end_at, a_at, is_leaf}
use Rattle.semantics.specs.Program.Kind.{SEQ, PAR, IF, WHL, LEAF, UNKNOWN}
use Rattle.semantics.specs.Check.{kind_ok, check_number}
use Rattle.semantics.specs.Tree.{Stmt, Stmts, start, start_below, start_from, first, others, statement_at}
use Rattle.semantics.specs.Tree.{statement_of, forest, statements, root, tree_of}
use Rattle.semantics.specs.Tree.Stmt.{leaf, seq, par, ife, whl}
use Rattle.semantics.specs.Tree.Stmts.{nil, cons}
use Rattle.semantics.specs.Facts.{NodesOk}
use Rattle.semantics.proofs.Lists.Logic.{lt_or_le}
use Rattle.semantics.proofs.Tree.Positions.{end_of, ends_of, Placed, PlacedIn}
use Rattle.semantics.proofs.Tree.Agreement.{Agrees, AgreesIn, Under, under_first}
use Rattle.semantics.proofs.Lists.QuestionLaws.{accepted}
use Rattle.semantics.proofs.Tree.NodeLaws.{facts, root_end, end_fits, ends_nested, under_end}

pub start_placed : (k : Stmt) (lo : ℕ) → Placed k lo → start k ≡ lo
start_placed (leaf i) lo p = p
start_placed (seq i ks) lo p = p.0
start_placed (par i ks) lo p = p.0
start_placed (ife i e ys ns) lo p = p.0
start_placed (whl i e ks) lo p = p.0

module _ (nodes : List ℕ) where
  -- a statement has exactly the nodes from lo up to hi, each as its record says
  pub record Stands (t : Stmt) (lo hi : ℕ) : Type 0 where
    pub placed : Placed t lo
    pub ends : end_of t lo ≡ hi
    pub agrees : Agrees nodes t lo

  pub record StandIn (ks : Stmts) (lo hi : ℕ) : Type 0 where
    pub placed : PlacedIn ks lo
    pub ends : ends_of ks lo ≡ hi
    pub agrees : AgreesIn nodes ks lo

  stand_cons : (k : Stmt) (ks : Stmts) (lo mid hi : ℕ) → Stands k lo mid → StandIn ks mid hi → StandIn (cons k ks) lo hi
  unfolding end_of
  stand_cons k ks lo mid hi s r =
      record {
        placed = (s.placed, rw s.ends r.placed);
        ends = rw s.ends r.ends;
        agrees = (s.agrees, rw s.ends r.agrees);
      }

  -- a node's statement stands where its children do
  if_stands : (i a e : ℕ) (ks : Stmts) → kind_at nodes i ≡ IF → end_at nodes i ≡ e → StandIn ks (suc i) e
      → Stands (ife i a (first ks) (others ks)) i e
  unfolding end_of
  if_stands i a e nil k q s =
      record { placed = (refl, tt, tt); ends = s.ends; agrees = (q ∙ sym s.ends, k, tt, tt) }
  if_stands i a e (cons x xs) k q s =
      record {
        placed = (refl, (s.placed.0, tt), s.placed.1);
        ends = s.ends;
        agrees = (q ∙ sym s.ends, k, (s.agrees.0, tt), s.agrees.1);
      }

  statement_stands : (k : Kind) (i a e : ℕ) (ks : Stmts) → kind_ok k ≡ true → kind_at nodes i ≡ k → end_at nodes i ≡ e
      → (is_leaf k ≡ true → e ≡ suc i) → StandIn ks (suc i) e → Stands (statement_of k i a ks) i e
  unfolding end_of kind_ok
  statement_stands SEQ i a e ks o k q l s =
      record { placed = (refl, s.placed); ends = s.ends; agrees = (q ∙ sym s.ends, k, s.agrees) }
  statement_stands PAR i a e ks o k q l s =
      record { placed = (refl, s.placed); ends = s.ends; agrees = (q ∙ sym s.ends, k, s.agrees) }
  statement_stands WHL i a e ks o k q l s =
      record { placed = (refl, s.placed); ends = s.ends; agrees = (q ∙ sym s.ends, k, s.agrees) }
  statement_stands IF i a e ks o k q l s = if_stands i a e ks k q s
  statement_stands (LEAF x) i a e ks o k q l s =
      record { placed = refl; ends = sym (l refl); agrees = (q ∙ l refl, ap is_leaf k) }
  statement_stands UNKNOWN i a e ks o k q l s = absurd (true≢false (sym o))

  -- the statements from node i to the end of the list
  abbrev pub from : ℕ → Stmts
  from i = forest nodes (node_count nodes - i) i

  -- f is the statements from lo on, and they stand there
  abbrev Rest : Stmts → ℕ → Type 0
  Rest nil lo = lo ≡ node_count nodes
  Rest (cons k ks) lo =
      (lo < node_count nodes) × (cons k ks ≡ from lo) × Stands k lo (end_at nodes lo) × Rest ks (end_at nodes lo)

  -- node i before the statements f that start after it
  abbrev node_before : ℕ → Stmts → Stmt
  node_before i f = statement_of (kind_at nodes i) i (a_at nodes i) (start_below (end_at nodes i) f)

  -- those that start before `end` stand up to it, and the others are the rest
  abbrev Cut : ℕ → Stmts → ℕ → Type 0
  Cut end f lo = StandIn (start_below end f) lo end × Rest (start_from end f) end

  rest_from : (f : Stmts) (lo : ℕ) → Rest f lo → f ≡ from lo
  unfolding forest
  rest_from nil lo r = let e : 0 ≡ node_count nodes - lo = omega arith in ap (λ (n : ℕ). forest nodes n lo) e
  rest_from (cons k ks) lo r = r.1

  module _ (ok : NodesOk nodes) where
    -- the statements from lo on, below node h, are cut at its end
    cut : (h : ℕ) (f : Stmts) (lo : ℕ) → h < node_count nodes → Under nodes h lo → lo ≤ end_at nodes h → Rest f lo
        → Cut (end_at nodes h) f lo
    unfolding start_below start_from end_of
    cut h nil lo n u l r =
        let e = end_fits nodes ok h n in
        (record { placed = tt; ends = omega arith; agrees = tt }, omega arith)
    cut h (cons k ks) lo n u l r =
        elim (lt_or_le lo (end_at nodes h)) [
          | inl v ↦ inside v (λ w. cut h ks (end_at nodes lo) n (under_end nodes ok h lo r.0 u) w r.3)
          | inr v ↦ past v
        ]
      where
        s : start k ≡ lo
        s = start_placed k lo r.2.placed

        inside : lo < end_at nodes h → (end_at nodes lo ≤ end_at nodes h → Cut (end_at nodes h) ks (end_at nodes lo))
            → Cut (end_at nodes h) (cons k ks) lo
        inside v rec =
            let z = rec (ends_nested nodes ok h lo u.0 r.0 v) in
            rw (lt-ltb (start k) (end_at nodes h) (omega (arith, s))) (stand_cons k _ lo _ _ r.2 z.0, z.1)

        past : end_at nodes h ≤ lo → Cut (end_at nodes h) (cons k ks) lo
        past v =
            let q : lo ≡ end_at nodes h = omega arith in
            rw (le-ltb (start k) (end_at nodes h) (omega (arith, s)))
            (record { placed = tt; ends = q; agrees = tt }, subst (λ (x : ℕ). Rest (cons k ks) x) q r)

    record Added (i : ℕ) (f : Stmts) : Type 0 where
      stands : Stands (node_before i f) i (end_at nodes i)
      rest : Rest (start_from (end_at nodes i) f) (end_at nodes i)

    added : (i : ℕ) (f : Stmts) → i < node_count nodes → Rest f (suc i) → Added i f
    added i f l r =
        let n = facts nodes ok i l in
        let c = cut i f (suc i) l (under_first nodes i) n.end_after r in
        record {
          stands = statement_stands _ i (a_at nodes i) _ _ n.kind_known refl refl n.leaf_end c.0;
          rest = c.1;
        }

    forest_rest : (n i : ℕ) → i + n ≡ node_count nodes → Rest (forest nodes n i) i
    unfolding forest
    forest_rest zero i h = omega arith
    forest_rest (suc n) i h =
        let a = added i (forest nodes n (suc i)) (omega arith) (forest_rest n (suc i) (omega arith)) in
        let e : suc n ≡ node_count nodes - i = omega arith in
        (omega arith, ap (λ (m : ℕ). forest nodes m i) e, a.stands, a.rest)

    from_rest : (i : ℕ) → i ≤ node_count nodes → Rest (from i) i
    from_rest i l = forest_rest (node_count nodes - i) i (omega arith)

    added_at : (i : ℕ) → i < node_count nodes → Added i (from (suc i))
    added_at i l = added i (from (suc i)) l (from_rest (suc i) l)

    -- the statement of each node has the nodes up to its end
    pub statement_at_lem : (i : ℕ) → i < node_count nodes → Stands (statement_at nodes i) i (end_at nodes i)
    unfolding statement_at statements
    statement_at_lem i l = (added_at i l).stands

    -- from a node on: its statement, and those from its end on
    pub from_at : (i : ℕ) → i < node_count nodes → from i ≡ cons (statement_at nodes i) (from (end_at nodes i))
    unfolding forest statement_at statements
    from_at i l =
        let a = added_at i l in
        let e : node_count nodes - i ≡ suc (node_count nodes - suc i) = omega arith in
        let others : Stmts = start_from (end_at nodes i) (from (suc i)) in
        ap (λ (n : ℕ). forest nodes n i) e ∙ ap (cons (statement_at nodes i)) (rest_from others _ a.rest)

    pub tree_at : 0 < node_count nodes → tree_of nodes ≡ statement_at nodes 0
    unfolding tree_of
    tree_at l =
        let e : node_count nodes ≡ node_count nodes - 0 = omega arith in
        ap (λ (n : ℕ). root (forest nodes n 0)) e ∙ ap root (from_at 0 l)

    pub tree_stands : 0 < node_count nodes → Stands (tree_of nodes) 0 (node_count nodes)
    tree_stands l = rw (tree_at l, ← root_end nodes ok l) (statement_at_lem 0 l)

-- the tree of an accepted program has its N nodes, each as its record says
pub accepted_tree : (P : Program) → check_number P ≡ 0 → Stands P.nodes (tree_of P.nodes) 0 (node_count P.nodes)
accepted_tree P h = let a = accepted P h in tree_stands P.nodes a.nodes_ok a.sizes.some_node
