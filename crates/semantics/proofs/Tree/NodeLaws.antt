-- What question 3 says of a node, as facts, and what follows in a list whose every node is ok: each node above 0 has a
-- parent, a node that starts inside another ends inside it, and none ends past the list.
use mathlib.Core.Path.{◌≡◌, refl, sym, ap, subst}
use mathlib.Core.Bool.{true, cond}
use mathlib.Core.List.{List, [], ◌∷◌}
use mathlib.Core.Option.{Option, none, some}
use mathlib.Core.Logic.{inl, inr}
use Prim.Native.Nat.{ℕ, zero, suc, ◌%◌, ◌≤◌, ◌<◌}
use native.Mathlib.Nat.{le_refl, le_trans}
use native.Mathlib.Omega.{arith}
use lib.Dec.{eqb, leb}
use lib.ListN.{length, get_or-eq_default}
use borrow.Author.Tests.{eqb-true, leb-true}
use Rattle.semantics.specs.Program.{node_count, kind_at, parent_at, end_at, a_at, b_at, is_leaf}
use Rattle.semantics.specs.Parents.{parent_below, parent, depth, children}
use Rattle.semantics.specs.Check.{kind_ok, end_within, end_ok, parent_ok, children_ok, unused_ok, node_ok}
use Rattle.semantics.specs.Facts.{NodesOk}
use Rattle.semantics.proofs.Lists.Logic.{and_left, and_right, conjuncts, lt_or_le}
use Rattle.semantics.proofs.Lists.ParentLaws.{is_parent, parent_nearest}
use Rattle.semantics.proofs.Tree.Agreement.{Under, child_parent}

-- node i by its parent, if it has one
abbrev pub Placement : List ℕ → ℕ → Option ℕ → Type 0
Placement nodes i none = (i ≡ 0) × (end_at nodes i ≡ node_count nodes) × (parent_at nodes i ≡ 65535)
Placement nodes i (some h) = (end_at nodes i ≤ end_at nodes h) × (parent_at nodes i ≡ h)

pub record NodeFacts (nodes : List ℕ) (i : ℕ) : Type 0 where
  pub kind_known : kind_ok (kind_at nodes i) ≡ true
  pub end_after : i < end_at nodes i
  pub placement : Placement nodes i (parent nodes i)
  pub leaf_end : is_leaf (kind_at nodes i) ≡ true → end_at nodes i ≡ suc i
  pub depth_fits : depth nodes i ≤ 32
  pub children_fit : children_ok (kind_at nodes i) (length (children nodes i)) ≡ true
  pub unused_zero : unused_ok (kind_at nodes i) (a_at nodes i) (b_at nodes i) ≡ true

placement_of : (nodes : List ℕ) (i : ℕ) (p : Option ℕ) → end_within nodes i p ≡ true
    → parent_ok i (parent_at nodes i) p ≡ true → Placement nodes i p
unfolding end_within parent_ok
placement_of nodes i none e w =
    (eqb-true i 0 (and_left (eqb i 0) _ w), eqb-true _ _ e, eqb-true _ _ (and_right (eqb i 0) _ w))
placement_of nodes i (some h) e w = (leb-true _ _ e, eqb-true _ _ w)

pub node_facts : (nodes : List ℕ) (i : ℕ) → node_ok nodes i ≡ true → NodeFacts nodes i
unfolding node_ok end_ok
node_facts nodes i ok =
    let (known, (end, (word, (deep, (kids, (unused, _)))))) = conjuncts (kind_ok (kind_at nodes i))
    (end_ok nodes i ∷ parent_ok i (parent_at nodes i) (parent nodes i) ∷ leb (depth nodes i) 32
    ∷ children_ok (kind_at nodes i) (length (children nodes i))
    ∷ unused_ok (kind_at nodes i) (a_at nodes i) (b_at nodes i) ∷ []) ok in
    let (after, (within, (single, _))) = conjuncts (leb (suc i) (end_at nodes i))
    (end_within nodes i (parent nodes i) ∷ cond (is_leaf (kind_at nodes i)) (eqb (end_at nodes i) (suc i)) true ∷ []) end in
    record {
      kind_known = known;
      end_after = leb-true _ _ after;
      placement = placement_of nodes i (parent nodes i) within word;
      leaf_end = λ l. eqb-true _ _ (rw l at single);
      depth_fits = leb-true _ _ deep;
      children_fit = kids;
      unused_zero = unused;
    }

module _ (nodes : List ℕ) where
  pub root_parent : parent nodes 0 ≡ none
  unfolding parent_below
  root_parent = refl

  pub under_parent : (i h : ℕ) → parent nodes i ≡ some h → Under nodes h i
  under_parent i h e = let p = is_parent nodes i h e in (p.lower, p.nearest)

module _ (nodes : List ℕ) (ok : NodesOk nodes) where
  pub facts : (i : ℕ) → i < node_count nodes → NodeFacts nodes i
  facts i l = node_facts nodes i (ok i l)

  -- ---- parents
  pub root_end : 0 < node_count nodes → end_at nodes 0 ≡ node_count nodes
  unfolding parent_below
  root_end l = (facts 0 l).placement.1

  -- the parent word of a node above 0 is its parent
  pub parent_word : (i : ℕ) → 0 < i → i < node_count nodes → parent nodes i ≡ some (parent_at nodes i)
  parent_word i z l = pick (parent nodes i) (facts i l).placement
    where
      pick : (p : Option ℕ) → Placement nodes i p → p ≡ some (parent_at nodes i)
      pick none q = let e = q.0 in absurd (omega arith)
      pick (some h) q = ap some (sym q.1)

  pub end_within_lem : (i h : ℕ) → i < node_count nodes → parent nodes i ≡ some h → end_at nodes i ≤ end_at nodes h
  end_within_lem i h l e = (subst (λ (p : Option ℕ). Placement nodes i p) e (facts i l).placement).0

  -- ---- ends
  pub end_after : (i : ℕ) → i < node_count nodes → i < end_at nodes i
  end_after i l = (facts i l).end_after

  -- a node that starts inside another ends inside it
  nested : (n g i : ℕ) → i < n → g < i → i < node_count nodes → i < end_at nodes g → end_at nodes i ≤ end_at nodes g
  nested zero g i b z l c = absurd (omega arith)
  nested (suc n) g i b z l c =
      let h : ℕ = parent_at nodes i in
      let e = parent_word i (omega arith) l in
      let u = (is_parent nodes i h e).lower in
      let w = end_within_lem i h l e in
      let v = parent_nearest nodes i g h z c e in
      elim (lt_or_le g h) [
        | inl x ↦ le_trans w (nested n g h (omega arith) x (omega arith) (omega arith))
        | inr x ↦ let q : h ≡ g = omega arith in subst (λ (k : ℕ). end_at nodes i ≤ end_at nodes k) q w
      ]

  pub ends_nested : (g i : ℕ) → g < i → i < node_count nodes → i < end_at nodes g → end_at nodes i ≤ end_at nodes g
  ends_nested g i z l c = nested (suc i) g i (le_refl (suc i)) z l c

  -- no node ends past the list
  pub end_fits : (i : ℕ) → i < node_count nodes → end_at nodes i ≤ node_count nodes
  end_fits zero l = let e = root_end l in omega arith
  end_fits (suc i) l =
      let e = root_end (omega arith) in
      let z = ends_nested 0 (suc i) (omega arith) l (omega arith) in
      omega arith

  -- what stands past the nodes has no parent
  pub no_parent_past : length nodes % 5 ≡ 0 → (i : ℕ) → node_count nodes ≤ i → parent nodes i ≡ none
  no_parent_past whole i l = pick (parent nodes i) refl
    where
      pick : (p : Option ℕ) → parent nodes i ≡ p → p ≡ none
      pick none e = refl
      pick (some h) e =
          let c = (is_parent nodes i h e).covers in
          elim (lt_or_le h (node_count nodes)) [
            | inl v ↦ let f = end_fits h v in absurd (omega arith)
            | inr v ↦
                let past : end_at nodes h ≡ 0 = get_or-eq_default nodes 0 (omega arith) in
                absurd (omega arith)
          ]

  -- ---- the next child is where one ends
  pub under_end : (h i : ℕ) → i < node_count nodes → Under nodes h i → Under nodes h (end_at nodes i)
  under_end h i l u =
      let z = u.0 in
      let a = end_after i l in
      let f = end_fits i l in (
        omega arith,
        λ g x y. elim (lt_or_le g i) [
          | inl v ↦ let n = u.1 g x v in omega arith
          | inr v ↦ elim (lt_or_le i g) [
            | inl w ↦ ends_nested i g w (omega arith) y
            | inr w ↦ let q : i ≡ g = omega arith in subst (λ (k : ℕ). end_at nodes k ≤ end_at nodes i) q (le_refl _)
          ]
        ],
      )

  pub next_sibling : (i h : ℕ) → i < node_count nodes → parent nodes i ≡ some h → end_at nodes i < end_at nodes h
      → parent nodes (end_at nodes i) ≡ some h
  next_sibling i h l e n = child_parent nodes h (end_at nodes i) (under_end h i l (under_parent nodes i h e)) n
