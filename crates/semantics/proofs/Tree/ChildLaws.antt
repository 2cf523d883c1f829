-- The number of a node's children, in a list whose every node is ok, is the number of statements below the node. So a
-- node that is no leaf has a first child one past it, a WHL has no other, and an IF has at most one more.
use mathlib.Core.Path.{◌≡◌, refl, sym, ap, ◌∙◌}
use mathlib.Core.Bool.{true, false, true≢false}
use mathlib.Core.List.{List}
use mathlib.Core.Option.{Option, none, some}
use mathlib.Core.Logic.{inl, inr}
use Prim.Native.Nat.{ℕ, suc, ◌+◌, ◌-◌, ◌≤◌, ◌<◌}
use native.Mathlib.Nat.{le_refl}
use native.Mathlib.Omega.{arith}
use lib.Dec.{leb}
use lib.ListN.{length}
use borrow.Author.Tests.{eqb-true, eq-eqb, ne_eqb, leb-true}
use Rattle.semantics.specs.Program.{Kind, node_count, kind_at, end_at, is_leaf}
use Rattle.semantics.specs.Program.Kind.{SEQ, PAR, IF, WHL, LEAF, UNKNOWN}
use Rattle.semantics.specs.Parents.{parent, is_node, is_child, children}
use Rattle.semantics.specs.Check.{children_ok}
use Rattle.semantics.specs.Tree.{Stmts, statements}
use Rattle.semantics.specs.Tree.Stmts.{nil, cons}
use Rattle.semantics.specs.Walk.{child_count}
use Rattle.semantics.specs.Facts.{NodesOk}
use Rattle.semantics.proofs.Lists.Logic.{and_left, and_right, lt_or_le}
use Rattle.semantics.proofs.Lists.NumberLaws.{count, count_suc, count_add, count_none}
use Rattle.semantics.proofs.Lists.ParentLaws.{is_parent, parent_nearest}
use Rattle.semantics.proofs.Tree.Agreement.{Under, under_first, child_parent}
use Rattle.semantics.proofs.Tree.NodeLaws.{facts, end_after, end_fits, ends_nested, under_end}
use Rattle.semantics.proofs.Tree.StatementLaws.{statements_first, child_count-none, child_count-more}

pub is_child_lem : (nodes : List ℕ) (h j : ℕ) → parent nodes j ≡ some h → is_child nodes h j ≡ true
is_child_lem nodes h j e = ap (is_node h) e ∙ eq-eqb h h refl

not_node : (h : ℕ) (p : Option ℕ) → (p ≡ some h → ⊥) → is_node h p ≡ false
not_node h none f = refl
not_node h (some k) f = ne_eqb k h (λ e. f (ap some e))

no_children : (nodes : List ℕ) (h n j : ℕ) → ((i : ℕ) → j ≤ i → i < j + n → parent nodes i ≡ some h → ⊥)
    → count (is_child nodes h) n j ≡ 0
no_children nodes h n j f = count_none (is_child nodes h) n j (λ i x y. not_node h (parent nodes i) (f i x y))

some_children : (k : Kind) (n : ℕ) → is_leaf k ≡ false → children_ok k n ≡ true → 1 ≤ n
unfolding children_ok
some_children SEQ n l h = leb-true 1 n h
some_children PAR n l h = let z = leb-true 2 n h in omega arith
some_children IF n l h = leb-true 1 n (and_left (leb 1 n) (leb n 2) h)
some_children WHL n l h = let z = eqb-true n 1 h in omega arith
some_children (LEAF x) n l h = absurd (true≢false l)
some_children UNKNOWN n l h = absurd (true≢false (sym h))

module _ (nodes : List ℕ) (ok : NodesOk nodes) where
  -- where no statement is left, the end is reached
  none_left : (j end : ℕ) → end ≤ node_count nodes → child_count (statements nodes j end) ≡ 0 → end ≤ j
  none_left j end l z =
      elim (lt_or_le j end) [
        | inl v ↦ absurd (omega (arith, child_count-more nodes ok j end v (omega arith)))
        | inr v ↦ v
      ]

  -- the children of h from j up to its end
  count_children : (h : ℕ) (ks : Stmts) (j n : ℕ) → h < node_count nodes → ks ≡ statements nodes j (end_at nodes h)
      → Under nodes h j → j + n ≡ end_at nodes h → count (is_child nodes h) n j ≡ child_count ks
  count_children h nil j n l s u e =
      let d = none_left j (end_at nodes h) (end_fits nodes ok h l) (sym (ap child_count s)) in
      no_children nodes h n j (λ i x y. absurd (omega arith))
  count_children h (cons k ks) j n l s u e =
      let z = u.0 in
      let f = end_fits nodes ok h l in
      let (v, _, others) = statements_first nodes ok k ks j (end_at nodes h) f s in
      let a = end_after nodes ok j (omega arith) in
      let b = ends_nested nodes ok h j z (omega arith) v in
      let m : ℕ = end_at nodes j - suc j in
      let r : ℕ = end_at nodes h - end_at nodes j in
      let parts : n ≡ suc m + r = omega arith in
      let next : j + suc m ≡ end_at nodes j = omega arith in
      let here = is_child_lem nodes h j (child_parent nodes h j u v) in
      let under = under_end nodes ok h j (omega arith) u in
      let inside = no_children nodes h m (suc j)
      (λ i x y p. omega (arith, parent_nearest nodes i j h x (omega arith) p)) in
      let later = count_children h ks (end_at nodes j) r l others under (omega arith) in
      ap (λ (x : ℕ). count (is_child nodes h) x j) parts ∙ count_add (is_child nodes h) (suc m) r j
      ∙ rw (count_suc, here, inside, next, later) (omega arith)

  -- all children of h
  pub children_count : (h : ℕ) → h < node_count nodes
      → length (children nodes h) ≡ child_count (statements nodes (suc h) (end_at nodes h))
  children_count h l =
      let a = end_after nodes ok h l in
      let f = end_fits nodes ok h l in
      let m : ℕ = end_at nodes h - suc h in
      let r : ℕ = node_count nodes - end_at nodes h in
      let parts : node_count nodes ≡ suc h + (m + r) = omega arith in
      let start : 0 + suc h ≡ suc h = omega arith in
      let next : suc h + m ≡ end_at nodes h = omega arith in
      let before = no_children nodes h (suc h) 0 (λ i x y p. omega (arith, (is_parent nodes i h p).lower)) in
      let below : Stmts = statements nodes (suc h) (end_at nodes h) in
      let inside = count_children h below (suc h) m l refl (under_first nodes h) next in
      let after = no_children nodes h r (end_at nodes h) (λ i x y p. omega (arith, (is_parent nodes i h p).covers)) in
      ap (λ (x : ℕ). count (is_child nodes h) x 0) parts ∙ count_add (is_child nodes h) (suc h) (m + r) 0
      ∙ rw (before, start, count_add (is_child nodes h) m r (suc h), inside, next, after) (omega arith)

  -- the number of children is allowed for the kind
  pub children_allowed : (i : ℕ) (k : Kind) → i < node_count nodes → kind_at nodes i ≡ k
      → children_ok k (child_count (statements nodes (suc i) (end_at nodes i))) ≡ true
  children_allowed i k l e = rw (← e, ← children_count i l) (facts nodes ok i l).children_fit

  -- a node that is no leaf has a child
  pub some_child : (i : ℕ) → i < node_count nodes → is_leaf (kind_at nodes i) ≡ false → suc i < end_at nodes i
  some_child i l e =
      let c = some_children (kind_at nodes i) _ e (children_allowed i _ l refl) in
      elim (lt_or_le (suc i) (end_at nodes i)) [
        | inl v ↦ v
        | inr v ↦ absurd (omega (arith, child_count-none nodes ok (suc i) (end_at nodes i) v))
      ]

  pub whl_count : (i : ℕ) → i < node_count nodes → kind_at nodes i ≡ WHL
      → child_count (statements nodes (suc i) (end_at nodes i)) ≡ 1
  unfolding children_ok
  whl_count i l e = eqb-true _ 1 (children_allowed i WHL l e)

  pub if_count : (i : ℕ) → i < node_count nodes → kind_at nodes i ≡ IF
      → child_count (statements nodes (suc i) (end_at nodes i)) ≤ 2
  unfolding children_ok
  if_count i l e =
      let n : ℕ = child_count (statements nodes (suc i) (end_at nodes i)) in
      leb-true n 2 (and_right (leb 1 n) (leb n 2) (children_allowed i IF l e))

  -- ---- where the children end
  -- the last statement before `end` ends at `end`
  last_end : (j end : ℕ) → j < end → end ≤ node_count nodes → end_at nodes j ≤ end → child_count (statements nodes j end) ≤ 1
      → end_at nodes j ≡ end
  last_end j end v l f c =
      let z = none_left (end_at nodes j) end l (omega (arith, child_count-more nodes ok j end v (omega arith))) in
      omega arith

  pub first_within : (i : ℕ) → i < node_count nodes → suc i < end_at nodes i → end_at nodes (suc i) ≤ end_at nodes i
  first_within i l v = let f = end_fits nodes ok i l in ends_nested nodes ok i (suc i) (le_refl (suc i)) (omega arith) v

  -- the child of a WHL ends where the WHL does
  pub whl_child_end : (i : ℕ) → i < node_count nodes → kind_at nodes i ≡ WHL → end_at nodes (suc i) ≡ end_at nodes i
  whl_child_end i l e =
      let v = some_child i l (ap is_leaf e) in
      let c = whl_count i l e in
      last_end (suc i) (end_at nodes i) v (end_fits nodes ok i l) (first_within i l v) (omega arith)

  -- the second child of an IF, where there is one, ends where the IF does
  pub if_second_end : (i : ℕ) → i < node_count nodes → kind_at nodes i ≡ IF → end_at nodes (suc i) < end_at nodes i
      → end_at nodes (end_at nodes (suc i)) ≡ end_at nodes i
  if_second_end i l e n =
      let f = end_fits nodes ok i l in
      let v = some_child i l (ap is_leaf e) in
      let c = if_count i l e in
      let m = child_count-more nodes ok (suc i) (end_at nodes i) v (omega arith) in
      let a = end_after nodes ok (suc i) (omega arith) in
      last_end (end_at nodes (suc i)) (end_at nodes i) n f
      (ends_nested nodes ok i (end_at nodes (suc i)) (omega arith) (omega arith) n) (omega arith)

  -- a child of a WHL is its first
  pub whl_only_child : (i h : ℕ) → h < node_count nodes → kind_at nodes h ≡ WHL → parent nodes i ≡ some h → i ≡ suc h
  whl_only_child i h l k e =
      let p = is_parent nodes i h e in
      let b = p.lower in
      let c = p.covers in
      let q = whl_child_end h l k in
      elim (lt_or_le (suc h) i) [
        | inl v ↦ let z = parent_nearest nodes i (suc h) h v (omega arith) e in absurd (omega arith)
        | inr v ↦ omega arith
      ]
