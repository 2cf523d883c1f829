-- Where two nodes meet, in a list whose every node is ok: each node below another is in one of its children, and of
-- two nodes apart the first climbs to a child of a node that has the other in a later child. There they meet.
use mathlib.Core.Path.{◌≡◌, sym, ap, ◌∙◌, subst}
use mathlib.Core.List.{List}
use mathlib.Core.Option.{some}
use mathlib.Core.Logic.{inl, inr}
use Prim.Native.Nat.{ℕ, zero, suc, ◌≤◌, ◌<◌}
use native.Mathlib.Nat.{le_refl}
use native.Mathlib.Omega.{arith}
use Rattle.semantics.specs.Program.{node_count, kind_at, parent_at, end_at, is_par}
use Rattle.semantics.specs.Parents.{parent}
use Rattle.semantics.specs.State.{common_ancestors, first_is_par}
use Rattle.semantics.specs.Facts.{NodesOk}
use Rattle.semantics.proofs.Lists.Logic.{lt_or_le}
use Rattle.semantics.proofs.Lists.ParentLaws.{is_parent, parent_nearest}
use Rattle.semantics.proofs.Tree.NodeLaws.{parent_word, root_end, end_after, end_within_lem, ends_nested, under_parent}
use Rattle.semantics.proofs.Tree.AncestorLaws.{meet_in}

module _ (nodes : List ℕ) where
  -- k is the child of h that node j is or stands below
  pub record ChildOver (h j k : ℕ) : Type 0 where
    pub child : parent nodes k ≡ some h
    pub from : k ≤ j
    pub covers : j < end_at nodes k

  -- nodes i and j are in different children of one node
  pub record Meeting (i j : ℕ) : Type 0 where
    pub above : ℕ
    pub first : ℕ
    pub second : ℕ
    pub first_over : ChildOver above i first
    pub second_over : ChildOver above j second
    pub apart : first < second

module _ (nodes : List ℕ) (ok : NodesOk nodes) where
  -- ---- the child over a node
  ends_nested_from : (k i : ℕ) → k ≤ i → i < node_count nodes → i < end_at nodes k → end_at nodes i ≤ end_at nodes k
  ends_nested_from k i l f c =
      elim (lt_or_le k i) [
        | inl v ↦ ends_nested nodes ok k i v f c
        | inr v ↦ let e : k ≡ i = omega arith in subst (λ (x : ℕ). end_at nodes i ≤ end_at nodes x) (sym e) (le_refl _)
      ]

  over_itself : (h j : ℕ) → j < node_count nodes → parent nodes j ≡ some h → ChildOver nodes h j j
  over_itself h j f e = record { child = e; from = le_refl j; covers = end_after nodes ok j f }

  -- what is over a node is over the node's children
  over_below : (h g j k : ℕ) → j < node_count nodes → parent nodes j ≡ some g → ChildOver nodes h g k
      → ChildOver nodes h j k
  over_below h g j k f e r =
      let p = is_parent nodes j g e in
      let l = p.lower in
      let c = p.covers in
      let n = ends_nested_from k g r.from (omega arith) r.covers in
      record { child = r.child; from = omega arith; covers = omega arith }

  climb_to_child : (n h j : ℕ) → j < n → h < j → j < node_count nodes → j < end_at nodes h
      → (k : ℕ) × ChildOver nodes h j k
  climb_to_child zero h j b l f c = absurd (omega arith)
  climb_to_child (suc n) h j b l f c =
      let g : ℕ = parent_at nodes j in
      let e = parent_word nodes ok j (omega arith) f in
      let u = (is_parent nodes j g e).lower in
      let v = parent_nearest nodes j h g l c e in
      elim (lt_or_le h g) [
        | inl w ↦
            let (k, r) = climb_to_child n h g (omega arith) w (omega arith) (omega arith) in
            (k, over_below h g j k f e r)
        | inr w ↦ let q : g ≡ h = omega arith in (j, over_itself h j f (e ∙ ap some q))
      ]

  -- a node that h covers is in a child of h
  pub child_over : (h j : ℕ) → h < j → j < node_count nodes → j < end_at nodes h → (k : ℕ) × ChildOver nodes h j k
  child_over h j l f c = climb_to_child (suc j) h j (le_refl (suc j)) l f c

  -- what a child covers, its parent covers
  pub over_inside : (h j k : ℕ) → j < node_count nodes → ChildOver nodes h j k → j < end_at nodes h
  over_inside h j k f r =
      let k≤j = r.from in
      let covers = r.covers in
      let w = end_within_lem nodes ok k h (omega arith) r.child in
      omega arith

  -- ---- where two nodes meet
  -- a child over a node past the end of another child comes after it
  later_child : (h i j k : ℕ) → parent nodes i ≡ some h → i < j → end_at nodes i ≤ j → ChildOver nodes h j k → i < k
  later_child h i j k e l c r =
      let h<k = (is_parent nodes k h r.child).lower in
      let covers = r.covers in
      elim (lt_or_le i k) [
        | inl v ↦ v
        | inr v ↦ elim (lt_or_le k i) [
          | inl w ↦ let z = (is_parent nodes i h e).nearest k h<k w in absurd (omega arith)
          | inr w ↦ let q : k ≡ i = omega arith in absurd (omega (arith, ap (end_at nodes) q))
        ]
      ]

  climb_to_meeting : (n i j : ℕ) → i < n → i < j → j < node_count nodes → end_at nodes i ≤ j → Meeting nodes i j
  climb_to_meeting zero i j b l f c = absurd (omega arith)
  climb_to_meeting (suc n) i j b l f c =
      elim (lt_or_le 0 i) [
        | inr z ↦
            let q : i ≡ 0 = omega arith in
            let r = root_end nodes ok (omega arith) in
            absurd (omega (arith, ap (end_at nodes) q))
        | inl z ↦
            let g : ℕ = parent_at nodes i in
            let e = parent_word nodes ok i z (omega arith) in
            let u = (is_parent nodes i g e).lower in
            elim (lt_or_le j (end_at nodes g)) [
              | inl v ↦
                  let (k, r) = child_over g j (omega arith) f v in
                  record {
                    above = g;
                    first = i;
                    second = k;
                    first_over = over_itself g i (omega arith) e;
                    second_over = r;
                    apart = later_child g i j k e l c r;
                  }
              | inr v ↦
                  let m = climb_to_meeting n g j (omega arith) (omega arith) f v in
                  record {
                    above = m.above;
                    first = m.first;
                    second = m.second;
                    first_over = over_below m.above g i m.first (omega arith) e m.first_over;
                    second_over = m.second_over;
                    apart = m.apart;
                  }
            ]
      ]

  -- a node past the end of another meets it
  pub meeting : (i j : ℕ) → i < j → j < node_count nodes → end_at nodes i ≤ j → Meeting nodes i j
  meeting i j l f c = climb_to_meeting (suc i) i j (le_refl (suc i)) l f c

  pub in_order : {i j : ℕ} → Meeting nodes i j → i < j
  in_order m =
      let r = m.first_over in
      let s = m.second_over in
      let covers = r.covers in
      let from = s.from in
      let h<k = (is_parent nodes m.first m.above r.child).lower in
      let past = (is_parent nodes m.second m.above s.child).nearest m.first h<k m.apart in
      omega arith

  -- two nodes in different children of a node have it as their first common ancestor
  pub meets : (i j : ℕ) → i < node_count nodes → j < node_count nodes → (m : Meeting nodes i j) → (
      (first_is_par nodes (common_ancestors nodes i j) ≡ is_par (kind_at nodes m.above))
      × (first_is_par nodes (common_ancestors nodes j i) ≡ is_par (kind_at nodes m.above)))
  meets i j fi fj m =
      let r = m.first_over in
      let s = m.second_over in
      let u = under_parent nodes m.first m.above r.child in
      let v = under_parent nodes m.second m.above s.child in
      let a = over_inside m.above i m.first fi r in
      let b = over_inside m.above j m.second fj s in
      let covers = r.covers in
      let past = v.1 m.first u.0 m.apart in (
        meet_in nodes m.above m.first m.second i j u v r.from s.from a b (inl (omega arith)),
        meet_in nodes m.above m.second m.first j i v u s.from r.from b a (inr (omega arith)),
      )
