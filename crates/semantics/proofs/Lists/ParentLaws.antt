-- Laws of parent, ancestors and depth, for any node list: a parent is the greatest node below whose end is above, and
-- the ancestors are the parent and the parent's ancestors.
use mathlib.Core.Path.{◌≡◌, refl, sym, ap, subst}
use mathlib.Core.Bool.{Bool, true, false, cond}
use mathlib.Core.List.{List, [], ◌∷◌}
use mathlib.Core.Option.{none, some, some-injective, none-ne-some}
use mathlib.Core.Logic.{inl, inr}
use Prim.Native.Nat.{ℕ, zero, suc, ◌≤◌, ◌<◌}
use native.Mathlib.Nat.{le_refl}
use native.Mathlib.Omega.{arith}
use lib.Dec.{ltb}
use borrow.Author.Tests.{ltb-true, ltb-false, lt-ltb, le-ltb}
use Rattle.semantics.specs.Program.{end_at}
use Rattle.semantics.specs.Parents.{parent_below, parent, ancestors_below, ancestors, depth}
use Rattle.semantics.proofs.Lists.Logic.{lt_or_le}

module _ (nodes : List ℕ) where
  -- h is the greatest node below n whose end is above i
  pub record IsParent (i n h : ℕ) : Type 0 where
    pub lower : h < n
    pub covers : i < end_at nodes h
    pub nearest : (g : ℕ) → h < g → g < n → end_at nodes g ≤ i

  pub parent_below-is : (i n h : ℕ) → IsParent i n h → parent_below nodes i n ≡ some h
  unfolding parent_below
  parent_below-is i zero h p = let l = p.lower in absurd (omega arith)
  parent_below-is i (suc n) h p =
      elim (lt_or_le h n) [
        | inl v ↦
            rw (le-ltb i (end_at nodes n) (p.nearest n v (le_refl (suc n))))
            (parent_below-is i n h
            (record { lower = v; covers = p.covers; nearest = λ g x y. p.nearest g x (omega arith) }))
        | inr v ↦
            let l = p.lower in
            let e : n ≡ h = omega arith in
            let q : i < end_at nodes n = subst (λ (x : ℕ). i < end_at nodes x) (sym e) p.covers in
            rw (lt-ltb i (end_at nodes n) q) (ap some e)
      ]

  pub is-parent_below : (i n h : ℕ) → parent_below nodes i n ≡ some h → IsParent i n h
  unfolding parent_below
  is-parent_below i zero h e = absurd (none-ne-some h e)
  is-parent_below i (suc n) h e = pick (ltb i (end_at nodes n)) refl e (is-parent_below i n h)
    where
      pick : (b : Bool) → ltb i (end_at nodes n) ≡ b → cond b (some n) (parent_below nodes i n) ≡ some h
          → (parent_below nodes i n ≡ some h → IsParent i n h) → IsParent i (suc n) h
      pick true q x rec =
          let s : n ≡ h = some-injective n h x in
          record {
            lower = omega arith;
            covers = subst (λ (y : ℕ). i < end_at nodes y) s (ltb-true i (end_at nodes n) q);
            nearest = λ g y z. absurd (omega arith);
          }
      pick false q x rec =
          let r = rec x in
          let l = r.lower in
          record {
            lower = omega arith;
            covers = r.covers;
            nearest = λ g y z. elim (lt_or_le g n) [
              | inl v ↦ r.nearest g y v
              | inr v ↦
                  let s : n ≡ g = omega arith in
                  subst (λ (w : ℕ). end_at nodes w ≤ i) s (ltb-false i (end_at nodes n) q)
            ];
          }

  pub parent_is : (i h : ℕ) → IsParent i i h → parent nodes i ≡ some h
  parent_is i h p = parent_below-is i i h p

  pub is_parent : (i h : ℕ) → parent nodes i ≡ some h → IsParent i i h
  is_parent i h e = is-parent_below i i h e

  -- a node that covers i is at most its parent
  pub parent_nearest : (i g h : ℕ) → g < i → i < end_at nodes g → parent nodes i ≡ some h → g ≤ h
  parent_nearest i g h l c e =
      elim (lt_or_le h g) [
        | inl v ↦ let z = (is_parent i h e).nearest g v l in absurd (omega arith)
        | inr v ↦ v
      ]

  ancestors_below-some : (i n h : ℕ) → parent_below nodes i n ≡ some h → ancestors_below nodes i n ≡ h ∷ ancestors nodes h
  unfolding parent_below ancestors_below
  ancestors_below-some i zero h e = absurd (none-ne-some h e)
  ancestors_below-some i (suc n) h e = pick (ltb i (end_at nodes n)) e (ancestors_below-some i n h)
    where
      pick : (b : Bool) → cond b (some n) (parent_below nodes i n) ≡ some h
          → (parent_below nodes i n ≡ some h → ancestors_below nodes i n ≡ h ∷ ancestors nodes h)
          → cond b (n ∷ ancestors nodes n) (ancestors_below nodes i n) ≡ h ∷ ancestors nodes h
      pick true x rec = ap (λ (y : ℕ). y ∷ ancestors nodes y) (some-injective n h x)
      pick false x rec = rec x

  ancestors_below-none : (i n : ℕ) → parent_below nodes i n ≡ none → ancestors_below nodes i n ≡ []
  unfolding parent_below ancestors_below
  ancestors_below-none i zero e = refl
  ancestors_below-none i (suc n) e = pick (ltb i (end_at nodes n)) e (ancestors_below-none i n)
    where
      pick : (b : Bool) → cond b (some n) (parent_below nodes i n) ≡ none
          → (parent_below nodes i n ≡ none → ancestors_below nodes i n ≡ [])
          → cond b (n ∷ ancestors nodes n) (ancestors_below nodes i n) ≡ []
      pick true x rec = absurd (none-ne-some n (sym x))
      pick false x rec = rec x

  -- the ancestors of a node: its parent and the parent's ancestors, or none
  pub ancestors_parent : (i h : ℕ) → parent nodes i ≡ some h → ancestors nodes i ≡ h ∷ ancestors nodes h
  ancestors_parent i h e = ancestors_below-some i i h e

  pub ancestors_none : (i : ℕ) → parent nodes i ≡ none → ancestors nodes i ≡ []
  ancestors_none i e = ancestors_below-none i i e

  -- depth is one more than the parent's depth, or 1
  pub depth_parent : (i h : ℕ) → parent nodes i ≡ some h → depth nodes i ≡ suc (depth nodes h)
  depth_parent i h e = rw (ancestors_parent i h e)

  pub depth_none : (i : ℕ) → parent nodes i ≡ none → depth nodes i ≡ 1
  depth_none i e = rw (ancestors_none i e)
