-- Where the parent of a node need not be looked for, in any node list: not at nodes that have ended, and not between a
-- node that has ended and its own parent. So a search that climbs from parent to parent finds it.
use mathlib.Core.Path.{◌≡◌, sym, ◌∙◌}
use mathlib.Core.Bool.{Bool, true, false, cond}
use mathlib.Core.List.{List, ◌∷◌}
use mathlib.Core.Option.{none, some, none-ne-some}
use mathlib.Core.Logic.{inl, inr}
use Prim.Native.Nat.{ℕ, zero, suc, ◌≤◌, ◌<◌}
use native.Mathlib.Nat.{le_refl}
use native.Mathlib.Omega.{arith}
use lib.Dec.{ltb}
use lib.ListN.{length}
use borrow.Author.Tests.{lt-ltb, le-ltb}
use Rattle.semantics.specs.Program.{end_at}
use Rattle.semantics.specs.Parents.{parent_below, parent, ancestors_below, ancestors, depth}
use Rattle.semantics.proofs.Lists.Logic.{lt_or_le}
use Rattle.semantics.proofs.Lists.ParentLaws.{is_parent}

module _ (nodes : List ℕ) where
  -- the search among the nodes below n and among those below m agree where all between have ended
  pub search_ended : (i m n : ℕ) → m ≤ n → ((g : ℕ) → m ≤ g → g < n → end_at nodes g ≤ i)
      → parent_below nodes i n ≡ parent_below nodes i m
  unfolding parent_below
  search_ended i m zero l ended = let e : m ≡ 0 = omega arith in rw e
  search_ended i m (suc n) l ended =
      elim (lt_or_le n m) [
        | inl v ↦ let e : m ≡ suc n = omega arith in rw e
        | inr v ↦
            rw (le-ltb i (end_at nodes n) (ended n v (le_refl (suc n))))
            (search_ended i m n v (λ g x y. ended g x (omega arith)))
      ]

  pub search_covers : (i h : ℕ) → i < end_at nodes h → parent_below nodes i (suc h) ≡ some h
  unfolding parent_below
  search_covers i h l = rw (lt-ltb i (end_at nodes h) l)

  -- with no parent, every node below has ended
  pub none_covers : (i n : ℕ) → parent_below nodes i n ≡ none → (g : ℕ) → g < n → end_at nodes g ≤ i
  unfolding parent_below
  none_covers i zero e g l = absurd (omega arith)
  none_covers i (suc n) e g l =
      elim (lt_or_le i (end_at nodes n)) [
        | inl v ↦ absurd (none-ne-some n (sym e ∙ rw (lt-ltb i (end_at nodes n) v)))
        | inr v ↦ elim (lt_or_le g n) [
          | inl w ↦ none_covers i n (rw (le-ltb i (end_at nodes n) v) at e) g w
          | inr w ↦ let q : g ≡ n = omega arith in rw q v
        ]
      ]

  -- a node that has ended at i is passed over together with all between it and its parent
  pub climb_none : (i h : ℕ) → h < i → end_at nodes h ≤ i → parent nodes h ≡ none
      → parent_below nodes i (suc h) ≡ parent_below nodes i 0
  climb_none i h l ended e =
      search_ended i 0 (suc h) (omega arith)
      (λ g x y. elim (lt_or_le g h) [
        | inl v ↦ let z = none_covers h h e g v in omega arith
        | inr v ↦ let q : g ≡ h = omega arith in rw q ended
      ])

  pub climb_some : (i h p : ℕ) → h < i → end_at nodes h ≤ i → parent nodes h ≡ some p
      → parent_below nodes i (suc h) ≡ parent_below nodes i (suc p)
  climb_some i h p l ended e =
      let is = is_parent nodes h p e in
      let low = is.lower in
      search_ended i (suc p) (suc h) (omega arith)
      (λ g x y. elim (lt_or_le g h) [
        | inl v ↦ let z = is.nearest g x v in omega arith
        | inr v ↦ let q : g ≡ h = omega arith in rw q ended
      ])

  -- no node has more ancestors than there are nodes below it
  ancestors_below-few : (i n : ℕ) → length (ancestors_below nodes i n) ≤ n
  unfolding ancestors_below
  ancestors_below-few i zero = le_refl 0
  ancestors_below-few i (suc h) = pick (ltb i (end_at nodes h)) (ancestors_below-few h h) (ancestors_below-few i h)
    where
      pick : (b : Bool) → length (ancestors nodes h) ≤ h → length (ancestors_below nodes i h) ≤ h
          → length (cond b (h ∷ ancestors nodes h) (ancestors_below nodes i h)) ≤ suc h
      pick true x y = omega arith
      pick false x y = omega arith

  pub depth_low : (i : ℕ) → depth nodes i ≤ suc i
  depth_low i = let l = ancestors_below-few i i in omega arith
