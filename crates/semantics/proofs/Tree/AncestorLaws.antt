-- The ancestors of a node below a child of i are nodes of that child, then i and the ancestors of i. So two nodes
-- below different children of i have i as the first of their common ancestors.
use mathlib.Core.Path.{◌≡◌, refl, ap, ◌∙◌, subst}
use mathlib.Core.Bool.{Bool, true, false}
use mathlib.Core.List.{List, ◌∷◌}
use mathlib.Core.Logic.{◌⊎◌, inl, inr}
use Prim.Native.Nat.{ℕ, zero, suc, ◌≤◌, ◌<◌}
use native.Mathlib.Nat.{le_refl}
use native.Mathlib.Omega.{arith}
use lib.Dec.{eqb, ltb}
use borrow.Author.Tests.{eq-eqb, ne_eqb, lt-ltb, le-ltb}
use Rattle.semantics.specs.Numbers.{any, filter, member}
use Rattle.semantics.specs.Program.{end_at, kind_at, is_par}
use Rattle.semantics.specs.Parents.{ancestors_below, ancestors}
use Rattle.semantics.specs.State.{common_ancestors, first_is_par}
use Rattle.semantics.proofs.Lists.Logic.{cond-at, lt_or_le}
use Rattle.semantics.proofs.Tree.Agreement.{Under}

module _ (nodes : List ℕ) where
  -- ancestors stand below the node
  lower_none : (f : ℕ → Bool) (i n : ℕ) → ((h : ℕ) → h < n → f h ≡ false) → any f (ancestors_below nodes i n) ≡ false
  unfolding any ancestors_below
  lower_none f i zero e = refl
  lower_none f i (suc n) e =
      cond-at (λ (above : List ℕ). any f above ≡ false) (ltb i (end_at nodes n))
      (rw (e n (le_refl (suc n))) (lower_none f n n (λ h l. e h (omega arith))))
      (lower_none f i n (λ h l. e h (omega arith)))

  ancestors_lower : (i g : ℕ) → i ≤ g → member g (ancestors nodes i) ≡ false
  ancestors_lower i g l = lower_none (eqb g) i i (λ h u. ne_eqb g h (λ (e : g ≡ h). omega arith))

  -- a node past i that covers a node of a child of i, which starts at lo, is itself from lo on
  from_lo : (i lo a n : ℕ) → Under nodes i lo → i < n → lo ≤ a → a < end_at nodes n → lo ≤ n
  from_lo i lo a n under b l v =
      elim (lt_or_le n lo) [ inl w ↦ let z = under.1 n b w in absurd (omega arith) | inr w ↦ w ]

  -- for a node a of a child of i that starts at lo: what takes no notice of the nodes of the child is the same of the
  -- ancestors of a as of i with the ancestors of i
  module _ {X : Type 0} (F : List ℕ → X) (i lo top : ℕ) (under : Under nodes i lo)
      (skip : (g : ℕ) (above : List ℕ) → lo ≤ g → g < top → F (g ∷ above) ≡ F above) where
    climb_below : (n a : ℕ) → i < n → n ≤ a → lo ≤ a → a ≤ top → a < end_at nodes i
        → F (ancestors_below nodes a n) ≡ F (i ∷ ancestors nodes i)
    unfolding ancestors_below
    climb_below zero a b c l u e = absurd (omega arith)
    climb_below (suc n) a b c l u e =
        elim (lt_or_le a (end_at nodes n)) [
          | inl v ↦
              rw (lt-ltb a (end_at nodes n) v)
              (elim (lt_or_le i n) [
                | inl w ↦
                    let m = from_lo i lo a n under w l v in
                    skip n (ancestors nodes n) m (omega arith)
                    ∙ climb_below n n w (le_refl n) m (omega arith) (omega arith)
                | inr w ↦ let q : n ≡ i = omega arith in ap (λ (h : ℕ). F (h ∷ ancestors nodes h)) q
              ])
          | inr v ↦
              rw (le-ltb a (end_at nodes n) v)
              (elim (lt_or_le i n) [
                | inl w ↦ climb_below n a w (omega arith) l u e
                | inr w ↦
                    let q : i ≡ n = omega arith in
                    let z : a < end_at nodes n = subst (λ (h : ℕ). a < end_at nodes h) q e in
                    absurd (omega arith)
              ])
        ]

    climb : (a : ℕ) → lo ≤ a → a ≤ top → a < end_at nodes i → F (ancestors nodes a) ≡ F (i ∷ ancestors nodes i)
    climb a l u e = let b = under.0 in climb_below a a (omega arith) (le_refl a) l u e

  -- two nodes a and b below different children of i, which start at la and lb, have i as their first common ancestor
  module _ (i la lb a b : ℕ) (under-a : Under nodes i la) (under-b : Under nodes i lb) (la≤a : la ≤ a) (lb≤b : lb ≤ b)
      (a-inside : a < end_at nodes i) (b-inside : b < end_at nodes i) (apart : (a ≤ lb) ⊎ (b ≤ la)) where
    member_b : (g : ℕ) → ((h : ℕ) → lb ≤ h → h < b → g ≡ h → ⊥)
        → member g (ancestors nodes b) ≡ member g (i ∷ ancestors nodes i)
    unfolding any
    member_b g differs =
        climb (λ (above : List ℕ). member g above) i lb b under-b (λ h above l u. rw (ne_eqb g h (differs h l u)))
        b lb≤b (le_refl b) b-inside

    not_common : (g : ℕ) → la ≤ g → g < a → member g (ancestors nodes b) ≡ false
    unfolding any
    not_common g l u =
        let i<la = under-a.0 in
        member_b g (λ h m v e. elim apart [ inl w ↦ omega arith | inr w ↦ omega arith ])
        ∙ rw (ne_eqb g i (λ (e : g ≡ i). omega arith)) (ancestors_lower i g (omega arith))

    is_common : member i (ancestors nodes b) ≡ true
    unfolding any
    is_common = let i<lb = under-b.0 in member_b i (λ h l u e. omega arith) ∙ rw (eq-eqb i i refl)

    first_common : common_ancestors nodes a b ≡ i ∷ filter (λ h. member h (ancestors nodes b)) (ancestors nodes i)
    unfolding filter
    first_common =
        climb (λ (above : List ℕ). filter (λ h. member h (ancestors nodes b)) above) i la a under-a
        (λ g above l u. rw (not_common g l u)) a la≤a (le_refl a) a-inside
        ∙ rw is_common

    pub meet_in : first_is_par nodes (common_ancestors nodes a b) ≡ is_par (kind_at nodes i)
    meet_in = ap (first_is_par nodes) first_common
