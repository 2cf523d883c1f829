-- Leaves by their numbers: the leaves of a placed tree have numbers inside it, so that two leaves are the same exactly
-- if their numbers are equal.
use mathlib.Core.Path.{◌≡◌, refl, sym}
use mathlib.Core.Bool.{false}
use mathlib.Core.Logic.{inl, inr}
use Prim.Native.Nat.{ℕ, suc, ◌≤◌, ◌<◌}
use native.Mathlib.Omega.{arith}
use lib.Dec.{eqb}
use borrow.Author.Tests.{ne_eqb, eq-eqb}
use Rattle.semantics.specs.Tree.{Stmt, Stmts}
use Rattle.semantics.specs.Tree.Stmt.{leaf, seq, par, ife, whl}
use Rattle.semantics.specs.Tree.Stmts.{nil, cons}
use Rattle.semantics.proofs.Tree.Positions.{end_of, ends_of, end_of-gt, ends_of-ge, Placed, PlacedIn, LeafOf, LeafIn}
use Rattle.semantics.proofs.Tree.Positions.{number, number_in}
use Rattle.semantics.proofs.Walks.TreeState.{same_leaf, same_leaf_in}

abbrev Within : ℕ → ℕ → ℕ → Type 0
Within lo i hi = (lo ≤ i) × (i < hi)

mutual
  unfolding number end_of

  number_within : (t : Stmt) (lo : ℕ) → Placed t lo → (x : LeafOf t) → Within lo (number t x) (end_of t lo)
  number_within (leaf i) lo p x = (omega arith, omega arith)
  number_within (seq i ks) lo p x = let h = number_in-within ks (suc lo) p.1 x in (omega arith, h.1)
  number_within (par i ks) lo p x = let h = number_in-within ks (suc lo) p.1 x in (omega arith, h.1)
  number_within (ife i e ys ns) lo p (inl x) =
      let h = number_in-within ys (suc lo) p.1 x in
      let g = ends_of-ge ns (ends_of ys (suc lo)) in
      (omega arith, omega arith)
  number_within (ife i e ys ns) lo p (inr x) =
      let h = number_in-within ns (ends_of ys (suc lo)) p.2 x in
      let g = ends_of-ge ys (suc lo) in
      (omega arith, omega arith)
  number_within (whl i e ks) lo p x = let h = number_in-within ks (suc lo) p.1 x in (omega arith, h.1)

  number_in-within : (ks : Stmts) (lo : ℕ) → PlacedIn ks lo → (x : LeafIn ks) → Within lo (number_in ks x) (ends_of ks lo)
  number_in-within nil lo p x = absurd x
  number_in-within (cons k ks) lo p (inl x) =
      let h = number_within k lo p.0 x in
      let g = ends_of-ge ks (end_of k lo) in
      (omega arith, omega arith)
  number_in-within (cons k ks) lo p (inr x) =
      let h = number_in-within ks (end_of k lo) p.1 x in
      let g = end_of-gt k lo in
      (omega arith, omega arith)

apart : (lo a mid b hi : ℕ) → Within lo a mid → Within mid b hi → (false ≡ eqb a b) × (false ≡ eqb b a)
apart lo a mid b hi h g =
    (sym (ne_eqb a b (λ (e : a ≡ b). omega arith)), sym (ne_eqb b a (λ (e : b ≡ a). omega arith)))

mutual
  unfolding number same_leaf

  pub same_leaf-number : (t : Stmt) (lo : ℕ) → Placed t lo → (x y : LeafOf t)
      → same_leaf t x y ≡ eqb (number t x) (number t y)
  same_leaf-number (leaf i) lo p x y = sym (eq-eqb i i refl)
  same_leaf-number (seq i ks) lo p x y = same_leaf_in-number ks (suc lo) p.1 x y
  same_leaf-number (par i ks) lo p x y = same_leaf_in-number ks (suc lo) p.1 x y
  same_leaf-number (ife i e ys ns) lo p (inl x) (inl y) = same_leaf_in-number ys (suc lo) p.1 x y
  same_leaf-number (ife i e ys ns) lo p (inl x) (inr y) =
      (apart _ _ _ _ _ (number_in-within ys (suc lo) p.1 x) (number_in-within ns (ends_of ys (suc lo)) p.2 y)).0
  same_leaf-number (ife i e ys ns) lo p (inr x) (inl y) =
      (apart _ _ _ _ _ (number_in-within ys (suc lo) p.1 y) (number_in-within ns (ends_of ys (suc lo)) p.2 x)).1
  same_leaf-number (ife i e ys ns) lo p (inr x) (inr y) = same_leaf_in-number ns (ends_of ys (suc lo)) p.2 x y
  same_leaf-number (whl i e ks) lo p x y = same_leaf_in-number ks (suc lo) p.1 x y

  same_leaf_in-number : (ks : Stmts) (lo : ℕ) → PlacedIn ks lo → (x y : LeafIn ks)
      → same_leaf_in ks x y ≡ eqb (number_in ks x) (number_in ks y)
  same_leaf_in-number nil lo p x y = absurd x
  same_leaf_in-number (cons k ks) lo p (inl x) (inl y) = same_leaf-number k lo p.0 x y
  same_leaf_in-number (cons k ks) lo p (inl x) (inr y) =
      (apart _ _ _ _ _ (number_within k lo p.0 x) (number_in-within ks (end_of k lo) p.1 y)).0
  same_leaf_in-number (cons k ks) lo p (inr x) (inl y) =
      (apart _ _ _ _ _ (number_within k lo p.0 y) (number_in-within ks (end_of k lo) p.1 x)).1
  same_leaf_in-number (cons k ks) lo p (inr x) (inr y) = same_leaf_in-number ks (end_of k lo) p.1 x y
