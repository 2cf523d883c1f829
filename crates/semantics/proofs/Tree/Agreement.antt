-- A tree agrees with the node list when the record of each of its nodes has the tree's kind and end. Then no node of a
-- tree ends past the tree, and the nodes right below a node are its children.
use mathlib.Core.Path.{◌≡◌, subst}
use mathlib.Core.Bool.{true}
use mathlib.Core.List.{List}
use mathlib.Core.Option.{some}
use mathlib.Core.Logic.{inl, inr}
use Prim.Native.Nat.{ℕ, suc, ◌≤◌, ◌<◌}
use native.Mathlib.Nat.{le_refl, le_trans, le-suc}
use native.Mathlib.Omega.{arith}
use Rattle.semantics.specs.Program.{kind_at, end_at, is_leaf}
use Rattle.semantics.specs.Program.Kind.{SEQ, PAR, IF, WHL}
use Rattle.semantics.specs.Parents.{parent}
use Rattle.semantics.specs.Tree.{Stmt, Stmts}
use Rattle.semantics.specs.Tree.Stmt.{leaf, seq, par, ife, whl}
use Rattle.semantics.specs.Tree.Stmts.{nil, cons}
use Rattle.semantics.proofs.Lists.Logic.{lt_or_le}
use Rattle.semantics.proofs.Lists.ParentLaws.{parent_is}
use Rattle.semantics.proofs.Tree.Positions.{end_of, ends_of, end_of-gt, ends_of-ge}

module _ (nodes : List ℕ) where
  abbrev mutual
    pub Agrees : Stmt → ℕ → Type 0
    Agrees (leaf i) lo = (end_at nodes lo ≡ suc lo) × (is_leaf (kind_at nodes lo) ≡ true)
    Agrees (seq i ks) lo = (end_at nodes lo ≡ ends_of ks (suc lo)) × (kind_at nodes lo ≡ SEQ) × AgreesIn ks (suc lo)
    Agrees (par i ks) lo = (end_at nodes lo ≡ ends_of ks (suc lo)) × (kind_at nodes lo ≡ PAR) × AgreesIn ks (suc lo)
    Agrees (ife i e ys ns) lo =
        (end_at nodes lo ≡ ends_of ns (ends_of ys (suc lo))) × (kind_at nodes lo ≡ IF) × AgreesIn ys (suc lo)
        × AgreesIn ns (ends_of ys (suc lo))
    Agrees (whl i e ks) lo = (end_at nodes lo ≡ ends_of ks (suc lo)) × (kind_at nodes lo ≡ WHL) × AgreesIn ks (suc lo)

    pub AgreesIn : Stmts → ℕ → Type 0
    AgreesIn nil lo = Unit {0}
    AgreesIn (cons k ks) lo = Agrees k lo × AgreesIn ks (end_of k lo)

  pub end_agrees : (t : Stmt) (lo : ℕ) → Agrees t lo → end_at nodes lo ≡ end_of t lo
  unfolding end_of
  end_agrees (leaf i) lo a = a.0
  end_agrees (seq i ks) lo a = a.0
  end_agrees (par i ks) lo a = a.0
  end_agrees (ife i e ys ns) lo a = a.0
  end_agrees (whl i e ks) lo a = a.0

  first_or_later : (lo h n : ℕ) → end_at nodes lo ≡ n → lo ≤ h → (suc lo ≤ h → end_at nodes h ≤ n) → end_at nodes h ≤ n
  first_or_later lo h n e l f =
      elim (lt_or_le lo h) [
        | inl v ↦ f v
        | inr v ↦ let q : lo ≡ h = omega arith in subst (λ (k : ℕ). end_at nodes k ≤ n) q (omega arith)
      ]

  mutual
    unfolding end_of

    pub ends_inside : (t : Stmt) (lo h : ℕ) → Agrees t lo → lo ≤ h → h < end_of t lo → end_at nodes h ≤ end_of t lo
    ends_inside (leaf i) lo h a l u = first_or_later lo h (suc lo) a.0 l (λ v. absurd (omega arith))
    ends_inside (seq i ks) lo h a l u = first_or_later lo h _ a.0 l (λ v. ends_inside-all ks (suc lo) h a.2 v u)
    ends_inside (par i ks) lo h a l u = first_or_later lo h _ a.0 l (λ v. ends_inside-all ks (suc lo) h a.2 v u)
    ends_inside (ife i e ys ns) lo h a l u =
        first_or_later lo h _ a.0 l
        (λ v. elim (lt_or_le h (ends_of ys (suc lo))) [
          | inl w ↦ le_trans (ends_inside-all ys (suc lo) h a.2 v w) (ends_of-ge ns _)
          | inr w ↦ ends_inside-all ns (ends_of ys (suc lo)) h a.3 w u
        ])
    ends_inside (whl i e ks) lo h a l u = first_or_later lo h _ a.0 l (λ v. ends_inside-all ks (suc lo) h a.2 v u)

    pub ends_inside-all : (ks : Stmts) (lo h : ℕ) → AgreesIn ks lo → lo ≤ h → h < ends_of ks lo
        → end_at nodes h ≤ ends_of ks lo
    ends_inside-all nil lo h a l u = absurd (omega arith)
    ends_inside-all (cons k ks) lo h a l u =
        elim (lt_or_le h (end_of k lo)) [
          | inl w ↦ le_trans (ends_inside k lo h a.0 l w) (ends_of-ge ks _)
          | inr w ↦ ends_inside-all ks (end_of k lo) h a.1 w u
        ]

  -- j is where a child of node h may start: every node between has ended
  abbrev pub Under : ℕ → ℕ → Type 0
  Under h j = (h < j) × ((g : ℕ) → h < g → g < j → end_at nodes g ≤ j)

  pub under_first : (h : ℕ) → Under h (suc h)
  under_first h = (le_refl (suc h), λ g x y. absurd (omega arith))

  pub under_next : (h lo : ℕ) (k : Stmt) → Under h lo → Agrees k lo → Under h (end_of k lo)
  under_next h lo k u a =
      let l = end_of-gt k lo in (
        omega arith,
        λ g x y. elim (lt_or_le g lo) [
          | inl w ↦ le_trans (u.1 g x w) (le_trans (le-suc lo) l)
          | inr w ↦ ends_inside k lo g a w y
        ],
      )

  pub under_past : (h lo : ℕ) (ks : Stmts) → Under h lo → AgreesIn ks lo → Under h (ends_of ks lo)
  under_past h lo ks u a =
      let l = ends_of-ge ks lo in (
        omega arith,
        λ g x y. elim (lt_or_le g lo) [
          | inl w ↦ le_trans (u.1 g x w) l
          | inr w ↦ ends_inside-all ks lo g a w y
        ],
      )

  -- a node that starts there before h ends is a child of h
  pub child_parent : (h j : ℕ) → Under h j → j < end_at nodes h → parent nodes j ≡ some h
  child_parent h j u l = parent_is nodes j h (record { lower = u.0; covers = l; nearest = u.1 })
