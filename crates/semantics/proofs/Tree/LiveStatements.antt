-- A statement is live exactly when a mark stands in its stretch of the node list, where only leaves are marked.
-- So the count that question 6 asks of a PAR is the number of its live children in the tree.
use mathlib.Core.Path.{◌≡◌, refl, sym, ap, ◌∙◌, subst}
use mathlib.Core.Bool.{Bool, true, false, cond, ◌&&◌, ◌||◌, true≢false, or-true}
use mathlib.Core.List.{List}
use mathlib.Core.Option.{Option, none, some}
use mathlib.Core.Logic.{inl, inr, ◌↔◌}
use Prim.Native.Nat.{ℕ, suc, ◌+◌, ◌-◌, ◌≤◌, ◌<◌}
use native.Mathlib.Nat.{le_refl, le_trans, le-suc}
use native.Mathlib.Omega.{arith}
use lib.Dec.{ltb, leb}
use borrow.Author.Tests.{eqb-true, eq-eqb, leb-true, le-leb, ltb-true, lt-ltb}
use Rattle.semantics.specs.Numbers.{up_from, any, filter}
use Rattle.semantics.specs.Program.{node_count, kind_at, end_at, is_leaf}
use Rattle.semantics.specs.Parents.{parent, is_node, is_child}
use Rattle.semantics.specs.Tree.{Stmt, Stmts}
use Rattle.semantics.specs.Tree.Stmt.{leaf, seq, par, ife, whl}
use Rattle.semantics.specs.Tree.Stmts.{nil, cons}
use Rattle.semantics.specs.State.{marked, active, holds_mark, live_children}
use Rattle.semantics.specs.Facts.{live_child}
use Rattle.semantics.proofs.Lists.Logic.{and_left, and_right, both, or_cases, refuted, bool_eq, lt_or_le}
use Rattle.semantics.proofs.Lists.NumberLaws.{count, count_suc, count_split, count_none, count_within}
use Rattle.semantics.proofs.Lists.ParentLaws.{is_parent, parent_nearest}
use Rattle.semantics.proofs.Tree.Positions.{end_of, ends_of, end_of-gt, ends_of-ge, Placed, PlacedIn}
use Rattle.semantics.proofs.Tree.Agreement.{Agrees, AgreesIn, end_agrees, child_parent}
use Rattle.semantics.proofs.Tree.Agreement.{Under, under_first, under_next}
use Rattle.semantics.proofs.Lists.ActiveLaws.{any-active}
use Rattle.semantics.proofs.Tree.TreeWellFormed.{live, any_live, live_count}

module _ (nodes marks : List ℕ) where
  -- of the nodes from lo up to hi only leaves are marked
  abbrev pub LeavesIn : ℕ → ℕ → Type 0
  LeavesIn lo hi = (j : ℕ) → lo ≤ j → j < hi → marked marks j ≡ true → is_leaf (kind_at nodes j) ≡ true

  -- ---- b says whether a leaf is marked from lo up to hi
  pub record Tells (b : Bool) (lo hi : ℕ) : Type 0 where
    pub found : b ≡ true → (j : ℕ) × (lo ≤ j) × (j < hi) × (marked marks j ≡ true)
    pub held : (j : ℕ) → lo ≤ j → j < hi → marked marks j ≡ true → is_leaf (kind_at nodes j) ≡ true → b ≡ true

  tells_node : {b : Bool} {lo hi : ℕ} → is_leaf (kind_at nodes lo) ≡ false → Tells b (suc lo) hi → Tells b lo hi
  tells_node {lo} inner t =
      record {
        found = λ e. let (j, l, u, m) = t.found e in (j, omega arith, u, m);
        held = λ j l u m q. elim (lt_or_le lo j) [
          | inl v ↦ t.held j v u m q
          | inr v ↦
              let e : j ≡ lo = omega arith in
              absurd (true≢false (sym q ∙ ap (λ (k : ℕ). is_leaf (kind_at nodes k)) e ∙ inner))
        ];
      }

  tells_or : {a b : Bool} {lo mid hi : ℕ} → lo ≤ mid → mid ≤ hi → Tells a lo mid → Tells b mid hi → Tells (a || b) lo hi
  tells_or {a} {b} {mid} l u s t =
      record {
        found = λ e. elim (or_cases a b e) [
          | inl q ↦ let (j, v, w, m) = s.found q in (j, v, omega arith, m)
          | inr q ↦ let (j, v, w, m) = t.found q in (j, omega arith, w, m)
        ];
        held = λ j v w m q. elim (lt_or_le j mid) [
          | inl x ↦ rw (s.held j v x m q)
          | inr x ↦ rw (t.held j x w m q) (or-true a)
        ];
      }

  mutual
    unfolding live end_of

    pub live_tells : (t : Stmt) (lo : ℕ) → Agrees nodes t lo → Placed t lo → Tells (live marks t) lo (end_of t lo)
    live_tells (leaf i) lo a p =
        record {
          found = λ e. (lo, le_refl lo, le_refl (suc lo), subst (λ (k : ℕ). marked marks k ≡ true) p e);
          held = λ j l u m q. let e : j ≡ i = omega arith in subst (λ (k : ℕ). marked marks k ≡ true) e m;
        }
    live_tells (seq i ks) lo a p = tells_node (ap is_leaf a.1) (any_live-tells ks (suc lo) a.2 p.1)
    live_tells (par i ks) lo a p = tells_node (ap is_leaf a.1) (any_live-tells ks (suc lo) a.2 p.1)
    live_tells (ife i e ys ns) lo a p =
        tells_node (ap is_leaf a.1)
        (tells_or (ends_of-ge ys (suc lo)) (ends_of-ge ns _) (any_live-tells ys (suc lo) a.2 p.1)
        (any_live-tells ns (ends_of ys (suc lo)) a.3 p.2))
    live_tells (whl i e ks) lo a p = tells_node (ap is_leaf a.1) (any_live-tells ks (suc lo) a.2 p.1)

    pub any_live-tells : (ks : Stmts) (lo : ℕ) → AgreesIn nodes ks lo → PlacedIn ks lo
        → Tells (any_live marks ks) lo (ends_of ks lo)
    any_live-tells nil lo a p =
        record { found = λ e. absurd (true≢false (sym e)); held = λ j l u m q. absurd (omega arith) }
    any_live-tells (cons k ks) lo a p =
        tells_or (le_trans (le-suc lo) (end_of-gt k lo)) (ends_of-ge ks _) (live_tells k lo a.0 p.0)
        (any_live-tells ks (end_of k lo) a.1 p.1)

  -- ---- the live children of a node, counted over the list and in the tree
  pub holds_mark-at : (k : ℕ)
      → holds_mark nodes marks k ≡ true ↔ ((j : ℕ) × (k ≤ j) × (j < end_at nodes k) × (marked marks j ≡ true))
  unfolding holds_mark
  holds_mark-at k = (to, from)
    where
      inside : ℕ → Bool
      inside j = leb k j && ltb j (end_at nodes k)

      to : any inside (active marks) ≡ true → (j : ℕ) × (k ≤ j) × (j < end_at nodes k) × (marked marks j ≡ true)
      to h =
          let (j, m, q) = (any-active marks inside).0 h in (
            j,
            leb-true k j (and_left (leb k j) _ q),
            ltb-true j (end_at nodes k) (and_right (leb k j) _ q),
            m,
          )

      from : (j : ℕ) × (k ≤ j) × (j < end_at nodes k) × (marked marks j ≡ true) → any inside (active marks) ≡ true
      from (j, l, u, m) = (any-active marks inside).1 (j, m, both (le-leb k j l) (lt-ltb j (end_at nodes k) u))

  holds_mark-told : {b : Bool} {lo hi : ℕ} → end_at nodes lo ≡ hi → Tells b lo hi → LeavesIn lo hi
      → holds_mark nodes marks lo ≡ b
  holds_mark-told {b} {lo} {hi} e t leaves =
      bool_eq _ b
      (λ h.
      let (j, l, u, m) = (holds_mark-at lo).0 h in
      let v : j < hi = omega arith in
      t.held j l v m (leaves j l v m))
      (λ q. let (j, l, u, m) = t.found q in (holds_mark-at lo).1 (j, l, omega arith, m))

  pub child_of : (i j : ℕ) → is_child nodes i j ≡ true → parent nodes j ≡ some i
  child_of i j h = pick (parent nodes j) h
    where
      pick : (o : Option ℕ) → is_node i o ≡ true → o ≡ some i
      pick none e = absurd (true≢false (sym e))
      pick (some h) e = ap some (eqb-true h i e)

  pub no_child : (i j : ℕ) → (parent nodes j ≡ some i → ⊥) → live_child nodes marks i j ≡ false
  no_child i j other = rw (refuted (is_child nodes i j) (λ h. other (child_of i j h)))

  -- of the nodes from a child of i up to the child's end, only the child itself is a child of i
  one_child : (i lo hi : ℕ) {b : Bool} → Under nodes i lo → lo < end_at nodes i → lo < hi → end_at nodes lo ≡ hi
      → Tells b lo hi → LeavesIn lo hi → count (live_child nodes marks i) (hi - lo) lo ≡ cond b 1 0
  one_child i lo hi {b} u c l e t leaves =
      let first : hi - lo ≡ suc (hi - suc lo) = omega arith in
      ap (λ (n : ℕ). count (live_child nodes marks i) n lo) first ∙ count_suc (live_child nodes marks i) (hi - suc lo) lo
      ∙ (λ k. cond (itself k) (suc (none_below k)) (none_below k))
    where
      itself : live_child nodes marks i lo ≡ b
      itself = rw (child_parent nodes i lo u c, eq-eqb i i refl) (holds_mark-told e t leaves)

      none_below : count (live_child nodes marks i) (hi - suc lo) (suc lo) ≡ 0
      none_below =
          count_none (live_child nodes marks i) (hi - suc lo) (suc lo)
          (λ j v w.
          no_child i j
          (λ p.
          let lo≤i = parent_nearest nodes j lo i v (omega arith) p in
          let i<lo = u.0 in
          omega arith))

  live_from_lem : (i : ℕ) (ks : Stmts) (lo : ℕ) → Under nodes i lo → ends_of ks lo ≤ end_at nodes i → AgreesIn nodes ks lo
      → PlacedIn ks lo → LeavesIn lo (ends_of ks lo) → count (live_child nodes marks i) (ends_of ks lo - lo) lo ≡ live_count marks ks
  unfolding end_of live_count up_from filter
  live_from_lem i nil lo u c a p leaves = let z : lo - lo ≡ 0 = omega arith in ap (λ (n : ℕ). count (live_child nodes marks i) n lo) z
  live_from_lem i (cons k ks) lo u c a p leaves =
      let mid : ℕ = end_of k lo in
      let l = end_of-gt k lo in
      let m = ends_of-ge ks mid in
      let first =
      one_child i lo mid u (omega arith) l (end_agrees nodes k lo a.0) (live_tells k lo a.0 p.0)
      (λ j v w. leaves j v (omega arith)) in
      let later =
      live_from_lem i ks mid (under_next nodes i lo k u a.0) c a.1 p.1 (λ j v w. leaves j (omega arith) w) in
      count_split (live_child nodes marks i) lo mid (ends_of ks mid) (omega arith) m ∙ (λ n. first n + later n)
      ∙ more (live marks k) (live_count marks ks)
    where
      more : (b : Bool) (n : ℕ) → cond b 1 0 + n ≡ cond b (suc n) n
      more true n = omega arith
      more false n = omega arith

  pub live_children-tree : (i : ℕ) (ks : Stmts) → end_at nodes i ≡ ends_of ks (suc i) → ends_of ks (suc i) ≤ node_count nodes
      → AgreesIn nodes ks (suc i) → PlacedIn ks (suc i) → LeavesIn (suc i) (ends_of ks (suc i))
      → live_children nodes marks i ≡ live_count marks ks
  unfolding live_children
  live_children-tree i ks e h a p leaves =
      count_within (live_child nodes marks i) (node_count nodes) (suc i) (ends_of ks (suc i)) (ends_of-ge ks (suc i)) h
      (λ j l. no_child i j (λ q. let z = (is_parent nodes j i q).lower in omega arith))
      (λ j l. no_child i j (λ q. let z = (is_parent nodes j i q).covers in omega arith))
      ∙ live_from_lem i ks (suc i) (under_first nodes i) (omega arith) a p leaves
