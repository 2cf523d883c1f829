-- Question 6 is well-formedness along the tree, for a node list that agrees with the tree.
-- What it asks of all nodes is asked of a stretch of them, and by induction on a statement its stretch is well formed
-- exactly when the statement is. Both directions rest on where two nodes meet and on the number of live children.
use mathlib.Core.Path.{◌≡◌, refl, sym, ap, ◌∙◌, subst}
use mathlib.Core.Bool.{Bool, true, false, cond, not, ◌&&◌, ◌||◌, true≢false, and-true}
use mathlib.Core.List.{List}
use mathlib.Core.Logic.{inl, inr, ◌↔◌}
use Prim.Native.Nat.{ℕ, suc, ◌≤◌, ◌<◌}
use native.Mathlib.Nat.{le_refl, le_trans, le-suc}
use native.Mathlib.Omega.{arith}
use lib.Dec.{eqb, leb}
use lib.ListN.{length, get_or}
use borrow.Author.Tests.{eqb-true, eqb-false, eq-eqb, ne_eqb, leb-true, le-leb}
use Rattle.semantics.specs.Numbers.{every}
use Rattle.semantics.specs.Program.{Kind, node_count, kind_at, end_at, is_leaf, is_par}
use Rattle.semantics.specs.Program.Kind.{SEQ, PAR, IF, WHL, LEAF, UNKNOWN}
use Rattle.semantics.specs.Tree.{Stmt, Stmts}
use Rattle.semantics.specs.Tree.Stmt.{leaf, seq, par, ife, whl}
use Rattle.semantics.specs.Tree.Stmts.{nil, cons}
use Rattle.semantics.specs.State.{marked, active, common_ancestors, first_is_par, live_children}
use Rattle.semantics.specs.State.{marks_are_bits, leaves_marked, pairs_meet_in_par, counts_right, control_formed}
use Rattle.semantics.proofs.Lists.Logic.{and_left, and_right, both, bool_eq, true_or_false, lt_or_le}
use Rattle.semantics.proofs.Lists.NumberLaws.{every_at, every-all, every_elements}
use Rattle.semantics.proofs.Tree.Positions.{end_of, ends_of, end_of-gt, ends_of-ge, Placed, PlacedIn}
use Rattle.semantics.proofs.Tree.Agreement.{Agrees, AgreesIn, Under, under_first, under_next, under_past}
use Rattle.semantics.proofs.Lists.ActiveLaws.{marked_below, every_active}
use Rattle.semantics.proofs.Tree.AncestorLaws.{meet_in}
use Rattle.semantics.proofs.Tree.TreeWellFormed.{live, any_live, live_count, plain}
use Rattle.semantics.proofs.Tree.TreeWellFormed.{tree_well_formed, in_turn_well_formed, each_well_formed}
use Rattle.semantics.proofs.Tree.LiveStatements.{LeavesIn, Tells, live_tells, any_live-tells, live_children-tree}

all-four : (a b c d : Bool) → a && b && c && d ≡ true ↔ ((a ≡ true) × (b ≡ true) × (c ≡ true) × (d ≡ true))
all-four a b c d = (to, λ p. both (both (both p.0 p.1) p.2) p.3)
  where
    to : a && b && c && d ≡ true → (a ≡ true) × (b ≡ true) × (c ≡ true) × (d ≡ true)
    to h =
        let abc = and_left (a && b && c) d h in
        let ab = and_left (a && b) c abc in
        (and_left a b ab, and_right a b ab, and_right (a && b) c abc, and_right (a && b && c) d h)

regroup : (p a b c : Bool) → p && (a && b && c) ≡ p && a && b && c
regroup true a b c = refl
regroup false a b c = refl

-- if both x and y then p, as a test
if_both : (p x y : Bool) → (x ≡ true → y ≡ true → p ≡ true) ↔ (p || not (x && y) ≡ true)
if_both true x y = (λ f. refl, λ h e q. refl)
if_both false true true = (λ f. f refl refl, λ h e q. h)
if_both false true false = (λ f. refl, λ h e q. q)
if_both false false y = (λ f. refl, λ h e q. e)

leaf_not_par : (k : Kind) → is_leaf k ≡ true → is_par k ≡ false
leaf_not_par SEQ h = refl
leaf_not_par PAR h = sym h
leaf_not_par IF h = refl
leaf_not_par WHL h = refl
leaf_not_par (LEAF l) h = refl
leaf_not_par UNKNOWN h = refl

module _ (nodes marks counts : List ℕ) where
  -- ---- what question 6 asks of a node, of two nodes, and of the nodes from lo up to hi
  abbrev right_count : ℕ → ℕ
  right_count i = cond (is_par (kind_at nodes i)) (live_children nodes marks i) 0

  abbrev Counts : ℕ → ℕ → Type 0
  Counts i n = eqb (get_or counts i 0) n ≡ true

  pub record NodeRight (i : ℕ) : Type 0 where
    pub bit : leb (get_or marks i 0) 1 ≡ true
    pub is_leaf : marked marks i ≡ true → is_leaf (kind_at nodes i) ≡ true
    pub counted : Counts i (right_count i)

  abbrev Meet : ℕ → ℕ → Type 0
  Meet i j = first_is_par nodes (common_ancestors nodes i j) ≡ true

  pub record WellFormedIn (lo hi : ℕ) : Type 0 where
    pub each : (i : ℕ) → lo ≤ i → i < hi → NodeRight i
    pub pairs : (i j : ℕ) → lo ≤ i → i < hi → lo ≤ j → j < hi → (i ≡ j → ⊥) → marked marks i ≡ true
        → marked marks j ≡ true → Meet i j

  leaves_in : {lo hi : ℕ} → WellFormedIn lo hi → LeavesIn nodes marks lo hi
  leaves_in f i l u = (f.each i l u).is_leaf

  -- ---- stretches: none, one node, a part, two put together
  empty : {lo : ℕ} → WellFormedIn lo lo
  empty = record { each = λ i l u. absurd (omega arith); pairs = λ i j l u. absurd (omega arith) }

  single : {lo : ℕ} → NodeRight lo → WellFormedIn lo (suc lo)
  single {lo} r =
      record {
        each = λ i l u. let e : lo ≡ i = omega arith in subst NodeRight e r;
        pairs = λ i j l u l' u' differ. absurd (differ (omega arith));
      }

  part : {lo hi : ℕ} (l h : ℕ) → lo ≤ l → h ≤ hi → WellFormedIn lo hi → WellFormedIn l h
  part l h v w f =
      record {
        each = λ i x y. f.each i (omega arith) (omega arith);
        pairs = λ i j x y x' y'. f.pairs i j (omega arith) (omega arith) (omega arith) (omega arith);
      }

  join : {lo mid hi : ℕ} → WellFormedIn lo mid → WellFormedIn mid hi
      → ((i j : ℕ) → lo ≤ i → i < mid → mid ≤ j → j < hi → marked marks i ≡ true → marked marks j ≡ true
      → Meet i j × Meet j i)
      → WellFormedIn lo hi
  join {mid} f g across =
      record {
        each = λ i l u. elim (lt_or_le i mid) [ inl v ↦ f.each i l v | inr v ↦ g.each i v u ];
        pairs = λ i j l u l' u' differ m m'. elim (lt_or_le i mid) [
          | inl v ↦ elim (lt_or_le j mid) [
            | inl w ↦ f.pairs i j l v l' w differ m m'
            | inr w ↦ (across i j l v w u' m m').0
          ]
          | inr v ↦ elim (lt_or_le j mid) [
            | inl w ↦ (across j i l' w v u m' m).1
            | inr w ↦ g.pairs i j v u w u' differ m m'
          ]
        ];
      }

  -- ---- the steps of the induction: a leaf,
  pub leaf_right : (i : ℕ) → is_leaf (kind_at nodes i) ≡ true
      → NodeRight i ↔ (leb (get_or marks i 0) 1 && eqb (get_or counts i 0) 0 ≡ true)
  leaf_right i is_leaf = (to, from)
    where
      none : right_count i ≡ 0
      none = rw (leaf_not_par (kind_at nodes i) is_leaf)

      to : NodeRight i → leb (get_or marks i 0) 1 && eqb (get_or counts i 0) 0 ≡ true
      to r = both r.bit (subst (Counts i) none r.counted)

      from : leb (get_or marks i 0) 1 && eqb (get_or counts i 0) 0 ≡ true → NodeRight i
      from h =
          record {
            bit = and_left (leb (get_or marks i 0) 1) _ h;
            is_leaf = λ m. is_leaf;
            counted = subst (Counts i) (sym none) (and_right (leb (get_or marks i 0) 1) _ h);
          }

  alone_right : (i lo : ℕ) → i ≡ lo → is_leaf (kind_at nodes lo) ≡ true
      → WellFormedIn lo (suc lo) ↔ (leb (get_or marks i 0) 1 && eqb (get_or counts i 0) 0 ≡ true)
  alone_right i lo e is_leaf =
      let r = leaf_right lo is_leaf in
      rw e (λ f. r.0 (f.each lo (le_refl lo) (le_refl (suc lo))), λ h. single (r.1 h))

  -- a node that is no leaf, which is right when it has no mark and the count n that it must have,
  pub plain_right : (i n : ℕ) → is_leaf (kind_at nodes i) ≡ false → right_count i ≡ n
      → NodeRight i ↔ (plain marks counts i n ≡ true)
  plain_right i n inner known = (to, from)
    where
      to : NodeRight i → plain marks counts i n ≡ true
      to r =
          let l : get_or marks i 0 ≤ 1 = leb-true _ _ r.bit in
          let d : get_or marks i 0 ≡ 1 → ⊥ = λ e. true≢false (sym (r.is_leaf (eq-eqb _ _ e)) ∙ inner) in
          both (eq-eqb (get_or marks i 0) 0 (omega arith)) (subst (Counts i) known r.counted)

      from : plain marks counts i n ≡ true → NodeRight i
      from h =
          let z : get_or marks i 0 ≡ 0 = eqb-true _ _ (and_left (eqb (get_or marks i 0) 0) _ h) in
          record {
            bit = le-leb (get_or marks i 0) 1 (omega arith);
            is_leaf = λ m. let o : get_or marks i 0 ≡ 1 = eqb-true _ _ m in absurd (omega arith);
            counted = subst (Counts i) (sym known) (and_right (eqb (get_or marks i 0) 0) _ h);
          }

  -- such a node before those below it, of which b says that they are well formed,
  node_right : (i lo n : ℕ) (b : Bool) {hi : ℕ} → i ≡ lo → lo < hi → is_leaf (kind_at nodes lo) ≡ false
      → (LeavesIn nodes marks (suc lo) hi → right_count lo ≡ n) → WellFormedIn (suc lo) hi ↔ (b ≡ true)
      → WellFormedIn lo hi ↔ (plain marks counts i n && b ≡ true)
  node_right i lo n b {hi} e l inner known rest = rw e (to, from)
    where
      to : WellFormedIn lo hi → plain marks counts lo n && b ≡ true
      to f =
          let g = part (suc lo) hi (le-suc lo) (le_refl hi) f in
          both ((plain_right lo n inner (known (leaves_in g))).0 (f.each lo (le_refl lo) l)) (rest.0 g)

      from : plain marks counts lo n && b ≡ true → WellFormedIn lo hi
      from h =
          let g = rest.1 (and_right (plain marks counts lo n) b h) in
          let r = (plain_right lo n inner (known (leaves_in g))).1 (and_left (plain marks counts lo n) b h) in
          join (single r) g
          (λ i j l u l' u' m m'.
          let e : i ≡ lo = omega arith in
          absurd (true≢false (sym (r.is_leaf (subst (λ (k : ℕ). marked marks k ≡ true) e m)) ∙ inner)))

  -- the children of node i before mid and those from mid on, of which a and b say that they are well formed, x and y
  -- that a mark stands in them
  children_right_lem : (i : ℕ) {lo mid hi : ℕ} {a b x y : Bool} → Under nodes i lo → Under nodes i mid → lo ≤ mid → mid ≤ hi
      → hi ≤ end_at nodes i → Tells nodes marks x lo mid → Tells nodes marks y mid hi
      → WellFormedIn lo mid ↔ (a ≡ true) → WellFormedIn mid hi ↔ (b ≡ true)
      → WellFormedIn lo hi ↔ (a && b && (is_par (kind_at nodes i) || not (x && y)) ≡ true)
  children_right_lem i {lo} {mid} {hi} {a} {b} {x} {y} u v l m h s t f g = (to, from)
    where
      is_par_lem : Bool
      is_par_lem = is_par (kind_at nodes i)

      to : WellFormedIn lo hi → a && b && (is_par_lem || not (x && y)) ≡ true
      to w =
          both (both (f.0 (part lo mid (le_refl lo) m w)) (g.0 (part mid hi l (le_refl hi) w)))
          ((if_both is_par_lem x y).0
          (λ p q.
          let (j, lj, uj, mj) = s.found p in
          let (k, lk, uk, mk) = t.found q in
          sym (meet_in nodes i lo mid j k u v lj lk (omega arith) (omega arith) (inl (omega arith)))
          ∙ w.pairs j k lj (omega arith) (omega arith) uk (λ (e : j ≡ k). omega arith) mj mk))

      from : a && b && (is_par_lem || not (x && y)) ≡ true → WellFormedIn lo hi
      from w =
          let ab = and_left (a && b) _ w in
          let fw = f.1 (and_left a b ab) in
          let gw = g.1 (and_right a b ab) in
          join fw gw
          (λ j k lj uj lk uk mj mk.
          let p = s.held j lj uj mj (leaves_in fw j lj uj mj) in
          let q = t.held k lk uk mk (leaves_in gw k lk uk mk) in
          let e = (if_both is_par_lem x y).1 (and_right (a && b) _ w) p q in (
            meet_in nodes i lo mid j k u v lj lk (omega arith) (omega arith) (inl (omega arith)) ∙ e,
            meet_in nodes i mid lo k j v u lk lj (omega arith) (omega arith) (inr (omega arith)) ∙ e,
          ))

  -- a child and those after it
  child_right : (i lo : ℕ) (k : Stmt) (ks : Stmts) {b : Bool} → Under nodes i lo
      → ends_of ks (end_of k lo) ≤ end_at nodes i
      → Agrees nodes k lo → AgreesIn nodes ks (end_of k lo) → Placed k lo → PlacedIn ks (end_of k lo)
      → WellFormedIn lo (end_of k lo) ↔ (tree_well_formed marks counts k ≡ true)
      → WellFormedIn (end_of k lo) (ends_of ks (end_of k lo)) ↔ (b ≡ true)
      → WellFormedIn lo (ends_of ks (end_of k lo))
      ↔ (tree_well_formed marks counts k && b && (is_par (kind_at nodes i) || not (live marks k && any_live marks ks))
      ≡ true)
  child_right i lo k ks u l ak aks pk pks =
      children_right_lem i u (under_next nodes i lo k u ak) (le_trans (le-suc lo) (end_of-gt k lo))
      (ends_of-ge ks (end_of k lo)) l (live_tells nodes marks k lo ak pk)
      (any_live-tells nodes marks ks (end_of k lo) aks pks)

  -- ---- a statement's stretch is well formed exactly when the statement is
  mutual
    unfolding tree_well_formed live end_of

    tree_right : (t : Stmt) (lo : ℕ) → Agrees nodes t lo → Placed t lo → end_of t lo ≤ node_count nodes
        → WellFormedIn lo (end_of t lo) ↔ (tree_well_formed marks counts t ≡ true)
    tree_right (leaf i) lo a p h = alone_right i lo p a.1
    tree_right (seq i ks) lo a p h =
        node_right i lo 0 (in_turn_well_formed marks counts ks) p.0 (ends_of-ge ks (suc lo)) (ap is_leaf a.1)
        (λ leaves. rw a.1)
        (in_turn_right lo (ap is_par a.1) ks (suc lo) (under_first nodes lo) (omega arith) a.2 p.1 h)
    tree_right (par i ks) lo a p h =
        node_right i lo (live_count marks ks) (each_well_formed marks counts ks) p.0 (ends_of-ge ks (suc lo))
        (ap is_leaf a.1) (λ leaves. rw a.1 (live_children-tree nodes marks lo ks a.0 h a.2 p.1 leaves))
        (each_right lo (ap is_par a.1) ks (suc lo) (under_first nodes lo) (omega arith) a.2 p.1 h)
    tree_right (ife i e ys ns) lo a p h =
        let mid : ℕ = ends_of ys (suc lo) in
        let l = ends_of-ge ys (suc lo) in
        let m = ends_of-ge ns mid in
        let u = under_past nodes lo (suc lo) ys (under_first nodes lo) a.2 in
        rw (← regroup (plain marks counts i 0) (in_turn_well_formed marks counts ys) (in_turn_well_formed marks counts ns) _)
        (node_right i lo 0 _ p.0 (omega arith) (ap is_leaf a.1) (λ leaves. rw a.1)
        (rw (ap is_par a.1) at
        (children_right_lem lo (under_first nodes lo) u l m (omega arith)
        (any_live-tells nodes marks ys (suc lo) a.2 p.1) (any_live-tells nodes marks ns mid a.3 p.2)
        (in_turn_right lo (ap is_par a.1) ys (suc lo) (under_first nodes lo) (omega arith) a.2 p.1
        (omega arith))
        (in_turn_right lo (ap is_par a.1) ns mid u (omega arith) a.3 p.2 h))))
    tree_right (whl i e ks) lo a p h =
        node_right i lo 0 (in_turn_well_formed marks counts ks) p.0 (ends_of-ge ks (suc lo)) (ap is_leaf a.1)
        (λ leaves. rw a.1)
        (in_turn_right lo (ap is_par a.1) ks (suc lo) (under_first nodes lo) (omega arith) a.2 p.1 h)

    in_turn_right : (i : ℕ) → is_par (kind_at nodes i) ≡ false → (ks : Stmts) (lo : ℕ) → Under nodes i lo
        → ends_of ks lo ≤ end_at nodes i → AgreesIn nodes ks lo → PlacedIn ks lo → ends_of ks lo ≤ node_count nodes
        → WellFormedIn lo (ends_of ks lo) ↔ (in_turn_well_formed marks counts ks ≡ true)
    in_turn_right i e nil lo u l a p h = (λ w. refl, λ q. empty)
    in_turn_right i e (cons k ks) lo u l a p h =
        let m = ends_of-ge ks (end_of k lo) in
        rw e at
        (child_right i lo k ks u l a.0 a.1 p.0 p.1 (tree_right k lo a.0 p.0 (omega arith))
        (in_turn_right i e ks (end_of k lo) (under_next nodes i lo k u a.0) l a.1 p.1 h))

    each_right : (i : ℕ) → is_par (kind_at nodes i) ≡ true → (ks : Stmts) (lo : ℕ) → Under nodes i lo
        → ends_of ks lo ≤ end_at nodes i → AgreesIn nodes ks lo → PlacedIn ks lo → ends_of ks lo ≤ node_count nodes
        → WellFormedIn lo (ends_of ks lo) ↔ (each_well_formed marks counts ks ≡ true)
    each_right i e nil lo u l a p h = (λ w. refl, λ q. empty)
    each_right i e (cons k ks) lo u l a p h =
        let m = ends_of-ge ks (end_of k lo) in
        rw (e, and-true) at
        (child_right i lo k ks u l a.0 a.1 p.0 p.1 (tree_right k lo a.0 p.0 (omega arith))
        (each_right i e ks (end_of k lo) (under_next nodes i lo k u a.0) l a.1 p.1 h))

  -- ---- question 6 asks it of all nodes
  abbrev AsWorded : Type 0
  AsWorded =
      (marks_are_bits marks ≡ true) × (leaves_marked nodes marks ≡ true) × (pairs_meet_in_par nodes marks ≡ true)
      × (counts_right nodes marks counts ≡ true)

  list_right : length marks ≡ node_count nodes → WellFormedIn 0 (node_count nodes) ↔ AsWorded
  unfolding marks_are_bits leaves_marked pairs_meet_in_par counts_right
  list_right same = (to, from)
    where
      meet : ℕ → ℕ → Bool
      meet i j = eqb i j || first_is_par nodes (common_ancestors nodes i j)

      meet_all : ℕ → Bool
      meet_all i = every (meet i) (active marks)

      count_right : ℕ → Bool
      count_right i = eqb (get_or counts i 0) (right_count i)

      inside : (i : ℕ) → marked marks i ≡ true → i < node_count nodes
      inside i m = omega (arith, marked_below marks i m, same)

      meets : WellFormedIn 0 (node_count nodes) → (i j : ℕ) → marked marks i ≡ true → marked marks j ≡ true
          → meet i j ≡ true
      meets w i j m m' =
          elim (true_or_false (eqb i j)) [
            | inl e ↦ rw e
            | inr e ↦ rw e (w.pairs i j (omega arith) (inside i m) (omega arith) (inside j m') (eqb-false i j e) m m')
          ]

      to : WellFormedIn 0 (node_count nodes) → AsWorded
      to w = (
        (every_elements (λ m. leb m 1) 0 marks).1 (λ i u. (w.each i (omega arith) (omega arith)).bit),
        (every_active marks (λ i. is_leaf (kind_at nodes i))).1 (λ i m. (w.each i (omega arith) (inside i m)).is_leaf m),
        (every_active marks meet_all).1 (λ i m. (every_active marks (meet i)).1 (λ j. meets w i j m)),
        every-all count_right (node_count nodes) 0 (λ i l u. (w.each i l (omega arith)).counted),
      )

      from : AsWorded → WellFormedIn 0 (node_count nodes)
      from (bits, leaves, meet-each, counted) =
          record {
            each = λ i l u. record {
              bit = (every_elements (λ m. leb m 1) 0 marks).0 bits i (omega arith);
              is_leaf = (every_active marks (λ i. is_leaf (kind_at nodes i))).0 leaves i;
              counted = every_at count_right (node_count nodes) 0 i counted l (omega arith);
            };
            pairs = λ i j l u l' u' differ m m'.
                rw (ne_eqb i j differ) at
                ((every_active marks (meet i)).0 ((every_active marks meet_all).0 meet-each i m) j m');
          }

-- what question 6 asks of marks and counts is answered yes exactly when all nodes are right and any two marked ones
-- meet in a PAR
pub control_formed-in : (nodes marks counts : List ℕ) → length marks ≡ node_count nodes
    → WellFormedIn nodes marks counts 0 (node_count nodes) ↔ (control_formed nodes marks counts ≡ true)
unfolding control_formed
control_formed-in nodes marks counts same =
    let worded = list_right nodes marks counts same in
    (λ w. (all-four _ _ _ _).1 (worded.0 w), λ h. worded.1 ((all-four _ _ _ _).0 h))

-- and exactly when the state is well formed along the tree
pub control_formed-on_tree : (nodes marks counts : List ℕ) (t : Stmt) → Placed t 0 → Agrees nodes t 0
    → end_of t 0 ≡ node_count nodes → length marks ≡ node_count nodes
    → control_formed nodes marks counts ≡ tree_well_formed marks counts t
control_formed-on_tree nodes marks counts t p a e same =
    bool_eq _ _ (λ h. on_tree.0 (on_list.1 h)) (λ h. on_list.0 (on_tree.1 h))
  where
    on_tree : WellFormedIn nodes marks counts 0 (node_count nodes) ↔ (tree_well_formed marks counts t ≡ true)
    on_tree = rw e at (tree_right nodes marks counts t 0 a p (omega arith))

    on_list : WellFormedIn nodes marks counts 0 (node_count nodes) ↔ (control_formed nodes marks counts ≡ true)
    on_list = control_formed-in nodes marks counts same
