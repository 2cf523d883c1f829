-- A flat state that is well formed along the tree is loaded as a consistent state of the tree in which every marked
-- leaf is due; a consistent state of the tree in which nothing is due, written out, is well formed along the tree.
use mathlib.Core.Path.{◌≡◌, refl, sym, ap, ◌∙◌}
use mathlib.Core.Bool.{Bool, true, false, cond, not, ◌&&◌, ◌||◌, true≢false}
use mathlib.Core.List.{List}
use mathlib.Core.Logic.{inl, inr}
use Prim.Native.Nat.{ℕ, suc, ◌≤◌, ◌<◌}
use native.Mathlib.Omega.{arith}
use lib.Dec.{eqb, leb}
use lib.ListN.{length, get_or}
use borrow.Author.Tests.{eqb-true, eqb-false, eq-eqb, leb-true, not-true}
use Rattle.semantics.specs.Tree.{Stmt, Stmts}
use Rattle.semantics.specs.Tree.Stmt.{leaf, seq, par, ife, whl}
use Rattle.semantics.specs.Tree.Stmts.{nil, cons}
use Rattle.semantics.specs.State.{marked}
use Rattle.semantics.proofs.Lists.Logic.{and_left, and_right, both, lt_or_le}
use Rattle.semantics.proofs.Lists.ActiveLaws.{marked_below}
use Rattle.semantics.proofs.Tree.Positions.{end_of, ends_of, Placed, PlacedIn, LeafOf, LeafIn, number, number_in}
use Rattle.semantics.proofs.Tree.TreeWellFormed.{live, any_live, live_count, plain, tree_well_formed, in_turn_well_formed}
use Rattle.semantics.proofs.Tree.TreeWellFormed.{each_well_formed}
use Rattle.semantics.proofs.Walks.TreeState.{Cell, StateOf, StateIn, cell_live, cell_due, live_in, any_live_in, live_count_in}
use Rattle.semantics.proofs.Walks.TreeState.{due_at, due_in, Consistent, ConsistentInTurn, ConsistentEach, Quiet}
use Rattle.semantics.proofs.Walks.TreeState.{QuietIn}
use Rattle.semantics.proofs.Walks.TreeState.Cell.{off, due, on}
use Rattle.semantics.proofs.Walks.FlatLists.{leaf_word}
use Rattle.semantics.proofs.Walks.FlatLists.Column.{in_marks, in_counts}
use Rattle.semantics.proofs.Walks.ReadBack.{Reads, ReadsIn}

-- ---- from the flat lists to the tree
cond-live : (b : Bool) → cell_live (cond b due off) ≡ b
cond-live true = refl
cond-live false = refl

cond-due : (b : Bool) → cell_due (cond b due off) ≡ b
cond-due true = refl
cond-due false = refl

bit_word : (m : ℕ) → leb m 1 ≡ true → m ≡ leaf_word in_marks (cond (eqb m 1) on off)
bit_word m h = pick (eqb m 1) refl
  where
    pick : (b : Bool) → eqb m 1 ≡ b → m ≡ leaf_word in_marks (cond b on off)
    pick true e = eqb-true m 1 e
    pick false e = let l = leb-true m 1 h in let n = eqb-false m 1 e in omega arith

module _ (marks counts : List ℕ) where
  -- a marked leaf is in the given cell, due or on
  unfoldable mutual
    pub load : Cell → (t : Stmt) → StateOf t
    load c (leaf i) = cond (marked marks i) c off
    load c (seq i ks) = load_in c ks
    load c (par i ks) = (get_or counts i 0, load_in c ks)
    load c (ife i e ys ns) = (load_in c ys, load_in c ns)
    load c (whl i e ks) = load_in c ks

    pub load_in : Cell → (ks : Stmts) → StateIn ks
    load_in c nil = tt
    load_in c (cons k ks) = (load c k, load_in c ks)

  mutual
    unfolding load live_in live

    pub load_live : (t : Stmt) → live_in t (load due t) ≡ live marks t
    load_live (leaf i) = cond-live (marked marks i)
    load_live (seq i ks) = load_in-live ks
    load_live (par i ks) = load_in-live ks
    load_live (ife i e ys ns) = λ j. load_in-live ys j || load_in-live ns j
    load_live (whl i e ks) = load_in-live ks

    load_in-live : (ks : Stmts) → any_live_in ks (load_in due ks) ≡ any_live marks ks
    load_in-live nil = refl
    load_in-live (cons k ks) = λ j. load_live k j || load_in-live ks j

  load_in-count : (ks : Stmts) → live_count_in ks (load_in due ks) ≡ live_count marks ks
  unfolding load live_count_in live_count
  load_in-count nil = refl
  load_in-count (cons k ks) = λ j. cond (load_live k j) (suc (load_in-count ks j)) (load_in-count ks j)

  mutual
    unfolding load due_at number

    pub load_due : (t : Stmt) (x : LeafOf t) → due_at t (load due t) x ≡ marked marks (number t x)
    load_due (leaf i) x = cond-due (marked marks i)
    load_due (seq i ks) x = load_in-due ks x
    load_due (par i ks) x = load_in-due ks x
    load_due (ife i e ys ns) (inl x) = load_in-due ys x
    load_due (ife i e ys ns) (inr x) = load_in-due ns x
    load_due (whl i e ks) x = load_in-due ks x

    load_in-due : (ks : Stmts) (x : LeafIn ks) → due_in ks (load_in due ks) x ≡ marked marks (number_in ks x)
    load_in-due nil x = absurd x
    load_in-due (cons k ks) (inl x) = load_due k x
    load_in-due (cons k ks) (inr x) = load_in-due ks x

  -- ---- what well-formedness says of the loaded state
  abbrev pub Loads : Stmt → Type 0
  Loads t =
      record {
        marks_read : Reads in_marks marks t (load on t);
        counts_read : Reads in_counts counts t (load due t);
        consistent : Consistent t (load due t);
      }

  -- of some statements, which are consistent one after the other or side by side
  abbrev LoadsIn : ((ks : Stmts) → StateIn ks → Type 0) → Stmts → Type 0
  LoadsIn ConsistentIn ks =
      record {
        marks_read : ReadsIn in_marks marks ks (load_in on ks);
        counts_read : ReadsIn in_counts counts ks (load_in due ks);
        consistent : ConsistentIn ks (load_in due ks);
      }

  abbrev LoadsInTurn : Stmts → Type 0
  LoadsInTurn = LoadsIn ConsistentInTurn

  abbrev LoadsEach : Stmts → Type 0
  LoadsEach = LoadsIn ConsistentEach

  plain_words : (i n : ℕ) → plain marks counts i n ≡ true → (get_or marks i 0 ≡ 0) × (get_or counts i 0 ≡ n)
  plain_words i n h =
      let unmarked = eqb (get_or marks i 0) 0 in
      (eqb-true _ _ (and_left unmarked _ h), eqb-true _ _ (and_right unmarked _ h))

  -- a SEQ, and a WHL likewise
  plain_loads : (i : ℕ) (ks : Stmts) → plain marks counts i 0 ≡ true → LoadsInTurn ks → Loads (seq i ks)
  unfolding load
  plain_loads i ks h b =
      let w = plain_words i 0 h in
      record { marks_read = (w.0, b.marks_read); counts_read = (w.1, b.counts_read); consistent = b.consistent }

  mutual
    unfolding load tree_well_formed

    pub load_keeps : (t : Stmt) → tree_well_formed marks counts t ≡ true → Loads t
    load_keeps (leaf i) h =
        record {
          marks_read = bit_word (get_or marks i 0) (and_left (leb (get_or marks i 0) 1) _ h);
          counts_read = eqb-true _ _ (and_right (leb (get_or marks i 0) 1) _ h);
          consistent = tt;
        }
    load_keeps (seq i ks) h =
        let p = plain marks counts i 0 in
        plain_loads i ks (and_left p _ h) (load_in_turn_keeps ks (and_right p _ h))
    load_keeps (par i ks) h =
        let n = live_count marks ks in
        let w = plain_words i n (and_left (plain marks counts i n) _ h) in
        let b = load_each_keeps ks (and_right (plain marks counts i n) _ h) in
        record {
          marks_read = (w.0, b.marks_read);
          counts_read = (refl, b.counts_read);
          consistent = (w.1 ∙ sym (load_in-count ks), b.consistent);
        }
    load_keeps (ife i e ys ns) h =
        let p = plain marks counts i 0 in
        let y = in_turn_well_formed marks counts ys in
        let n = in_turn_well_formed marks counts ns in
        let h' : p && y && n ≡ true = and_left (p && y && n) _ h in
        let w = plain_words i 0 (and_left p y (and_left (p && y) n h')) in
        let a = load_in_turn_keeps ys (and_right p y (and_left (p && y) n h')) in
        let b = load_in_turn_keeps ns (and_right (p && y) n h') in
        let one = not-true (any_live marks ys && any_live marks ns) (and_right (p && y && n) _ h) in
        record {
          marks_read = (w.0, a.marks_read, b.marks_read);
          counts_read = (w.1, a.counts_read, b.counts_read);
          consistent = (a.consistent, b.consistent, (λ j. load_in-live ys j && load_in-live ns j) ∙ one);
        }
    load_keeps (whl i e ks) h =
        let p = plain marks counts i 0 in
        plain_loads i ks (and_left p _ h) (load_in_turn_keeps ks (and_right p _ h))

    load_in_turn_keeps : (ks : Stmts) → in_turn_well_formed marks counts ks ≡ true → LoadsInTurn ks
    load_in_turn_keeps nil h = record { marks_read = tt; counts_read = tt; consistent = tt }
    load_in_turn_keeps (cons k ks) h =
        let y = tree_well_formed marks counts k in
        let n = in_turn_well_formed marks counts ks in
        let a = load_keeps k (and_left y n (and_left (y && n) _ h)) in
        let b = load_in_turn_keeps ks (and_right y n (and_left (y && n) _ h)) in
        let one = not-true (live marks k && any_live marks ks) (and_right (y && n) _ h) in
        record {
          marks_read = (a.marks_read, b.marks_read);
          counts_read = (a.counts_read, b.counts_read);
          consistent = (a.consistent, b.consistent, (λ j. load_live k j && load_in-live ks j) ∙ one);
        }

    load_each_keeps : (ks : Stmts) → each_well_formed marks counts ks ≡ true → LoadsEach ks
    load_each_keeps nil h = record { marks_read = tt; counts_read = tt; consistent = tt }
    load_each_keeps (cons k ks) h =
        let a = load_keeps k (and_left (tree_well_formed marks counts k) _ h) in
        let b = load_each_keeps ks (and_right (tree_well_formed marks counts k) _ h) in
        record {
          marks_read = (a.marks_read, b.marks_read);
          counts_read = (a.counts_read, b.counts_read);
          consistent = (a.consistent, b.consistent);
        }

-- ---- a marked node of a list that reads as a state is a leaf
module _ (marks : List ℕ) (e : ℕ) (m : marked marks e ≡ true) where
  not_inner : (i lo : ℕ) → get_or marks i 0 ≡ 0 → i ≡ lo → lo ≤ e → suc lo ≤ e
  not_inner i lo h q l = elim (lt_or_le lo e) [ inl v ↦ v | inr v ↦ absurd (differ v) ]
    where
      differ : e ≤ lo → ⊥
      differ v =
          let same : e ≡ i = omega arith in
          let one : get_or marks e 0 ≡ 1 = eqb-true _ _ m in
          let wrong : ◌≡◌ {A = ℕ} 0 1 = sym h ∙ ap (λ (k : ℕ). get_or marks k 0) (sym same) ∙ one in
          omega arith

  mutual
    unfolding number end_of

    marked_leaf : (t : Stmt) (s : StateOf t) (lo : ℕ) → Reads in_marks marks t s → Placed t lo → lo ≤ e → e < end_of t lo
        → (x : LeafOf t) × (number t x ≡ e)
    marked_leaf (leaf i) s lo h q l u = (tt, omega arith)
    marked_leaf (seq i ks) s lo h q l u =
        marked_leaf_in ks s (suc lo) h.1 q.1 (not_inner i lo h.0 q.0 l) u
    marked_leaf (par i ks) s lo h q l u =
        marked_leaf_in ks s.1 (suc lo) h.1 q.1 (not_inner i lo h.0 q.0 l) u
    marked_leaf (ife i f ys ns) s lo h q l u =
        elim (lt_or_le e (ends_of ys (suc lo))) [
          | inl v ↦
              let r = marked_leaf_in ys s.0 (suc lo) h.1 q.1 (not_inner i lo h.0 q.0 l) v in
              (inl r.0, r.1)
          | inr v ↦ let r = marked_leaf_in ns s.1 (ends_of ys (suc lo)) h.2 q.2 v u in (inr r.0, r.1)
        ]
    marked_leaf (whl i f ks) s lo h q l u =
        marked_leaf_in ks s (suc lo) h.1 q.1 (not_inner i lo h.0 q.0 l) u

    marked_leaf_in : (ks : Stmts) (s : StateIn ks) (lo : ℕ) → ReadsIn in_marks marks ks s → PlacedIn ks lo → lo ≤ e
        → e < ends_of ks lo → (x : LeafIn ks) × (number_in ks x ≡ e)
    marked_leaf_in nil s lo h q l u = absurd (omega arith)
    marked_leaf_in (cons k ks) s lo h q l u =
        elim (lt_or_le e (end_of k lo)) [
          | inl v ↦ let r = marked_leaf k s.0 lo h.0 q.0 l v in (inl r.0, r.1)
          | inr v ↦ let r = marked_leaf_in ks s.1 (end_of k lo) h.1 q.1 v u in (inr r.0, r.1)
        ]

pub load_leaf : (marks counts : List ℕ) (t : Stmt) → tree_well_formed marks counts t ≡ true → Placed t 0
    → length marks ≡ end_of t 0 → (e : ℕ) → marked marks e ≡ true → (x : LeafOf t) × (number t x ≡ e)
load_leaf marks counts t h q n e m =
    let below = marked_below marks e m in
    marked_leaf marks e m t _ 0 (load_keeps marks counts t h).marks_read q (omega arith) (omega arith)

-- ---- from the tree to the flat lists
word_live : (s : Cell) → cell_due s ≡ false → eqb (leaf_word in_marks s) 1 ≡ cell_live s
word_live off h = refl
word_live due h = absurd (true≢false h)
word_live on h = refl

word_bit : (s : Cell) → leb (leaf_word in_marks s) 1 ≡ true
word_bit off = refl
word_bit due = refl
word_bit on = refl

module _ (marks : List ℕ) where
  mutual
    unfolding live live_in due_at

    live_written : (t : Stmt) (s : StateOf t) → Reads in_marks marks t s → Quiet t s → live marks t ≡ live_in t s
    live_written (leaf i) s h q = ap (λ (m : ℕ). eqb m 1) h ∙ word_live s (q tt)
    live_written (seq i ks) s h q = any_live-written ks s h.1 q
    live_written (par i ks) s h q = any_live-written ks s.1 h.1 q
    live_written (ife i e ys ns) s h q =
        let a = any_live-written ys s.0 h.1 (λ x. q (inl x)) in
        let b = any_live-written ns s.1 h.2 (λ x. q (inr x)) in
        λ j. a j || b j
    live_written (whl i e ks) s h q = any_live-written ks s h.1 q

    any_live-written : (ks : Stmts) (s : StateIn ks) → ReadsIn in_marks marks ks s → QuietIn ks s
        → any_live marks ks ≡ any_live_in ks s
    any_live-written nil s h q = refl
    any_live-written (cons k ks) s h q =
        let a = live_written k s.0 h.0 (λ x. q (inl x)) in
        let b = any_live-written ks s.1 h.1 (λ x. q (inr x)) in
        λ j. a j || b j

  live_count-written : (ks : Stmts) (s : StateIn ks) → ReadsIn in_marks marks ks s → QuietIn ks s
      → live_count marks ks ≡ live_count_in ks s
  unfolding live_count live_count_in due_at
  live_count-written nil s h q = refl
  live_count-written (cons k ks) s h q =
      let a = live_written k s.0 h.0 (λ x. q (inl x)) in
      let b = live_count-written ks s.1 h.1 (λ x. q (inr x)) in
      λ j. cond (a j) (suc (b j)) (b j)

module _ (marks counts : List ℕ) where
  plain_written : (i n : ℕ) → get_or marks i 0 ≡ 0 → get_or counts i 0 ≡ n → plain marks counts i n ≡ true
  plain_written i n h k = both (eq-eqb (get_or marks i 0) 0 h) (eq-eqb (get_or counts i 0) n k)

  one_live : (a b c d : Bool) → a ≡ c → b ≡ d → c && d ≡ false → not (a && b) ≡ true
  one_live a b c d p q h = ap not ((λ j. p j && q j) ∙ h)

  mutual
    unfolding tree_well_formed due_at

    pub written-well_formed : (t : Stmt) (s : StateOf t) → Reads in_marks marks t s → Reads in_counts counts t s
        → Consistent t s → Quiet t s → tree_well_formed marks counts t ≡ true
    written-well_formed (leaf i) s h k g q = both (ap (λ (m : ℕ). leb m 1) h ∙ word_bit s) (eq-eqb (get_or counts i 0) 0 k)
    written-well_formed (seq i ks) s h k g q =
        both (plain_written i 0 h.0 k.0) (written-in_turn ks s h.1 k.1 g q)
    written-well_formed (par i ks) s h k g q =
        both (plain_written i _ h.0 (k.0 ∙ g.0 ∙ sym (live_count-written marks ks s.1 h.1 q)))
        (written_each ks s.1 h.1 k.1 g.1 q)
    written-well_formed (ife i e ys ns) s h k g q =
        let qy : QuietIn ys s.0 = λ x. q (inl x) in
        let qn : QuietIn ns s.1 = λ x. q (inr x) in
        both (both (both (plain_written i 0 h.0 k.0)
        (written-in_turn ys s.0 h.1 k.1 g.0 qy))
        (written-in_turn ns s.1 h.2 k.2 g.1 qn))
        (one_live _ _ _ _ (any_live-written marks ys s.0 h.1 qy) (any_live-written marks ns s.1 h.2 qn)
        g.2)
    written-well_formed (whl i e ks) s h k g q =
        both (plain_written i 0 h.0 k.0) (written-in_turn ks s h.1 k.1 g q)

    written-in_turn : (ks : Stmts) (s : StateIn ks) → ReadsIn in_marks marks ks s → ReadsIn in_counts counts ks s
        → ConsistentInTurn ks s → QuietIn ks s → in_turn_well_formed marks counts ks ≡ true
    written-in_turn nil s h k g q = refl
    written-in_turn (cons t ks) s h k g q =
        let qt : Quiet t s.0 = λ x. q (inl x) in
        let qs : QuietIn ks s.1 = λ x. q (inr x) in
        both (both (written-well_formed t s.0 h.0 k.0 g.0 qt)
        (written-in_turn ks s.1 h.1 k.1 g.1 qs))
        (one_live _ _ _ _ (live_written marks t s.0 h.0 qt) (any_live-written marks ks s.1 h.1 qs) g.2)

    written_each : (ks : Stmts) (s : StateIn ks) → ReadsIn in_marks marks ks s → ReadsIn in_counts counts ks s
        → ConsistentEach ks s → QuietIn ks s → each_well_formed marks counts ks ≡ true
    written_each nil s h k g q = refl
    written_each (cons t ks) s h k g q =
        both (written-well_formed t s.0 h.0 k.0 g.0 (λ x. q (inl x)))
        (written_each ks s.1 h.1 k.1 g.1 (λ x. q (inr x)))
