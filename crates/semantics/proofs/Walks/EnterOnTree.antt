-- Entering on the flat lists, as the rules say it, is entering on the tree's state written out. By induction over the
-- tree; at a PAR the count goes down child by child, while what was entered already stands between the count and the
-- next child.
use mathlib.Core.Path.{◌≡◌, refl, sym, ap, ◌∙◌}
use mathlib.Core.Bool.{Bool, true, false, cond, ◌||◌, or-true, or-false, or_assoc}
use mathlib.Core.List.{List, [], ◌∷◌, ◌++◌, reverse_aux}
use Prim.Native.Nat.{ℕ, suc, ◌+◌, ◌-◌}
use native.Mathlib.Nat.{zero-add}
use native.Mathlib.Omega.{arith}
use lib.Dec.{eqb}
use lib.ListN.{length, get_or, set, length-append}
use Rattle.semantics.specs.Tree.{Stmt, Stmts}
use Rattle.semantics.specs.Tree.Stmt.{leaf, seq, par, ife, whl}
use Rattle.semantics.specs.Tree.Stmts.{nil, cons}
use Rattle.semantics.specs.Walk.{Walk, Entered, then_enter, lower_if_finished, finished_at_zero, loop_if_finished}
use Rattle.semantics.specs.Walk.{child_count, enter, enter_in_turn, enter_each}
use Rattle.semantics.specs.Walk.Entered.{finished, stays}
use Rattle.semantics.proofs.Tree.Positions.{end_of, ends_of, Placed, PlacedIn}
use Rattle.semantics.proofs.Walks.TreeState.{StateOf, StateIn}
use Rattle.semantics.proofs.Walks.TreeWalk.{Step, StepEach, pass, in_first, in_second, in_turn, loop_if_done, less_if}
use Rattle.semantics.proofs.Walks.TreeWalk.{enter_tree, enter_tree_in_turn, enter_tree_each}
use Rattle.semantics.proofs.Walks.FlatLists.{append-reverse_aux, reverse_aux_onto, set_after, get_d_after, Column}
use Rattle.semantics.proofs.Walks.FlatLists.{leaf_word, node_word, Surroundings, lay_out, lay_out_in, walk_with-eq, write}
use Rattle.semantics.proofs.Walks.FlatLists.{write_in, within, ahead, past, past_in, past_write, past_in-write}
use Rattle.semantics.proofs.Walks.FlatLists.{past-length, Fits, within_fits, past_fits, past_in-fits}
use Rattle.semantics.proofs.Walks.FlatLists.Column.{in_marks, in_counts}

-- the outcome of a walk on the flat lists
abbrev pub outcome : Bool → Walk → Entered
outcome true w = finished w
outcome false w = stays w

-- a step on the tree, written out; z: a zero-time loop was met before
abbrev pub written : (t : Stmt) → Surroundings → Bool → Step (StateOf t) → Entered
written t K z r = outcome r.done (write t r.state K (z || r.looped))

abbrev pub written_in : (ks : Stmts) → Surroundings → Bool → Step (StateIn ks) → Entered
written_in ks K z r = outcome r.done (write_in ks r.state K (z || r.looped))

-- ---- PAR i: its count n, what was entered of it already, q, and the next child
abbrev under : (Column → List ℕ) → ℕ → Surroundings → Surroundings
under q n K c = record { before = q c ++ node_word c n ∷ (K c).before; after = (K c).after }

abbrev beyond : (k : Stmt) → StateOf k → (Column → List ℕ) → Column → List ℕ
beyond k u q c = reverse_aux (lay_out c k u []) (q c)

under_past : (k : Stmt) (u : StateOf k) (ks : Stmts) (s : StateIn ks) (q : Column → List ℕ) (n : ℕ) (K : Surroundings)
    (z : Bool)
    → write k u (ahead ks s (under q n K)) z ≡ write_in ks s (under (beyond k u q) n K) z
under_past k u ks s q n K z =
    past_write k u ks s (under q n K) z
    ∙ walk_with-eq _ _ z
    (λ c. ap (λ (p : List ℕ). reverse_aux p (lay_out_in c ks s (K c).after))
    (reverse_aux_onto (lay_out c k u []) (q c) (node_word c n ∷ (K c).before)))

under-length : (q p : List ℕ) (m n : ℕ) → length (q ++ m ∷ p) ≡ length (q ++ n ∷ p)
under-length q p m n = simp length-append

under_fits : (k : Stmt) (u : StateOf k) (q : Column → List ℕ) (m n lo : ℕ) (K : Surroundings)
    → Fits (under q m K) lo → Fits (under (beyond k u q) n K) (end_of k lo)
under_fits k u q m n lo K f c =
    ap length (sym (reverse_aux_onto (lay_out c k u []) (q c) (node_word c n ∷ (K c).before)))
    ∙ past-length c k u (q c ++ node_word c n ∷ (K c).before)
    ∙ ap (end_of k) (under-length (q c) (K c).before (node_word c n) (node_word c m) ∙ f c)

lower_under : (q p r : List ℕ) (i m : ℕ) → i ≡ length p
    → set (reverse_aux (q ++ m ∷ p) r) i (get_or (reverse_aux (q ++ m ∷ p) r) i 0 - 1) ≡ reverse_aux (q ++ (m - 1) ∷ p) r
lower_under q p r i m e =
    rw (append-reverse_aux q (m ∷ p) r, append-reverse_aux q ((m - 1) ∷ p) r, get_d_after p (reverse_aux q r) i m e)
    (set_after p (reverse_aux q r) i m (m - 1) e)

lower_if_finished-on_tree : (k : Stmt) (u : StateOf k) (ks : Stmts) (s : StateIn ks) (d : Bool) (i m : ℕ)
    (q : Column → List ℕ) (K : Surroundings) (z : Bool) → i ≡ length (K in_counts).before
    → lower_if_finished i (outcome d (write k u (ahead ks s (under q m K)) z))
    ≡ write k u (ahead ks s (under q (less_if d m) K)) z
lower_if_finished-on_tree k u ks s true i m q K z e =
    let r : List ℕ = lay_out in_counts k u (lay_out_in in_counts ks s (K in_counts).after) in
    λ j. record {
      marks = (write k u (ahead ks s (under q m K)) z).marks;
      counts = lower_under (q in_counts) (K in_counts).before r i m e j;
      looped = z;
    }
lower_if_finished-on_tree k u ks s false i m q K z e = refl

-- the count after one child of those that are still to be entered, n of them besides it
less_by_one : (d : Bool) (m a n : ℕ) → m ≡ a + suc n → less_if d m ≡ cond d a (suc a) + n
less_by_one true m a n e = omega arith
less_by_one false m a n e = omega arith

staying_count : (d : Bool) (a n : ℕ) → cond d a (suc a) + n ≡ a + cond d n (suc n)
staying_count true a n = refl
staying_count false a n = omega arith

cond-outcome : (b : Bool) (w : Walk) → cond b (finished w) (stays w) ≡ outcome b w
cond-outcome true w = refl
cond-outcome false w = refl

pub finished_at_zero-on_tree : (i : ℕ) (ks : Stmts) (n : ℕ) (u : StateIn ks) (K : Surroundings) (z : Bool)
    → i ≡ length (K in_counts).before
    → finished_at_zero i (write (par i ks) (n, u) K z) ≡ outcome (eqb n 0) (write (par i ks) (n, u) K z)
unfolding lay_out
finished_at_zero-on_tree i ks n u K z e =
    rw (get_d_after (K in_counts).before (lay_out_in in_counts ks u (K in_counts).after) i n e) (cond-outcome (eqb n 0) _)

-- ---- IF and WHL
cond-on_tree : (t : Stmt) (K : Surroundings) (z b : Bool) (A B : Entered) (R Q : Step (StateOf t))
    → A ≡ written t K z R → B ≡ written t K z Q → cond b A B ≡ written t K z (cond b R Q)
cond-on_tree t K z true A B R Q p q = p
cond-on_tree t K z false A B R Q p q = q

pub loop_if_finished-on_tree : (d : Bool) (ks : Stmts) (s : StateIn ks) (K : Surroundings) (z l : Bool)
    → loop_if_finished (outcome d (write_in ks s K (z || l))) ≡ outcome d (write_in ks s K (z || (l || d)))
loop_if_finished-on_tree true ks s K z l = rw (or-true l, or-true z)
loop_if_finished-on_tree false ks s K z l = rw (or-false l)

module _ (holds : ℕ → Bool) where
  -- the first child moved (d: it finished), then the others are entered
  pub then_enter-on_tree : (k : Stmt) (ks : Stmts) (d l : Bool) (u : StateOf k) (s : StateIn ks) (K : Surroundings)
      (z : Bool) (q : Step (StateIn ks))
      → ((y : Bool) → enter_in_turn holds ks (write_in ks s (past k u K) y) ≡ written_in ks (past k u K) y q)
      → then_enter (outcome d (write k u (ahead ks s K) (z || l))) (enter_in_turn holds ks)
      ≡ written_in (cons k ks) K z (in_turn (record { done = d; looped = l; state = u }) q s)
  unfolding lay_out
  then_enter-on_tree k ks true l u s K z q h =
      ap (enter_in_turn holds ks) (past_write k u ks s K (z || l)) ∙ h (z || l)
      ∙ ap (outcome q.done) (sym (past_write k u ks q.state K _))
      ∙ ap (λ (y : Bool). outcome q.done (write k u (ahead ks q.state K) y)) (or_assoc z l q.looped)
  then_enter-on_tree k ks false l u s K z q h = rw or-false

  mutual
    unfolding enter enter_tree lay_out

    pub enter_on_tree : (t : Stmt) (s : StateOf t) (lo : ℕ) (K : Surroundings) → Placed t lo → Fits K lo → (z : Bool)
        → enter holds t (write t s K z) ≡ written t K z (enter_tree holds t s)
    enter_on_tree (leaf i) s lo K p f z =
        λ j. stays (record {
          marks = set_after (K in_marks).before (K in_marks).after i (leaf_word in_marks s) 1 (p ∙ sym (f in_marks)) j;
          counts = reverse_aux (K in_counts).before (0 ∷ (K in_counts).after);
          looped = sym (or-false z) j;
        })
    enter_on_tree (seq i ks) s lo K p f z =
        enter_in_turn-on_tree ks s (suc lo) (within 0 K) p.1 (within_fits 0 lo K f) z
    enter_on_tree (par i ks) s lo K p f z =
        let r : StepEach (StateIn ks) = enter_tree_each holds ks s.1 in
        let e : i ≡ length (K in_counts).before = p.0 ∙ sym (f in_counts) in
        let n : ℕ = child_count ks in
        ap (λ (w : Walk). finished_at_zero i (enter_each holds i ks w)) (λ j. record {
          marks = (write (par i ks) s K z).marks;
          counts = set_after (K in_counts).before (lay_out_in in_counts ks s.1 (K in_counts).after) i s.0 n e j;
          looped = z;
        })
        ∙ ap (finished_at_zero i)
        (enter_each-on_tree ks s.1 i (suc lo) n 0 (λ c. []) K p.1 (within_fits n lo K f) e (sym (zero-add n)) z)
        ∙ ap (λ (m : ℕ). finished_at_zero i (write (par i ks) (m, r.state) K (z || r.looped))) (zero-add r.staying)
        ∙ finished_at_zero-on_tree i ks r.staying r.state K (z || r.looped) e
    enter_on_tree (ife i e ys ns) s lo K p f z =
        let f' : Fits (within 0 K) (suc lo) = within_fits 0 lo K f in
        let y : Step (StateIn ys) = enter_tree_in_turn holds ys s.0 in
        let n : Step (StateIn ns) = enter_tree_in_turn holds ns s.1 in
        cond-on_tree (ife i e ys ns) K z (holds e) _ _ (in_first y s.1) (in_second s.0 n)
        (enter_in_turn-on_tree ys s.0 (suc lo) (ahead ns s.1 (within 0 K)) p.1 f' z)
        (ap (enter_in_turn holds ns) (past_in-write ys s.0 ns s.1 (within 0 K) z)
        ∙ enter_in_turn-on_tree ns s.1 (ends_of ys (suc lo)) (past_in ys s.0 (within 0 K)) p.2
        (past_in-fits ys s.0 (suc lo) (within 0 K) f') z
        ∙ ap (outcome n.done) (sym (past_in-write ys s.0 ns n.state (within 0 K) _)))
    enter_on_tree (whl i e ks) s lo K p f z =
        let r : Step (StateIn ks) = enter_tree_in_turn holds ks s in
        cond-on_tree (whl i e ks) K z (holds e) _ _ (loop_if_done r) (pass s)
        (ap loop_if_finished (enter_in_turn-on_tree ks s (suc lo) (within 0 K) p.1 (within_fits 0 lo K f) z)
        ∙ loop_if_finished-on_tree r.done ks r.state (within 0 K) z r.looped)
        (rw or-false)

    pub enter_in_turn-on_tree : (ks : Stmts) (s : StateIn ks) (lo : ℕ) (K : Surroundings) → PlacedIn ks lo → Fits K lo
        → (z : Bool) → enter_in_turn holds ks (write_in ks s K z) ≡ written_in ks K z (enter_tree_in_turn holds ks s)
    enter_in_turn-on_tree nil s lo K p f z = rw or-false
    enter_in_turn-on_tree (cons k ks) s lo K p f z =
        let r : Step (StateOf k) = enter_tree holds k s.0 in
        ap (λ (w : Entered). then_enter w (enter_in_turn holds ks))
        (enter_on_tree k s.0 lo (ahead ks s.1 K) p.0 f z)
        ∙ then_enter-on_tree k ks r.done r.looped r.state s.1 K z (enter_tree_in_turn holds ks s.1)
        (enter_in_turn-on_tree ks s.1 (end_of k lo) (past k r.state K) p.1 (past_fits k r.state lo K f))

    -- PAR i counts m, the children that stayed so far, a, and those still to be entered
    enter_each-on_tree : (ks : Stmts) (s : StateIn ks) (i lo m a : ℕ) (q : Column → List ℕ) (K : Surroundings)
        → PlacedIn ks lo → Fits (under q m K) lo → i ≡ length (K in_counts).before → m ≡ a + child_count ks → (z : Bool)
        → enter_each holds i ks (write_in ks s (under q m K) z)
        ≡ write_in ks (enter_tree_each holds ks s).state (under q (a + (enter_tree_each holds ks s).staying) K)
        (z || (enter_tree_each holds ks s).looped)
    enter_each-on_tree nil s i lo m a q K p f e em z = λ j. write_in nil s (under q (em j) K) (sym (or-false z) j)
    enter_each-on_tree (cons k ks) s i lo m a q K p f e em z =
        let r : Step (StateOf k) = enter_tree holds k s.0 in
        let g : StepEach (StateIn ks) = enter_tree_each holds ks s.1 in
        let d : Bool = r.done in
        let b : ℕ = cond d a (suc a) in
        ap (λ (w : Entered). enter_each holds i ks (lower_if_finished i w))
        (enter_on_tree k s.0 lo (ahead ks s.1 (under q m K)) p.0 f z)
        ∙ ap (enter_each holds i ks)
        (lower_if_finished-on_tree k r.state ks s.1 d i m q K (z || r.looped) e
        ∙ under_past k r.state ks s.1 q (less_if d m) K (z || r.looped))
        ∙ enter_each-on_tree ks s.1 i (end_of k lo) (less_if d m) b (beyond k r.state q) K p.1
        (under_fits k r.state q m (less_if d m) lo K f) e (less_by_one d m a (child_count ks) em) (z || r.looped)
        ∙ sym (under_past k r.state ks g.state q (b + g.staying) K (z || r.looped || g.looped))
        ∙ (λ j. write k r.state (ahead ks g.state (under q (staying_count d a g.staying j) K))
        (or_assoc z r.looped g.looped j))
