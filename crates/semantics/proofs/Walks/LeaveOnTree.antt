-- Visiting a due leaf on the flat lists, by the frames above it, is advancing it on the tree's state written out. By
-- induction over the tree, with the frames above the tree left as they are.
use mathlib.Core.Path.{◌≡◌, refl, sym, ap, ◌∙◌}
use mathlib.Core.Bool.{Bool, true, false, cond, not, ◌&&◌, ◌||◌, true≢false, or-false, or_assoc}
use mathlib.Core.List.{List, ◌∷◌, reverse_aux}
use mathlib.Core.Logic.{inl, inr}
use Prim.Native.Nat.{ℕ, suc, ◌-◌}
use lib.Dec.{eqb}
use lib.ListN.{length}
use Rattle.semantics.specs.Tree.{Stmt, Stmts}
use Rattle.semantics.specs.Tree.Stmt.{leaf, seq, par, ife, whl}
use Rattle.semantics.specs.Tree.Stmts.{nil, cons}
use Rattle.semantics.specs.Walk.{Walk, Entered, mark, lower, finished_at_zero, loop_if_finished, then_leave}
use Rattle.semantics.specs.Walk.{enter_in_turn}
use Rattle.semantics.proofs.Tree.Positions.{end_of, ends_of, Placed, PlacedIn, LeafOf, LeafIn, number, number_in, Frame}
use Rattle.semantics.proofs.Tree.Positions.{unwind, frames_at, frames_in_turn, frames_each}
use Rattle.semantics.proofs.Tree.Positions.Frame.{in_seq, in_par, in_if, in_whl}
use Rattle.semantics.proofs.Walks.TreeState.{Cell, StateOf, StateIn, cell_due, due_at, due_in}
use Rattle.semantics.proofs.Walks.TreeState.Cell.{off, due, on}
use Rattle.semantics.proofs.Walks.TreeWalk.{Step, again, less_if, enter_tree_in_turn, advance, advance_in_turn, advance_each}
use Rattle.semantics.proofs.Walks.FlatLists.{set_after, get_d_after, leaf_word, Surroundings, lay_out, lay_out_in, write}
use Rattle.semantics.proofs.Walks.FlatLists.{write_in, within, ahead, past, past_in, past_write, past_in-write, Fits}
use Rattle.semantics.proofs.Walks.FlatLists.{within_fits, past_fits, past_in-fits}
use Rattle.semantics.proofs.Walks.FlatLists.Column.{in_marks, in_counts}
use Rattle.semantics.proofs.Walks.LeaveLaws.{then_leave-then_enter}
use Rattle.semantics.proofs.Walks.EnterOnTree.{outcome, written, written_in, finished_at_zero-on_tree}
use Rattle.semantics.proofs.Walks.EnterOnTree.{loop_if_finished-on_tree, then_enter-on_tree, enter_in_turn-on_tree}

-- all marks were cleared, so a due leaf is not marked
due_unmarked : (s : Cell) → cell_due s ≡ true → leaf_word in_marks s ≡ 0
due_unmarked off h = refl
due_unmarked due h = refl
due_unmarked on h = absurd (true≢false (sym h))

leaf_on_tree : (b : Bool) (i : ℕ) (s : Cell) (K : Surroundings) (z : Bool) (g : Walk → Walk)
    → i ≡ length (K in_marks).before → leaf_word in_marks s ≡ 0
    → cond b (mark i (write (leaf i) s K z)) (g (write (leaf i) s K z))
    ≡ then_leave (written (leaf i) K z (record { done = not b; looped = false; state = cond b on off })) g
unfolding lay_out
leaf_on_tree true i s K z g e h =
    λ j. record {
      marks = set_after (K in_marks).before (K in_marks).after i (leaf_word in_marks s) 1 e j;
      counts = reverse_aux (K in_counts).before (0 ∷ (K in_counts).after);
      looped = sym (or-false z) j;
    }
leaf_on_tree false i s K z g e h =
    ap g (λ j. record {
      marks = reverse_aux (K in_marks).before (h j ∷ (K in_marks).after);
      counts = reverse_aux (K in_counts).before (0 ∷ (K in_counts).after);
      looped = sym (or-false z) j;
    })

lower_on_tree : (i : ℕ) (ks : Stmts) (n : ℕ) (u : StateIn ks) (K : Surroundings) (z : Bool)
    → i ≡ length (K in_counts).before → lower i (write (par i ks) (n, u) K z) ≡ write (par i ks) (n - 1, u) K z
unfolding lay_out
lower_on_tree i ks n u K z e =
    let r : List ℕ = lay_out_in in_counts ks u (K in_counts).after in
    rw (get_d_after (K in_counts).before r i n e)
    (λ j. record {
      marks = (write (par i ks) (n, u) K z).marks;
      counts = set_after (K in_counts).before r i n (n - 1) e j;
      looped = z;
    })

module _ (holds : ℕ → Bool) where
  par_on_tree : (d : Bool) (i : ℕ) (ks : Stmts) (n : ℕ) (u : StateIn ks) (K : Surroundings) (z : Bool) (up : List Frame)
      → i ≡ length (K in_counts).before
      → then_leave (outcome d (write (par i ks) (n, u) K z)) (unwind holds (in_par i ∷ up))
      ≡ then_leave (outcome (d && eqb (less_if d n) 0) (write (par i ks) (less_if d n, u) K z)) (unwind holds up)
  unfolding unwind
  par_on_tree true i ks n u K z up e =
      ap (λ (w : Walk). then_leave (finished_at_zero i w) (unwind holds up)) (lower_on_tree i ks n u K z e)
      ∙ ap (λ (w : Entered). then_leave w (unwind holds up)) (finished_at_zero-on_tree i ks (n - 1) u K z e)
  par_on_tree false i ks n u K z up e = refl

  whl_on_tree : (d l : Bool) (e : ℕ) (ks : Stmts) (u : StateIn ks) (K : Surroundings) (z : Bool)
      (q : Step (StateIn ks)) (up : List Frame)
      → ((y : Bool) → enter_in_turn holds ks (write_in ks u K y) ≡ written_in ks K y q)
      → then_leave (outcome d (write_in ks u K (z || l))) (unwind holds (in_whl e ks ∷ up))
      ≡ then_leave (written_in ks K z (again (holds e) (record { done = d; looped = l; state = u }) q)) (unwind holds up)
  unfolding unwind
  whl_on_tree false l e ks u K z q up h = rw (or-false l)
  whl_on_tree true l e ks u K z q up h = pick (holds e)
    where
      g : Walk → Walk
      g = unwind holds up

      w : Walk
      w = write_in ks u K (z || l)

      pick : (b : Bool) → cond b (then_leave (loop_if_finished (enter_in_turn holds ks w)) g) (g w)
          ≡ then_leave (written_in ks K z (again b (record { done = true; looped = l; state = u }) q)) g
      pick true =
          ap (λ (o : Entered). then_leave (loop_if_finished o) g) (h (z || l))
          ∙ ap (λ (o : Entered). then_leave o g) (loop_if_finished-on_tree q.done ks q.state K (z || l) q.looped)
          ∙ ap (λ (y : Bool). then_leave (outcome q.done (write_in ks q.state K y)) g) (or_assoc z l _)
      pick false = rw (or-false l)

module _ (holds waits : ℕ → Bool) where
  -- the visit of leaf number n, below these frames
  abbrev pub visit_below : ℕ → List Frame → Walk → Walk
  visit_below n up w = cond (waits n) (mark n w) (unwind holds up w)

  mutual
    unfolding advance due_at number frames_at lay_out unwind

    pub visit_on_tree : (t : Stmt) (s : StateOf t) (x : LeafOf t) (lo : ℕ) (K : Surroundings) → Placed t lo → Fits K lo
        → due_at t s x ≡ true → (z : Bool) (up : List Frame)
        → visit_below (number t x) (frames_at t x up) (write t s K z)
        ≡ then_leave (written t K z (advance holds waits t s x)) (unwind holds up)
    visit_on_tree (leaf i) s x lo K p f h z up =
        leaf_on_tree (waits i) i s K z (unwind holds up) (p ∙ sym (f in_marks)) (due_unmarked s h)
    visit_on_tree (seq i ks) s x lo K p f h z up =
        visit_in_turn_on_tree ks s x (suc lo) (within 0 K) p.1 (within_fits 0 lo K f) h z up
    visit_on_tree (par i ks) s x lo K p f h z up =
        let r : Step (StateIn ks) = advance_each holds waits ks s.1 x in
        visit_each_on_tree ks s.1 x (suc lo) (within s.0 K) p.1 (within_fits s.0 lo K f) h z (in_par i ∷ up)
        ∙ par_on_tree holds r.done i ks s.0 r.state K (z || r.looped) up (p.0 ∙ sym (f in_counts))
    visit_on_tree (ife i e ys ns) s (inl x) lo K p f h z up =
        visit_in_turn_on_tree ys s.0 x (suc lo) (ahead ns s.1 (within 0 K)) p.1 (within_fits 0 lo K f) h z
        (in_if ∷ up)
    visit_on_tree (ife i e ys ns) s (inr x) lo K p f h z up =
        let r : Step (StateIn ns) = advance_in_turn holds waits ns s.1 x in
        ap (visit_below (number_in ns x) (frames_in_turn ns x (in_if ∷ up)))
        (past_in-write ys s.0 ns s.1 (within 0 K) z)
        ∙ visit_in_turn_on_tree ns s.1 x (ends_of ys (suc lo)) (past_in ys s.0 (within 0 K)) p.2
        (past_in-fits ys s.0 (suc lo) (within 0 K) (within_fits 0 lo K f)) h z (in_if ∷ up)
        ∙ ap (λ (w : Walk). then_leave (outcome r.done w) (unwind holds up))
        (sym (past_in-write ys s.0 ns r.state (within 0 K) (z || r.looped)))
    visit_on_tree (whl i e ks) s x lo K p f h z up =
        let r : Step (StateIn ks) = advance_in_turn holds waits ks s x in
        let f' : Fits (within 0 K) (suc lo) = within_fits 0 lo K f in
        visit_in_turn_on_tree ks s x (suc lo) (within 0 K) p.1 f' h z (in_whl e ks ∷ up)
        ∙ whl_on_tree holds r.done r.looped e ks r.state (within 0 K) z
        (enter_tree_in_turn holds ks r.state) up
        (enter_in_turn-on_tree holds ks r.state (suc lo) (within 0 K) p.1 f')

    visit_in_turn_on_tree : (ks : Stmts) (s : StateIn ks) (x : LeafIn ks) (lo : ℕ) (K : Surroundings) → PlacedIn ks lo
        → Fits K lo → due_in ks s x ≡ true → (z : Bool) (up : List Frame)
        → visit_below (number_in ks x) (frames_in_turn ks x up) (write_in ks s K z)
        ≡ then_leave (written_in ks K z (advance_in_turn holds waits ks s x)) (unwind holds up)
    visit_in_turn_on_tree nil s x lo K p f h z up = absurd x
    visit_in_turn_on_tree (cons k ks) s (inl x) lo K p f h z up =
        let r : Step (StateOf k) = advance holds waits k s.0 x in
        visit_on_tree k s.0 x lo (ahead ks s.1 K) p.0 f h z (in_seq ks ∷ up)
        ∙ sym (then_leave-then_enter (written k (ahead ks s.1 K) z r) (enter_in_turn holds ks) (unwind holds up))
        ∙ ap (λ (w : Entered). then_leave w (unwind holds up))
        (then_enter-on_tree holds k ks r.done r.looped r.state s.1 K z (enter_tree_in_turn holds ks s.1)
        (enter_in_turn-on_tree holds ks s.1 (end_of k lo) (past k r.state K) p.1 (past_fits k r.state lo K f)))
    visit_in_turn_on_tree (cons k ks) s (inr x) lo K p f h z up =
        let r : Step (StateIn ks) = advance_in_turn holds waits ks s.1 x in
        ap (visit_below (number_in ks x) (frames_in_turn ks x up)) (past_write k s.0 ks s.1 K z)
        ∙ visit_in_turn_on_tree ks s.1 x (end_of k lo) (past k s.0 K) p.1 (past_fits k s.0 lo K f) h z up
        ∙ ap (λ (w : Walk). then_leave (outcome r.done w) (unwind holds up))
        (sym (past_write k s.0 ks r.state K (z || r.looped)))

    visit_each_on_tree : (ks : Stmts) (s : StateIn ks) (x : LeafIn ks) (lo : ℕ) (K : Surroundings) → PlacedIn ks lo
        → Fits K lo → due_in ks s x ≡ true → (z : Bool) (up : List Frame)
        → visit_below (number_in ks x) (frames_each ks x up) (write_in ks s K z)
        ≡ then_leave (written_in ks K z (advance_each holds waits ks s x)) (unwind holds up)
    visit_each_on_tree nil s x lo K p f h z up = absurd x
    visit_each_on_tree (cons k ks) s (inl x) lo K p f h z up =
        visit_on_tree k s.0 x lo (ahead ks s.1 K) p.0 f h z up
    visit_each_on_tree (cons k ks) s (inr x) lo K p f h z up =
        let r : Step (StateIn ks) = advance_each holds waits ks s.1 x in
        ap (visit_below (number_in ks x) (frames_each ks x up)) (past_write k s.0 ks s.1 K z)
        ∙ visit_each_on_tree ks s.1 x (end_of k lo) (past k s.0 K) p.1 (past_fits k s.0 lo K f) h z up
        ∙ ap (λ (w : Walk). then_leave (outcome r.done w) (unwind holds up))
        (sym (past_write k s.0 ks r.state K (z || r.looped)))
