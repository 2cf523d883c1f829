-- The walks of one cycle, by any entries that cross out the marks: every order of them comes to the same lists, and
-- those are a consistent state of the tree with nothing due. Visits commute because the advances of due leaves do.
use mathlib.Core.Path.{◌≡◌, refl, sym, ap, ◌∙◌, subst₂}
use mathlib.Core.Bool.{Bool, true, false, cond, not, ◌&&◌, ◌||◌, or_assoc}
use mathlib.Core.List.{List, [], foldl}
use mathlib.Core.Logic.{◌≢◌}
use Prim.Native.Nat.{ℕ}
use lib.ListN.{set}
use borrow.Author.Tests.{ne_eqb}
use Rattle.semantics.specs.Tree.{Stmt}
use Rattle.semantics.specs.State.{marked}
use Rattle.semantics.specs.Walk.{Walk, mark, then_leave}
use Rattle.semantics.proofs.Lists.Logic.{and_left}
use Rattle.semantics.proofs.Run.CrossOut.{cross_out, cross_mark, any_order, fine_at_end}
use Rattle.semantics.proofs.Tree.Positions.{Placed, LeafOf, number, unwind, frames_at}
use Rattle.semantics.proofs.Walks.TreeState.{StateOf, due_at, same_leaf, Consistent, Quiet}
use Rattle.semantics.proofs.Walks.TreeWalk.{Step}
use Rattle.semantics.proofs.Walks.TreeInvariant.{advance_keeps}
use Rattle.semantics.proofs.Order.TreeCommute.{move, advance_commute}
use Rattle.semantics.proofs.Walks.FlatLists.{Surroundings, write}
use Rattle.semantics.proofs.Walks.EnterOnTree.{outcome}
use Rattle.semantics.proofs.Walks.LeaveOnTree.{visit_on_tree}
use Rattle.semantics.proofs.Walks.LeafNumbers.{same_leaf-number}

-- nothing stands before the whole tree, and nothing after it
abbrev pub alone : Surroundings
alone c = record { before = []; after = [] }

abbrev pub write_all : (t : Stmt) → StateOf t → Bool → Walk
write_all t s z = write t s alone z

-- the lists of w are a consistent state of the tree written out, and its due leaves are the nodes still marked
pub record Tracks (t : Stmt) (marks : List ℕ) (w : Walk) : Type 0 where
  pub state : StateOf t
  pub looped : Bool
  pub written : w ≡ write_all t state looped
  pub consistent : Consistent t state
  pub due : (x : LeafOf t) → due_at t state x ≡ marked marks (number t x)
  pub leaves : (e : ℕ) → marked marks e ≡ true → (x : LeafOf t) × (number t x ≡ e)

abbrev pub visit_node : (ℕ → Bool) → (ℕ → Walk → Walk) → Walk → ℕ → Walk
visit_node waits leave_node w e = cond (waits e) (mark e w) (leave_node e w)

then_leave-end : (holds : ℕ → Bool) (d : Bool) (w : Walk) → then_leave (outcome d w) (unwind holds []) ≡ w
unfolding unwind
then_leave-end holds true w = refl
then_leave-end holds false w = refl

module _ (t : Stmt) (placed : Placed t 0) (holds waits : ℕ → Bool) (leave_node : ℕ → Walk → Walk)
    (by_frames : (x : LeafOf t) (w : Walk) → leave_node (number t x) w ≡ unwind holds (frames_at t x []) w) where
  abbrev visited : Walk → ℕ → Walk
  visited = visit_node waits leave_node

  abbrev moved : LeafOf t → StateOf t → Step (StateOf t)
  moved = move holds waits t

  -- the visit of a due leaf
  visit_due : (s : StateOf t) (x : LeafOf t) (z : Bool) → due_at t s x ≡ true
      → visited (write_all t s z) (number t x) ≡ write_all t (moved x s).state (z || (moved x s).looped)
  visit_due s x z h =
      ap (cond (waits (number t x)) (mark (number t x) (write_all t s z))) (by_frames x (write_all t s z))
      ∙ visit_on_tree holds waits t s x 0 alone placed (λ c. refl) h z []
      ∙ then_leave-end holds (moved x s).done _

  -- after it, the due leaves are those whose marks are left
  tracks_after : (marks : List ℕ) (s : StateOf t) (z : Bool) (x : LeafOf t) → Consistent t s
      → ((y : LeafOf t) → due_at t s y ≡ marked marks (number t y)) → due_at t s x ≡ true
      → ((e : ℕ) → marked marks e ≡ true → (y : LeafOf t) × (number t y ≡ e))
      → Tracks t (set marks (number t x) 0) (visited (write_all t s z) (number t x))
  tracks_after marks s z x g k h l =
      let m = advance_keeps holds waits t s x g h in
      record {
        state = (moved x s).state;
        looped = z || (moved x s).looped;
        written = visit_due s x z h;
        consistent = m.consistent;
        due = λ y. m.others y ∙ (λ i. k y i && not (same_leaf-number t 0 placed x y i))
            ∙ sym (cross_mark marks (number t x) (number t y));
        leaves = λ e n. l e (and_left (marked marks e) _ (sym (cross_mark marks (number t x) e) ∙ n));
      }

  visit_keeps : (marks : List ℕ) (w : Walk) (e : ℕ) → Tracks t marks w → marked marks e ≡ true
      → Tracks t (set marks e 0) (visited w e)
  visit_keeps marks w e k m =
      let f = k.leaves e m in
      let h : due_at t k.state f.0 ≡ true = k.due f.0 ∙ rw f.1 m in
      subst₂ (λ (n : ℕ) (v : Walk). Tracks t (set marks n 0) (visited v n)) f.1 (sym k.written)
      (tracks_after marks k.state k.looped f.0 k.consistent k.due h k.leaves)

  -- the visits of two due leaves, one after the other
  visits_due : (s : StateOf t) (z : Bool) (x y : LeafOf t) → Consistent t s → due_at t s x ≡ true → due_at t s y ≡ true
      → same_leaf t x y ≡ false
      → visited (visited (write_all t s z) (number t x)) (number t y)
      ≡ write_all t (moved y (moved x s).state).state (z || ((moved x s).looped || (moved y (moved x s).state).looped))
  visits_due s z x y g hx hy ne =
      let still : due_at t (moved x s).state y ≡ true = (advance_keeps holds waits t s x g hx).others y ∙ rw (hy, ne) in
      ap (λ (w : Walk). visited w (number t y)) (visit_due s x z hx)
      ∙ visit_due (moved x s).state y (z || (moved x s).looped) still
      ∙ ap (write_all t (moved y (moved x s).state).state) (or_assoc z (moved x s).looped _)

  visits_commute : (marks : List ℕ) (w : Walk) (i j : ℕ) → Tracks t marks w → marked marks i ≡ true
      → marked marks j ≡ true → i ≢ j → visited (visited w i) j ≡ visited (visited w j) i
  visits_commute marks w i j k mi mj ne =
      let (x, nx) = k.leaves i mi in
      let (y, ny) = k.leaves j mj in
      let s = k.state in
      let hx : due_at t s x ≡ true = k.due x ∙ rw nx mi in
      let hy : due_at t s y ≡ true = k.due y ∙ rw ny mj in
      let xy : same_leaf t x y ≡ false = same_leaf-number t 0 placed x y ∙ rw (nx, ny) (ne_eqb i j ne) in
      let yx : same_leaf t y x ≡ false = same_leaf-number t 0 placed y x ∙ rw (nx, ny) (ne_eqb j i (λ e. ne (sym e))) in
      let c = advance_commute holds waits t s x y k.consistent hx hy xy in
      rw (k.written, ← nx, ← ny)
      (visits_due s k.looped x y k.consistent hx hy xy
      ∙ (λ d. write_all t (c.state d) (k.looped || c.looped d))
      ∙ sym (visits_due s k.looped y x k.consistent hy hx yx))

  -- every order of the entries comes to the same lists
  pub walks-any-order : (es fs marks : List ℕ) (w : Walk) → Tracks t marks w → cross_out es marks ≡ true
      → cross_out fs marks ≡ true → foldl (visit_node waits leave_node) w es ≡ foldl (visit_node waits leave_node) w fs
  walks-any-order = any_order visited (Tracks t) visit_keeps visits_commute

  -- and those are a consistent state with nothing due
  pub walks_end : (es marks : List ℕ) (w : Walk) → Tracks t marks w → cross_out es marks ≡ true
      → (s : StateOf t) × (z : Bool) × (foldl (visit_node waits leave_node) w es ≡ write_all t s z) × Consistent t s
      × Quiet t s
  walks_end es marks w k o =
      let (left, none, end) = fine_at_end visited (Tracks t) visit_keeps visits_commute es marks w k o in
      (end.state, end.looped, end.written, end.consistent, λ x. end.due x ∙ none (number t x))
