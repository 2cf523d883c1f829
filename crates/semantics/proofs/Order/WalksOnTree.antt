-- What a cycle and the entering of node 0 leave, said of the flat lists alone: from lists that are well formed along
-- the tree, a cycle's walks come to the same lists in any order of the entries, and these are well formed along the
-- tree.
use mathlib.Core.Path.{◌≡◌, refl, sym, ap, ◌∙◌}
use mathlib.Core.Bool.{Bool, true, false, cond, ◌||◌}
use mathlib.Core.List.{List, [], foldl}
use Prim.Native.Nat.{ℕ}
use native.Mathlib.Nat.{add-zero, zero-add}
use lib.Dec.{eqb}
use lib.ListN.{length, get_or, replicate, length-replicate}
use Rattle.semantics.specs.Tree.{Stmt, Stmts}
use Rattle.semantics.specs.Tree.Stmt.{leaf, seq, par, ife, whl}
use Rattle.semantics.specs.Tree.Stmts.{nil, cons}
use Rattle.semantics.specs.State.{marked}
use Rattle.semantics.specs.Walk.{Walk, walk_of, enter}
use Rattle.semantics.proofs.Lists.NumberLaws.{zeros}
use Rattle.semantics.proofs.Run.CrossOut.{cross_out}
use Rattle.semantics.proofs.Tree.Positions.{end_of, Placed, LeafOf, number, unwind, frames_at}
use Rattle.semantics.proofs.Tree.TreeWellFormed.{live, any_live, live_count, tree_well_formed, in_turn_well_formed}
use Rattle.semantics.proofs.Tree.TreeWellFormed.{each_well_formed}
use Rattle.semantics.proofs.Walks.TreeState.{StateOf, Consistent, Quiet}
use Rattle.semantics.proofs.Walks.TreeState.Cell.{off, due}
use Rattle.semantics.proofs.Walks.TreeWalk.{Step, enter_tree}
use Rattle.semantics.proofs.Walks.TreeInvariant.{enter_keeps}
use Rattle.semantics.proofs.Walks.FlatLists.{Column, leaf_word, lay_out, lay_out-length}
use Rattle.semantics.proofs.Walks.FlatLists.Column.{in_marks, in_counts}
use Rattle.semantics.proofs.Walks.EnterOnTree.{outcome, enter_on_tree}
use Rattle.semantics.proofs.Walks.ReadBack.{Reads, ReadsIn, lay_out-reads, reads-lay_out}
use Rattle.semantics.proofs.Order.AnyOrder.{alone, write_all, Tracks, visit_node, walks-any-order, walks_end}
use Rattle.semantics.proofs.Order.Load.{load, load_in, load_live, load_due, load_keeps, load_leaf, written-well_formed}

-- n marks and n counts, well formed along the tree
pub record FormedOn (t : Stmt) (n : ℕ) (marks counts : List ℕ) : Type 0 where
  pub marks_length : length marks ≡ n
  pub counts_length : length counts ≡ n
  pub well_formed : tree_well_formed marks counts t ≡ true

abbrev pub FormedWalk : Stmt → ℕ → Walk → Type 0
FormedWalk t n w = FormedOn t n w.marks w.counts

-- all n marks cleared
abbrev pub cleared_with : ℕ → List ℕ → Walk
cleared_with n counts = record { marks = replicate n 0; counts = counts; looped = false }

-- ---- blank lists, which have zeros only
cleared_word : (b : Bool) → leaf_word in_marks (cond b due off) ≡ 0
cleared_word true = refl
cleared_word false = refl

module _ (blank : List ℕ) (none : (i : ℕ) → get_or blank i 0 ≡ 0) where
  -- they read as the marks of any loaded state, since all marks are cleared
  module _ (marks counts : List ℕ) where
    mutual
      unfolding load

      cleared_reads : (t : Stmt) → Reads in_marks blank t (load marks counts due t)
      cleared_reads (leaf i) = none i ∙ sym (cleared_word (marked marks i))
      cleared_reads (seq i ks) = (none i, cleared_reads_in ks)
      cleared_reads (par i ks) = (none i, cleared_reads_in ks)
      cleared_reads (ife i e ys ns) = (none i, cleared_reads_in ys, cleared_reads_in ns)
      cleared_reads (whl i e ks) = (none i, cleared_reads_in ks)

      cleared_reads_in : (ks : Stmts) → ReadsIn in_marks blank ks (load_in marks counts due ks)
      cleared_reads_in nil = tt
      cleared_reads_in (cons k ks) = (cleared_reads k, cleared_reads_in ks)

  -- and with no mark and no count a state is well formed
  mutual
    unfolding live

    blank_live : (t : Stmt) → live blank t ≡ false
    blank_live (leaf i) = ap (λ (m : ℕ). eqb m 1) (none i)
    blank_live (seq i ks) = blank-any_live ks
    blank_live (par i ks) = blank-any_live ks
    blank_live (ife i e ys ns) = λ j. blank-any_live ys j || blank-any_live ns j
    blank_live (whl i e ks) = blank-any_live ks

    blank-any_live : (ks : Stmts) → any_live blank ks ≡ false
    blank-any_live nil = refl
    blank-any_live (cons k ks) = λ j. blank_live k j || blank-any_live ks j

  blank_count : (ks : Stmts) → live_count blank ks ≡ 0
  unfolding live_count
  blank_count nil = refl
  blank_count (cons k ks) = rw (blank_live k) (blank_count ks)

  mutual
    unfolding tree_well_formed

    blank-well_formed : (t : Stmt) → tree_well_formed blank blank t ≡ true
    blank-well_formed (leaf i) = rw (none i)
    blank-well_formed (seq i ks) = rw (none i) (blank-in_turn ks)
    blank-well_formed (par i ks) = rw (none i, blank_count ks) (blank_each ks)
    blank-well_formed (ife i e ys ns) = rw (none i, blank-in_turn ys, blank-in_turn ns, blank-any_live ys)
    blank-well_formed (whl i e ks) = rw (none i) (blank-in_turn ks)

    blank-in_turn : (ks : Stmts) → in_turn_well_formed blank blank ks ≡ true
    blank-in_turn nil = refl
    blank-in_turn (cons k ks) = rw (blank-well_formed k, blank-in_turn ks, blank_live k)

    blank_each : (ks : Stmts) → each_well_formed blank blank ks ≡ true
    blank_each nil = refl
    blank_each (cons k ks) = rw (blank-well_formed k) (blank_each ks)

walk_of-outcome : (d : Bool) (w : Walk) → walk_of (outcome d w) ≡ w
walk_of-outcome true w = refl
walk_of-outcome false w = refl

-- ---- lists and tree states
module _ (t : Stmt) (n : ℕ) (placed : Placed t 0) (size : end_of t 0 ≡ n) where
  -- well-formed lists, with the marks cleared, are the loaded state written out
  cleared_written : (marks counts : List ℕ) → FormedOn t n marks counts
      → cleared_with n counts ≡ write_all t (load marks counts due t) false
  cleared_written marks counts f =
      let cleared = cleared_reads _ (zeros n) marks counts t in
      let counted = (load_keeps marks counts t f.well_formed).counts_read in
      let m = reads-lay_out in_marks (replicate n 0) t _ placed cleared (length-replicate n 0 ∙ sym size) in
      let c = reads-lay_out in_counts counts t _ placed counted (f.counts_length ∙ sym size) in
      λ i. record { marks = m i; counts = c i; looped = false }

  cleared_tracks : (marks counts : List ℕ) → FormedOn t n marks counts → Tracks t marks (cleared_with n counts)
  cleared_tracks marks counts f =
      record {
        state = load marks counts due t;
        looped = false;
        written = cleared_written marks counts f;
        consistent = (load_keeps marks counts t f.well_formed).consistent;
        due = load_due marks counts t;
        leaves = load_leaf marks counts t f.well_formed placed (f.marks_length ∙ sym size);
      }

  -- a consistent state with nothing due, written out, is well formed
  written_formed : (s : StateOf t) (z : Bool) → Consistent t s → Quiet t s → FormedWalk t n (write_all t s z)
  written_formed s z g q =
      record {
        marks_length = sized in_marks;
        counts_length = sized in_counts;
        well_formed = written-well_formed _ _ t s (reads in_marks) (reads in_counts) g q;
      }
    where
      sized : (c : Column) → length (lay_out c t s []) ≡ n
      sized c = sym (add-zero _) ∙ lay_out-length c t s [] 0 ∙ zero-add _ ∙ size

      reads : (c : Column) → Reads c (lay_out c t s []) t s
      reads c = lay_out-reads c t s 0 [] [] placed refl

  -- what begin writes, from entering node 0, is well formed
  pub begin_formed : (holds : ℕ → Bool) → FormedWalk t n (walk_of (enter holds t (cleared_with n (replicate n 0))))
  begin_formed holds =
      let blank : List ℕ = replicate n 0 in
      let wf = blank-well_formed blank (zeros n) t in
      let sized = length-replicate {A = ℕ} n 0 in
      let f : FormedOn t n blank blank = record { marks_length = sized; counts_length = sized; well_formed = wf } in
      let s = load blank blank due t in
      let r : Step (StateOf t) = enter_tree holds t s in
      let idle = load_live blank blank t ∙ blank_live blank (zeros n) t in
      let k = enter_keeps holds t s (load_keeps blank blank t wf).consistent idle in
      let e = enter_on_tree holds t s 0 alone placed (λ c. refl) false in
      rw (cleared_written blank blank f, e, walk_of-outcome r.done)
      (written_formed r.state r.looped k.consistent k.quiet)

  -- ---- the walks of a cycle, where leaving a leaf goes by the frames above it
  module _ (holds waits : ℕ → Bool) (leave_node : ℕ → Walk → Walk)
      (by_frames : (x : LeafOf t) (w : Walk) → leave_node (number t x) w ≡ unwind holds (frames_at t x []) w)
      (marks counts : List ℕ) (f : FormedOn t n marks counts) where
    pub cycle-any-order : (es fs : List ℕ) → cross_out es marks ≡ true → cross_out fs marks ≡ true
        → foldl (visit_node waits leave_node) (cleared_with n counts) es
        ≡ foldl (visit_node waits leave_node) (cleared_with n counts) fs
    cycle-any-order es fs =
        walks-any-order t placed holds waits leave_node by_frames es fs marks _ (cleared_tracks marks counts f)

    pub cycle_formed : (es : List ℕ) → cross_out es marks ≡ true
        → FormedWalk t n (foldl (visit_node waits leave_node) (cleared_with n counts) es)
    cycle_formed es o =
        let k = cleared_tracks marks counts f in
        let (s, z, e, g, q) = walks_end t placed holds waits leave_node by_frames es marks _ k o in
        rw e (written_formed s z g q)
