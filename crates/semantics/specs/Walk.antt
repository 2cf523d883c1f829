-- Entering and leaving, from the section "The plain machine". `holds e` says whether expression e is true in the
-- values in which conditions are read; a walk changes none of them.
use Rattle.std.specs.Prelude.{Bool, true, cond, List, [], ◌∷◌, ℕ, suc, ◌-◌, eqb, get_or, set}
use Rattle.semantics.specs.Program.{Kind, kind_at, end_at, a_at}
use Rattle.semantics.specs.Program.Kind.{SEQ, PAR, IF, WHL, LEAF, UNKNOWN}
use Rattle.semantics.specs.Parents.{ancestors}
use Rattle.semantics.specs.Tree.{Stmt, Stmts, children_from}
use Rattle.semantics.specs.Tree.Stmt.{leaf, seq, par, ife, whl}
use Rattle.semantics.specs.Tree.Stmts.{nil, cons}

-- Marks and thread counts while a walk goes on, and whether a zero-time loop was met.
pub record Walk : Type 0 where
  pub marks : List ℕ
  pub counts : List ℕ
  pub looped : Bool

-- What entering a node comes to.
pub data Entered : Type 0 where
  finished : Walk → Entered
  stays : Walk → Entered

abbrev pub walk_of : Entered → Walk
walk_of (finished w) = w
walk_of (stays w) = w

abbrev pub mark : ℕ → Walk → Walk
mark i w = record { marks = set w.marks i 1; counts = w.counts; looped = w.looped }

abbrev pub set_count : ℕ → ℕ → Walk → Walk
set_count i n w = record { marks = w.marks; counts = set w.counts i n; looped = w.looped }

abbrev pub count_of : ℕ → Walk → ℕ
count_of i w = get_or w.counts i 0

abbrev pub lower : ℕ → Walk → Walk
lower i w = set_count i (count_of i w - 1) w

abbrev pub loop : Walk → Walk
loop w = record { marks = w.marks; counts = w.counts; looped = true }

-- Enter what comes after where a node finished; where it stays, stop.
abbrev pub then_enter : Entered → (Walk → Entered) → Entered
then_enter (finished w) enter_rest = enter_rest w
then_enter (stays w) enter_rest = stays w

-- A child of PAR i was entered: where it finished, it is counted no more.
abbrev pub lower_if_finished : ℕ → Entered → Walk
lower_if_finished i (finished w) = lower i w
lower_if_finished i (stays w) = w

-- A PAR is finished when it counts no child.
abbrev pub finished_at_zero : ℕ → Walk → Entered
finished_at_zero i w = cond (eqb (count_of i w) 0) (finished w) (stays w)

-- A WHL's child was entered: finishing at once makes a zero-time loop. The walk goes on as if the WHL were finished;
-- question 10 refuses whatever it leaves.
abbrev pub loop_if_finished : Entered → Entered
loop_if_finished (finished w) = finished (loop w)
loop_if_finished (stays w) = stays w

-- Leave the parent where what was entered finished; where it stays, stop.
abbrev pub then_leave : Entered → (Walk → Walk) → Walk
then_leave (finished w) leave_parent = leave_parent w
then_leave (stays w) leave_parent = w

abbrev pub child_count : Stmts → ℕ
child_count nil = 0
child_count (cons k ks) = suc (child_count ks)

module _ (holds : ℕ → Bool) where
  unfoldable mutual
    -- Entering a statement, by its kind. An IF enters one of its children, a WHL its child or nothing; a PAR counts
    -- all its children before it enters them, from the first on.
    pub enter : Stmt → Walk → Entered
    enter (leaf i) w = stays (mark i w)
    enter (seq i ks) w = enter_in_turn ks w
    enter (par i ks) w = finished_at_zero i (enter_each i ks (set_count i (child_count ks) w))
    enter (ife i e ys ns) w =
        let yes = enter_in_turn ys w in
        let otherwise = enter_in_turn ns w in
        cond (holds e) yes otherwise
    enter (whl i e ks) w = let body = loop_if_finished (enter_in_turn ks w) in cond (holds e) body (finished w)

    -- Each in turn while those before it finish. No statement at all is finished: so is an IF whose second child is
    -- missing.
    pub enter_in_turn : Stmts → Walk → Entered
    enter_in_turn nil w = finished w
    enter_in_turn (cons k ks) w = then_enter (enter k w) (enter_in_turn ks)

    -- All of them, the children of PAR i.
    pub enter_each : ℕ → Stmts → Walk → Walk
    enter_each i nil w = w
    enter_each i (cons k ks) w = enter_each i ks (lower_if_finished i (enter k w))

  -- A child of node h, of a kind, was left. `next` is the node number at which that child ends, so that a next child
  -- would stand there. A SEQ goes on with the rest of its children: leaving one that finished enters the one after it,
  -- so they are entered in turn (`turn` of Climb says it child by child). A PAR counts one
  -- thread fewer and is left with the last, an IF is left, and a WHL enters its child again or is left. No other kind
  -- is a parent.
  unfoldable pub leave_child : List ℕ → Kind → ℕ → ℕ → (Walk → Walk) → Walk → Walk
  leave_child nodes SEQ h next leave_parent w = then_leave (enter_in_turn (children_from nodes next h) w) leave_parent
  leave_child nodes PAR h next leave_parent w = then_leave (finished_at_zero h (lower h w)) leave_parent
  leave_child nodes IF h next leave_parent w = leave_parent w
  leave_child nodes WHL h next leave_parent w =
      let body = enter_in_turn (children_from nodes (suc h) h) w in
      let again = then_leave (loop_if_finished body) leave_parent in
      let past = leave_parent w in
      cond (holds (a_at nodes h)) again past
  leave_child nodes (LEAF l) h next leave_parent w = w
  leave_child nodes UNKNOWN h next leave_parent w = w

  -- Leaving a node that ends at `next`, by its ancestors, nearest first: with none, the walk stops.
  unfoldable pub leave_to : List ℕ → ℕ → List ℕ → Walk → Walk
  leave_to nodes next [] w = w
  leave_to nodes next (h ∷ above) w = leave_child nodes (kind_at nodes h) h next (leave_to nodes (end_at nodes h) above) w

  abbrev pub leave : List ℕ → ℕ → Walk → Walk
  leave nodes i w = leave_to nodes (end_at nodes i) (ancestors nodes i) w
