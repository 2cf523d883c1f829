-- Request 4, the climb as a loop: leaving one node in each turn, as "The plain machine" words it. That turns one after
-- another are `leave` of Walk is the theorem `climb_in_turns`, and that no climb takes more than N is `climb_bound`.
use Rattle.std.specs.Prelude.{◌≡◌, Bool, true, false, cond, List, ℕ, zero, suc, ◌<◌, ltb}
use Rattle.std.proofs.Math.Option.{Option, none, some}
use Rattle.semantics.specs.Program.{Kind, kind_at, end_at, a_at}
use Rattle.semantics.specs.Program.Kind.{SEQ, PAR, IF, WHL, LEAF, UNKNOWN}
use Rattle.semantics.specs.Parents.{parent}
use Rattle.semantics.specs.Tree.{statement_at}
use Rattle.semantics.specs.Walk.{Walk, Entered, lower, finished_at_zero, loop_if_finished, enter}
use Rattle.semantics.specs.Walk.Entered.{finished, stays}

-- What a turn comes to: the next turn leaves a node, or the climb is over.
pub data Turn : Type 0 where
  leaves_next : ℕ → Walk → Turn
  over : Walk → Turn

-- Where the outcome is that it finished, node i is left next; where it stays, the climb is over.
abbrev pub next_if_finished : ℕ → Entered → Turn
next_if_finished i (finished w) = leaves_next i w
next_if_finished i (stays w) = over w

abbrev pub is_over : Turn → Bool
is_over (leaves_next i w) = false
is_over (over w) = true

module _ (holds : ℕ → Bool) (nodes : List ℕ) where
  abbrev pub enter_node : ℕ → Walk → Entered
  enter_node i = enter holds (statement_at nodes i)

  -- Node i, a child of node h of a kind, is left. No kind but these four is a parent.
  unfoldable pub turn_under : Kind → ℕ → ℕ → Walk → Turn
  -- a SEQ enters the next child, which stands where node i ends; with no next child the SEQ is left
  turn_under SEQ h i w =
      let next = end_at nodes i in
      let entered = next_if_finished next (enter_node next w) in
      let past = leaves_next h w in
      cond (ltb next (end_at nodes h)) entered past
  -- an IF is left
  turn_under IF h i w = leaves_next h w
  -- a WHL that is true enters its child again, which is a zero-time loop if it finishes; one that is false is left
  turn_under WHL h i w =
      let again = next_if_finished h (loop_if_finished (enter_node i w)) in
      let past = leaves_next h w in
      cond (holds (a_at nodes h)) again past
  -- a PAR counts one thread fewer, and is left at 0
  turn_under PAR h i w = next_if_finished h (finished_at_zero h (lower h w))
  turn_under (LEAF l) h i w = over w
  turn_under UNKNOWN h i w = over w

  -- Node i is left, whose parent this is. Without a parent, the climb is over.
  unfoldable pub turn_by : Option ℕ → ℕ → Walk → Turn
  turn_by none i w = over w
  turn_by (some h) i w = turn_under (kind_at nodes h) h i w

  -- One turn: node i is left, by a look at its parent.
  abbrev pub turn : ℕ → Walk → Turn
  turn i w = turn_by (parent nodes i) i w

  -- The turn after it. A climb that is over takes no more.
  abbrev pub next_turn : Turn → Turn
  next_turn (leaves_next i w) = turn i w
  next_turn (over w) = over w

  -- What n turns one after another come to.
  unfoldable pub turns : ℕ → Turn → Turn
  turns zero t = t
  turns (suc n) t = next_turn (turns n t)

  -- The climb from node i takes n turns, no more and no fewer, and leaves r.
  pub record Climbs (i : ℕ) (w : Walk) (n : ℕ) (r : Walk) : Type 0 where
    pub ends : turns n (leaves_next i w) ≡ over r
    pub no_sooner : (m : ℕ) → m < n → is_over (turns m (leaves_next i w)) ≡ false
