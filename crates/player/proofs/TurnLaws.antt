-- The turns of a climb from node i, as the code counts them: n turns of the rules have come to the node of the next turn.
use Rattle.std.proofs.Common.{◌≡◌, ℕ, ◌+◌, ◌<◌, ◌∙◌, Bool, true, false, List, Option, Some, None, Ok, sym, ap, subst, arith, add-one}
use Rattle.semantics.specs.Program.{Program, node_count}
use Rattle.semantics.specs.State.{State, lengths_ok}
use Rattle.semantics.specs.Walk.{Walk, leave}
use Rattle.semantics.specs.Climb.{Turn, turn, turns}
use Rattle.semantics.specs.Climb.Turn.{leaves_next}
use Rattle.semantics.proofs.Walks.TurnLaws.{Going, turns_none, turns_more, going_none, going_more, going_few, climb_leaves}
use Rattle.program.specs.Accepted.{accepted_in}
use Rattle.program.specs.declared.accepted.Accepted.{Accepted as AcceptedCode}
use Rattle.player.specs.declared.memo.Memo.{Memo}
use Rattle.player.specs.declared.work.Work.{Work}
use Rattle.player.specs.declared.Turn.{Turn as CodeTurn}
use Rattle.player.specs.Memo.{Holds}
use Rattle.player.specs.Turn.{turn_in, TurnAnswer}
use Rattle.player.specs.Walks.{walk, walk_in, turn_to, holds_in, holds_now}
use Rattle.player.proofs.AcceptedLaws.{is_accepted}
use Rattle.player.proofs.AcceptedNodeLaws.{nodes_fit}
use Rattle.player.proofs.MemoLaws.{same_conditions}
use Rattle.player.proofs.WalkingLaws.{kept_trans}

module _ (program : AcceptedCode) (before : Memo) (i : ℕ) (w : Walk) (l : i < node_count program.lists.nodes.now) where
  abbrev nodes : List ℕ
  nodes = program.lists.nodes.now

  -- conditions are read in the values of before
  abbrev holds : ℕ → Bool
  holds = holds_now (accepted_in program) before

  abbrev after : ℕ → Turn
  after n = turns holds nodes n (leaves_next i w)

  module _ (n j : ℕ) (next : Option ℕ) (v : Walk) (e : after n ≡ turn_to next v) (q : next ≡ Some j) where
    here : after n ≡ leaves_next j v
    here = e ∙ ap (λ (r : Option ℕ). turn_to r v) q

    -- the next turn leaves a node, and fewer turns than there are nodes were taken
    pub turn_bounds : (j < node_count nodes) × (n < node_count nodes) × (n < 1024)
    turn_bounds =
        let b = going_few nodes (is_accepted program).nodes_ok holds i w l n j v here in
        let fit = nodes_fit program in
        (b.0, b.1, omega arith)

    pub turn_more : (memo : Memo) (r : Option ℕ) (u : Walk) → memo.variables ≡ before.variables
        → turn (holds_now (accepted_in program) memo) nodes j v ≡ turn_to r u → after (n + 1) ≡ turn_to r u
    turn_more memo r u same t =
        rw add-one (turns_more holds nodes (leaves_next i w) n j v here)
        ∙ subst (λ (values : List ℕ). turn (holds_in program.lists.exprs.now values) nodes j v ≡ turn_to r u) same t

    pub no_sooner_more : Going holds nodes (leaves_next i w) n → Going holds nodes (leaves_next i w) (n + 1)
    no_sooner_more g = rw add-one (going_more holds nodes (leaves_next i w) n j v here g)

  -- where no turn comes next, the climb is over, and leaving is done
  pub climb_over : (n : ℕ) (next : Option ℕ) (v : Walk) → after n ≡ turn_to next v → next ≡ None
      → Going holds nodes (leaves_next i w) n → leave holds nodes i w ≡ v
  climb_over n next v e q g =
      let ok = (is_accepted program).nodes_ok in
      let over = e ∙ ap (λ (r : Option ℕ). turn_to r v) q in
      climb_leaves nodes ok holds i w l n v (record { ends = over; no_sooner = g })

-- ---- one turn by itself
module _ (P : Program) (s : State) (i : ℕ) (work : Work) (fit : lengths_ok P s ≡ true) where
  module _ (same : Holds s.values work.memo) (unmet : work.looped ≡ false) where
    -- it starts from the marks and counts that are lent
    turn_begun : turn_in P s i ≡ turn (holds_now P work.memo) P.nodes i (walk_in s.marks s.counts work)
    turn_begun =
        ap (λ (f : ℕ → Bool). turn f P.nodes i (walk s.marks s.counts false)) (sym (same_conditions P s.values work.memo same))
        ∙ ap (λ (b : Bool). turn (holds_now P work.memo) P.nodes i (walk s.marks s.counts b)) (sym unmet)

    pub turn_answered : {marks counts : List ℕ} (t : CodeTurn)
        → turn (holds_now P work.memo) P.nodes i (walk_in s.marks s.counts work)
        ≡ turn_to t.next (walk marks counts t.looped)
        → TurnAnswer P s i (Ok t) marks counts
    turn_answered t e = record { fit = fit; right = turn_begun ∙ e }

-- ---- what `leave` goes by
pub ruleset climb_turns = (turns_none, going_none, turn_bounds, turn_more, no_sooner_more, climb_over, kept_trans)
