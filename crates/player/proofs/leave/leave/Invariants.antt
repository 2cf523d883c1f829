-- `leave` climbs one turn at a time.
use Rattle.std.proofs.Common.{◌≡◌, ◌-◌, ◌≤◌}
use Rattle.semantics.specs.Program.{node_count}
use Rattle.semantics.specs.Climb.{turns}
use Rattle.semantics.specs.Climb.Turn.{leaves_next}
use Rattle.semantics.proofs.Walks.TurnLaws.{Going}
use Rattle.program.specs.Accepted.{accepted_in}
use Rattle.player.specs.Work.{KeptTables}
use Rattle.player.specs.Walks.{walk_in, holds_now, turn_to, Walking}
use Rattle.player.proofs.leave.leave.Given as goal

-- so many turns of the rules have come to the node of the next turn, and fewer were not enough
abbrev pub invariant-loop-next : goal.invariant-loop-next
invariant-loop-next l =
    let holds = holds_now (accepted_in l.program) l.initial.work.memo in
    let nodes = (accepted_in l.program).nodes in
    let start = leaves_next l.i (walk_in l.initial.marks l.initial.counts l.initial.work) in
    record {
      right : turns holds nodes l.turns start ≡ turn_to l.next (walk_in l.marks l.counts l.work);
      no_sooner : Going holds nodes start l.turns;
      few : l.turns ≤ node_count (accepted_in l.program).nodes;
      walking : Walking (accepted_in l.program) l.marks l.counts l.work;
      kept : KeptTables l.initial.work l.work;
    }

-- the turns that are left of N
abbrev pub decreases-loop-next : goal.decreases-loop-next
decreases-loop-next l = node_count (accepted_in l.program).nodes - l.turns
