-- `count_children` counts the children in turn: those counted and those from the next child on are all.
use Rattle.std.proofs.Common.{◌≡◌, suc, ◌+◌, ◌-◌, ◌<◌}
use Rattle.semantics.specs.Tree.{statements}
use Rattle.semantics.specs.Walk.{child_count}
use Rattle.program.specs.Accepted.{accepted_in}
use Rattle.player.proofs.threads.count_children.Given as goal

abbrev pub invariant-loop-child : goal.invariant-loop-child
invariant-loop-child l =
    record {
      later : l.count + l.h < l.child;
      right : l.count + child_count (statements (accepted_in l.program).nodes l.child l.end)
          ≡ child_count (statements (accepted_in l.program).nodes (suc l.h) l.end);
    }

abbrev pub decreases-loop-child : goal.decreases-loop-child
decreases-loop-child l = l.end - l.child
