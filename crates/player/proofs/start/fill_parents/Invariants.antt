-- `fill_parents` writes the parent of one node a turn.
use Rattle.std.proofs.Common.{◌≡◌}
use Rattle.semantics.specs.Program.{parent_at}
use Rattle.program.specs.Accepted.{accepted_in}
use Rattle.player.proofs.StartLaws.{filled_to}
use Rattle.player.proofs.start.fill_parents.Given as goal

abbrev pub invariant-loop-i : goal.invariant-loop-i
invariant-loop-i l =
    let parent = parent_at (accepted_in l.program).nodes in
    l.work ≡ record l.initial.work { parents = filled_to parent l.initial.work.parents l.i }
