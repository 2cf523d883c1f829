-- `recount` counts one node a turn. The invariant: the nodes from `at` on are counted and are in the table.
use Rattle.program.specs.Accepted.{accepted_in}
use Rattle.player.proofs.UndoLaws.{Recounted}
use Rattle.player.proofs.undo.recount.Given as goal

abbrev pub invariant-loop-at : goal.invariant-loop-at
invariant-loop-at l = Recounted (accepted_in l.program).nodes l.marks l.at l.counts l.live
