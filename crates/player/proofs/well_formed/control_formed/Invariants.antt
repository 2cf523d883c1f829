-- `control_formed` asks each node by itself. The invariant: the nodes from `at` on are right and are in the table.
use Rattle.program.specs.Accepted.{accepted_in}
use Rattle.player.proofs.LiveTableLaws.{Passed}
use Rattle.player.proofs.well_formed.control_formed.Given as goal

abbrev pub invariant-loop-at : goal.invariant-loop-at
invariant-loop-at l = Passed (accepted_in l.program).nodes l.marks l.counts l.at l.live
