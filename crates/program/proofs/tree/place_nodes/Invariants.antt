-- `place_nodes` places one node after the other.
use Rattle.program.specs.Places.{Places}
use Rattle.program.proofs.tree.place_nodes.Given as goal

abbrev pub invariant-loop-i : goal.invariant-loop-i
invariant-loop-i l = Places l.program.nodes.now l.i l.places
