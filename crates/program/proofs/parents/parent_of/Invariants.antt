-- `parent_of` finds the parent as the rules define it. The invariant: the search among the nodes up to the one that is
-- looked at finds what the whole search finds.
use Rattle.std.proofs.Common.{◌≡◌, ◌≤◌}
use Rattle.semantics.specs.Parents.{parent_below, parent}
use Rattle.program.proofs.ClimbLaws.{up_to}
use Rattle.program.proofs.parents.parent_of.Given as goal

abbrev pub invariant-loop-above : goal.invariant-loop-above
invariant-loop-above l =
    (up_to l.above ≤ l.i) × (parent_below l.program.nodes.now l.i (up_to l.above) ≡ parent l.program.nodes.now l.i)

abbrev pub decreases-loop-above : goal.decreases-loop-above
decreases-loop-above l = up_to l.above
