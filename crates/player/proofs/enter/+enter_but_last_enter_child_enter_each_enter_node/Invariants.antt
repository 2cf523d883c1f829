-- The measures of the cycle of calls, and what holds at each turn of its loops. A child stands after the node that enters it,
-- so what is left of the node list falls; at one node the child is entered as a node, and the node enters its children.
use Rattle.std.proofs.Common.{◌≡◌, ◌-◌, ◌*◌, ◌≤◌, ◌<◌}
use Rattle.semantics.specs.Program.{node_count, end_at}
use Rattle.semantics.specs.Walk.{finished_at_zero, enter_in_turn, enter_each}
use Rattle.program.specs.Accepted.{accepted_in}
use Rattle.player.specs.Walks.{entering}
use Rattle.player.proofs.ReachedLaws.{Reached, AtChild, rest_at}
use Rattle.player.proofs.enter.+enter_but_last_enter_child_enter_each_enter_node.Given as goal

abbrev pub decreases-enter_but_last : goal.decreases-enter_but_last
decreases-enter_but_last l = 3073 - 3 * l.h

abbrev pub decreases-enter_child : goal.decreases-enter_child
decreases-enter_child l = 3075 - 3 * l.i

abbrev pub decreases-enter_each : goal.decreases-enter_each
decreases-enter_each l = 3073 - 3 * l.h

abbrev pub decreases-enter_node : goal.decreases-enter_node
decreases-enter_node l = 3074 - 3 * l.i

-- `enter_but_last` goes over the siblings: what is left is to enter them in turn.
abbrev pub invariant-enter_but_last-loop-next : goal.invariant-enter_but_last-loop-next
invariant-enter_but_last-loop-next l =
    let P = accepted_in l.program in
    record {
      below : l.child < end_at P.nodes l.h;
      ends : l.next ≡ end_at P.nodes l.child;
      here : AtChild P l.fn.marks l.fn.counts l.fn.work l.h l.child enter_in_turn l.marks l.counts l.work;
    }

abbrev pub decreases-enter_but_last-loop-next : goal.decreases-enter_but_last-loop-next
decreases-enter_but_last-loop-next l = l.end - l.child

-- `enter_each` goes over the siblings: what is left is to enter each, and then to ask the count.
abbrev pub invariant-enter_each-loop-child : goal.invariant-enter_each-loop-child
invariant-enter_each-loop-child l =
    AtChild (accepted_in l.program) l.fn.marks l.fn.counts l.fn.work l.h l.child
    (λ holds children w. finished_at_zero l.h (enter_each holds l.h children w)) l.marks l.counts l.work

abbrev pub decreases-enter_each-loop-child : goal.decreases-enter_each-loop-child
decreases-enter_each-loop-child l = l.end - l.child

-- `enter_node` goes from node to node: entering the node that was asked for, with the walk at entry, is entering the node of
-- the turn with the walk of the turn, and passing a WHL where one was passed.
abbrev pub invariant-enter_node-loop-work : goal.invariant-enter_node-loop-work
invariant-enter_node-loop-work l =
    let P = accepted_in l.program in
    record {
      is_node : l.node < node_count P.nodes;
      later : l.i ≤ l.node;
      here : Reached P l.fn.work
          (entering P l.fn.marks l.fn.counts l.fn.work l.i)
          (rest_at P l.fn.work l.looping l.node l.marks l.counts l.work) l.marks l.counts l.work;
    }

abbrev pub decreases-enter_node-loop-work : goal.decreases-enter_node-loop-work
decreases-enter_node-loop-work l = 1024 - l.node
