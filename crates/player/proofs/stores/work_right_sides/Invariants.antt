-- `work_right_sides` has the first entries done.
use Rattle.program.specs.Accepted.{accepted_in}
use Rattle.player.proofs.RightSideLaws.{RightSidesTo}
use Rattle.player.proofs.stores.work_right_sides.Given as goal

abbrev pub invariant-loop-i : goal.invariant-loop-i
invariant-loop-i l =
    RightSidesTo (accepted_in l.program) l.entries l.initial.scratch l.scratch l.i-index
