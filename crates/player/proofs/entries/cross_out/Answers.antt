-- `cross_out` crosses one entry out a turn.
use Rattle.std.proofs.Common.{arith}
use Rattle.player.proofs.EntryLaws.{crossed-all, crossed_stops, crossed_next}
use Rattle.player.proofs.entries.cross_out.Goals as goal

pub returns-then-not-is_marked-clause-value : goal.returns-then-not-is_marked-clause-value
returns-then-not-is_marked-clause-value c =
    let h = c.loop-k.invariant in
    grind (arith, h.rest, crossed_stops h c.loop-k-test.true)

pub loop-k-preserved : goal.loop-k-preserved
loop-k-preserved c = rw c.cross.ensures (crossed_next c.loop-k.invariant c.loop-k-test.true (grind arith))

pub returns-clause-value : goal.returns-clause-value
returns-clause-value c = crossed-all c.loop-k.invariant c.loop-k-test.false
