-- `cross_out` crosses one entry out a turn: the first k are crossed out.
use Rattle.player.specs.Entries.{CrossedOut}
use Rattle.player.proofs.entries.cross_out.Given as goal

abbrev pub invariant-loop-k : goal.invariant-loop-k
invariant-loop-k l = CrossedOut l.entries l.initial.marks l.k l.marks
