-- `pair_entries` has the first k entries crossed out, and their channels claimed.
use Rattle.player.specs.Entries.{CrossedOut}
use Rattle.player.proofs.PairingLaws.{PairedTo}
use Rattle.player.proofs.channels.pair_entries.Given as goal

abbrev pub invariant-loop-k : goal.invariant-loop-k
invariant-loop-k l = record {
  crossed : CrossedOut l.entries l.initial.marks l.k l.marks;
  paired : PairedTo l.program.lists.nodes.now l.entries l.k l.initial.claims l.claims;
}
