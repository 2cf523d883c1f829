-- `restore_all` has the last stores taken back.
use Rattle.player.proofs.StoredLaws.{LeftToRestore}
use Rattle.player.proofs.stores.restore_all.Given as goal

abbrev pub invariant-loop-store : goal.invariant-loop-store
invariant-loop-store l = LeftToRestore l.initial.values l.stores.items l.values l.store-iterator.iter.rest.now
