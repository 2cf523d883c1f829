-- `store_all` has the first stores made.
use Rattle.player.proofs.StoredLaws.{StoredTo}
use Rattle.player.proofs.stores.store_all.Given as goal

abbrev pub invariant-loop-store : goal.invariant-loop-store
invariant-loop-store l =
    StoredTo l.initial.values l.initial.work l.initial.store-items l.changed l.values l.work l.store-items l.store-index
