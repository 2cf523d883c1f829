-- `recount` counts one node a turn.
use Rattle.player.proofs.LiveTableLaws.{table_start, turn, parent_fits}
use Rattle.player.proofs.UndoLaws.{recount_start, recount_step}
use Rattle.player.proofs.undo.recount.Goals as goal

pub loop-at-init : goal.loop-at-init
loop-at-init c = recount_start c.requires (table_start c.requires)

pub add_to_parent-requires : goal.add_to_parent-requires
add_to_parent-requires c =
    let so_far = rw (turn c.loop-at-test.true) at c.loop-at.invariant in
    parent_fits c.requires so_far.within so_far.table

pub loop-at-preserved : goal.loop-at-preserved
loop-at-preserved c =
    let so_far = rw (turn c.loop-at-test.true) at c.loop-at.invariant in
    rw (c.add_to_parent.ensures, c.is_marked.ensures, c.count_for.ensures, c.kind.ensures) (recount_step c.requires so_far)
