-- `advance` stores and walks in the lent lists, and takes both back where a zero-time loop was met.
use Rattle.player.proofs.AdvanceLaws.{held_fit, walking, climbing, advanced, taken_back_lem, lists_fit, entries_fit}
use Rattle.player.proofs.cycle.advance.Goals as goal

pub store_all-requires : goal.store_all-requires
store_all-requires c =
    let q = c.requires in
    record {
      held_fit = held_fit q.runnable q.carried q.started;
      holds = q.carried.holds;
      past = q.carried.known.past;
    }

pub visit_all-requires : goal.visit_all-requires
visit_all-requires c =
    let q = c.requires in
    let d = c.store_all.ensures in
    record {
      walking = walking q.runnable q.carried q.started c.store_all.new.work d q.cleared;
      cycle = q.started.cycle;
      paired = q.started.paired;
      climbing = climbing q.runnable q.carried q.started c.store_all.new.work d;
    }

pub undo_walks-requires : goal.undo_walks-requires
undo_walks-requires c =
    let q = c.requires in
    let d = c.store_all.ensures in
    let w = c.visit_all.ensures in
    let work = c.store_all.new.work in
    record {
      lists_fit = lists_fit q.runnable q.carried q.started work d q.cleared c.visit_all.new.work w;
      entries_fit = entries_fit q.runnable q.carried q.started work d q.cleared c.visit_all.new.work w;
    }

pub returns-then-scratch : goal.returns-then-scratch
returns-then-scratch c =
    let q = c.requires in
    let u = c.undo_walks.ensures in
    taken_back_lem q.runnable q.carried q.started c.store_all.new.work c.store_all.ensures q.cleared
    c.visit_all.new.work c.visit_all.ensures u.marks_after c.if-scratch.true c.restore_all.ensures
    c.undo_walks.auto.counts u.counts_after

pub returns : goal.returns
returns c =
    let q = c.requires in
    advanced q.runnable q.carried q.started c.store_all.new.work c.store_all.ensures q.cleared c.visit_all.new.work
    c.visit_all.ensures c.if-scratch.false
