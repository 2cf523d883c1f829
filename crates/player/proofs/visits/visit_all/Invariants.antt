-- `visit_all` has the visits of the entries from the index on still to do.
use Rattle.std.proofs.Common.{◌≡◌, drop}
use mathlib.Core.List.{foldl}
use Rattle.program.specs.Accepted.{accepted_in}
use Rattle.player.specs.Work.{KeptTables}
use Rattle.player.specs.Walks.{walk_in, holds_now, Walking}
use Rattle.player.specs.Cycle.{visit_in}
use Rattle.player.proofs.visits.visit_all.Given as goal

abbrev pub invariant-loop-i : goal.invariant-loop-i
invariant-loop-i l = record {
  right : let step = visit_in (accepted_in l.program) l.entries (holds_now (accepted_in l.program) l.initial.work.memo) in
      foldl step (walk_in l.initial.marks l.initial.counts l.initial.work) l.entries
      ≡ foldl step (walk_in l.marks l.counts l.work) (drop l.i-index l.entries);
  walking : Walking (accepted_in l.program) l.marks l.counts l.work;
  kept : KeptTables l.initial.work l.work;
}
