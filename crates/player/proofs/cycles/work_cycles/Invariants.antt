-- `work_cycles` works one cycle a turn. The invariant: the rules' run from the start is the run of the cycles left,
-- from the lists as they are, by the entries not read yet. Besides, `scratch` has what the next cycle asks, and no
-- stamp is above the cycles worked.
use Rattle.program.specs.Accepted.{accepted_in}
use Rattle.player.specs.Begin.{state_of}
use Rattle.player.specs.Claims.{Aged}
use Rattle.player.specs.Cycle.{Carried}
use Rattle.player.proofs.RunningLaws.{Progress}
use Rattle.player.proofs.cycles.work_cycles.Given as goal

abbrev pub invariant-loop-worked : goal.invariant-loop-worked
invariant-loop-worked l = record {
  progress : Progress (accepted_in l.program) l.cycles (state_of l.initial.values l.initial.marks l.initial.counts)
      l.book (state_of l.values l.marks l.counts) l.worked l.rest;
  carried : Carried (accepted_in l.program) l.values l.marks l.scratch.work;
  aged : Aged l.scratch.claims l.worked;
}
