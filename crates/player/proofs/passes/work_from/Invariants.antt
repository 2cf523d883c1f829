-- `work_from` works one expression a turn.
use Rattle.std.proofs.Common.{◌≡◌, suc, ◌<◌}
use Rattle.program.specs.Accepted.{accepted_in}
use Rattle.player.specs.Memo.{WorkedTo}
use Rattle.player.proofs.passes.work_from.Given as goal

abbrev pub invariant-loop-i : goal.invariant-loop-i
invariant-loop-i l = record {
  worked : WorkedTo (accepted_in l.program).exprs l.memo l.i l.last;
  before : (0 < l.i → suc l.prev ≡ l.i);
  kept : l.memo ≡ record l.initial.memo { formulas = l.memo.formulas };
}
