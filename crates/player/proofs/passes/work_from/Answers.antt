-- `work_from` works one expression a turn.
use Rattle.std.proofs.Common.{arith, rules}
use Rattle.player.proofs.MemoLaws.{worked_next}
use Rattle.player.proofs.OperandLaws.{exprs_fit}
use Rattle.player.proofs.passes.work_from.Goals as goal

pub loop-i-preserved : goal.loop-i-preserved
loop-i-preserved c = search (rules, arith, worked_next, exprs_fit)

pub returns-2-clause-worked : goal.returns-2-clause-worked
returns-2-clause-worked c = search (rules, arith, worked_next, exprs_fit)
