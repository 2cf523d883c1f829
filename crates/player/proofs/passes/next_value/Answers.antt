-- `next_value` gives a number, a variable's value, or the op at the values of two expressions before it.
use Rattle.std.proofs.Common.{arith}
use Rattle.semantics.specs.Expressions.{value_of as rule_value}
use Rattle.player.proofs.AcceptedLaws.{op_known}
use Rattle.player.proofs.MemoLaws.{value_before}
use Rattle.player.proofs.OperandLaws.{expression_laws}
use Rattle.player.proofs.passes.next_value.Goals as goal

pub returns-in-Ok-Binary : goal.returns-in-Ok-Binary
unfolding rule_value
returns-in-Ok-Binary c = grind (arith, value_before _ _ _ _ c.requires.worked, expression_laws)

-- a word that is no op
pub returns-in-Err : goal.returns-in-Err
returns-in-Err c = grind (arith, op_known _ c.args.program.now.accepted c.args.i c.requires.i_bound.0)
