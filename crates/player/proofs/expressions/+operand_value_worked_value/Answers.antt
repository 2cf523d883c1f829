-- The cycle of calls that works an expression inside another: `worked_value` works its operands and notes the value.
use Rattle.std.proofs.Common.{◌≡◌, arith}
use Rattle.semantics.specs.Expressions.{value_of as rule_value}
use Rattle.player.specs.Memo.{value_of}
use Rattle.player.proofs.MemoLaws.{worked_after}
use Rattle.player.proofs.OperandLaws.{exprs_fit, expression_laws}
use Rattle.player.proofs.expressions.+operand_value_worked_value.Goals as goal

pub worked_value-returns : goal.worked_value-returns
unfolding rule_value
worked_value-returns t c =
    let program = c.args.program.now in
    let e = c.args.e in
    let right : c.apply_op-value.result ≡ value_of program.lists.exprs.now c.args.memo.now.variables e =
    grind (arith, expression_laws) in
    rw c.note.ensures
    (worked_after _ _ _ _ e _ _ _ _ _ (omega (arith, exprs_fit program)) c.operand_value-x.ensures c.operand_value-y.ensures right)
