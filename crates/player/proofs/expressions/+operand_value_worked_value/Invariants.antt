-- The measures of the cycle that works an expression inside another: `nested`, counted twice.
use Prim.Native.Nat.{◌+◌, ◌*◌}
use Rattle.player.proofs.expressions.+operand_value_worked_value.Given as goal

abbrev pub decreases-operand_value : goal.decreases-operand_value
decreases-operand_value l = 2 * l.nested + 1

abbrev pub decreases-worked_value : goal.decreases-worked_value
decreases-worked_value l = 2 * l.nested
