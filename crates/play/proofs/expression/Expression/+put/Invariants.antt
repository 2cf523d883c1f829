-- Operands are written to a depth that is smaller by 1.
use Rattle.play.proofs.expression.Expression.+put.Given as goal

abbrev pub decreases-put : goal.decreases-put
decreases-put g l = l.self.depth
