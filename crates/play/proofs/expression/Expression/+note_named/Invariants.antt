-- Operands are noted to a depth that is smaller by 1.
use Rattle.play.proofs.expression.Expression.+note_named.Given as goal

abbrev pub decreases-note_named : goal.decreases-note_named
decreases-note_named l = l.self.depth
