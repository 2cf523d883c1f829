-- `after_body` enters the child of a WHL again. The search finds this without an answer, but close to its limit.
use Rattle.std.proofs.Common.{arith}
use Rattle.player.proofs.AcceptedNodeLaws.{body_left}
use Rattle.player.proofs.leave.after_body.Goals as goal

pub returns : goal.returns
returns c = grind (arith, body_left)
