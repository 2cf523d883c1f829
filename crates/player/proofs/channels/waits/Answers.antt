-- `waits` looks up the other leaf on the channel of an IN or OUT.
use mathlib.Core.Path.{sym, ◌∙◌}
use Rattle.std.proofs.Common.{rules}
use Rattle.player.proofs.RankLaws.{no_claimant}
use Rattle.player.proofs.PairingLaws.{in_waits, out_waits}
use Rattle.player.proofs.channels.waits.Goals as goal

pub returns-in-Leaf-In : goal.returns-in-Leaf-In
returns-in-Leaf-In c = λ x.
    no_claimant _ _ (rw c.channel_of.ensures at c.sender.ensures) c.is_none.ensures
    ∙ sym (in_waits x.cycle c.args.i x.is_marked x.paired (search rules))

pub returns-in-Leaf-Out : goal.returns-in-Leaf-Out
returns-in-Leaf-Out c = λ x.
    no_claimant _ _ (rw c.channel_of-in-Leaf-Out.ensures at c.receiver.ensures) c.is_none-in-Leaf-Out.ensures
    ∙ sym (out_waits x.cycle c.args.i x.is_marked x.paired (search rules))
