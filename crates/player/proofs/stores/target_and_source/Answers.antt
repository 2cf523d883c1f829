-- `target_and_source` answers by the kind: an ASG stores, and an IN where an OUT has claimed its channel.
use Rattle.std.proofs.Common.{rules}
use Rattle.player.proofs.StoreLaws.{asg_stores, in_alone, sender_node, in_stored}
use Rattle.player.proofs.stores.target_and_source.Goals as goal

pub returns-in-Leaf-Asg : goal.returns-in-Leaf-Asg
returns-in-Leaf-Asg c = λ x. rw (c.node-a.ensures.a, c.node-a.ensures.b) (asg_stores x (search rules))

-- ---- an IN

pub returns-in_err-sender-in-Leaf-In : goal.returns-in_err-sender-in-Leaf-In
returns-in_err-sender-in-Leaf-In c =
    let alone = c.in_err-sender-in-Leaf-In.ensures in
    λ x. rw c.from_residual.ensures (in_alone x (search rules) (rw c.node-a.ensures.a at alone))

pub node-requires : goal.node-requires
node-requires c =
    let sent = c.in_ok-sender-in-Leaf-In.ensures in
    sender_node c.requires (search rules) (rw c.node-a.ensures.a at sent)

pub returns-in_ok-sender-in-Leaf-In : goal.returns-in_ok-sender-in-Leaf-In
returns-in_ok-sender-in-Leaf-In c =
    let sent = c.in_ok-sender-in-Leaf-In.ensures in
    λ x. rw (c.node-a.ensures.b, c.node.ensures.b) (in_stored x (search rules) (rw c.node-a.ensures.a at sent))
