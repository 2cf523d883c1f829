-- `work_right_sides` has the first entries done.
use Rattle.std.proofs.Common.{arith}
use Rattle.player.proofs.RightSideLaws.{right_none, right-all, right_entry, right_room, right_skip}
use Rattle.player.proofs.RightSideLaws.{right_target, right_refused, right_expression, right_more}
use Rattle.player.proofs.stores.work_right_sides.Goals as goal
use Rattle.player.proofs.stores.work_right_sides.Goals.{in-Some+else-not-claim_variable, in_default}

pub loop-i-init : goal.loop-i-init
loop-i-init c = right_none c.requires c.clear.ensures

pub target_and_source-requires : goal.target_and_source-requires
target_and_source-requires c = right_entry c.requires.cycle c.loop-i.invariant c.loop-i-test.true

-- ---- an entry that stores

pub claim_variable-requires : goal.claim_variable-requires
claim_variable-requires c =
    let l = c.loop-i in
    let more = c.loop-i-test.true in
    right_target c.requires.cycle l.invariant more (c.in-Some.ensures (right_entry c.requires.cycle l.invariant more))

pub returns-then-not-claim_variable : goal.returns-then-not-claim_variable
returns-then-not-claim_variable c =
    let l = c.loop-i in
    let more = c.loop-i-test.true in
    rw c.claim_variable.ensures.kept
    (right_refused c.requires.cycle l.invariant more (c.in-Some.ensures (right_entry c.requires.cycle l.invariant more))
    c.claim_variable.ensures.claimed c.if-not-claim_variable.true)

pub right_side-value-requires : goal.right_side-value-requires
right_side-value-requires c =
    let l = c.loop-i in
    let more = c.loop-i-test.true in
    record {
      e_bound = right_expression c.requires.cycle l.invariant more
          (c.in-Some.ensures (right_entry c.requires.cycle l.invariant more));
      known = l.invariant.more.known;
    }

pub push-requires : goal.push-requires
push-requires c = (omega arith, right_room c.requires.cycle c.loop-i.invariant c.loop-i-test.true)

-- ---- all entries

pub loop-i-preserved : goal.loop-i-preserved
loop-i-preserved c =
    let l = c.loop-i in
    let more = c.loop-i-test.true in
    let here = right_entry c.requires.cycle l.invariant more in
    elim c.match-target_and_source.branch [
      | in-Some+else-not-claim_variable w ↦ rw (w.scratch-is, w.claim_variable.ensures.kept)
          (right_more c.requires.cycle l.invariant more (w.in-Some.ensures here) w.claim_variable.ensures.claimed
          w.if-not-claim_variable.false w.right_side-value.ensures w.push.ensures.items)
      | in_default w ↦ rw w.scratch-is (right_skip c.requires.cycle l.invariant more (w.in_default.ensures here))
    ]

pub returns : goal.returns
returns c = right-all c.requires.cycle c.loop-i.invariant c.loop-i-test.false
