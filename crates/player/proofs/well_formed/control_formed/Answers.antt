-- `control_formed` asks each node by itself.
use Rattle.std.proofs.Common.{◌≡◌, ◌-◌, sym, ◌∙◌, arith}
use Rattle.player.proofs.LiveTableLaws.{table_start, turn, pass_start, asks_right, pass_fits, pass_step, all_asked, not_formed}
use Rattle.player.proofs.well_formed.control_formed.Goals as goal

pub loop-at-init : goal.loop-at-init
loop-at-init c = pass_start c.requires (table_start c.requires)

pub returns-then-not-node_well_formed : goal.returns-then-not-node_well_formed
returns-then-not-node_well_formed c =
    let passed = rw (turn c.loop-at-test.true) at c.loop-at.invariant in
    let asked = rw c.kind.ensures at c.node_well_formed.ensures ∙ asks_right c.requires passed in
    sym (not_formed c.requires (c.loop-at.at - 1) passed.within (sym asked ∙ c.if-not-node_well_formed.true))

pub add_to_parent-requires : goal.add_to_parent-requires
add_to_parent-requires c = pass_fits c.requires (rw (turn c.loop-at-test.true) at c.loop-at.invariant)

pub loop-at-preserved : goal.loop-at-preserved
loop-at-preserved c =
    let passed = rw (turn c.loop-at-test.true) at c.loop-at.invariant in
    let asked = rw c.kind.ensures at c.node_well_formed.ensures ∙ asks_right c.requires passed in
    rw c.add_to_parent.ensures (pass_step c.requires passed (sym asked ∙ c.if-not-node_well_formed.false))

pub returns : goal.returns
returns c =
    let none : c.loop-at.at ≡ 0 = omega arith in
    sym (all_asked c.requires (rw none at c.loop-at.invariant))
