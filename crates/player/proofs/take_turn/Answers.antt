-- `take_turn` takes the rules' turn once question 5 is answered yes.
use Rattle.std.proofs.Common.{arith}
use Rattle.semantics.proofs.Tree.NodeLaws.{no_parent_past}
use Rattle.semantics.proofs.Walks.TurnLaws.{turn_none}
use Rattle.semantics.proofs.Order.CycleOrder.{fits_lengths}
use Rattle.program.proofs.AnswerLaws.{answer_to-ok}
use Rattle.player.proofs.AcceptedLaws.{is_accepted}
use Rattle.player.proofs.TurnLaws.{turn_answered}
use Rattle.player.proofs.take_turn.Goals as goal

pub fill-requires-clause-values_len : goal.fill-requires-clause-values_len
fill-requires-clause-values_len c = (fits_lengths _ _ (answer_to-ok _ _ c.in_ok-ask_lengths.ensures)).values

pub fill-requires-clause-marks_len : goal.fill-requires-clause-marks_len
fill-requires-clause-marks_len c = (fits_lengths _ _ (answer_to-ok _ _ c.in_ok-ask_lengths.ensures)).marks

pub turn-next-requires-clause-walking : goal.turn-next-requires-clause-walking
turn-next-requires-clause-walking c =
    let fit = fits_lengths _ _ (answer_to-ok _ _ c.in_ok-ask_lengths.ensures) in
    record {
      accepted = is_accepted c.args.program.now;
      marks_fit = fit.marks;
      counts_fit = fit.counts;
      known = c.fill.ensures.known;
      tally = c.fill.ensures.tally;
    }

pub turn-next-requires-clause-i_bound : goal.turn-next-requires-clause-i_bound
turn-next-requires-clause-i_bound c =
    let fit = fits_lengths _ _ (answer_to-ok _ _ c.in_ok-ask_lengths.ensures) in
    (omega (arith, fit.marks, c.if-i-marks.true), c.fill.ensures.climbing)

pub returns-then-i-marks : goal.returns-then-i-marks
returns-then-i-marks c =
    turn_answered _ _ _ c.fill.new.work (answer_to-ok _ _ c.in_ok-ask_lengths.ensures) c.fill.ensures.holds c.fill.ensures.unmet _
    c.turn-next.ensures.right

pub returns-else-i-marks : goal.returns-else-i-marks
returns-else-i-marks c =
    let yes = answer_to-ok _ _ c.in_ok-ask_lengths.ensures in
    let ok = is_accepted c.args.program.now in
    turn_answered _ _ _ c.fill.new.work yes c.fill.ensures.holds c.fill.ensures.unmet _
    (turn_none _ _ _ _ (no_parent_past _ ok.nodes_ok ok.sizes.whole_nodes _
    (omega (arith, (fits_lengths _ _ yes).marks, c.if-i-marks.false))))
