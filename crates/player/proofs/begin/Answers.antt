-- `begin` asks its questions in the rules' order, each after those before it are answered yes.
use Rattle.semantics.proofs.Order.CycleOrder.{fits_lengths}
use Rattle.program.proofs.AnswerLaws.{answer_to-ok}
use Rattle.player.proofs.FirstNoLaws.{no_check, no_5, no_6}
use Rattle.player.proofs.BeginLaws.{refused, answer_written}
use Rattle.player.proofs.begin.Goals as goal

pub returns-in_err-accepted : goal.returns-in_err-accepted
returns-in_err-accepted c = refused _ _ _ _ c.from_residual.ensures (no_check _ c.in_err-accepted.ensures.answer)

pub returns-in_err-ask_lengths : goal.returns-in_err-ask_lengths
returns-in_err-ask_lengths c =
    let it = c.in_ok-accepted in
    rw (← it.ensures.same)
    (refused _ _ _ _ c.from_residual-in_err-ask_lengths.ensures
    (no_5 it.accepted.accepted _ _ c.in_err-ask_lengths.ensures))

pub ask_values-requires : goal.ask_values-requires
ask_values-requires c = (fits_lengths _ _ (answer_to-ok _ _ c.in_ok-ask_lengths.ensures)).values

pub returns-in_err-ask_values : goal.returns-in_err-ask_values
returns-in_err-ask_values c =
    let it = c.in_ok-accepted in
    rw (← it.ensures.same)
    (refused _ _ _ _ c.from_residual-in_err-ask_values.ensures
    (no_6 it.accepted.accepted _ _ _ (answer_to-ok _ _ c.in_ok-ask_lengths.ensures) c.in_err-ask_values.ensures))

pub enter_root-requires : goal.enter_root-requires
enter_root-requires c = fits_lengths _ _ (answer_to-ok _ _ c.in_ok-ask_lengths.ensures)

pub returns : goal.returns
returns c =
    let it = c.in_ok-accepted in
    rw (← it.ensures.same)
    (answer_written _ _ it.accepted.accepted (answer_to-ok _ _ c.in_ok-ask_lengths.ensures)
    (answer_to-ok _ _ c.in_ok-ask_values.ensures) c.enter_root.ensures)
