-- `run` asks its questions in the rules' order, each after those before it are answered yes, and then works cycles.
use Rattle.semantics.proofs.Order.CycleOrder.{fits_lengths}
use Rattle.program.proofs.AnswerLaws.{answer_to-ok}
use Rattle.player.proofs.FirstNoLaws.{no_check, no_5, no_6}
use Rattle.player.proofs.RunAnswerLaws.{refused}
use Rattle.player.proofs.run.Goals as goal

pub returns-in_err-accepted : goal.returns-in_err-accepted
returns-in_err-accepted c = refused _ _ c.from_residual.ensures (no_check _ c.in_err-accepted.ensures.answer)

pub returns-in_err-ask_lengths : goal.returns-in_err-ask_lengths
returns-in_err-ask_lengths c =
    let it = c.in_ok-accepted in
    rw (← it.ensures.same)
    (refused _ _ c.from_residual-in_err-ask_lengths.ensures
    (no_5 it.accepted.accepted _ _ c.in_err-ask_lengths.ensures))

pub ask_state-requires : goal.ask_state-requires
ask_state-requires c = fits_lengths _ _ (answer_to-ok _ _ c.in_ok-ask_lengths.ensures)

pub returns-in_err-ask_state : goal.returns-in_err-ask_state
returns-in_err-ask_state c =
    let it = c.in_ok-accepted in
    rw (← it.ensures.same)
    (refused _ _ c.from_residual-in_err-ask_state.ensures
    (no_6 it.accepted.accepted _ _ _ (answer_to-ok _ _ c.in_ok-ask_lengths.ensures) c.in_err-ask_state.ensures))
