-- `ask_state` asks marks and counts that fit the program.
use Rattle.player.proofs.AcceptedLaws.{is_accepted}
use Rattle.player.proofs.well_formed.ask_state.Goals as goal

pub control_formed-requires : goal.control_formed-requires
control_formed-requires c =
    record { accepted = is_accepted c.args.program.now; marks_fit = c.requires.marks; counts_fit = c.requires.counts }
