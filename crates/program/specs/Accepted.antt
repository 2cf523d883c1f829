-- The rules' program of an accepted program in code.
use Rattle.semantics.specs.Program.{Program as Rules}
use Rattle.program.specs.declared.accepted.Accepted.{Accepted}
use Rattle.program.specs.Answer.{program_in}

abbrev pub accepted_in : Accepted → Rules
accepted_in it = program_in it.lists
