-- `ask_room` is question 13 of a reader.
use Rattle.std.proofs.Common.{refl, ◌∙◌, ap}
use Rattle.std.specs.Option.{ok_or}
use Rattle.program.specs.declared.refusal.Refusal.TheVariants.{Room}
use Rattle.paper.proofs.ReaderLaws.{room_answer}
use Rattle.paper.proofs.reader.ask_room.Goals as goal

pub returns-clause-asked : goal.returns-clause-asked
returns-clause-asked c file are =
    let l = c.lengths-lengths.ensures in
    c.ok_or.ensures.value ∙ ap (λ r. ok_or r Room) c.then_some.ensures
    ∙ room_answer _ _ are _ _ _ l.exprs l.nodes l.vars _ _ refl
