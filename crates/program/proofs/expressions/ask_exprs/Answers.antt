-- `ask_exprs` is question 2: it is answered by a search for a fault.
use Rattle.std.proofs.Common.{rules, tests}
use Rattle.semantics.specs.Check.{expr_ok}
use Rattle.semantics.proofs.Lists.FaultLaws.{item_2}
use Rattle.program.specs.Answer.{program_in}
use Rattle.program.proofs.SearchLaws.{answered}
use Rattle.program.proofs.expressions.ask_exprs.Goals as goal

pub returns : goal.returns
returns c =
    let P = program_in c.args.program.now in
    answered (expr_ok P) _ c.expr_count-count.ensures _ (λ x b q k. search (rules, tests)) (item_2 P) _ c.find.ensures.ran
    c.map_or.ensures (λ i k. search rules)
