-- `ask_nodes` is question 3: it is answered by a search for a fault.
use Rattle.std.proofs.Common.{rules, tests}
use Rattle.semantics.specs.Check.{node_ok}
use Rattle.semantics.proofs.Lists.FaultLaws.{item_3}
use Rattle.program.specs.Answer.{program_in}
use Rattle.program.proofs.SearchLaws.{answered}
use Rattle.program.proofs.tree.ask_nodes.Goals as goal

pub returns : goal.returns
returns c =
    let P = program_in c.args.program.now in
    answered (node_ok P.nodes) _ c.node_count-count.ensures _ (λ x b q k. search (rules, tests)) (item_3 P) _ c.find.ensures.ran
    c.map_or.ensures (λ i k. search rules)
