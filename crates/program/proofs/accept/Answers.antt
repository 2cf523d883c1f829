-- `accept` asks one question after the other, and `?` passes on the first refusal.
use Rattle.program.specs.Answer.{program_in}
use Rattle.program.proofs.CheckLaws.{refused, first_1, first_2, first_3, first_4, first_11}
use Rattle.program.proofs.accept.Goals as goal

pub returns-in_err-ask_sizes-clause-answer : goal.returns-in_err-ask_sizes-clause-answer
returns-in_err-ask_sizes-clause-answer c =
    let P = program_in c.args.program in
    refused P _ _ c.from_residual.ensures 1 _ c.in_err-ask_sizes.ensures.asked (first_1 P)

pub returns-in_err-ask_exprs-clause-answer : goal.returns-in_err-ask_exprs-clause-answer
returns-in_err-ask_exprs-clause-answer c =
    let P = program_in c.args.program in
    refused P _ _ c.from_residual-in_err-ask_exprs.ensures 2 _ c.in_err-ask_exprs.ensures
    (first_2 P c.in_ok-ask_sizes.ensures.asked)

pub returns-in_err-ask_nodes-clause-answer : goal.returns-in_err-ask_nodes-clause-answer
returns-in_err-ask_nodes-clause-answer c =
    let P = program_in c.args.program in
    refused P _ _ c.from_residual-in_err-ask_nodes.ensures 3 _ c.in_err-ask_nodes.ensures
    (first_3 P c.in_ok-ask_sizes.ensures.asked c.in_ok-ask_exprs.ensures)

pub returns-in_err-ask_ranges-clause-answer : goal.returns-in_err-ask_ranges-clause-answer
returns-in_err-ask_ranges-clause-answer c =
    let P = program_in c.args.program in
    refused P _ _ c.from_residual-in_err-ask_ranges.ensures 4 _ c.in_err-ask_ranges.ensures
    (first_4 P c.in_ok-ask_sizes.ensures.asked c.in_ok-ask_exprs.ensures c.in_ok-ask_nodes.ensures)

pub returns-in_err-ask_widths-clause-answer : goal.returns-in_err-ask_widths-clause-answer
returns-in_err-ask_widths-clause-answer c =
    let P = program_in c.args.program in
    refused P _ _ c.from_residual-in_err-ask_widths.ensures 11 _ c.in_err-ask_widths.ensures
    (first_11 P c.in_ok-ask_sizes.ensures.asked c.in_ok-ask_exprs.ensures c.in_ok-ask_nodes.ensures
    c.in_ok-ask_ranges.ensures)
