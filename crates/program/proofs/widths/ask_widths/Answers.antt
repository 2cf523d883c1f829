-- `ask_widths` is question 11: where there are as many widths as variables, it is answered by a search for a fault.
use Rattle.std.proofs.Common.{◌≡◌, ◌≢◌, length, sym, refl, rules, arith, tests, eq-eqb, ne_eqb}
use Rattle.semantics.specs.Widths.{width_at, width_ok, widths_ok}
use Rattle.semantics.proofs.Lists.FaultLaws.{item_11, item_11-length}
use Rattle.program.specs.Answer.{program_in}
use Rattle.program.proofs.SearchLaws.{answered}
use Rattle.program.proofs.widths.ask_widths.Goals as goal

pub returns-then-program : goal.returns-then-program
unfolding widths_ok
returns-then-program c =
    let P = program_in c.args.program.now in
    let other : length P.widths ≢ P.variables = λ e. omega arith in
    record { right_number = rw (ne_eqb _ _ other); right_item = sym (item_11-length P other) }

pub returns : goal.returns
unfolding widths_ok
returns c =
    let P = program_in c.args.program.now in
    let as_many : length P.widths ≡ P.variables = omega arith in
    rw (eq-eqb _ _ as_many) (answered (λ v. width_ok (width_at P.widths v)) _ refl _ (λ x b q k. search (rules, tests))
    (item_11 P as_many) _ c.find.ensures.ran c.map_or.ensures (λ v k. search rules))
