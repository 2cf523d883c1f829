-- `values_in_range` asks of each variable whether its value is at most its mask.
use Rattle.std.proofs.Common.{◌∙◌, ◌-◌, ◌^◌, leb, get_or, refl, arith, rules, tests}
use Rattle.std.proofs.lemmas.Iterator.{YieldsList-from_range, serves_from_Range}
use Rattle.std.proofs.lemmas.Iterator.Search.{all_from_yields_List}
use Rattle.semantics.specs.Widths.{width_at}
use Rattle.player.proofs.MaskLaws.{values_within}
use Rattle.player.proofs.widths.values_in_range.Goals as goal

pub all-requires-clause-callable : goal.all-requires-clause-callable
all-requires-clause-callable c =
    serves_from_Range (λ x q k. search (rules, tests)) (λ x low high. search (rules, tests))

pub returns : goal.returns
returns c =
    let values = c.args.values.now in
    let widths = c.args.program.now.lists.widths.now in
    let vars = c.args.program.now.lists.vars in
    all_from_yields_List (λ v. leb (get_or values v 0) (2 ^ width_at widths v - 1)) _ _ c.all.result c.all.ensures.ran
    (YieldsList-from_range 0 vars vars refl (omega arith)) (λ x b q k. search (rules, tests))
    ∙ values_within widths values vars c.requires
