-- `count_marks` counts the marks by their values.
use Rattle.std.proofs.Common.{◌∙◌, eqb, rules, tests}
use Rattle.std.proofs.lemmas.Iterator.{YieldsList-from_slice}
use Rattle.std.proofs.lemmas.Iterator.Consumers.{YieldsList-from_filter, count_from_yields_List}
use Rattle.player.proofs.MarkLaws.{mark_count-filter}
use Rattle.player.proofs.marks.count_marks.Goals as goal

pub returns : goal.returns
returns c =
    count_from_yields_List c.filter.result c.count.result c.count.ensures.ran
    (YieldsList-from_filter _ (λ m. eqb m 1) (YieldsList-from_slice c.args.marks.now cc) c.filter.ensures.closure
    (λ x b q k. search (rules, tests)))
    ∙ mark_count-filter c.args.marks.now
