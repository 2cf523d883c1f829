-- `check_in` asks question 1 of the sizes, and then copies the parts and asks check.
use Rattle.paper.proofs.ReaderLaws.{too_long, asked_of_file}
use Rattle.paper.proofs.reader.check_in.Goals as goal

pub returns-then-e-n : goal.returns-then-e-n
returns-then-e-n c =
    let l = c.lengths-e.ensures in too_long _ _ c.requires _ _ _ l.exprs l.nodes l.vars c.if-e-n.true

pub returns : goal.returns
returns c =
    let l = c.lengths-e.ensures in
    asked_of_file _ _ c.requires _ _ _ l.exprs l.nodes l.vars c.if-e-n.false _ _ _ c.take_words.ensures
    c.take_words-2.ensures c.take_words-3.ensures c.check.ensures
