-- `take_words` takes the words that the crate byteorder reads.
use Rattle.std.proofs.Common.{◌∙◌, arith}
use Rattle.std.proofs.lemmas.List.{length-take-le}
use Rattle.paper.proofs.WordLaws.{taken}
use Rattle.paper.proofs.words.take_words.Goals as goal

pub returns : goal.returns
returns c =
    let size = c.read_u16_into.auto.dst ∙ length-take-le c.args.count c.args.list.now (omega arith) in
    taken c.args.file.now c.args.from c.args.count c.read_u16_into.new.dst c.args.list.now (omega arith) size
    c.read_u16_into.ensures
