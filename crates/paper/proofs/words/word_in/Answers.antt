-- `word_in` is the word that the crate byteorder reads.
use Rattle.std.proofs.Common.{◌∙◌, arith}
use Rattle.paper.proofs.WordLaws.{read_at}
use Rattle.paper.proofs.words.word_in.Goals as goal

pub returns : goal.returns
returns c = c.read_u16.ensures ∙ read_at c.args.file.now c.args.k (omega arith)
