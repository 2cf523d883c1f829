-- `put_words` puts the bytes that the crate byteorder writes.
use Rattle.std.proofs.Common.{length, ◌+◌, ◌*◌, ◌-◌, ◌∙◌, sym, arith}
use Rattle.std.proofs.lemmas.Slice.{put_mid-paste}
use Rattle.semantics.specs.Bytes.{bytes_of}
use Rattle.semantics.proofs.Files.BytesLaws.{length-bytes}
use Rattle.paper.proofs.WordLaws.{put}
use Rattle.paper.proofs.words.put_words.Goals as goal

pub returns : goal.returns
returns c =
    let words = c.args.words.now in
    put_mid-paste c.args.at (c.args.at + 2 * length words - c.args.at) c.args.file.now c.write_u16_into.new.dst
    (bytes_of words) (2 * length words) (c.write_u16_into.ensures ∙ put words (λ k. let h = c.type_inv.words k in omega arith)) (omega arith)
    (sym (length-bytes words))
