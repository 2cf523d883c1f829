-- `put_parts` puts the words of each part behind those of the part before.
use mathlib.Core.Path.{◌≡◌, refl, ◌∙◌}
use mathlib.Core.List.{List, [], ◌++◌}
use Prim.Native.Nat.{ℕ, ◌+◌, ◌*◌}
use native.Mathlib.Omega.{arith}
use lib.ListN.{length, length-append}
use Rattle.semantics.specs.Bytes.{bytes_of}
use Rattle.paper.proofs.WordLaws.{put_next}
use Rattle.paper.proofs.writer.put_parts.Goals as goal

pub returns : goal.returns
unfolding bytes_of
returns c =
    let a = c.args in
    let es : List ℕ = a.program.exprs.now in
    let ns : List ℕ = a.program.nodes.now in
    let vs : List ℕ = a.values.now in
    let ws : List ℕ = a.program.widths.now in
    let file : List ℕ = a.file.now in
    let two : length (es ++ ns) ≡ length es + length ns = length-append es ns in
    let three : length (es ++ ns ++ vs) ≡ length (es ++ ns) + length vs = length-append (es ++ ns) vs in
    let e = c.put_words.ensures ∙ put_next [] es 0 file file refl refl in
    let n = c.put_words-2.ensures ∙ put_next es ns _ _ file refl e in
    let at_values = 2 * length es + 2 * length ns in
    let at_widths = at_values + 2 * length vs in
    let v = c.put_words-3.ensures ∙ put_next (es ++ ns) vs at_values _ file (omega arith) n in
    c.put_words-4.ensures ∙ put_next (es ++ ns ++ vs) ws at_widths _ file (omega arith) v
