-- `write` asks what check asks, 5 of the values and 13, and then puts the parts and the trailer.
use Rattle.std.proofs.Common.{◌≡◌, refl, ap, ◌∙◌, ne_eqb}
use Rattle.std.proofs.lemmas.Result.{err_from_is_err_and}
use Rattle.semantics.specs.File.{sizes_of, trailer}
use Rattle.semantics.proofs.Files.FileCallLaws.{write_check, write_5}
use Rattle.program.specs.declared.Program.{Program as Lent}
use Rattle.program.specs.Answer.{program_in}
use Rattle.program.proofs.AnswerLaws.{check_item_lem, number_not_0}
use Rattle.paper.specs.Sizes.{sizes_in_code}
use Rattle.paper.proofs.AnswerLaws.{by_writing}
use Rattle.paper.proofs.WriterLaws.{answer_13, answer_0}
use Rattle.paper.proofs.write.Goals as goal

pub returns-in_err-accepted : goal.returns-in_err-accepted
returns-in_err-accepted c =
    let checked = c.in_err-accepted.ensures.answer in
    let (_, is, same) = err_from_is_err_and c.from_residual.result c.from_residual.ensures.1 in
    rw (is, same)
    (by_writing (write_check _ _ _ _ _ checked.right_number
    (number_not_0 c.in_err-accepted.field-0.0)
    (check_item_lem checked)) _ refl)

-- ---- check has accepted the program
pub returns-then-values-program : goal.returns-then-values-program
returns-then-values-program c =
    by_writing (write_5 _ _ _ c.in_ok-accepted.ensures.answer.right_number
    (ne_eqb _ _ c.if-values-program.true)) _ refl

-- ---- there is a value for each variable
pub returns-then-file-before_trailer : goal.returns-then-file-before_trailer
returns-then-file-before_trailer c =
    answer_13 _ _ _ c.in_ok-accepted.ensures.answer.right_number
    c.if-values-program.false c.if-file-before_trailer.true _ refl

-- ---- the buffer is long enough
pub returns : goal.returns
returns c =
    let it = c.in_ok-accepted in
    let sizes : sizes_in_code c.from.result ≡ sizes_of (program_in c.args.program) =
    c.from.ensures ∙ ap (λ (p : Lent). sizes_of (program_in p)) it.ensures.same in
    answer_0 _ _ _ it.ensures.answer.right_number
    c.if-values-program.false c.if-file-before_trailer.false _ _ _
    c.put_parts.ensures (c.trailer_of.ensures ∙ ap trailer sizes) c.put_words.ensures
