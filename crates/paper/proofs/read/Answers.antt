-- `read` asks question 12, what check asks, and 13, and then fills the buffers.
use Rattle.std.proofs.Common.{refl}
use Rattle.std.proofs.lemmas.Result.{err_from_is_err_and}
use Rattle.semantics.proofs.Files.FileCallLaws.{read_12, read_check, read_13, read_0}
use Rattle.program.proofs.AnswerLaws.{check_item_lem, number_not_0, answer_to-ok, answer_to-err}
use Rattle.paper.proofs.AnswerLaws.{by_reading}
use Rattle.paper.proofs.read.Goals as goal

pub returns-in_default : goal.returns-in_default
returns-in_default c = by_reading (read_12 _ _ c.in_default.ensures) _ refl

-- ---- check is asked: the bytes are a file
pub returns-in_err-check_in : goal.returns-in_err-check_in
returns-in_err-check_in c =
    let checked = c.in_err-check_in.ensures in
    let (_, is, same) = err_from_is_err_and c.from_residual.result c.from_residual.ensures.1 in
    rw (is, same)
    (by_reading (read_check _ _ c.in-Some.ensures.is_file _ _ checked.right_number
    (number_not_0 c.in_err-check_in.field-0.0) (check_item_lem checked)) _ refl)

-- ---- the buffers are asked about: check has accepted the program
pub returns-in_err-ask_room : goal.returns-in_err-ask_room
returns-in_err-ask_room c =
    let are = c.in-Some.ensures in
    let (short, room) = answer_to-err _ _ (c.in_err-ask_room.ensures.asked _ are) in
    let (_, is, same) = err_from_is_err_and c.from_residual-in_err-ask_room.result c.from_residual-in_err-ask_room.ensures.1 in
    rw (is, same, room) (by_reading (read_13 _ _ are.is_file c.in_ok-check_in.ensures.right_number short) _ refl)

pub returns : goal.returns
returns c =
    let are = c.in-Some.ensures in
    let room = answer_to-ok _ _ (c.in_ok-ask_room.ensures.asked _ are) in
    by_reading (read_0 _ _ are.is_file c.in_ok-check_in.ensures.right_number room) _ c.fill_all.ensures
