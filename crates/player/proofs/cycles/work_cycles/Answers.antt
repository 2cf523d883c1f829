-- `work_cycles` works one cycle a turn. Where it is refused, or no mark stands, or as many as asked are worked, the run
-- has come to the rules' answer.
use Rattle.std.proofs.Common.{refl, arith}
use Rattle.std.proofs.lemmas.List.{take_rest}
use Rattle.semantics.proofs.Order.CycleOrder.{fits_lengths}
use Rattle.program.proofs.AnswerLaws.{some_number}
use Rattle.player.proofs.RunningLaws.{none_worked, all-worked, no_mark, one_refused, one_worked, enough}
use Rattle.player.proofs.cycles.work_cycles.Goals as goal

-- no cycle is asked for
pub returns-then-cycles-eq0 : goal.returns-then-cycles-eq0
returns-then-cycles-eq0 c = all-worked c.requires (none_worked c.requires) refl (omega (arith, c.if-cycles-eq0.true))

pub fill-requires-clause-values_len : goal.fill-requires-clause-values_len
fill-requires-clause-values_len c = (fits_lengths _ _ c.requires.ready.fit).values

pub fill-requires-clause-marks_len : goal.fill-requires-clause-marks_len
fill-requires-clause-marks_len c = (fits_lengths _ _ c.requires.ready.fit).marks

-- ---- a turn

pub returns-then-m-eq0 : goal.returns-then-m-eq0
returns-then-m-eq0 c =
    let so_far = c.loop-worked.invariant in no_mark c.requires so_far.progress so_far.carried.tally c.if-m-eq0.true

pub returns-in-Err : goal.returns-in-Err
returns-in-Err c =
    let so_far = c.loop-worked.invariant in
    let done = c.in-Err.ensures in
    let some = some_number c.in-Err.refusal in
    rw done.no_item
    (one_refused c.requires so_far.progress so_far.carried.tally c.loop-worked-test.true c.if-m-eq0.false done.answer
    (λ z. omega arith))

-- the entries of a cycle that is worked are there
pub slice_bounds-rest-count : goal.slice_bounds-rest-count
slice_bounds-rest-count c =
    let so_far = c.loop-worked.invariant in
    enough c.requires so_far.progress so_far.carried.tally c.loop-worked-test.true c.if-m-eq0.false
    c.in_default.ensures.answer

pub slice_bounds-rest-start : goal.slice_bounds-rest-start
slice_bounds-rest-start c =
    let so_far = c.loop-worked.invariant in
    enough c.requires so_far.progress so_far.carried.tally c.loop-worked-test.true c.if-m-eq0.false
    c.in_default.ensures.answer

pub loop-worked-preserved : goal.loop-worked-preserved
loop-worked-preserved c =
    let so_far = c.loop-worked.invariant in
    let done = c.in_default.ensures in
    record {
      progress = rw (take_rest c.loop-worked.rest.now c.loop-worked.scratch.work.tally)
          (one_worked c.requires so_far.progress so_far.carried.tally c.loop-worked-test.true c.if-m-eq0.false
          done.answer);
      carried = done.carried refl;
      aged = done.aged refl;
    }

pub returns : goal.returns
returns c =
    let so_far = c.loop-worked.invariant.progress in
    let within = so_far.within in
    let test = c.loop-worked-test.false in
    all-worked c.requires so_far (omega arith) test
