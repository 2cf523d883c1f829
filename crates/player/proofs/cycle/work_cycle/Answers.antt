-- `work_cycle` takes as many entries as there are marks, asks questions 7 to 9 of them and advances where none is
-- answered no.
use Rattle.std.proofs.Common.{ℕ, ◌<◌, replicate, refl, ap, ◌∙◌, inl, inr, arith}
use mathlib.Core.Logic.{◌⊎◌}
use Rattle.semantics.proofs.Order.CycleOrder.{fits_lengths}
use Rattle.player.proofs.CycleAnswerLaws.{cycle_from, carried_more, worked_short, worked_refused, worked_advanced}
use Rattle.player.proofs.cycle.work_cycle.Goals as goal

short : {m n : ℕ} → (m < 0) ⊎ (n < m) → n < m
short (inl l) = absurd (omega arith)
short (inr l) = l

pub returns-in_default : goal.returns-in_default
returns-in_default c =
    worked_short _ _ c.args.book.now c.requires.carried.tally (short c.in_default.ensures.lookup.0)

-- ---- there are enough entries

pub ask-requires-clause-from : goal.ask-requires-clause-from
ask-requires-clause-from c =
    let there = c.in-Some.ensures.lookup.0 in
    cycle_from c.args.book.now _ c.requires.runnable c.requires.carried.tally there.1 there.2

-- ---- questions 7 to 9 are asked

pub returns-in_err-ask : goal.returns-in_err-ask
returns-in_err-ask c =
    worked_refused _ _ c.args.book.now c.requires.carried.tally c.in-Some.ensures.lookup.0.2 _ _ c.from_residual.ensures
    c.in_err-ask.ensures

pub advance-requires : goal.advance-requires
advance-requires c =
    let answer = c.in_ok-ask.ensures in
    let yes = answer.yes refl in
    record {
      runnable = rw (← yes.are_marked) c.requires.runnable;
      carried = rw (← yes.are_marked) (carried_more c.requires.carried yes.more);
      started = yes.started;
      cleared =
          yes.cleared ∙ ap (λ (n : ℕ). replicate n 0) (fits_lengths _ _ c.requires.runnable.ready.fit).marks;
    }

pub returns : goal.returns
returns c =
    worked_advanced _ _ c.args.book.now c.requires.carried.tally c.in-Some.ensures.lookup.0.2 c.in_ok-ask.ensures
    c.advance.ensures
