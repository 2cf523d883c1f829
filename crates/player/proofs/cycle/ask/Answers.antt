-- `ask` crosses the entries out and pairs the channels, then works the right sides; where one of the questions refuses,
-- the marks that are crossed out are made again.
use Rattle.std.proofs.Common.{◌≡◌, ℕ, ◌<◌, true, cond, List, length, get_or, replicate, Ok, ap, ◌∙◌, inl, inr, arith}
use borrow.Author.Tests.{lt-ltb, le-ltb}
use Rattle.std.proofs.Math.Seq.{take-length}
use Rattle.semantics.specs.Program.{Program}
use Rattle.semantics.specs.Cycle.{are_active}
use Rattle.semantics.proofs.Lists.Logic.{lt_or_le}
use Rattle.program.specs.declared.refusal.Refusal.TheVariants.{Entries, Channels}
use Rattle.player.specs.declared.claims.Claims.{Claims}
use Rattle.player.specs.Entries.{crossable, set_all}
use Rattle.player.specs.Channels.{Pairing, CrossedTo}
use Rattle.player.specs.Cycle.{CycleFrom}
use Rattle.player.proofs.EntryLaws.{all_fit, all-marked_again, crossed-all}
use Rattle.player.proofs.AskLaws.{crossed_undone, not_active, is_active, cycle_of, cleared, storing}
use Rattle.player.proofs.AskLaws.{answer_seven, answer_eight, answer_nine, answer_none}
use Rattle.player.proofs.cycle.ask.Goals as goal

-- all entries are crossed out of the marks and have claimed their channels
module _ {P : Program} {marks entries lent : List ℕ} {before claims : Claims} (x : CycleFrom P marks entries)
    (passed : CrossedTo P entries marks before (Ok tt) lent claims) where
  -- question 7 is answered yes
  active : are_active marks entries ≡ true
  active =
      let whole = crossed-all passed.out (omega arith) in is_active x (omega arith)

  -- and question 8
  pairing : Pairing P entries before claims
  pairing = passed.answer (cycle_of x active)

  crossed : lent ≡ set_all 0 marks entries
  crossed = passed.out.right ∙ ap (set_all 0 marks) (take-length entries)

  -- no mark is left
  none_left : lent ≡ replicate (length marks) 0
  none_left = crossed ∙ cleared x active

  -- the entries are places of the marks
  inside : (k : ℕ) → k < length entries → get_or entries k 0 < length lent
  inside k l =
      let fit = all_fit marks entries active k l in
      let same = passed.out.same_length in
      omega arith

  -- marked again, the marks are as they were
  marks_back : set_all 1 lent entries ≡ marks
  marks_back =
      ap (λ (m : List ℕ). set_all 1 m entries) crossed ∙ all-marked_again marks entries active

pub refused_by-requires : goal.refused_by-requires
refused_by-requires c =
    let passed = c.in-Err.ensures in rw (crossed_undone passed.out) passed.out

pub returns-in-Err : goal.returns-in-Err
returns-in-Err c =
    let passed = c.in-Err.ensures in
    let x = c.requires.from in
    let marks = c.args.marks.now in
    let entries = c.args.entries.now in
    let undone = crossed_undone passed.out in
    let back = c.refused_by.ensures.marks_after ∙ undone in
    let which = rw undone at c.refused_by.ensures.question in
    elim (lt_or_le (crossable marks entries) (length entries)) [
      | inl l ↦
          rw (which ∙ ap (λ b. cond b Entries Channels) (lt-ltb (crossable marks entries) (length entries) l))
          (answer_seven x (not_active x l) back)
      | inr l ↦
          rw (which ∙ ap (λ b. cond b Entries Channels) (le-ltb (crossable marks entries) (length entries) l))
          (elim passed.answer.why [
            | inl none ↦
                let rest = passed.out.rest in
                let more = passed.answer.more in
                absurd (omega (arith, rest, none, more))
            | inr taken ↦ answer_eight x (is_active x l) (taken (cycle_of x (is_active x l))) back
          ])
    ]

-- ---- questions 7 and 8 are answered yes

pub work_right_sides-requires : goal.work_right_sides-requires
work_right_sides-requires c =
    let passed = c.in_default.ensures in
    let x = c.requires.from in
    storing x (active x passed) c.args.scratch.now (pairing x passed) c.requires.known

pub mark_again-requires : goal.mark_again-requires
mark_again-requires c = inside c.requires.from c.in_default.ensures

pub returns-in-Err-work_right_sides : goal.returns-in-Err-work_right_sides
returns-in-Err-work_right_sides c =
    let passed = c.in_default.ensures in
    let x = c.requires.from in
    let sides = c.in-Err-work_right_sides.ensures in
    answer_nine x (active x passed) (pairing x passed).free _ sides.answered
    (c.mark_again.ensures ∙ marks_back x passed)

pub returns : goal.returns
returns c =
    let passed = c.in_default.ensures in
    let x = c.requires.from in
    let sides = c.in_default-work_right_sides.ensures in
    let paired = pairing x passed in
    let aged = rw paired.stamp at sides.aged in
    answer_none x (active x passed) paired.free sides.answered sides.started sides.more aged (none_left x passed)
