-- `visit_all` has the visits of the entries from the index on still to do.
use Rattle.std.proofs.Common.{◌≡◌, ℕ, ◌+◌, ◌<◌, List, length, get_or, drop, drop_of_length-le, ap, ◌∙◌, subst}
use mathlib.Core.List.{foldl}
use Rattle.semantics.specs.Program.{Program}
use Rattle.semantics.specs.Walk.{Walk}
use Rattle.player.specs.declared.work.Work.{Work}
use Rattle.player.specs.Walks.{holds_in, holds_now}
use Rattle.player.specs.Cycle.{visit_in}
use Rattle.player.proofs.CycleLaws.{entry_at, fold_next}
use Rattle.player.proofs.WalkingLaws.{kept_trans}
use Rattle.player.proofs.visits.visit_all.Goals as goal

-- what is left to do after its visit; conditions are read in the values of before
visits_next : (P : Program) (entries : List ℕ) (k : ℕ) (before work : Work) (w : Walk) {rule v : Walk}
    → k < length entries → rule ≡ foldl (visit_in P entries (holds_now P before.memo)) w (drop k entries)
    → work.memo.variables ≡ before.memo.variables
    → visit_in P entries (holds_now P work.memo) w (get_or entries k 0) ≡ v
    → rule ≡ foldl (visit_in P entries (holds_now P before.memo)) v (drop (k + 1) entries)
visits_next P entries k before work w {v = v} l r kept e =
    let step = visit_in P entries (holds_now P before.memo) in
    let one =
    subst (λ (values : List ℕ). visit_in P entries (holds_in P.exprs values) w (get_or entries k 0) ≡ v) kept e in
    r ∙ fold_next step w entries k l ∙ ap (λ (u : Walk). foldl step u (drop (k + 1) entries)) one

pub visit-requires-clause-paired_entry : goal.visit-requires-clause-paired_entry
visit-requires-clause-paired_entry c =
    entry_at c.requires.cycle c.requires.paired c.loop-i.i-index c.loop-i-test.true

pub visit-requires-clause-climbing : goal.visit-requires-clause-climbing
visit-requires-clause-climbing c = λ i l. rw c.loop-i.invariant.kept.parents (c.requires.climbing i l)

pub loop-i-preserved : goal.loop-i-preserved
loop-i-preserved c =
    let k = c.loop-i.i-index in
    let more = c.loop-i-test.true in
    let before = c.loop-i.invariant in
    let one = c.visit.ensures (entry_at c.requires.cycle c.requires.paired k more) in
    record {
      right = visits_next _ c.args.entries.now k c.args.work.now c.loop-i.work _ more before.right before.kept.variables
          one.right;
      walking = one.walking;
      kept = kept_trans before.kept one.kept;
    }

pub returns : goal.returns
returns c =
    let before = c.loop-i.invariant in
    record {
      right = before.right ∙ rw (drop_of_length-le c.args.entries.now {i = c.loop-i.i-index} c.loop-i-test.false);
      walking = before.walking;
      kept = before.kept;
    }
