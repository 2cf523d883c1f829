-- `fill` calls what fills the parts of `work`, and stores the number of marks.
use Rattle.std.proofs.Common.{ap}
use Rattle.program.specs.Accepted.{accepted_in}
use Rattle.player.specs.declared.work.Work.{Work}
use Rattle.player.proofs.start.fill.Goals as goal

-- each part is the work of one call, and the later ones keep it
pub returns : goal.returns
returns c =
    rw (c.fill_parents.ensures.kept, c.fill_masks.ensures.kept)
    record {
      known = c.fill_values.ensures.known (accepted_in c.args.program.now).exprs;
      holds = c.fill_values.ensures.holds;
      tally = c.count_marks-work.ensures;
      climbing = c.fill_parents.ensures.climbing;
      masks = c.fill_masks.ensures.masks;
      unmet = ap (λ (w : Work). w.looped) c.fill_values.ensures.kept;
    }
