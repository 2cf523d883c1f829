-- `fill_masks` writes the mask of one variable a turn.
use Rattle.std.proofs.Common.{◌≡◌}
use Rattle.player.proofs.StartLaws.{filled_to, mask_in}
use Rattle.player.proofs.start.fill_masks.Given as goal

abbrev pub invariant-loop-v : goal.invariant-loop-v
invariant-loop-v l = l.work ≡ record l.initial.work { masks = filled_to (mask_in l.program) l.initial.work.masks l.v }
