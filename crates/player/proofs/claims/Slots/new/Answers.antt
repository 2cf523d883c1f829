-- `Slots::new` has no stamp but 0.
use Rattle.player.proofs.StampLaws.{new_slots}
use Rattle.player.proofs.claims.Slots.new.Goals as goal

pub returns : goal.returns
returns c = new_slots
