-- The stamps of a run: they rise from cycle to cycle, so that at the start of a cycle none has its stamp.
use mathlib.Core.Path.{sym, subst}
use Prim.Native.Nat.{◌≤◌}
use native.Mathlib.Nat.{le_refl}
use lib.ListN.{replicate, length-replicate}
use Rattle.std.proofs.lemmas.List.{get_or-replicate}
use Rattle.player.specs.declared.claims.Slot.{Slot}
use Rattle.player.specs.Claims.{UpTo}

abbrev unclaimed : Slot
unclaimed = record { stamp = 0; node = 0 }

-- at first no slot was claimed
pub new_slots : UpTo (record { slots = replicate 256 unclaimed }) 0
new_slots = record {
  size = length-replicate 256 unclaimed;
  stamps = λ j l.
      subst (λ (x : Slot). x.stamp ≤ 0) (sym (get_or-replicate 256 j unclaimed unclaimed l)) (le_refl 0);
}
