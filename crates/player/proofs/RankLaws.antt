-- The rank of a slot, and what one claim changes: its own slot, and no other.
use mathlib.Core.Path.{◌≡◌}
use mathlib.Core.Bool.{Bool, true, false, cond, not}
use mathlib.Core.List.{List}
use Prim.Native.Nat.{ℕ, suc, ◌<◌}
use native.Mathlib.Omega.{arith}
use lib.Dec.{eqb}
use lib.ListN.{length, get_or}
use Rattle.std.proofs.lemmas.Grind.{elements}
use Rattle.std.specs.Prelude.{Option, Some, None, is_some, MatchOption}
use Rattle.player.specs.declared.claims.Slot.{Slot}
use Rattle.player.specs.declared.claims.Slots.{Slots}
use Rattle.player.specs.Claims.{slot_at, rank_in, UpTo, Unclaimed, Claim, Claimed}

-- ---- a rank

abbrev rank : ℕ → Slot → ℕ
rank stamp x = cond (eqb x.stamp stamp) (suc x.node) 0

pub rank_none : (s : Slots) (stamp slot : ℕ) → (slot_at s slot).stamp < stamp → rank_in s stamp slot ≡ 0
rank_none s stamp slot l = grind arith

-- whether no node has claimed the slot
pub no_claimant : (rank : ℕ) (r : Option ℕ) {none : Bool} → MatchOption r (rank ≡ 0) (λ i. rank ≡ suc i)
    → is_some r ≡ not none → none ≡ eqb rank 0
no_claimant rank None h e = grind arith
no_claimant rank (Some i) h e = grind arith

pub unclaimed_rank : {s : Slots} {stamp : ℕ} (slot : ℕ) → Unclaimed s stamp → slot < 256 → rank_in s stamp slot ≡ 0
unclaimed_rank {s} {stamp} slot u l = rank_none s stamp slot (u.stamps slot l)

pub unclaimed_old : {s : Slots} {stamp : ℕ} → Unclaimed s stamp → UpTo s stamp
unclaimed_old u = record { size = u.size; stamps = λ j l. omega (arith, u.stamps j l) }

-- ---- one claim

abbrev stamped : ℕ → ℕ → Slot
stamped stamp i = record { stamp = stamp; node = i }

-- a slot in a list of them
abbrev at : List Slot → ℕ → Slot
at xs j = get_or xs j (stamped 0 0)

module _ {before after : Slots} {stamp slot i : ℕ} (size : length before.slots ≡ 256) (s : slot < 256) where
  -- no stamp is above that of the cycle
  pub claim_old : {free : Bool} → Claim before after stamp slot i free → UpTo before stamp → UpTo after stamp
  claim_old {free} c u = record {
    size = grind (arith, elements, c.written);
    stamps = λ j l. grind (arith, elements, c.written, u.stamps j);
  }

-- ---- what a node has claimed

module _ (uses : ℕ → Bool) (key : ℕ → ℕ) (before after : Slots) (stamp i : ℕ) where
  -- a node that wants a slot, which was free
  pub claimed_key : {free : Bool} → length before.slots ≡ 256 → Claim before after stamp (key i) i free → free ≡ true
      → key i < 256 → uses i ≡ true → Claimed uses key before after stamp i
  claimed_key {free} size c f s u slot l = grind (arith, elements, c.written)

  -- a node that wants none
  pub claimed_nothing : ((slot : ℕ) → slot < 256 → rank_in after stamp slot ≡ rank_in before stamp slot)
      → uses i ≡ false → Claimed uses key before after stamp i
  claimed_nothing same u slot l = rw u (same slot l)
