-- What a cycle claims: a slot for each channel that an IN claims, for each that an OUT claims, and for each variable that a
-- store claims. A slot is claimed in the cycle whose stamp it has; stamps rise from cycle to cycle, so that no slot is ever
-- cleared.
use Rattle.std.specs.Prelude.{◌≡◌, Bool, cond, not, ◌&&◌, ◌||◌, List, [], ◌∷◌, ℕ, suc, ◌≤◌, ◌<◌, eqb, length, get_or, set, Option, MatchOption}
use Rattle.semantics.specs.Numbers.{filter}
use Rattle.player.specs.declared.claims.Slot.{Slot}
use Rattle.player.specs.declared.claims.Slots.{Slots}
use Rattle.player.specs.declared.claims.Claims.{Claims as CodeClaims}

-- One more than the first number, or 0 where there is none.
abbrev pub rank_of : List ℕ → ℕ
rank_of [] = 0
rank_of (x ∷ xs) = suc x

abbrev pub slot_at : Slots → ℕ → Slot
slot_at s slot = get_or s.slots slot (record { stamp = 0; node = 0 })

-- The rank that a slot has in the cycle of a stamp: one more than the node that claimed it, or 0.
abbrev pub rank_in : Slots → ℕ → ℕ → ℕ
rank_in s stamp slot = cond (eqb (slot_at s slot).stamp stamp) (suc (slot_at s slot).node) 0

-- The node that claimed a slot in the cycle of a stamp, or none.
abbrev pub IsClaimant : Slots → ℕ → ℕ → Option ℕ → Type 0
IsClaimant s stamp slot r = MatchOption r (rank_in s stamp slot ≡ 0) (λ node. rank_in s stamp slot ≡ suc node)

-- No slot has a stamp above n.
pub record UpTo (s : Slots) (n : ℕ) : Type 0 where
  pub size : length s.slots ≡ 256
  pub stamps : (j : ℕ) → j < 256 → (slot_at s j).stamp ≤ n

pub record Aged (claims : CodeClaims) (n : ℕ) : Type 0 where
  pub inputs : UpTo claims.inputs n
  pub outputs : UpTo claims.outputs n
  pub writers : UpTo claims.writers n

-- No slot is claimed in the cycle of a stamp.
pub record Unclaimed (s : Slots) (stamp : ℕ) : Type 0 where
  pub size : length s.slots ≡ 256
  pub stamps : (j : ℕ) → j < 256 → (slot_at s j).stamp < stamp

-- In this cycle no slot is claimed yet.
pub record Fresh (claims : CodeClaims) : Type 0 where
  pub inputs : Unclaimed claims.inputs claims.stamp
  pub outputs : Unclaimed claims.outputs claims.stamp
  pub writers : Unclaimed claims.writers claims.stamp

-- Whether a slot was free; then node i has claimed it.
pub record Claim (before after : Slots) (stamp slot i : ℕ) (free : Bool) : Type 0 where
  pub was_free : free ≡ eqb (rank_in before stamp slot) 0
  pub written : after.slots ≡ cond free (set before.slots slot (record { stamp = stamp; node = i })) before.slots

-- A node that passes the test `uses` wants the slot `key`.
module _ (uses : ℕ → Bool) (key : ℕ → ℕ) where
  -- Node i wants no slot, or one that no node has claimed.
  abbrev pub is_free : Slots → ℕ → ℕ → Bool
  is_free s stamp i = not (uses i) || eqb (rank_in s stamp (key i)) 0

  -- The ranks when node i has claimed what it wants.
  abbrev pub Claimed : Slots → Slots → ℕ → ℕ → Type 0
  Claimed before after stamp i =
      (slot : ℕ) → slot < 256
      → rank_in after stamp slot ≡ cond (uses i && eqb (key i) slot) (suc i) (rank_in before stamp slot)

  -- Node i wants the slot.
  abbrev pub wants : ℕ → ℕ → Bool
  wants slot i = uses i && eqb (key i) slot

  -- Of these entries at most one wants the slot, and it has its rank.
  pub record Wanted (s : Slots) (stamp : ℕ) (entries : List ℕ) (slot : ℕ) : Type 0 where
    pub rank : slot < 256 → rank_in s stamp slot ≡ rank_of (filter (wants slot) entries)
    pub single : length (filter (wants slot) entries) ≤ 1

  -- These entries have claimed what they want.
  abbrev pub Claims : List ℕ → Slots → ℕ → Type 0
  Claims entries s stamp = (slot : ℕ) → Wanted s stamp entries slot
