-- What the code of a cycle knows once question 7 is answered yes, and what it claims for the channels.
use Rattle.std.specs.Prelude.{◌≡◌, Bool, true, false, ◌&&◌, ◌⊎◌, List, ℕ, ◌<◌, length, drop, replicate, Result, Ok, Err, MatchResult, ⊤}
use Rattle.semantics.specs.Program.{Program, Leaf, node_count, kind_at, a_at, leaf_test}
use Rattle.semantics.specs.State.{marked}
use Rattle.semantics.specs.Completion.{is_in, is_out, marked_on, channels_free}
use Rattle.semantics.specs.Cycle.{are_active}
use Rattle.semantics.specs.Facts.{Accepted}
use Rattle.player.specs.declared.claims.Slots.{Slots}
use Rattle.player.specs.declared.claims.Claims.{Claims}
use Rattle.player.specs.Entries.{crossable, set_all, CrossedOut}
use Rattle.player.specs.Claims.{rank_of, rank_in, is_free, Claimed, Unclaimed, Aged}

-- The marks of these entries and of no other node. With them a cycle starts whose active statements they are.
unfoldable pub marks_of : Program → List ℕ → List ℕ
marks_of P entries = set_all 1 (replicate (node_count P.nodes) 0) entries

-- A cycle of an accepted program, whose active statements are these entries.
pub record CycleOf (P : Program) (entries : List ℕ) : Type 0 where
  pub accepted : Accepted P
  pub entries_active : are_active (marks_of P entries) entries ≡ true

-- Node i is a leaf of that kind.
abbrev pub has_kind : List ℕ → (Leaf → Bool) → ℕ → Bool
has_kind nodes f i = leaf_test f (kind_at nodes i)

-- The slots have the rank of the one leaf of a kind that is marked on each channel, and 0 where there is none.
abbrev pub Ranked : Program → List ℕ → (Leaf → Bool) → Slots → ℕ → Type 0
Ranked P marks f s stamp = (c : ℕ) → c < 256 → rank_in s stamp c ≡ rank_of (marked_on P marks f c)

pub record Paired (P : Program) (entries : List ℕ) (claims : Claims) : Type 0 where
  pub inputs_size : length claims.inputs.slots ≡ 256
  pub outputs_size : length claims.outputs.slots ≡ 256
  pub inputs : Ranked P (marks_of P entries) is_in claims.inputs claims.stamp
  pub outputs : Ranked P (marks_of P entries) is_out claims.outputs claims.stamp

-- Question 8 is answered yes, and the channels are claimed.
pub record Pairing (P : Program) (entries : List ℕ) (before claims : Claims) : Type 0 where
  pub free : channels_free P (marks_of P entries) ≡ true
  pub paired : Paired P entries claims
  pub unwritten : Unclaimed claims.writers claims.stamp
  pub aged : Aged claims before.stamp
  pub stamp : claims.stamp ≡ before.stamp

-- How many entries were passed.
abbrev pub passed_of : List ℕ → Result ⊤ ℕ → ℕ
passed_of entries (Ok _) = length entries
passed_of entries (Err k) = k

-- Entry k has no mark any more, or finds its channel claimed.
pub record StoppedAt (P : Program) (entries marks : List ℕ) (k : ℕ) : Type 0 where
  pub more : k < length entries
  pub why : (crossable marks (drop k entries) ≡ 0) ⊎ (CycleOf P entries → channels_free P (marks_of P entries) ≡ false)

-- The entries up to the first that has no mark any more, or finds its channel claimed, are crossed out and have claimed their
-- channels. The answer is how many, where they are not all.
pub record CrossedTo (P : Program) (entries marks₀ : List ℕ) (before : Claims) (r : Result ⊤ ℕ) (marks : List ℕ)
    (claims : Claims) : Type 0 where
  pub out : CrossedOut entries marks₀ (passed_of entries r) marks
  pub answer : MatchResult r (λ _. CycleOf P entries → Pairing P entries before claims)
      (λ k. StoppedAt P entries marks k)

-- Node i is marked in a cycle whose channels are paired.
pub record PairedEntry (P : Program) (claims : Claims) (i : ℕ) : Type 0 where
  pub entries : List ℕ
  pub cycle : CycleOf P entries
  pub paired : Paired P entries claims
  pub within : i < node_count P.nodes
  pub is_marked : marked (marks_of P entries) i ≡ true

-- Node i has claimed its channel, for input if it is an IN and for output if it is an OUT, where it was free; what was
-- written is a stamp of the cycle and the node beside it.
pub record EntryPairing (nodes : List ℕ) (i : ℕ) (free : Bool) (before claims : Claims) : Type 0 where
  pub was_free : free
      ≡ is_free (has_kind nodes is_in) (a_at nodes) before.inputs before.stamp i
      && is_free (has_kind nodes is_out) (a_at nodes) before.outputs before.stamp i
  pub inputs : free ≡ true → Claimed (has_kind nodes is_in) (a_at nodes) before.inputs claims.inputs before.stamp i
  pub outputs : free ≡ true → Claimed (has_kind nodes is_out) (a_at nodes) before.outputs claims.outputs before.stamp i
  pub aged : Aged before before.stamp → Aged claims before.stamp
  pub writers : claims.writers ≡ before.writers
  pub stamp : claims.stamp ≡ before.stamp
