-- One entry claims its channel: an IN for input, an OUT for output, and any other leaf nothing.
use mathlib.Core.Path.{◌≡◌, refl, sym, ap, ◌∙◌}
use mathlib.Core.Bool.{Bool, true, and-true}
use mathlib.Core.List.{List}
use Prim.Native.Nat.{ℕ, ◌<◌}
use lib.ListN.{length}
use Rattle.semantics.specs.Program.{node_count, kind_at, a_at, leaf_test}
use Rattle.semantics.specs.Program.Kind.{LEAF}
use Rattle.semantics.specs.Program.Leaf.{IN, OUT}
use Rattle.semantics.specs.Completion.{is_in, is_out}
use Rattle.program.specs.declared.accepted.Accepted.{Accepted}
use Rattle.program.specs.Accepted.{accepted_in}
use Rattle.player.specs.declared.claims.Slots.{Slots}
use Rattle.player.specs.declared.claims.Claims.{Claims}
use Rattle.player.specs.Claims.{Claim}
use Rattle.player.specs.Channels.{EntryPairing, has_kind}
use Rattle.player.proofs.AcceptedLaws.{is_accepted}
use Rattle.player.proofs.CycleLaws.{no_in, no_out, node_in_fits, node_out_fits}
use Rattle.player.proofs.RankLaws.{claim_old, claimed_key, claimed_nothing}

module _ (it : Accepted) (i : ℕ) (l : i < node_count (accepted_in it).nodes) where
  abbrev nodes : List ℕ
  nodes = (accepted_in it).nodes

  -- a slot has the number of its channel
  pub in_slot : kind_at nodes i ≡ LEAF IN → a_at nodes i < 256
  in_slot k = node_in_fits (is_accepted it) i l (ap (leaf_test is_in) k)

  pub out_slot : kind_at nodes i ≡ LEAF OUT → a_at nodes i < 256
  out_slot k = node_out_fits (is_accepted it) i l (ap (leaf_test is_out) k)

  module _ (claims : Claims) {free : Bool} {after : Slots} where
    pub in_paired : kind_at nodes i ≡ LEAF IN → length claims.inputs.slots ≡ 256
        → Claim claims.inputs after claims.stamp (a_at nodes i) i free
        → EntryPairing nodes i free claims (record claims { inputs = after })
    in_paired k size c = record {
      was_free = rw k (c.was_free ∙ sym (and-true _));
      inputs = λ r. claimed_key (has_kind nodes is_in) (a_at nodes) claims.inputs after claims.stamp i size c r
          (in_slot k) (ap (leaf_test is_in) k);
      outputs = λ r. claimed_nothing (has_kind nodes is_out) (a_at nodes) claims.outputs claims.outputs claims.stamp i
          (λ s u. refl) (ap (leaf_test is_out) k);
      aged = λ a. record { inputs = claim_old size (in_slot k) c a.inputs; outputs = a.outputs; writers = a.writers };
      writers = refl;
      stamp = refl;
    }

    pub out_paired : kind_at nodes i ≡ LEAF OUT → length claims.outputs.slots ≡ 256
        → Claim claims.outputs after claims.stamp (a_at nodes i) i free
        → EntryPairing nodes i free claims (record claims { outputs = after })
    out_paired k size c = record {
      was_free = rw k c.was_free;
      inputs = λ r. claimed_nothing (has_kind nodes is_in) (a_at nodes) claims.inputs claims.inputs claims.stamp i
          (λ s u. refl) (ap (leaf_test is_in) k);
      outputs = λ r. claimed_key (has_kind nodes is_out) (a_at nodes) claims.outputs after claims.stamp i size c r
          (out_slot k) (ap (leaf_test is_out) k);
      aged = λ a. record { inputs = a.inputs; outputs = claim_old size (out_slot k) c a.outputs; writers = a.writers };
      writers = refl;
      stamp = refl;
    }

pub nothing_paired : (nodes : List ℕ) (i : ℕ) (claims : Claims) → (kind_at nodes i ≡ LEAF IN → ⊥)
    → (kind_at nodes i ≡ LEAF OUT → ⊥) → EntryPairing nodes i true claims claims
nothing_paired nodes i claims a b =
    let i-no = no_in (kind_at nodes i) a in
    let o-no = no_out (kind_at nodes i) b in
    record {
      was_free = rw (i-no, o-no);
      inputs = λ r. claimed_nothing (has_kind nodes is_in) (a_at nodes) claims.inputs claims.inputs claims.stamp i
          (λ s u. refl) i-no;
      outputs = λ r. claimed_nothing (has_kind nodes is_out) (a_at nodes) claims.outputs claims.outputs claims.stamp i
          (λ s u. refl) o-no;
      aged = λ h. h;
      writers = refl;
      stamp = refl;
    }

-- the slots that a leaf claims or looks up
pub ruleset channel_slots = (in_slot, out_slot)

-- what `pair_one` needs
pub ruleset pairing_one = (channel_slots, in_paired, out_paired, nothing_paired)
