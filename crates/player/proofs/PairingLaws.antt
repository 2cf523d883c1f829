-- The claims of channels: made entry by entry they answer question 8 and say which IN and OUT are marked on each
-- channel, and so which leaves wait.
use mathlib.Core.Path.{◌≡◌, refl, sym, ap, ◌∙◌, subst}
use mathlib.Core.Bool.{Bool, true, false, ◌&&◌, or-false}
use mathlib.Core.List.{List, [], ◌∷◌}
use Prim.Native.Nat.{ℕ, ◌+◌, ◌≤◌, ◌<◌}
use native.Mathlib.Omega.{arith}
use lib.Dec.{eqb, leb, eqb-suc-zero}
use lib.ListN.{length, get_or, take}
use Rattle.semantics.specs.Numbers.{filter}
use Rattle.semantics.specs.Program.{Program, Leaf, node_count, kind_at, a_at, leaf_test}
use Rattle.semantics.specs.Program.Kind.{LEAF}
use Rattle.semantics.specs.Program.Leaf.{IN, OUT}
use Rattle.semantics.specs.State.{marked}
use Rattle.semantics.specs.Completion.{is_in, is_out, is_empty, marked_on, waits, channels_free}
use Rattle.semantics.specs.Facts.{Accepted}
use Rattle.semantics.proofs.Lists.NumberLaws.{every_below, all-below}
use Rattle.semantics.proofs.Run.EntryCounts.{single_entry}
use Rattle.player.specs.declared.claims.Slots.{Slots}
use Rattle.player.specs.declared.claims.Claims.{Claims as CodeClaims}
use Rattle.player.specs.Claims.{rank_of, rank_in, is_free, Claims, Aged, Fresh, Unclaimed}
use Rattle.player.specs.Channels.{marks_of, CycleOf, Ranked, Paired, Pairing, EntryPairing, has_kind}
use Rattle.player.proofs.RankLaws.{unclaimed_rank, unclaimed_old}
use Rattle.player.proofs.ClaimLaws.{claims_none, claims_more, claims_refused, claims-all}
use Rattle.player.proofs.CycleLaws.{node_in_channel, node_out_channel, node_in_fits, node_out_fits, entry_marked}
use Rattle.player.proofs.CycleLaws.{marked_node, single_entries, no_in, no_out}

empty_rank : (xs : List ℕ) → is_empty xs ≡ eqb (rank_of xs) 0
empty_rank [] = refl
empty_rank (y ∷ ys) = eqb-suc-zero (length ys) ∙ sym (eqb-suc-zero y)

-- ---- the stamps

-- Since `before` only channels were claimed.
pub record ChannelsOnly (before claims : CodeClaims) : Type 0 where
  pub unwritten : Unclaimed claims.writers claims.stamp
  pub aged : Aged claims before.stamp
  pub stamp : claims.stamp ≡ before.stamp

fresh_channels : {claims : CodeClaims} → Fresh claims → ChannelsOnly claims claims
fresh_channels f = record {
  unwritten = f.writers;
  aged = record {
    inputs = unclaimed_old f.inputs;
    outputs = unclaimed_old f.outputs;
    writers = unclaimed_old f.writers;
  };
  stamp = refl;
}

more_channels : {nodes : List ℕ} {i : ℕ} {free : Bool} {start before claims : CodeClaims} → ChannelsOnly start before
    → EntryPairing nodes i free before claims → ChannelsOnly start claims
more_channels {start = start} {before = before} {claims = claims} h p = record {
  unwritten = rw (p.writers, p.stamp) h.unwritten;
  aged = subst (Aged claims) h.stamp (p.aged (subst (Aged before) (sym h.stamp) h.aged));
  stamp = p.stamp ∙ h.stamp;
}

-- The first k entries have claimed their channels.
pub record PairedTo (nodes entries : List ℕ) (k : ℕ) (before claims : CodeClaims) : Type 0 where
  pub ins : Claims (has_kind nodes is_in) (a_at nodes) (take k entries) claims.inputs claims.stamp
  pub outs : Claims (has_kind nodes is_out) (a_at nodes) (take k entries) claims.outputs claims.stamp
  pub only : ChannelsOnly before claims

pub paired_none : (nodes entries : List ℕ) {claims : CodeClaims} → Fresh claims → PairedTo nodes entries 0 claims claims
paired_none nodes entries {claims} f = record {
  ins = claims_none _ _ _ _ (λ c l. unclaimed_rank c f.inputs l);
  outs = claims_none _ _ _ _ (λ c l. unclaimed_rank c f.outputs l);
  only = fresh_channels f;
}

-- one entry more
pub paired_more : {P : Program} {entries : List ℕ} {k : ℕ} {before claims claims' : CodeClaims} → Accepted P
    → get_or entries k 0 < node_count P.nodes → PairedTo P.nodes entries k before claims → k < length entries
    → EntryPairing P.nodes (get_or entries k 0) true claims claims' → PairedTo P.nodes entries (k + 1) before claims'
paired_more {P} {entries} {k} {before} {claims} {claims'} ok inside h l p = record {
  ins = rw p.stamp
      (claims_more _ _ _ entries k l _ _ h.ins (node_in_fits ok _ inside) (grind (arith, p.was_free)) (p.inputs refl));
  outs = rw p.stamp
      (claims_more _ _ _ entries k l _ _ h.outs (node_out_fits ok _ inside) (grind (arith, p.was_free))
      (p.outputs refl));
  only = more_channels h.only p;
}

module _ {P : Program} {entries : List ℕ} (x : CycleOf P entries) where
  abbrev marks : List ℕ
  marks = marks_of P entries

  -- the entries that are a leaf of that kind on a channel are the marked ones
  abbrev on_channel : (Leaf → Bool) → ℕ → List ℕ
  on_channel f c = filter (λ i. has_kind P.nodes f i && eqb (a_at P.nodes i) c) entries

  -- at most one is marked on the channel
  abbrev single : (Leaf → Bool) → ℕ → Bool
  single f c = leb (length (marked_on P marks f c)) 1

  on_single : (f : Leaf → Bool) (c : ℕ) → single f c ≡ leb (length (on_channel f c)) 1
  on_single f c = single_entries x (λ i. has_kind P.nodes f i && eqb (a_at P.nodes i) c)

  -- ---- question 8

  -- each entry has claimed its channel
  all-paired : {before claims : CodeClaims} → ChannelsOnly before claims
      → Claims (has_kind P.nodes is_in) (a_at P.nodes) entries claims.inputs claims.stamp
      → Claims (has_kind P.nodes is_out) (a_at P.nodes) entries claims.outputs claims.stamp
      → Pairing P entries before claims
  unfolding channels_free
  all-paired {before} {claims} o hi ho = record {
    free = all-below (λ c. single is_in c && single is_out c) P.channels
        (λ c l. grind (arith, on_single is_in c, on_single is_out c, (hi c).single, (ho c).single));
    paired = record {
      inputs_size = o.aged.inputs.size;
      outputs_size = o.aged.outputs.size;
      inputs = ranked is_in claims.inputs hi;
      outputs = ranked is_out claims.outputs ho;
    };
    unwritten = o.unwritten;
    aged = o.aged;
    stamp = o.stamp;
  }
    where
      ranked : (f : Leaf → Bool) (s : Slots) → Claims (has_kind P.nodes f) (a_at P.nodes) entries s claims.stamp
          → Ranked P marks f s claims.stamp
      ranked f s h c l = (h c).rank l ∙ ap rank_of (single_entry marks entries x.entries_active _ (h c).single)

  -- no two entries want one channel
  each_once : (c : ℕ) → channels_free P marks ≡ true → c < P.channels
      → (length (on_channel is_in c) ≤ 1) × (length (on_channel is_out c) ≤ 1)
  unfolding channels_free
  each_once c h l =
      let here = every_below (λ c. single is_in c && single is_out c) P.channels h c l in
      (grind (arith, on_single is_in c), grind (arith, on_single is_out c))

  -- ---- entry by entry

  module _ {k : ℕ} {before claims : CodeClaims} (h : PairedTo P.nodes entries k before claims) where
    pub paired-all : length entries ≤ k → Pairing P entries before claims
    paired-all l =
        all-paired h.only (claims-all _ _ _ entries _ k l h.ins) (claims-all _ _ _ entries _ k l h.outs)

    -- the next finds its channel claimed
    pub paired_refused : k < length entries
        → is_free (has_kind P.nodes is_in) (a_at P.nodes) claims.inputs claims.stamp (get_or entries k 0)
        && is_free (has_kind P.nodes is_out) (a_at P.nodes) claims.outputs claims.stamp (get_or entries k 0) ≡ false
        → channels_free P marks ≡ false
    paired_refused l taken =
        let entry = get_or entries k 0 in
        let ok = x.accepted in
        let node = marked_node x entry (entry_marked x k l) in
        let ins = claims_refused _ _ _ entries k l _ h.ins (node_in_fits ok entry node) in
        let outs = claims_refused _ _ _ entries k l _ h.outs (node_out_fits ok entry node) in
        let once = each_once (a_at P.nodes entry) in
        grind (arith, ins, outs, node_in_channel ok entry node, node_out_channel ok entry node, once)

  -- ---- which leaves wait

  module _ (i : ℕ) (m : marked marks i ≡ true) {claims : CodeClaims} (p : Paired P entries claims) where
    pub in_waits : kind_at P.nodes i ≡ LEAF IN
        → waits P marks i ≡ eqb (rank_in claims.outputs claims.stamp (a_at P.nodes i)) 0
    unfolding waits
    in_waits k =
        let fits = node_in_fits x.accepted i (marked_node x i m) (ap (leaf_test is_in) k) in
        rw (k, or-false, p.outputs (a_at P.nodes i) fits)
        (empty_rank (marked_on P marks is_out (a_at P.nodes i)))

    pub out_waits : kind_at P.nodes i ≡ LEAF OUT
        → waits P marks i ≡ eqb (rank_in claims.inputs claims.stamp (a_at P.nodes i)) 0
    unfolding waits
    out_waits k =
        let fits = node_out_fits x.accepted i (marked_node x i m) (ap (leaf_test is_out) k) in
        rw (k, p.inputs (a_at P.nodes i) fits)
        (empty_rank (marked_on P marks is_in (a_at P.nodes i)))

-- no other leaf waits
pub never_waits : (P : Program) (marks : List ℕ) (i : ℕ) → (kind_at P.nodes i ≡ LEAF IN → ⊥)
    → (kind_at P.nodes i ≡ LEAF OUT → ⊥) → waits P marks i ≡ false
unfolding waits
never_waits P marks i a b = rw (no_in (kind_at P.nodes i) a, no_out (kind_at P.nodes i) b)
