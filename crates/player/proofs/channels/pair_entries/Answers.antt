-- `pair_entries` has the first k entries crossed out, and their channels claimed.
use mathlib.Core.Path.{◌≡◌, sym, ◌∙◌}
use mathlib.Core.Bool.{true}
use mathlib.Core.List.{List}
use mathlib.Core.Logic.{inl, inr}
use Prim.Native.Nat.{ℕ, ◌<◌}
use native.Mathlib.Omega.{arith}
use lib.ListN.{length}
use Rattle.semantics.proofs.Lists.ActiveLaws.{marked_below}
use Rattle.semantics.specs.State.{marked}
use Rattle.player.specs.Entries.{CrossedOut}
use Rattle.player.proofs.AcceptedLaws.{is_accepted}
use Rattle.player.proofs.EntryLaws.{crossed_none, crossed_next, crossed_stops, crossed_whole}
use Rattle.player.proofs.PairingLaws.{paired_none, paired-all, paired_more, paired_refused}
use Rattle.player.proofs.channels.pair_entries.Goals as goal

-- what has its mark when k entries are crossed out is a node
inside : {n i : ℕ} {entries marks₀ marks : List ℕ} {k : ℕ} → CrossedOut entries marks₀ k marks → length marks₀ ≡ n
    → marked marks i ≡ true → i < n
inside {i = i} {marks = marks} h fit m =
    let here = marked_below marks i m in
    let same = h.same_length in
    omega arith

pub loop-k-init : goal.loop-k-init
loop-k-init c = record {
  crossed = crossed_none;
  paired = paired_none c.args.program.now.lists.nodes.now c.args.entries.now c.requires.fresh;
}

pub returns-then-not-is_marked : goal.returns-then-not-is_marked
returns-then-not-is_marked c =
    let h = c.loop-k.invariant in
    let more = c.loop-k-test.true in
    let m = sym c.is_marked.ensures ∙ c.if-not-is_marked.true in
    record { out = h.crossed; answer = record { more = more; why = inl (crossed_stops h.crossed more m) } }

-- ---- the entry is marked

pub pair_one-requires : goal.pair_one-requires
pair_one-requires c =
    inside c.loop-k.invariant.crossed c.requires.marks_len (sym c.is_marked.ensures ∙ c.if-not-is_marked.false)

pub returns-then-not-pair_one : goal.returns-then-not-pair_one
returns-then-not-pair_one c =
    let h = c.loop-k.invariant in
    let more = c.loop-k-test.true in
    let taken = sym c.pair_one.ensures.was_free ∙ c.if-not-pair_one.true in
    record { out = h.crossed; answer = record { more = more; why = inr (λ x. paired_refused x h.paired more taken) } }

pub cross-requires : goal.cross-requires
cross-requires c = marked_below c.loop-k.marks _ (sym c.is_marked.ensures ∙ c.if-not-is_marked.false)

pub loop-k-preserved : goal.loop-k-preserved
loop-k-preserved c =
    let h = c.loop-k.invariant in
    let more = c.loop-k-test.true in
    let m = sym c.is_marked.ensures ∙ c.if-not-is_marked.false in
    record {
      crossed = rw c.cross.ensures (crossed_next h.crossed more m);
      paired = paired_more (is_accepted c.args.program.now) (inside h.crossed c.requires.marks_len m) h.paired more
          (rw c.if-not-pair_one.false at c.pair_one.ensures);
    }

pub returns : goal.returns
returns c =
    let h = c.loop-k.invariant in
    let all = c.loop-k-test.false in
    record { out = crossed_whole h.crossed all; answer = λ x. paired-all x h.paired all }
