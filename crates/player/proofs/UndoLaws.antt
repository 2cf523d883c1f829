-- Counts from marks: the pass that counts anew, from the last node to the first, and that in a well-formed state it
-- finds the counts of the state.
use mathlib.Core.Path.{◌≡◌, sym, ◌∙◌}
use mathlib.Core.Bool.{true, cond, ◌||◌}
use mathlib.Core.List.{List}
use Prim.Native.Nat.{ℕ, suc, ◌≤◌, ◌<◌}
use native.Mathlib.Nat.{le_refl}
use native.Mathlib.Omega.{arith}
use lib.Dec.{ltb}
use lib.ListN.{length, get_or, set}
use lib.Seq.{ext_get_or}
use Rattle.std.proofs.lemmas.Grind.{elements}
use Rattle.semantics.specs.Program.{Program, node_count, is_par, kind_at}
use Rattle.semantics.specs.State.{State, marked, marks_are_bits}
use Rattle.semantics.specs.State.{control_formed, well_formed}
use Rattle.semantics.proofs.Tree.WellFormedOnTree.{control_formed-in}
use Rattle.semantics.proofs.Order.InRange.{control_formed_lem}
use Rattle.player.specs.WellFormed.{ListsFit, added_to_parent, LiveTable, count_from}
use Rattle.player.proofs.LiveTableLaws.{own_live, table_step}

-- ---- the nodes from i on are counted, and added to the table
pub record Recounted (nodes marks : List ℕ) (i : ℕ) (counts live : List ℕ) : Type 0 where
  pub within : i ≤ node_count nodes
  pub size : length counts ≡ node_count nodes
  pub table : LiveTable nodes marks i live
  pub right : (j : ℕ) → i ≤ j → j < node_count nodes → get_or counts j 0 ≡ count_from nodes marks j

pub recount_start : {P : Program} {marks counts live : List ℕ} → ListsFit P marks counts
    → LiveTable P.nodes marks (node_count P.nodes) live → Recounted P.nodes marks (length marks) counts live
recount_start {P} lists table =
    rw lists.marks_fit
    (record {
      within = le_refl (node_count P.nodes);
      size = lists.counts_fit;
      table = table;
      right = λ j v f. absurd (omega arith);
    })

pub recount_step : {P : Program} {marks counts₀ : List ℕ} {i : ℕ} {counts live : List ℕ} → ListsFit P marks counts₀
    → Recounted P.nodes marks (suc i) counts live
    → Recounted P.nodes marks i (set counts i (cond (is_par (kind_at P.nodes i)) (get_or live i 0) 0))
    (added_to_parent P.nodes i (marked marks i || ltb 0 (get_or live i 0)) live)
recount_step {P} {marks} {counts₀} {i} {counts} {live} lists so_far =
    let l = so_far.within in
    let count : ℕ = cond (is_par (kind_at P.nodes i)) (get_or live i 0) 0 in
    let own : count ≡ count_from P.nodes marks i = rw (own_live lists l so_far.table) in
    record {
      within = omega arith;
      size = grind (arith, elements, so_far.size);
      table = table_step lists l so_far.table;
      right = λ j v f. grind (arith, elements, so_far.size, own, so_far.right j);
    }

-- ---- a well-formed state
module _ (P : Program) (s : State) (formed : well_formed P s ≡ true) where
  pub formed_bits : marks_are_bits s.marks ≡ true
  unfolding control_formed
  formed_bits = grind (arith, control_formed_lem P s formed)

  -- its counts are those that its marks give
  pub formed_counts : length s.marks ≡ node_count P.nodes → length s.counts ≡ node_count P.nodes
      → (counts : List ℕ) → length counts ≡ node_count P.nodes
      → ((i : ℕ) → i < node_count P.nodes → get_or counts i 0 ≡ count_from P.nodes s.marks i)
      → counts ≡ s.counts
  formed_counts marks_fit counts_fit counts fits right =
      let at = (control_formed-in P.nodes s.marks s.counts marks_fit).1 (control_formed_lem P s formed) in
      ext_get_or 0 counts s.counts (fits ∙ sym counts_fit)
      (λ i l. let node = at.each i (omega arith) (omega arith) in grind (arith, right i, node.counted))
