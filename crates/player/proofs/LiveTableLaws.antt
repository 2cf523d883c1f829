-- The table of live children: when the nodes from i on are added, its number at a node is that of the node's live
-- children from i on. So when the pass comes to a node, its number there is that of all its live children.
use mathlib.Core.Path.{◌≡◌, sym, ap, ◌∙◌}
use mathlib.Core.Bool.{true, false, ◌||◌}
use mathlib.Core.List.{List}
use mathlib.Core.Option.{some}
use Prim.Native.Nat.{ℕ, suc, ◌≤◌, ◌<◌}
use native.Mathlib.Nat.{le_refl}
use Rattle.std.proofs.Common.{◌-◌}
use native.Mathlib.Omega.{arith}
use lib.Dec.{ltb}
use lib.ListN.{length, get_or, replicate, length-replicate, get_or-replicate}
use Rattle.std.proofs.lemmas.Grind.{elements}
use Rattle.semantics.specs.Program.{Program, node_count, kind_at, parent_at}
use Rattle.semantics.specs.Parents.{parent}
use Rattle.semantics.specs.State.{marked, live_children, control_formed}
use Rattle.semantics.specs.Facts.{locally_ok, node_well_formed}
use Rattle.semantics.proofs.Lists.NumberLaws.{every_below, all-below}
use Rattle.semantics.proofs.Lists.ParentLaws.{is_parent}
use Rattle.semantics.proofs.Tree.NodeLaws.{parent_word, root_parent}
use Rattle.semantics.proofs.Tree.LiveChildren.{live_from_last, live_from_most, live_from_step, live_from_own}
use Rattle.semantics.proofs.Tree.LiveChildren.{holds_mark-own}
use Rattle.semantics.proofs.Tree.WellFormedLocally.{control_formed-locally}
use Rattle.player.specs.WellFormed.{ListsFit, added_to_parent, ParentFits, LiveTable}

-- the table begins with zeros
pub table_start : {P : Program} {marks counts : List ℕ} → ListsFit P marks counts
    → LiveTable P.nodes marks (node_count P.nodes) (replicate 1024 0)
table_start {P} {marks} lists =
    record {
      size = length-replicate {A = ℕ} 1024 0;
      entries = λ h l.
          let fits = lists.accepted.sizes.nodes_fit in
          get_or-replicate {A = ℕ} 1024 h 0 0 (omega arith) ∙ sym (live_from_last P.nodes marks h);
    }

-- where i nodes are left, a turn of a pass takes node i - 1: the nodes after it are those from i on
pub turn : {i : ℕ} → 0 < i → i ≡ suc (i - 1)
turn left = omega arith

-- ---- node i, when the nodes after it are in the table
module _ {P : Program} {marks counts : List ℕ} {i : ℕ} {live : List ℕ} (lists : ListsFit P marks counts)
    (inside : i < node_count P.nodes) (table : LiveTable P.nodes marks (suc i) live) where
  pub own_live : get_or live i 0 ≡ live_children P.nodes marks i
  own_live = table.entries i inside ∙ live_from_own P.nodes marks i inside

  is_parent_word : 0 < i → parent P.nodes i ≡ some (parent_at P.nodes i)
  is_parent_word z = parent_word P.nodes lists.accepted.nodes_ok i z inside

  parent_inside : 0 < i → parent_at P.nodes i < node_count P.nodes
  parent_inside z =
      let u = (is_parent P.nodes i (parent_at P.nodes i) (is_parent_word z)).lower in
      omega arith

  pub parent_fits : ParentFits P.nodes i live
  parent_fits =
      record {
        within = inside;
        inside = λ z. omega (arith, parent_inside z, lists.accepted.sizes.nodes_fit, table.size);
        room = λ z.
            let n = live_from_most P.nodes marks (suc i) (parent_at P.nodes i) in
            omega (arith, table.entries (parent_at P.nodes i) (parent_inside z), lists.accepted.sizes.nodes_fit);
      }

  -- the parent of node i has one more, where node i holds a mark
  pub table_step : LiveTable P.nodes marks i
      (added_to_parent P.nodes i (marked marks i || ltb 0 (get_or live i 0)) live)
  table_step =
      let holds = holds_mark-own P.nodes marks lists.accepted.nodes_ok lists.marks_fit i inside in
      record {
        size = grind (arith, elements, table.size);
        entries = λ h l.
            let step = live_from_step P.nodes marks i h inside in
            let none = root_parent P.nodes in
            grind (arith, elements, is_parent_word, parent_fits.inside, none, table.entries h, own_live, holds, step);
      }

-- ---- the pass has asked the nodes from i on and added them to the table
pub record Passed (nodes marks counts : List ℕ) (i : ℕ) (live : List ℕ) : Type 0 where
  pub within : i ≤ node_count nodes
  pub table : LiveTable nodes marks i live
  pub right : (j : ℕ) → i ≤ j → j < node_count nodes → locally_ok nodes marks counts j ≡ true

module _ {P : Program} {marks counts : List ℕ} (lists : ListsFit P marks counts) where
  pub pass_start : {live : List ℕ} → LiveTable P.nodes marks (node_count P.nodes) live
      → Passed P.nodes marks counts (length marks) live
  pass_start table =
      rw lists.marks_fit
      (record { within = le_refl (node_count P.nodes); table = table; right = λ j v f. absurd (omega arith) })

  module _ {i : ℕ} {live : List ℕ} (passed : Passed P.nodes marks counts (suc i) live) where
    -- what the code asks of node i is what question 6 asks of it
    pub asks_right : node_well_formed (kind_at P.nodes i) (get_or marks i 0) (get_or counts i 0) (get_or live i 0)
        ≡ locally_ok P.nodes marks counts i
    asks_right =
        ap (node_well_formed (kind_at P.nodes i) (get_or marks i 0) (get_or counts i 0))
        (own_live lists passed.within passed.table)

    pub pass_fits : ParentFits P.nodes i live
    pass_fits = parent_fits lists passed.within passed.table

    pub pass_step : locally_ok P.nodes marks counts i ≡ true
        → Passed P.nodes marks counts i (added_to_parent P.nodes i (marked marks i || ltb 0 (get_or live i 0)) live)
    pass_step right =
        let l = passed.within in
        record {
          within = omega arith;
          table = table_step lists passed.within passed.table;
          right = λ j v f. grind (arith, passed.right j);
        }

  -- what question 6 asks of marks and counts, where the pass has come to the first node
  pub all_asked : {live : List ℕ} → Passed P.nodes marks counts 0 live → control_formed P.nodes marks counts ≡ true
  all_asked passed =
      control_formed-locally P.nodes marks counts lists.accepted.nodes_ok lists.marks_fit
      ∙ all-below (locally_ok P.nodes marks counts) (node_count P.nodes) (λ j l. passed.right j (omega arith) l)

  -- and where a node is not right
  pub not_formed : (i : ℕ) → i < node_count P.nodes → locally_ok P.nodes marks counts i ≡ false
      → control_formed P.nodes marks counts ≡ false
  not_formed i l wrong =
      let locally = control_formed-locally P.nodes marks counts lists.accepted.nodes_ok lists.marks_fit in
      grind (arith, locally, every_below (locally_ok P.nodes marks counts) (node_count P.nodes))
