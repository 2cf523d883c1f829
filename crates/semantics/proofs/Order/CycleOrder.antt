-- One cycle of an accepted program, from a state whose lists have the right lengths and that is well formed:
-- its entries may come in any order, and a worked cycle leaves such a state again.
-- The stores agree by question 9, the walks by the argument on the tree.
use mathlib.Core.Path.{◌≡◌, refl, sym, ap, ◌∙◌, subst}
use mathlib.Core.Bool.{Bool, true, false, cond}
use mathlib.Core.List.{List, [], ◌∷◌}
use Prim.Native.Nat.{ℕ}
use lib.Dec.{eqb}
use lib.ListN.{length}
use borrow.Author.Tests.{eqb-true, eq-eqb}
use Rattle.semantics.specs.Program.{Program, node_count}
use Rattle.semantics.specs.Expressions.{is_true}
use Rattle.semantics.specs.Questions.{first_no}
use Rattle.semantics.specs.Check.{check_number}
use Rattle.semantics.specs.Tree.{tree_of}
use Rattle.semantics.specs.Widths.{values_in_range}
use Rattle.semantics.specs.State.{State, lengths_ok, control_formed}
use Rattle.semantics.specs.Walk.{leave}
use Rattle.semantics.specs.Completion.{waits, channels_free, targets_apart}
use Rattle.semantics.specs.Cycle.{are_active, answered, new_values, visit, walked, cycle_questions, cycle}
use Rattle.semantics.specs.Cycle.Outcome.{advances_to}
use Rattle.semantics.specs.Facts.{LengthsFit, Ready}
use Rattle.semantics.proofs.Lists.Logic.{conjuncts, both}
use Rattle.semantics.proofs.Tree.TreeOfList.{Stands, accepted_tree}
use Rattle.semantics.proofs.Walks.LeaveFrames.{accepted_leave}
use Rattle.semantics.proofs.Tree.TreeWellFormed.{tree_well_formed}
use Rattle.semantics.proofs.Tree.WellFormedOnTree.{control_formed-on_tree}
use Rattle.semantics.proofs.Run.CrossOut.{cross_out, active-cross_out}
use Rattle.semantics.proofs.Run.RunLaws.{answered_state}
use Rattle.semantics.proofs.Order.WalksOnTree.{FormedOn, cycle-any-order, cycle_formed}
use Rattle.semantics.proofs.Order.Stores.{new_values-any-order, new_values-length}
use Rattle.semantics.proofs.Order.InRange.{values_in_range_lem, control_formed_lem, well_formed_lem, new_values-in_range}

pub fits_lengths : (P : Program) (s : State) → lengths_ok P s ≡ true → LengthsFit P s
unfolding lengths_ok
fits_lengths P s h =
    let (v, (m, (c, _))) = conjuncts (eqb (length s.values) P.variables)
    (eqb (length s.marks) (node_count P.nodes) ∷ eqb (length s.counts) (node_count P.nodes) ∷ []) h in
    record { values = eqb-true _ _ v; marks = eqb-true _ _ m; counts = eqb-true _ _ c }

pub lengths_fit : (P : Program) (s : State) → LengthsFit P s → lengths_ok P s ≡ true
unfolding lengths_ok
lengths_fit P s f = both (both (eq-eqb _ _ f.values) (eq-eqb _ _ f.marks)) (eq-eqb _ _ f.counts)

module _ (P : Program) (accepted : check_number P ≡ 0) where
  abbrev tree : Stands P.nodes (tree_of P.nodes) 0 (node_count P.nodes)
  tree = accepted_tree P accepted

  -- in an accepted program, what question 6 asks of marks and counts is well-formedness along the tree
  formed_on_tree : (marks counts : List ℕ) → length marks ≡ node_count P.nodes
      → control_formed P.nodes marks counts ≡ tree_well_formed marks counts (tree_of P.nodes)
  formed_on_tree marks counts l =
      control_formed-on_tree P.nodes marks counts (tree_of P.nodes) tree.placed tree.agrees tree.ends l

  abbrev Formed : List ℕ → List ℕ → Type 0
  Formed marks counts = FormedOn (tree_of P.nodes) (node_count P.nodes) marks counts

  ready_formed : (s : State) → Ready P s → Formed s.marks s.counts
  ready_formed s r =
      let f = fits_lengths P s r.fit in
      record {
        marks_length = f.marks;
        counts_length = f.counts;
        well_formed = sym (formed_on_tree s.marks s.counts f.marks) ∙ control_formed_lem P s r.formed;
      }

  pub formed_ready : (s : State) → length s.values ≡ P.variables → values_in_range P.widths s.values ≡ true
      → Formed s.marks s.counts → Ready P s
  formed_ready s v in_range f =
      record {
        fit = lengths_fit P s (record { values = v; marks = f.marks_length; counts = f.counts_length });
        formed = well_formed_lem P s in_range (formed_on_tree s.marks s.counts f.marks_length ∙ f.well_formed);
      }

  module _ (s : State) (ready : Ready P s) where
    abbrev crossed : (es : List ℕ) → are_active s.marks es ≡ true → cross_out es s.marks ≡ true
    crossed es h = sym (active-cross_out s.marks es) ∙ h

    walked-any-order : (values es fs : List ℕ) → are_active s.marks es ≡ true → are_active s.marks fs ≡ true
        → walked P s values es ≡ walked P s values fs
    unfolding walked visit
    walked-any-order values es fs h g =
        cycle-any-order (tree_of P.nodes) (node_count P.nodes) tree.placed tree.ends (is_true P values)
        (waits P s.marks) (leave (is_true P values) P.nodes) (accepted_leave P accepted (is_true P values))
        s.marks s.counts (ready_formed s ready) es fs (crossed es h) (crossed fs g)

    walked_formed : (values es : List ℕ) → are_active s.marks es ≡ true
        → Formed (walked P s values es).marks (walked P s values es).counts
    unfolding walked visit
    walked_formed values es h =
        cycle_formed (tree_of P.nodes) (node_count P.nodes) tree.placed tree.ends (is_true P values)
        (waits P s.marks) (leave (is_true P values) P.nodes) (accepted_leave P accepted (is_true P values))
        s.marks s.counts (ready_formed s ready) es (crossed es h)

    -- the state that the cycle comes to, if no question refuses it
    abbrev leaves : List ℕ → List ℕ → State
    leaves values es =
        record { values = values; marks = (walked P s values es).marks; counts = (walked P s values es).counts }

    abbrev number : List ℕ → List ℕ → ℕ
    number values es = first_no (cycle_questions P s es (walked P s values es))

    pub any-entries : (es fs : List ℕ) → are_active s.marks es ≡ true → are_active s.marks fs ≡ true
        → cycle P s es ≡ cycle P s fs
    unfolding cycle
    any-entries es fs h g = pick (targets_apart P s.marks) refl
      where
        pick : (b : Bool) → targets_apart P s.marks ≡ b → cycle P s es ≡ cycle P s fs
        pick true e =
            let v = new_values-any-order P s es fs (fits_lengths P s ready.fit).values e h g in
            ap (λ (x : List ℕ). answered (number x es) (leaves x es)) v
            ∙ rw (walked-any-order (new_values P s fs) es fs h g, h, g)
        pick false e = rw (h, g, e) (by_channels (channels_free P s.marks))
          where
            by_channels : (c : Bool) → answered (cond c 9 8) (leaves (new_values P s es) es)
                ≡ answered (cond c 9 8) (leaves (new_values P s fs) fs)
            by_channels true = refl
            by_channels false = refl

    pub leaves_ready : (s' : State) (es : List ℕ) → are_active s.marks es ≡ true → cycle P s es ≡ advances_to s'
        → Ready P s'
    unfolding cycle
    leaves_ready s' es h e =
        let values = new_values P s es in
        subst (Ready P) (answered_state (number values es) (leaves values es) s' e)
        (formed_ready _ (new_values-length P s es ∙ (fits_lengths P s ready.fit).values)
        (new_values-in_range P s es (values_in_range_lem P s ready.formed)) (walked_formed values es h))
