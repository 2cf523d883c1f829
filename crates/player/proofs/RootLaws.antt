-- Entering node 0 over lists of zeros, and what is written of it.
use Rattle.std.proofs.Common.{◌≡◌, ℕ, Bool, true, false, List, get_or, replicate, Ok, Err, refl, sym, ap, ◌∙◌, inl, inr, arith}
use lib.ListN.{length-replicate}
use borrow.Author.Tests.{eqb-true}
use Rattle.semantics.specs.Program.{Program, node_count}
use Rattle.semantics.specs.Expressions.{is_true}
use Rattle.semantics.specs.Tree.{Stmt, statement_at}
use Rattle.semantics.specs.State.{mark_count}
use Rattle.semantics.specs.Walk.{Walk, walk_of, enter}
use Rattle.semantics.specs.Calls.{root_walk}
use Rattle.semantics.specs.Facts.{Accepted}
use Rattle.semantics.proofs.Lists.Logic.{lt_or_le}
use Rattle.semantics.proofs.Lists.NumberLaws.{zeros}
use Rattle.semantics.proofs.Lists.ActiveLaws.{some_marked}
use Rattle.semantics.proofs.Tree.TreeOfList.{tree_at}
use Rattle.program.specs.declared.refusal.Refusal.TheVariants.{Loop}
use Rattle.player.specs.declared.work.Work.{Work}
use Rattle.player.specs.declared.outcome.Outcome.{Outcome}
use Rattle.player.specs.declared.outcome.Outcome.TheVariants.{Finished, Stays}
use Rattle.player.specs.Memo.{Known, Holds}
use Rattle.player.specs.Work.{new_work}
use Rattle.player.specs.Walks.{walk, walk_in, entered, holds_now, Walking, Enters}
use Rattle.player.specs.Root.{WrittenUnlessLooped}
use Rattle.player.proofs.MemoLaws.{same_conditions}

pub none_marked : (n : ℕ) → mark_count (replicate n 0) ≡ 0
none_marked n =
    elim (lt_or_le 0 (mark_count (replicate n 0))) [
      | inl some ↦
          let (i, e) = (some_marked (replicate n 0)).0 some in
          absurd (omega (arith, zeros n i, eqb-true (get_or (replicate n 0) i 0) 1 e))
      | inr none ↦ omega arith
    ]

walk_of-entered : (outcome : Outcome) (w : Walk) → walk_of (entered outcome w) ≡ w
walk_of-entered Finished w = refl
walk_of-entered Stays w = refl

-- `before` is what a run starts from, with values of the variables
module _ {P : Program} (a : Accepted P) (before : Work) (fresh : before ≡ record new_work { memo = before.memo }) where
  -- no mark stands yet, and no loop was met
  pub root_walking : Known P.exprs before.memo
      → let blank : List ℕ = replicate (node_count P.nodes) 0 in Walking P blank blank before
  root_walking known =
      record {
        accepted = a;
        marks_fit = length-replicate {A = ℕ} (node_count P.nodes) 0;
        counts_fit = length-replicate {A = ℕ} (node_count P.nodes) 0;
        known = known;
        tally = ap (λ (w : Work). w.tally) fresh ∙ sym (none_marked (node_count P.nodes));
      }

  pub root_walked : (values : List ℕ) → Holds values before.memo → {outcome : Outcome} {marks counts : List ℕ}
      {work : Work}
      → (let blank : List ℕ = replicate (node_count P.nodes) 0 in
      Enters P before (enter (holds_now P before.memo) (statement_at P.nodes 0) (walk_in blank blank before)) outcome
      marks counts work)
      → root_walk P values ≡ walk_in marks counts work
  unfolding root_walk
  root_walked values holds {outcome} {marks} {counts} {work} e =
      let blank : List ℕ = replicate (node_count P.nodes) 0 in
      ap (λ (t : Stmt). walk_of (enter (is_true P values) t (walk blank blank false)))
      (tree_at P.nodes a.nodes_ok a.sizes.some_node)
      ∙ ap (λ (f : ℕ → Bool). walk_of (enter f (statement_at P.nodes 0) (walk blank blank false)))
      (sym (same_conditions P values before.memo holds))
      ∙ ap (λ (b : Bool). walk_of (enter (holds_now P before.memo) (statement_at P.nodes 0) (walk blank blank b)))
      (sym (ap (λ (w : Work). w.looped) fresh))
      ∙ ap walk_of e.right ∙ walk_of-entered outcome (walk_in marks counts work)

module _ {w : Walk} {marks counts : List ℕ} (work : Work) (right : w ≡ walk_in marks counts work)
    (marks₀ counts₀ : List ℕ) where
  pub nothing_written : work.looped ≡ true → WrittenUnlessLooped w marks₀ counts₀ (Err Loop) marks₀ counts₀
  nothing_written met =
      let looped = ap (λ (x : Walk). x.looped) right ∙ met in
      record { right_answer = rw looped refl; right_marks = rw looped refl; right_counts = rw looped refl }

  pub both_written : work.looped ≡ false → WrittenUnlessLooped w marks₀ counts₀ (Ok tt) marks counts
  both_written unmet =
      let looped = ap (λ (x : Walk). x.looped) right ∙ unmet in
      record {
        right_answer = rw looped refl;
        right_marks = rw looped (sym (ap (λ (x : Walk). x.marks) right));
        right_counts = rw looped (sym (ap (λ (x : Walk). x.counts) right));
      }
