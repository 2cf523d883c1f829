-- What an accepted program gives to the code that walks it: the facts of questions 1 to 4 and 11, conditions that are there,
-- and widths of 1 to 16 bits.
use Rattle.std.proofs.Common.{◌≡◌, ℕ, ◌*◌, ◌<◌, ◌≤◌, get_or, true, true≢false, Ok, Err, sym, ap, ◌∙◌, inl, inr, subst}
use Rattle.std.specs.Prelude.{Result}
use Rattle.std.specs.Result.{result_unwrap_or}
use borrow.Author.Tests.{ltb-true}
use Rattle.semantics.specs.Program.{Program, Kind as RuleKind, expr_count, op_at, node_count, kind_at, a_at, b_at}
use Rattle.semantics.specs.Program.Kind.{IF, WHL, UNKNOWN as UNKNOWN-KIND}
use Rattle.semantics.specs.Program.Op.{UNKNOWN}
use Rattle.semantics.specs.Check.{kind_ok, expr_words_ok, reference_words_ok, check_number}
use Rattle.semantics.specs.Facts.{Accepted}
use Rattle.semantics.proofs.Lists.QuestionLaws.{accepted}
use Rattle.semantics.proofs.Tree.NodeLaws.{node_facts}
use Rattle.program.specs.declared.accepted.Accepted.{Accepted as AcceptedCode}
use Rattle.program.specs.declared.kinds.Kind.{Kind}
use Rattle.program.specs.declared.kinds.UnknownKind.{UnknownKind}
use Rattle.program.specs.declared.ops.Op.{Op}
use Rattle.program.specs.declared.ops.UnknownOp.{UnknownOp}
use Rattle.program.specs.Accepted.{accepted_in}
use Rattle.program.specs.Kinds.{rule_kind, KindOfWord}
use Rattle.program.specs.Ops.{rule_op, OpOfWord}
use Rattle.player.specs.Walks.{Branches}

-- by its ghost field
pub is_accepted : (it : AcceptedCode) → Accepted (accepted_in it)
is_accepted it = accepted (accepted_in it) it.accepted

module _ (P : Program) (a : Accepted P) (i : ℕ) (l : i < node_count P.nodes) where
  -- the expression that an IF or a WHL reads
  condition_at : (k : RuleKind) → kind_at P.nodes i ≡ k → reference_words_ok P k (a_at P.nodes i) (b_at P.nodes i) ≡ true
  condition_at k e =
      subst (λ (x : RuleKind). reference_words_ok P x (a_at P.nodes i) (b_at P.nodes i) ≡ true) e (a.ranges_ok i l)

  pub condition_there : Branches P.nodes i → a_at P.nodes i < expr_count P.exprs
  unfolding reference_words_ok
  condition_there (inl e) = ltb-true (a_at P.nodes i) (expr_count P.exprs) (condition_at IF e)
  condition_there (inr e) = ltb-true (a_at P.nodes i) (expr_count P.exprs) (condition_at WHL e)

-- there are at most 256 variables
pub variables_fit : (program : AcceptedCode) → program.lists.vars ≤ 256
variables_fit program = (is_accepted program).sizes.variables_fit

-- with the number of the nodes, by which a search comes to it
pub sizes_fit : (program : AcceptedCode) → (node_count program.lists.nodes.now ≤ 1024) × (program.lists.vars ≤ 256)
sizes_fit program = ((is_accepted program).sizes.nodes_fit, variables_fit program)

-- each first word of a record stands for a kind or an op
module _ (P : Program) (ok : check_number P ≡ 0) where
  pub kind_known : (i : ℕ) → i < node_count P.nodes → kind_at P.nodes i ≡ UNKNOWN-KIND → ⊥
  unfolding kind_ok
  kind_known i l e =
      true≢false (sym (node_facts P.nodes i ((accepted P ok).nodes_ok i l)).kind_known ∙ ap kind_ok e)

  pub op_known : (i : ℕ) → i < expr_count P.exprs → op_at P.exprs i ≡ UNKNOWN → ⊥
  unfolding expr_words_ok
  op_known i l e =
      true≢false (sym ((accepted P ok).exprs_ok i l) ∙ rw e)

-- so what a first word is read as is its kind or its op, whatever else would stand for none
module _ (program : AcceptedCode) where
  pub kind_there : (i : ℕ) (read : Result Kind UnknownKind) (other : Kind) → i < node_count (accepted_in program).nodes
      → KindOfWord (get_or (accepted_in program).nodes (5 * i) 0) read
      → rule_kind (result_unwrap_or read other) ≡ kind_at (accepted_in program).nodes i
  kind_there i (Ok kind) other l e = e
  kind_there i (Err unknown) other l e = absurd (kind_known _ program.accepted i l (sym e))

  pub op_there : (i : ℕ) (read : Result Op UnknownOp) (other : Op) → i < expr_count (accepted_in program).exprs
      → OpOfWord (get_or (accepted_in program).exprs (3 * i) 0) read
      → rule_op (result_unwrap_or read other) ≡ op_at (accepted_in program).exprs i
  op_there i (Ok op) other l e = e
  op_there i (Err unknown) other l e = absurd (op_known _ program.accepted i l (sym e))
