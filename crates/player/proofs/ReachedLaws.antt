-- A loop that enters nodes, at one of its turns: what the rule comes to from there on, and what holds there.
use Rattle.std.proofs.Common.{◌≡◌, ℕ, ◌<◌, Bool, List, Some, ap, ◌∙◌, subst}
use Rattle.semantics.specs.Program.{Program}
use Rattle.semantics.specs.Tree.{Stmts, children_from, statement_at}
use Rattle.semantics.specs.Walk.{Walk, Entered, enter}
use Rattle.player.specs.declared.work.Work.{Work}
use Rattle.player.specs.Work.{KeptTables}
use Rattle.player.specs.Walks.{walk_in, entering, holds_in, holds_now, passed, Walking, ButLast}
use Rattle.player.proofs.WalkingLaws.{kept_trans}

pub record Reached (P : Program) (before : Work) (rule rest : Entered) (marks counts : List ℕ) (work : Work) : Type 0 where
  pub right : rule ≡ rest
  pub walking : Walking P marks counts work
  pub kept : KeptTables before work

-- A loop over the children of node h, at one of its turns: entering h with the walk at entry comes to `rest` of the
-- children from that of the turn on, with the walk of the turn.
pub record AtChild (P : Program) (marks₀ counts₀ : List ℕ) (before : Work) (h child : ℕ)
    (rest : (ℕ → Bool) → Stmts → Walk → Entered) (marks counts : List ℕ) (work : Work) : Type 0 where
  pub later : h < child
  pub here : Reached P before (entering P marks₀ counts₀ before h)
      (rest (holds_now P before.memo) (children_from P.nodes child h) (walk_in marks counts work)) marks counts work

-- what is left of a loop that has passed a WHL or not and is at a node
abbrev pub rest_at : Program → Work → Bool → ℕ → List ℕ → List ℕ → Work → Entered
rest_at P before looping node marks counts work =
    passed looping (enter (holds_now P before.memo) (statement_at P.nodes node) (walk_in marks counts work))

-- a SEQ goes on with the last of its children
pub node_last : {P : Program} {before : Work} {rule : Entered} (looping : Bool) (node : ℕ) {marks counts : List ℕ} {work : Work}
    → Reached P before rule (rest_at P before looping node marks counts work) marks counts work
    → {marks' counts' : List ℕ} {work' : Work} (last : ℕ)
    → ButLast P work node (entering P marks counts work node) (Some last) marks' counts' work'
    → Reached P before rule (rest_at P before looping last marks' counts' work') marks' counts' work'
node_last {P} looping node {marks} {counts} {work} r {marks'} {counts'} {work'} last b =
    let goes_on = subst (λ (values : List ℕ). enter (holds_in P.exprs values) (statement_at P.nodes node)
    (walk_in marks counts work)
    ≡ enter (holds_in P.exprs values) (statement_at P.nodes last) (walk_in marks' counts' work')) r.kept.variables b.right.0 in
    record {
      right = r.right ∙ ap (passed looping) goes_on;
      walking = b.walking;
      kept = kept_trans r.kept b.kept;
    }
