-- The rules' walk as the code holds it: marks and counts in lent lists, the flag in `work`.
use Rattle.std.specs.Prelude.{◌≡◌, Bool, true, false, ◌⊎◌, cond, not, List, ℕ, Option, Some, None, MatchOption, ◌-◌, ◌<◌, eqb, length, get_or, set}
use Rattle.semantics.specs.Program.{Program, Kind, node_count, kind_at}
use Rattle.semantics.specs.Program.Kind.{SEQ, PAR, IF, WHL, LEAF, UNKNOWN}
use Rattle.semantics.specs.State.{mark_count}
use Rattle.semantics.specs.Tree.{statement_at}
use Rattle.semantics.specs.Walk.{Walk, Entered, loop_if_finished, enter}
use Rattle.semantics.specs.Walk.Entered.{finished, stays}
use Rattle.semantics.specs.Climb.{Turn, turn}
use Rattle.semantics.specs.Climb.Turn.{leaves_next, over}
use Rattle.semantics.specs.Facts.{Accepted}
use Rattle.player.specs.declared.memo.Memo.{Memo}
use Rattle.player.specs.declared.work.Work.{Work}
use Rattle.player.specs.declared.outcome.Outcome.{Outcome}
use Rattle.player.specs.declared.outcome.Outcome.TheVariants.{Finished, Stays}
use Rattle.player.specs.Memo.{Known, value_of}
use Rattle.player.specs.Work.{KeptTables}

abbrev pub walk : List ℕ → List ℕ → Bool → Walk
walk marks counts looped = record { marks = marks; counts = counts; looped = looped }

abbrev pub walk_in : List ℕ → List ℕ → Work → Walk
walk_in marks counts work = walk marks counts work.looped

abbrev pub entered : Outcome → Walk → Entered
entered Finished w = finished w
entered Stays w = stays w

-- Node i, where the outcome is that it finished.
abbrev pub if_finished : Outcome → ℕ → Option ℕ
if_finished Finished i = Some i
if_finished Stays i = None

-- Whether expression e is true as a condition, in these values of the variables.
abbrev pub holds_in : List ℕ → List ℕ → ℕ → Bool
holds_in exprs values e = not (eqb (value_of exprs values e) 0)

-- Whether it is in the values of a memo.
abbrev pub holds_now : Program → Memo → ℕ → Bool
holds_now P memo = holds_in P.exprs memo.variables

-- Thread counts with that of node h lowered by 1; a count of 0 stays.
abbrev pub lowered : List ℕ → ℕ → List ℕ
lowered counts h = set counts h (get_or counts h 0 - 1)

-- A PAR is finished at count 0.
abbrev pub outcome_at : List ℕ → ℕ → Outcome
outcome_at counts h = cond (eqb (get_or counts h 0) 0) Finished Stays

-- What holds at each place of a walk.
pub record Walking (P : Program) (marks counts : List ℕ) (work : Work) : Type 0 where
  pub accepted : Accepted P
  pub marks_fit : length marks ≡ node_count P.nodes
  pub counts_fit : length counts ≡ node_count P.nodes
  pub known : Known P.exprs work.memo
  pub tally : work.tally ≡ mark_count marks

-- ---- what the code of a walk promises, where `before` is `work` at its start

-- What entering node i comes to in the rules, with conditions read in the values of `work`.
abbrev pub entering : Program → List ℕ → List ℕ → Work → ℕ → Entered
entering P marks counts work i = enter (holds_now P work.memo) (statement_at P.nodes i) (walk_in marks counts work)

-- The rule enters with this outcome and leaves these lists.
pub record Enters (P : Program) (before : Work) (rule : Entered) (outcome : Outcome) (marks counts : List ℕ) (work : Work)
    : Type 0 where
  pub right : rule ≡ entered outcome (walk_in marks counts work)
  pub walking : Walking P marks counts work
  pub kept : KeptTables before work

-- The rule leaves these lists.
pub record Walks (P : Program) (before : Work) (rule : Walk) (marks counts : List ℕ) (work : Work) : Type 0 where
  pub right : rule ≡ walk_in marks counts work
  pub walking : Walking P marks counts work
  pub kept : KeptTables before work

-- The children of SEQ h but for the last were entered in turn: one stays, or all finish, and entering the SEQ goes on as
-- entering its last child.
pub record ButLast (P : Program) (before : Work) (h : ℕ) (rule : Entered) (last : Option ℕ) (marks counts : List ℕ)
    (work : Work) : Type 0 where
  pub right : MatchOption last (rule ≡ stays (walk_in marks counts work))
      (λ (i : ℕ). (rule ≡ enter (holds_now P before.memo) (statement_at P.nodes i) (walk_in marks counts work))
      × (h < i) × (i < node_count P.nodes))
  pub walking : Walking P marks counts work
  pub kept : KeptTables before work

-- Where a WHL was passed, finishing is a zero-time loop.
unfoldable pub passed : Bool → Entered → Entered
passed looping r = cond looping (loop_if_finished r) r

-- What a turn comes to, where it gives the node that is left next, or none.
abbrev pub turn_to : Option ℕ → Walk → Turn
turn_to None w = over w
turn_to (Some i) w = leaves_next i w

-- By the rules' turn that leaves node i, node r is left next, or none, with these lists.
pub record Turned (P : Program) (before : Work) (i : ℕ) (w : Walk) (r : Option ℕ) (marks counts : List ℕ) (work : Work)
    : Type 0 where
  pub right : turn (holds_now P before.memo) P.nodes i w ≡ turn_to r (walk_in marks counts work)
  pub walking : Walking P marks counts work
  pub kept : KeptTables before work

-- A WHL, which makes finishing at once a zero-time loop.
abbrev pub is_whl : Kind → Bool
is_whl SEQ = false
is_whl PAR = false
is_whl IF = false
is_whl WHL = true
is_whl (LEAF l) = false
is_whl UNKNOWN = false

-- What a walk notes where it passed a WHL and the outcome is that it finished: a zero-time loop.
abbrev pub passed_by : Bool → Outcome → Work → Work
passed_by looping Finished work = cond looping (record work { looped = true }) work
passed_by looping Stays work = work

-- Node i, an IF or a WHL, enters child r, or none.
abbrev pub Chosen : Program → Memo → ℕ → Option ℕ → Type 0
Chosen P memo i r = MatchOption r
    ((w : Walk) → enter (holds_now P memo) (statement_at P.nodes i) w ≡ finished w)
    (λ (child : ℕ). ((w : Walk) → enter (holds_now P memo) (statement_at P.nodes i) w
    ≡ passed (is_whl (kind_at P.nodes i)) (enter (holds_now P memo) (statement_at P.nodes child) w))
    × (i < child) × (child < node_count P.nodes))

-- A node of a kind that branches on a condition.
abbrev pub Branches : List ℕ → ℕ → Type 0
Branches nodes i = (kind_at nodes i ≡ IF) ⊎ (kind_at nodes i ≡ WHL)
