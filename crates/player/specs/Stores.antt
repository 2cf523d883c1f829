-- The stores of a cycle in code: what is claimed and worked before any is made.
use Rattle.std.specs.Prelude.{◌≡◌, true, ℕ, ◌≤◌, ◌<◌, length, get_or, set, take, drop, Result, ⊤}
use mathlib.Core.List.{List, foldl, foldr}
use Rattle.std.proofs.Math.Option.{some}
use Rattle.semantics.specs.Program.{Program}
use Rattle.semantics.specs.Widths.{truncated}
use Rattle.semantics.specs.Expressions.{expr_values}
use Rattle.semantics.specs.Completion.{stores, target, source, targets_apart, store}
use Rattle.program.specs.declared.refusal.Refusal.{Refusal}
use Rattle.program.specs.declared.refusal.Refusal.TheVariants.{Stores as StoresClash}
use Rattle.program.specs.Answer.{answer_to}
use Rattle.player.specs.declared.claims.Claims.{Claims as CodeClaims}
use Rattle.player.specs.declared.memo.Memo.{Memo}
use Rattle.player.specs.declared.work.Work.{Work}
use Rattle.player.specs.declared.stores.Store.{Store}
use Rattle.player.specs.declared.scratch.Scratch.{Scratch}
use Rattle.player.specs.Memo.{Known, SameMoment, Holds}
use Rattle.player.specs.Work.{masked_by}
use Rattle.player.specs.Claims.{Claims, Unclaimed, Aged}
use Rattle.player.specs.Channels.{marks_of, CycleOf, Paired}

-- Node i stores to the variable the value of the expression.
pub record StoresAt (P : Program) (marks : List ℕ) (i variable expression : ℕ) : Type 0 where
  pub storing : stores P marks i ≡ true
  pub place : variable ≡ target P marks i
  pub right_side : source P marks i ≡ some expression

-- A cycle whose channels are paired, and in which no variable is claimed yet.
pub record Storing (P : Program) (entries : List ℕ) (memo : Memo) (claims : CodeClaims) : Type 0 where
  pub cycle : CycleOf P entries
  pub paired : Paired P entries claims
  pub unclaimed : Unclaimed claims.writers claims.stamp
  pub aged : Aged claims claims.stamp
  pub known : Known P.exprs memo

-- ---- the stores that are listed

abbrev pub listed_store : List Store → ℕ → Store
listed_store list n = get_or list n (record { variable = record { 0 = 0 }; value = 0 })

-- The variable of store n.
abbrev pub variable_at : List Store → ℕ → ℕ
variable_at list n = (listed_store list n).variable.0

-- What a store comes to in its variable.
abbrev pub comes_to : Work → Store → ℕ
comes_to work store = masked_by work store.variable.0 store.value

-- The values after the stores, the first one first, where `keep` is what a variable keeps of a value.
abbrev pub put_all : (ℕ → ℕ → ℕ) → List Store → List ℕ → List ℕ
put_all keep list values =
    foldl (λ values store. set values store.variable.0 (keep store.variable.0 store.value)) values list

-- The values when the stores, whose old values are held, are taken back, the last one first.
abbrev pub taken_back : List Store → List ℕ → List ℕ
taken_back list values = foldr (λ store values. set values store.variable.0 store.value) values list

-- The stores of a cycle go to variables that have values.
pub record HeldFit (values : List ℕ) (list : List Store) : Type 0 where
  pub values_fit : length values ≤ 256
  pub targets : (j : ℕ) → j < length list → variable_at list j < length values

-- The store of an entry in the rules, with the right sides worked in the values of these variables.
abbrev pub store_from : Program → List ℕ → List ℕ → List ℕ → ℕ → List ℕ
store_from P entries variables = store P (marks_of P entries) (expr_values P.exprs variables)

-- The stores of these entries are worked and listed: made in any values, they are the stores of the rules.
pub record Listed (P : Program) (entries variables : List ℕ) (list : List Store) : Type 0 where
  pub targets : (j : ℕ) → j < length list → variable_at list j < P.variables
  pub right : (values : List ℕ) → put_all (truncated P.widths) list values
      ≡ foldl (store_from P entries variables) values entries

-- Questions 7 to 9 are answered yes, and the right sides are worked.
pub record Started (P : Program) (entries : List ℕ) (scratch : Scratch) : Type 0 where
  pub cycle : CycleOf P entries
  pub paired : Paired P entries scratch.claims
  pub listed : Listed P entries scratch.work.memo.variables scratch.stores.items

-- Some more expressions are worked, and nothing else has changed.
pub record WorkedMore (exprs : List ℕ) (before work : Work) : Type 0 where
  pub known : Known exprs work.memo
  pub same : SameMoment before.memo work.memo
  pub kept : work ≡ record before { memo = work.memo }

-- The answer to question 9, with the right sides where it is yes.
pub record RightSides (P : Program) (entries : List ℕ) (before : Scratch) (answer : Result ⊤ Refusal)
    (scratch : Scratch) : Type 0 where
  pub answered : answer ≡ answer_to (targets_apart P (marks_of P entries)) StoresClash
  pub started : targets_apart P (marks_of P entries) ≡ true → Started P entries scratch
  pub more : WorkedMore P.exprs before.work scratch.work
  pub aged : Aged scratch.claims before.claims.stamp
  pub stamp : scratch.claims.stamp ≡ before.claims.stamp

-- The stores are made, in the values and in what `work` has of them, and the old values are held.
pub record Stored (values : List ℕ) (before : Work) (listed : List Store) (values' : List ℕ) (work : Work)
    (list : List Store) : Type 0 where
  pub right : values' ≡ put_all (masked_by before) listed values
  pub holds : Holds values' work.memo
  pub known : (exprs : List ℕ) → Known exprs before.memo → Known exprs work.memo
  pub kept : work ≡ record before { memo = work.memo }
  pub fit : HeldFit values' list
  pub back : taken_back list values' ≡ values

-- ---- entry by entry

-- The first k entries have claimed their variables, and their stores are worked and listed.
pub record SidesTo (P : Program) (entries variables : List ℕ) (claims : CodeClaims) (list : List Store) (k : ℕ)
    : Type 0 where
  pub paired : Paired P entries claims
  pub claimed : Claims (stores P (marks_of P entries)) (target P (marks_of P entries)) (take k entries) claims.writers
      claims.stamp
  pub few : length list ≤ k
  pub targets : (j : ℕ) → j < length list → variable_at list j < P.variables
  pub rest : (values : List ℕ) → foldl (store_from P entries variables) values entries
      ≡ foldl (store_from P entries variables) (put_all (truncated P.widths) list values) (drop k entries)
