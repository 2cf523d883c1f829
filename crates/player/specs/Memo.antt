-- What the code knows of the values of expressions while no value changes: in `memo` the values of the variables, and the value
-- of each expression with the moment at which it was worked. The present moment ends when a value changes.
use Rattle.std.specs.Prelude.{◌≡◌, Option, Some, None, cond, List, ℕ, suc, ◌≤◌, ◌<◌, eqb, length, get_or, set, replicate}
use Rattle.semantics.specs.Program.{op_at}
use Rattle.semantics.specs.Program.Op.{BINARY}
use Rattle.semantics.specs.Program.{Binary}
use Rattle.semantics.specs.Expressions.{expr_values}
use Rattle.player.specs.declared.memo.Memo.{Memo}

-- A memo of nothing, at the first moment.
abbrev pub new_memo : Memo
new_memo =
    record { variables = replicate 256 0; formulas = replicate 1024 0; moments = replicate 1024 0; present = 1 }

-- The value of expression e in these values of the variables.
abbrev pub value_of : List ℕ → List ℕ → ℕ → ℕ
value_of exprs values e = get_or (expr_values exprs values) e 0

-- The sizes of the arrays.
pub record Sized (memo : Memo) : Type 0 where
  pub variables : length memo.variables ≡ 256
  pub formulas : length memo.formulas ≡ 1024
  pub moments : length memo.moments ≡ 1024

-- Expression e is worked at the present moment.
abbrev pub WorkedNow : Memo → ℕ → Type 0
WorkedNow memo e = get_or memo.moments e 0 ≡ memo.present

-- What is worked at the present moment is worked in the values of the variables.
pub record Known (exprs : List ℕ) (memo : Memo) : Type 0 where
  pub size : Sized memo
  pub right : (e : ℕ) → e < 1024 → WorkedNow memo e → get_or memo.formulas e 0 ≡ value_of exprs memo.variables e
  pub past : (e : ℕ) → e < 1024 → get_or memo.moments e 0 ≤ memo.present

-- The values and the moment are those of before.
pub record SameMoment (before memo : Memo) : Type 0 where
  pub variables : memo.variables ≡ before.variables
  pub present : memo.present ≡ before.present

-- Expression e has two operands.
abbrev pub HasOperands : List ℕ → ℕ → Type 0
HasOperands exprs e = (o : Binary) × (op_at exprs e ≡ BINARY o)

-- What is given is the value of expression e; where nothing is given, the expression has two operands.
abbrev pub Handed : List ℕ → List ℕ → ℕ → Option ℕ → Type 0
Handed exprs values e (Some value) = value ≡ value_of exprs values e
Handed exprs values e None = HasOperands exprs e

-- Expression e has been worked: its value, and what is known then.
pub record Worked (exprs : List ℕ) (before memo : Memo) (e value : ℕ) : Type 0 where
  pub right : value ≡ value_of exprs before.variables e
  pub known : Known exprs memo
  pub same : SameMoment before memo

-- What is known of expression e without working it.
abbrev pub worked_at : Memo → ℕ → Option ℕ
worked_at memo e = cond (eqb (get_or memo.moments e 0) memo.present) (Some (get_or memo.formulas e 0)) None

-- Expression e is worked at the present moment and has this value.
abbrev pub noted : Memo → ℕ → ℕ → Memo
noted memo e value = record memo { formulas = set memo.formulas e value; moments = set memo.moments e memo.present }

-- The values of all expressions before i stand in `memo`, and `last` is that of the one right before it.
pub record WorkedTo (exprs : List ℕ) (memo : Memo) (i last : ℕ) : Type 0 where
  pub known : Known exprs memo
  pub stand : (e : ℕ) → e < i → get_or memo.formulas e 0 ≡ value_of exprs memo.variables e
  pub right : (e : ℕ) → suc e ≡ i → last ≡ value_of exprs memo.variables e

-- No expression is worked at the present moment.
pub record Unworked (before memo : Memo) : Type 0 where
  pub size : Sized memo
  pub variables : memo.variables ≡ before.variables
  pub unknown : (e : ℕ) → e < 1024 → get_or memo.moments e 0 < memo.present

-- The variables are those of a state: where it has none, they are 0.
abbrev pub Holds : List ℕ → Memo → Type 0
Holds values memo = (v : ℕ) → get_or memo.variables v 0 ≡ get_or values v 0
