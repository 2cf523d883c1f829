-- The rules' op of an op in code, and of a word.
use Rattle.std.specs.Prelude.{◌≡◌, ℕ, Result, Ok, Err}
use Rattle.semantics.specs.Program.{Op as RuleOp, Binary as RuleBinary, op_of}
use Rattle.semantics.specs.Program.Op.{NUMBER, VARIABLE, BINARY, UNKNOWN}
use Rattle.semantics.specs.Program.Binary.{ADD, SUB, MUL, AND, EQUAL, BELOW}
use Rattle.program.specs.declared.ops.Op.{Op}
use Rattle.program.specs.declared.ops.Binary.{Binary as CodeBinary}
use Rattle.program.specs.declared.ops.UnknownOp.{UnknownOp}
use Rattle.program.specs.declared.ops.Op.TheVariants.{Number, Variable, Binary}
use Rattle.program.specs.declared.ops.Binary.TheVariants.{Add, Sub, Mul, And, Equal, Below}

abbrev pub rule_binary : CodeBinary → RuleBinary
rule_binary Add = ADD
rule_binary Sub = SUB
rule_binary Mul = MUL
rule_binary And = AND
rule_binary Equal = EQUAL
rule_binary Below = BELOW

abbrev pub rule_op : Op → RuleOp
rule_op Number = NUMBER
rule_op Variable = VARIABLE
rule_op (Binary o) = BINARY (rule_binary o)

-- The rules' op of what a word is read as.
abbrev pub read_op : Result Op UnknownOp → RuleOp
read_op (Ok o) = rule_op o
read_op (Err _) = UNKNOWN

abbrev pub OpOfWord : ℕ → Result Op UnknownOp → Type 0
OpOfWord word r = read_op r ≡ op_of word
